use native.Mathlib.Omega.{arith}
use mathlib.Core.Path.{◌≡◌, ◌∙◌}
use lib.ListN.{length, replicate}
use Rattle.grid.specs.Listed.{listed}
use Rattle.blocking.specs.Outlined.{Flat}
use Rattle.blocking.proofs.Flats.{none_flat, one_flat}
use Rattle.blocking.proofs.places.Places.fill.Goals as goal

pub loop-k-init : goal.loop-k-init
loop-k-init c =
    let filled : c.fill.new.self ≡ replicate 512 c.first.result = c.fill.ensures.after (λ y e. e) ∙ rw c.requires.room.long in
    record { flat = rw filled (none_flat _ c.first.result c.first.ensures); strips = c.requires.room.strips }

pub loop-k-preserved : goal.loop-k-preserved
loop-k-preserved c = record { flat = one_flat _ _ _ c.at.result (omega arith) c.at.ensures c.loop-k.invariant.flat; strips = c.loop-k.invariant.strips }

pub returns : goal.returns
returns c =
    let e : c.loop-k.k ≡ length (listed c.args.points.now) = omega arith in
    let flat : Flat (listed c.args.points.now) (length (listed c.args.points.now)) c.loop-k.self.points = rw e at c.loop-k.invariant.flat in
    record { flat = flat; stripped = c.fill-2.ensures; outlined = λ some. record { some = some; small = c.requires.at_most; flat = flat; stripped = c.fill-2.ensures } }
