use native.Mathlib.Omega.{arith}
use mathlib.Core.Path.{◌≡◌, refl}
use lib.ListN.{length}
use Rattle.grid.specs.Listed.{listed}
use Rattle.blocking.proofs.Stripping.{marked_more, all-stripped}
use Rattle.blocking.proofs.strips.Strips.fill.Goals as goal

pub loop-k-init : goal.loop-k-init
loop-k-init c = record { long = c.requires.long; each = λ side k h. absurd (omega arith) }

pub loop-k-preserved : goal.loop-k-preserved
loop-k-preserved c = marked_more _ _ _ _ _ _ c.at.ensures refl c.loop-k.invariant c.mark.ensures

pub returns : goal.returns
returns c =
    let e : c.loop-k.k ≡ length (listed c.args.points.now) = omega arith in
    all-stripped _ _ _ (rw e at c.loop-k.invariant) c.gather.ensures
