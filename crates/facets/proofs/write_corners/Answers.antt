use native.Mathlib.Omega.{arith}
use mathlib.Core.Path.{refl, sym, ◌∙◌}
use mathlib.Core.List.{map}
use lib.ListN.{length-map, get_or-map}
use Rattle.algebra.proofs.Lists.{each_at}
use Rattle.words.proofs.Copies.{copy_more, copy_end}
use Rattle.facets.specs.Laid.{corner_of}
use Rattle.facets.proofs.write_corners.Goals as goal

pub overflow_sub-x : goal.overflow_sub-x
overflow_sub-x c = each_at 0 _ c.loop-i.i c.loop-i-test.true c.requires.marked

pub loop-i-preserved : goal.loop-i-preserved
loop-i-preserved c =
    let ring = c.args.ring.now in
    copy_more 0 (map corner_of ring) _ _ c.loop-i.i _ (rw (length-map ring corner_of) c.loop-i-test.true) (omega (arith, c.requires.room, c.loop-i-test.true))
    (c.from.ensures ∙ sym (get_or-map corner_of ring c.loop-i.i 0))
    c.loop-i.invariant

pub returns : goal.returns
returns c =
    let ring = c.args.ring.now in
    copy_end 0 (map corner_of ring) _ _ c.loop-i.i _ refl (rw (length-map ring corner_of) c.loop-i-test.false) (rw (length-map ring corner_of) c.loop-i.auto.i-end) c.loop-i.invariant
