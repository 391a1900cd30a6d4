use mathlib.Core.Path.{refl}
use Rattle.point_in_poly2d.proofs.Words.{checked_more, checked_end}
use Rattle.point_in_poly2d.proofs.bytes.off_grid.Goals as goal

pub loop-i-preserved : goal.loop-i-preserved
loop-i-preserved c = checked_more _ _ c.loop-i.off c.loop-i-test.true _ c.word.ensures _ _ c.bits_on_grid.ensures refl c.loop-i.invariant

pub returns : goal.returns
returns c = checked_end _ _ _ c.loop-i-test.false c.loop-i.invariant
