use native.Mathlib.Omega.{arith}
use Rattle.grid.proofs.Areas.{summed_first, added_fits, summed_more, summed_last}
use Rattle.grid.proofs.points.Points.area2.Goals as goal

pub loop-i-init : goal.loop-i-init
loop-i-init c = summed_first _ _ c.at-first.ensures c.requires.some

pub overflow_add-sum : goal.overflow_add-sum
overflow_add-sum c =
    added_fits _ c.loop-i.invariant c.requires.at_most c.edge_area-sum.result c.edge_area-sum.ensures.bound

pub loop-i-preserved : goal.loop-i-preserved
loop-i-preserved c =
    summed_more _ c.loop-i.invariant c.requires.at_most c.edge_area-sum.result c.edge_area-sum.ensures.bound c.at-b.result c.edge_area-sum.ensures.value (omega (arith, c.loop-i-test.true, c.count-i-end.ensures)) c.at-b.ensures

pub overflow_add-result : goal.overflow_add-result
overflow_add-result c =
    added_fits _ c.loop-i.invariant c.requires.at_most c.edge_area.result c.edge_area.ensures.bound

pub returns : goal.returns
returns c =
    summed_last _ c.loop-i.invariant c.requires.at_most c.edge_area.result c.edge_area.ensures.bound c.at-first.result c.edge_area.ensures.value (omega (arith, c.loop-i-test.false, c.count-i-end.ensures)) c.at-first.ensures
