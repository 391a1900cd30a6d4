use native.Mathlib.Omega.{arith}
use Rattle.grid.proofs.Walks.{walk_first, walk_here, walk_more, walk_last}
use Rattle.ear_clipping.proofs.Neighbours.{all_edges, edge_equal, edge_more, edge_last}
use Rattle.ear_clipping.proofs.equal_neighbours.Goals as goal

pub loop-i-init : goal.loop-i-init
loop-i-init c = walk_first _ _ _ c.at-first.ensures c.requires (all_edges _)

pub returns-then-same : goal.returns-then-same
returns-then-same c =
    edge_equal _ c.loop-i.a c.at-b.result _ c.same.ensures c.if-same.true _
    (walk_here _ _ c.loop-i.invariant (omega (arith, c.loop-i-test.true, c.count-i-end.ensures)) c.at-b.result c.at-b.ensures)

pub loop-i-preserved : goal.loop-i-preserved
loop-i-preserved c =
    walk_more _ _ c.loop-i.invariant _ (omega (arith, c.loop-i-test.true, c.count-i-end.ensures)) _ c.at-b.ensures
    (edge_more _ c.loop-i.a c.at-b.result _ c.same.ensures c.if-same.false)

pub returns : goal.returns
returns c =
    edge_last _ c.loop-i.a c.at-first.result _ c.same-2.ensures (walk_last _ _ c.loop-i.invariant (omega (arith, c.loop-i-test.false, c.count-i-end.ensures)) c.at-first.result c.at-first.ensures)
