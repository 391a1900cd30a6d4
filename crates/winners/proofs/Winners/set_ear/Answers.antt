use native.Mathlib.Omega.{arith}
use Rattle.winners.proofs.Nodes.{number-children, climb_start, climb_step, own_entry, proper_fair}
use Rattle.winners.proofs.Winners.set_ear.Goals as goal

pub loop-k-init : goal.loop-k-init
loop-k-init c = rw c.new-best.ensures (
  climb_start _ _ _ c.requires.tree c.requires.leaf (proper_fair c.requires.proper),
  own_entry _ _ _ _ c.requires.tree.numbers (omega (arith, c.requires.leaf)),
)

pub same-requires : goal.same-requires
same-requires c =
    number-children _ _ _ (omega arith) (omega (arith, c.loop-k.invariant.0.inside)) c.loop-k.invariant.0.numbers (c.with_sibling-best.ensures.children c.loop-k.invariant.1)

pub loop-k-preserved : goal.loop-k-preserved
loop-k-preserved c = (
  climb_step _ _ _ _ c.loop-k-test.true c.loop-k.invariant.0 (c.with_sibling-best.ensures.children c.loop-k.invariant.1),
  own_entry _ _ _ _ c.loop-k.invariant.0.numbers (omega (arith, c.loop-k.invariant.0.inside)),
)
