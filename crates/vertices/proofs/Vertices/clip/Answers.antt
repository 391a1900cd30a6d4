-- `Vertices::clip` meets its contract.
use Rattle.winners.specs.Keys.{no}
use Rattle.vertices.proofs.Corners.{proper_in}
use Rattle.vertices.proofs.Steps.{corner_before, corner_after, clip_is}
use Rattle.vertices.proofs.Vertices.clip.Goals as goal

pub ear_at-ear_before-requires : goal.ear_at-ear_before-requires
ear_at-ear_before-requires c =
    corner_before c.args.self.now c.args.i c.requires.active.0 c.requires.active.1 c.requires.two c.requires.stands _ _ c.from-before.ensures c.from-after.ensures _ c.unlink.ensures.taken_out c.unlink.ensures.outline c.unlink.ensures.winners _ c.measure.ensures

pub ear_at-ear_after-requires : goal.ear_at-ear_after-requires
ear_at-ear_after-requires c =
    corner_after c.args.self.now c.args.i c.requires.active.0 c.requires.active.1 c.requires.two c.requires.stands _ _ c.from-before.ensures c.from-after.ensures _ c.unlink.ensures.taken_out c.unlink.ensures.outline c.unlink.ensures.winners _ c.measure.ensures

pub set_ear-requires-clause-proper : goal.set_ear-requires-clause-proper
set_ear-requires-clause-proper c = rw c.ear_at-ear_before.ensures (proper_in c.measure.new.self _)

pub set_ear-requires-2-clause-proper : goal.set_ear-requires-2-clause-proper
set_ear-requires-2-clause-proper c = rw c.ear_at-ear_after.ensures (proper_in c.measure.new.self _)

pub set_ear-requires-3-clause-proper : goal.set_ear-requires-3-clause-proper
set_ear-requires-3-clause-proper c = no

pub returns : goal.returns
returns c =
    clip_is c.args.self.now c.args.i c.requires.active.0 c.requires.active.1 c.requires.two c.requires.stands _ _ c.from-before.ensures c.from-after.ensures _ c.unlink.ensures.taken_out c.unlink.ensures.outline c.unlink.ensures.winners _ c.measure.ensures
    _ _ c.ear_at-ear_before.ensures c.ear_at-ear_after.ensures _ _ _ c.set_ear.ensures.leaf_set c.set_ear-2.ensures.leaf_set c.set_ear-3.ensures.leaf_set c.set_ear-3.ensures.tree_after
