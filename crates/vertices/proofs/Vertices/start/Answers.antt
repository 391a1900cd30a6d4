use native.Mathlib.Omega.{arith}
use mathlib.Core.Path.{refl, ◌∙◌}
use Rattle.vertices.proofs.Starts.{none_updated, starting_corner, leaf_there, starting_more, starting_leaves, started}
use Rattle.vertices.proofs.Vertices.start.Goals as goal

pub loop-i-init : goal.loop-i-init
loop-i-init c = record {
  outline = refl;
  begun = c.link.ensures;
  updated = none_updated _ _ c.requires.room.nodes;
  leaves = refl;
  power = c.requires.room.power;
  room = c.requires.room.leaves;
}

pub first_ear-ear-requires : goal.first_ear-ear-requires
first_ear-ear-requires c = starting_corner _ _ _ _ c.loop-i.invariant c.requires.three

pub put_leaf-requires : goal.put_leaf-requires
put_leaf-requires c = leaf_there _ _ _ _ c.loop-i.invariant c.requires.three c.loop-i-test.true

pub loop-i-preserved : goal.loop-i-preserved
loop-i-preserved c = starting_more _ _ _ _ c.loop-i.invariant c.requires.three c.loop-i-test.true _ c.first_ear-ear.ensures _ c.put_leaf.ensures

pub build-requires : goal.build-requires
build-requires c = starting_leaves _ _ _ _ c.loop-i.invariant c.requires.three (omega arith)

pub returns : goal.returns
returns c =
    let s = started _ _ _ _ c.loop-i.invariant c.requires.three (omega arith) _ c.build.ensures.tree c.build.ensures.leaf_same in
    record { stands = s.0; outline = c.loop-i.invariant.outline; leaves = c.build.ensures.leaf_same.leaves ∙ c.loop-i.invariant.leaves; ring = s.1 }
