use Prim.Native.Nat.{◌+◌, ◌-◌}
use native.Mathlib.Omega.{arith}
use mathlib.Core.Path.{◌≡◌}
use Rattle.blocking.proofs.Scans.{next, last}
use Rattle.blocking.proofs.places.Places.eight_block.Goals as goal

pub loop-p-preserved : goal.loop-p-preserved
loop-p-preserved c = next _ _ c.loop-p.hit c.loop-p-test.true c.p-item.is c.blocks-hit.ensures c.loop-p.invariant

pub returns : goal.returns
returns c =
    let eight : c.args.at + 8 - c.args.at ≡ 8 = omega arith in
    rw eight at (last _ _ _ _ c.loop-p-test.false c.loop-p.invariant)
