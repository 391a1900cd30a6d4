use Prim.Native.Nat.{◌<◌}
use native.Mathlib.Omega.{arith}
use lib.ListN.{length, length-set}
use Rattle.seeing.proofs.Scans.{one_counted}
use Rattle.seeing.proofs.row.Row.counted.Goals as goal

pub loop-i-preserved : goal.loop-i-preserved
loop-i-preserved c =
    let room : c.loop-i.i < length c.loop-i.places = omega (arith, c.loop-i.invariant.0, c.requires) in
    (simp length-set c.loop-i.invariant.0, one_counted _ _ room c.loop-i.invariant.1)
