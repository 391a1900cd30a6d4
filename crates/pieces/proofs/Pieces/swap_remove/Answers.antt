-- `swap_remove` meets its contract.
use native.Mathlib.Omega.{arith}
use Prim.Native.Nat.{◌+◌, ◌<◌}
use mathlib.Core.Path.{ap}
use lib.ListN.{length}
use Rattle.pieces.proofs.Later.{later_length, lie_moved}
use Rattle.pieces.proofs.Pieces.swap_remove.Goals as goal

pub invariant_of-self : goal.invariant_of-self
invariant_of-self c =
    let q = c.self.inside in
    let there : q.from + c.args.place < q.count = omega (arith, ap length c.self.view_is, later_length q.store.edges q.from q.count) in
    (rw (c.copy.ensures.edges, c.copy.ensures.eights) (lie_moved _ _ _ _ _ c.self.invariant.0 there), omega arith)
