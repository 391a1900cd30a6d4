use native.Mathlib.Omega.{arith}
use Prim.Native.Nat.{◌^◌, ◌<◌}
use native.Mathlib.Nat.{lt_of_le_of_lt}
use lib.Bits.{and_le_l}
use lib.ListN.{get_or}
use Rattle.std.proofs.Common.{rules}
use mathlib.Core.Path.{refl}
use Rattle.pieces.proofs.Searching.{seek_first, skip_low, seek_skip, seek_next, seek_none, seek_found_side}
use Rattle.pieces.proofs.Pieces.find_mate.Goals as goal

pub loop-word-init : goal.loop-word-init
loop-word-init c =
    let fits : get_or c.self.inside.store.eights c.args.e 0 < 2 ^ 64 = search rules in
    seek_first c.self.invariant c.requires c.edge-want.ensures (refl, lt_of_le_of_lt (and_le_l (get_or c.self.inside.store.eights c.args.e 0) (get_or c.self.inside.store.eights c.args.s 0)) fits)

pub find-requires : goal.find-requires
find-requires c =
    (skip_low c.self.invariant c.requires c.loop-word.invariant c.loop-word-test.true _ refl, omega (arith, c.self.invariant.0.few), omega (arith, c.self.invariant.0.few))

pub loop-word-preserved : goal.loop-word-preserved
loop-word-preserved c =
    let low = skip_low c.self.invariant c.requires c.loop-word.invariant c.loop-word-test.true _ refl in
    seek_next c.self.invariant c.requires (seek_skip c.self.invariant c.requires c.loop-word.invariant _ refl low) c.in_default.ensures.first low

pub returns : goal.returns
returns c = rw (← c.self.view_is) (seek_none c.self.invariant c.requires c.loop-word.invariant c.loop-word-test.false)

pub returns-in-Some : goal.returns-in-Some
returns-in-Some c =
    let low = skip_low c.self.invariant c.requires c.loop-word.invariant c.loop-word-test.true _ refl in
    rw (← c.self.view_is) (seek_found_side c.self.invariant c.requires (seek_skip c.self.invariant c.requires c.loop-word.invariant _ refl low) _ _ c.in-Some.ensures.side.1 c.in-Some.ensures.first _ c.third_corner.ensures)
