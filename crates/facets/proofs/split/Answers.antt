use Prim.Native.Nat.{◌<◌}
use native.Mathlib.Omega.{arith}
use mathlib.Core.Path.{sym, ap}
use borrow.Author.Tests.{eqb-true, eqb-false}
use lib.ListN.{length}
use Rattle.grid.specs.Listed.{listed}
use Rattle.facets.proofs.Laying.{parts_none, parts_some, farthest_in}
use Rattle.facets.proofs.split.Goals as goal

pub push-requires : goal.push-requires
push-requires c =
    let e = parts_none (listed c.args.cloud.now.points) c.args.list.now c.args.u c.args.v (eqb-true _ _ (sym c.if-is_empty.ensures)) in
    omega (arith, ap length e, c.requires.room)

pub returns-then-is_empty : goal.returns-then-is_empty
returns-then-is_empty c =
    let e = parts_none (listed c.args.cloud.now.points) c.args.list.now c.args.u c.args.v (eqb-true _ _ (sym c.if-is_empty.ensures)) in
    rw (c.push.ensures, c.mark.ensures, e)

pub lay_two-requires : goal.lay_two-requires
lay_two-requires c =
    let seen : 0 < length c.args.list.now = let n = eqb-false (length c.args.list.now) 0 (sym c.if-is_empty.ensures) in omega (arith, n) in
    let inside : c.farthest-w.result < length (listed c.args.cloud.now.points) = rw c.farthest-w.ensures (farthest_in _ _ _ _ seen c.requires.within) in
    record {
      ends = (c.requires.ends.0, inside, c.requires.ends.1);
      low = (omega (arith, c.args.cloud.now.few, c.requires.ends.0), omega (arith, c.args.cloud.now.few, inside));
      room = rw (parts_some _ _ _ _ c.at.ensures c.at-2.ensures seen c.farthest-w.ensures) at c.requires.room;
    }

pub returns : goal.returns
returns c =
    let seen : 0 < length c.args.list.now = let n = eqb-false (length c.args.list.now) 0 (sym c.if-is_empty.ensures) in omega (arith, n) in
    rw (parts_some (listed c.args.cloud.now.points) c.args.list.now c.args.u c.args.v c.at.ensures c.at-2.ensures seen c.farthest-w.ensures) c.lay_two.ensures
