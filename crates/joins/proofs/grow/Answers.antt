use native.Mathlib.Omega.{arith}
use mathlib.Core.Path.{refl, ap}
use Prim.Native.Nat.{ℕ}
use lib.ListN.{length, length-append}
use Rattle.std.proofs.Common.{rules}
use Rattle.algebra.proofs.Lists.{each_head, each_imp}
use Rattle.joins.proofs.Growing.{grow_first, len_low, queue_short, readable, grow_lone, there, third_low, grow_refused, room, grow_joined, nearer, finished}
use Rattle.joins.proofs.grow.Goals as goal

pub begin-requires : goal.begin-requires
begin-requires c = each_imp (λ v h. omega (arith, h, c.requires.points)) (each_head c.requires.known)

pub loop-refused-init : goal.loop-refused-init
loop-refused-init c = rw c.begin-2.ensures (grow_first _ _ _ _ _ (search rules) c.requires.known c.requires.few c.begin.ensures)

pub next-e-requires : goal.next-e-requires
next-e-requires c = (readable c.loop-refused.invariant c.len.ensures c.loop-refused-test.true c.pop-s.ensures refl).at_s.place

pub corner-at_s-requires : goal.corner-at_s-requires
corner-at_s-requires c = (readable c.loop-refused.invariant c.len.ensures c.loop-refused-test.true c.pop-s.ensures c.next-e.ensures).at_s.place

pub corner-at_e-requires : goal.corner-at_e-requires
corner-at_e-requires c = (readable c.loop-refused.invariant c.len.ensures c.loop-refused-test.true c.pop-s.ensures c.next-e.ensures).at_e.place

pub find_mate-requires : goal.find_mate-requires
find_mate-requires c =
    let r = readable c.loop-refused.invariant c.len.ensures c.loop-refused-test.true c.pop-s.ensures c.next-e.ensures in
    (omega arith, omega arith)

pub loop-refused-preserved-in_default : goal.loop-refused-preserved-in_default
loop-refused-preserved-in_default c =
    grow_lone c.loop-refused.invariant c.len.ensures c.loop-refused-test.true c.pop-s.ensures c.next-e.ensures c.corner-at_s.ensures c.corner-at_e.ensures c.in_default.ensures

pub may_join-requires-clause-readable : goal.may_join-requires-clause-readable
may_join-requires-clause-readable c = readable c.loop-refused.invariant c.len.ensures c.loop-refused-test.true c.pop-s.ensures c.next-e.ensures

pub may_join-requires-clause-corner : goal.may_join-requires-clause-corner
may_join-requires-clause-corner c =
    third_low c.loop-refused.invariant c.len.ensures c.loop-refused-test.true c.pop-s.ensures c.next-e.ensures c.corner-at_s.ensures c.corner-at_e.ensures _ c.in-Some.ensures

pub swap_remove-requires : goal.swap_remove-requires
swap_remove-requires c =
    there c.loop-refused.invariant c.len.ensures c.loop-refused-test.true c.pop-s.ensures c.next-e.ensures c.corner-at_s.ensures c.corner-at_e.ensures _ c.in-Some.ensures

pub join-requires : goal.join-requires
join-requires c =
    let r = readable c.loop-refused.invariant c.len.ensures c.loop-refused-test.true c.pop-s.ensures c.next-e.ensures in
    let low = third_low c.loop-refused.invariant c.len.ensures c.loop-refused-test.true c.pop-s.ensures c.next-e.ensures c.corner-at_s.ensures c.corner-at_e.ensures _ c.in-Some.ensures in (
      r.at_s.place,
      r.at_e.place,
      omega (arith, low, c.requires.points),
      room c.loop-refused.invariant c.len.ensures c.loop-refused-test.true c.pop-s.ensures c.next-e.ensures c.corner-at_s.ensures c.corner-at_e.ensures _ c.in-Some.ensures c.may_join.ensures c.if-may_join.true,
    )

pub push-requires-clause-room : goal.push-requires-clause-room
push-requires-clause-room c = omega (arith, queue_short c.loop-refused.invariant, len_low c.loop-refused.invariant, ap length c.pop-s.ensures)

pub push-requires-clause-place : goal.push-requires-clause-place
push-requires-clause-place c =
    let r = readable c.loop-refused.invariant c.len.ensures c.loop-refused-test.true c.pop-s.ensures c.next-e.ensures in
    omega arith

pub push-requires-then-may_join-clause-room : goal.push-requires-then-may_join-clause-room
push-requires-then-may_join-clause-room c =
    omega (arith, queue_short c.loop-refused.invariant, len_low c.loop-refused.invariant, ap length c.pop-s.ensures, ap length c.push.ensures, length-append {A = ℕ})

pub push-requires-then-may_join-clause-place : goal.push-requires-then-may_join-clause-place
push-requires-then-may_join-clause-place c =
    let low = room c.loop-refused.invariant c.len.ensures c.loop-refused-test.true c.pop-s.ensures c.next-e.ensures c.corner-at_s.ensures c.corner-at_e.ensures _ c.in-Some.ensures c.may_join.ensures c.if-may_join.true in
    omega (arith, low, c.join.ensures.place)

pub loop-refused-preserved : goal.loop-refused-preserved
loop-refused-preserved c =
    rw c.push.ensures
    (grow_refused c.loop-refused.invariant c.len.ensures c.loop-refused-test.true c.pop-s.ensures c.next-e.ensures c.corner-at_s.ensures c.corner-at_e.ensures _ c.in-Some.ensures c.may_join.ensures c.if-may_join.false)

pub loop-refused-preserved-then-may_join : goal.loop-refused-preserved-then-may_join
loop-refused-preserved-then-may_join c =
    let j = c.join.ensures in
    rw (c.push-then-may_join.ensures, c.push.ensures, j.place, c.swap_remove.ensures)
    (grow_joined c.loop-refused.invariant c.len.ensures c.loop-refused-test.true c.pop-s.ensures c.next-e.ensures c.corner-at_s.ensures c.corner-at_e.ensures _ c.in-Some.ensures c.may_join.ensures c.if-may_join.true j.sizes j.corners j.next j.before j.start j.len)

pub loop-refused-smaller-then-may_join : goal.loop-refused-smaller-then-may_join
loop-refused-smaller-then-may_join c =
    let j = c.join.ensures in
    rw (c.push-then-may_join.ensures, c.push.ensures, j.place, c.swap_remove.ensures)
    (nearer c.loop-refused.invariant c.len.ensures c.loop-refused-test.true c.pop-s.ensures c.next-e.ensures c.corner-at_s.ensures c.corner-at_e.ensures _ c.in-Some.ensures c.may_join.ensures c.if-may_join.true j.sizes j.corners j.next j.before j.start j.len)

pub returns : goal.returns
returns c = finished c.loop-refused.invariant (rw c.len.ensures at c.loop-refused-test.false)
