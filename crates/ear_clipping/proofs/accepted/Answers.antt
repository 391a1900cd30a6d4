-- `accepted` meets its contract: the outline's rows, equal neighbours, the area, and the room.
use Prim.Native.Nat.{ℕ, ◌*◌, ◌-◌, ◌^◌, ◌≤◌, ◌<◌}
use mathlib.Core.Path.{◌≡◌, sym, ◌∙◌, ap}
use mathlib.Core.Bool.{Bool, true, false}
use mathlib.Core.List.{List, [], ◌∷◌}
use native.Mathlib.Omega.{arith}
use borrow.Author.Tests.{lt-ltb, le-ltb}
use lib.IntN.{ℤ, pos}
use lib.ListN.{length}
use lib.Signed.{le_z, mag}
use lib.Ieee.{Float}
use mir.Syntax.{w32}
use mir.Val.{to_z, of_z}
use mir.ValLaws.{to_z-of_z}
use Rattle.std.proofs.lemmas.Result.{err_from_is_err_and}
use Rattle.rules.specs.Limits.{most_points}
use Rattle.rules.specs.Plane.{Pt}
use Rattle.rules.specs.Grid.{points_of}
use Rattle.rules.specs.Measure.{area2}
use Rattle.rules.specs.Refusals.{◌gives◌, first_refusal, ring_checks, short_to_cut, equal_neighbours, area_not_above_zero, outline_checks, before_cutting}
use Rattle.rules.proofs.Rows.{row_on, row_off, no_rows, front_gives, others_decide}
use Rattle.rules.proofs.Fronts.{cutter-front}
use Rattle.rules.proofs.Outlines.{Outlined, outlined}
use Rattle.entries.proofs.Refusals.{number_above}
use Rattle.ear_clipping.proofs.accepted.Goals as goal

-- the test of a sum that stands in an i32
tested : (ps : List Pt) (sum : ℤ) → mag sum < 2 ^ 31 → sum ≡ area2 ps → {t : Bool} → le_z (to_z w32 (of_z w32 sum)) (pos 0) ≡ t → area_not_above_zero ps ≡ t
unfolding area_not_above_zero
tested ps sum f is e = ap (λ (z : ℤ). le_z z (pos 0)) (sym is ∙ sym (to_z-of_z w32 sum (record { sfits = f }))) ∙ e

-- by the points ps that were read
module _ (cs : List Float) (room : ℕ) (none : 0 ≡ first_refusal (outline_checks 3 most_points cs)) {ps : List Pt} (read : ps ≡ points_of cs) where
  facts : Outlined 3 most_points cs
  facts = outlined 3 most_points cs (sym none)

  three : 3 ≤ length ps
  three = rw read facts.at_least

  most : length ps ≤ most_points
  most = rw read facts.at_most

  rest_decides : first_refusal (before_cutting cs room) ≡ first_refusal (ring_checks ps (short_to_cut ps room))
  rest_decides = rw read (others_decide (cutter-front cs room) (sym none))

  equal : true ≡ equal_neighbours ps → 5 ≡ first_refusal (before_cutting cs room)
  equal e = sym (rest_decides ∙ row_on 5 _ (sym e))

  module _ (apart : false ≡ equal_neighbours ps) where
    flat : area_not_above_zero ps ≡ true → 13 ≡ first_refusal (before_cutting cs room)
    flat e = sym (rest_decides ∙ row_off 5 _ (sym apart) ∙ row_on 13 _ e)

    module _ (above : area_not_above_zero ps ≡ false) where
      room_decides : first_refusal (before_cutting cs room) ≡ first_refusal (short_to_cut ps room gives 6 ∷ [])
      room_decides = rest_decides ∙ row_off 5 _ (sym apart) ∙ row_off 13 _ above

      short : room < 3 * (length ps - 2) → 6 ≡ first_refusal (before_cutting cs room)
      short h = sym (room_decides ∙ row_on 6 [] (lt-ltb room (3 * (length ps - 2)) h))

      enough : 3 * (length ps - 2) ≤ room → 0 ≡ first_refusal (before_cutting cs room)
      enough h = sym (room_decides ∙ row_off 6 [] (le-ltb room (3 * (length ps - 2)) h) ∙ no_rows)

pub returns-in_err-points-clause-number : goal.returns-in_err-points-clause-number
returns-in_err-points-clause-number c =
    let p = err_from_is_err_and c.from_residual.result c.from_residual.ensures.1 in
    rw (p.1, p.2) (front_gives (cutter-front c.args.coords.now c.args.room) c.in_err-points.ensures.number (number_above _))

pub equal_neighbours-requires : goal.equal_neighbours-requires
equal_neighbours-requires c = omega (arith, three c.args.coords.now 0 c.in_ok-points.ensures.number (ap points_of c.in_ok-points.ensures.same))

pub returns-then-equal_neighbours-clause-number : goal.returns-then-equal_neighbours-clause-number
returns-then-equal_neighbours-clause-number c = equal _ _ c.in_ok-points.ensures.number (ap points_of c.in_ok-points.ensures.same) c.if-equal_neighbours.ensures

pub area2-requires-clause-some : goal.area2-requires-clause-some
area2-requires-clause-some c = omega (arith, three c.args.coords.now 0 c.in_ok-points.ensures.number (ap points_of c.in_ok-points.ensures.same))

pub area2-requires-clause-at_most : goal.area2-requires-clause-at_most
area2-requires-clause-at_most c = most c.args.coords.now 0 c.in_ok-points.ensures.number (ap points_of c.in_ok-points.ensures.same)

pub returns-then-area2-le0-clause-number : goal.returns-then-area2-le0-clause-number
returns-then-area2-le0-clause-number c =
    flat _ _ c.in_ok-points.ensures.number (ap points_of c.in_ok-points.ensures.same) c.if-equal_neighbours.ensures
    (tested _ c.area2.result c.area2.type_inv c.area2.ensures c.if-area2-le0.true)

pub overflow_sub-count : goal.overflow_sub-count
overflow_sub-count c = omega (arith, c.count.ensures, three c.args.coords.now 0 c.in_ok-points.ensures.number (ap points_of c.in_ok-points.ensures.same))

pub overflow_mul-count : goal.overflow_mul-count
overflow_mul-count c = omega (arith, c.count.ensures, most c.args.coords.now 0 c.in_ok-points.ensures.number (ap points_of c.in_ok-points.ensures.same))

pub returns-then-room-count-clause-number : goal.returns-then-room-count-clause-number
returns-then-room-count-clause-number c =
    short _ _ c.in_ok-points.ensures.number (ap points_of c.in_ok-points.ensures.same) c.if-equal_neighbours.ensures
    (tested _ c.area2.result c.area2.type_inv c.area2.ensures c.if-area2-le0.false) (rw c.count.ensures at c.if-room-count.true)

pub returns-clause-number : goal.returns-clause-number
returns-clause-number c =
    enough _ _ c.in_ok-points.ensures.number (ap points_of c.in_ok-points.ensures.same) c.if-equal_neighbours.ensures
    (tested _ c.area2.result c.area2.type_inv c.area2.ensures c.if-area2-le0.false) (rw c.count.ensures at c.if-room-count.false)
