-- `check` meets its contract: the rows before the triangles, their range, and the room.
use Prim.Native.Nat.{ℕ, ◌/◌, ◌≤◌, ◌<◌}
use mathlib.Core.Path.{◌≡◌, sym, ◌∙◌}
use mathlib.Core.Bool.{Bool, true, false}
use mathlib.Core.List.{List, [], ◌∷◌}
use lib.ListN.{length}
use lib.Ieee.{Float}
use borrow.Author.Tests.{lt-ltb, le-ltb}
use Rattle.std.proofs.lemmas.Result.{err_from_is_err_and}
use Rattle.rules.specs.Grid.{points_of}
use Rattle.rules.specs.Refusals.{◌gives◌, first_refusal, short_to_merge, out_of_range, before_triangles, triangle_checks, merger_checks}
use Rattle.rules.proofs.Rows.{row_on, row_off, no_rows, front_gives, others_decide}
use Rattle.rules.proofs.Fronts.{triangles-front}
use Rattle.entries.proofs.Refusals.{number_above}
use Rattle.hertel_mehlhorn.proofs.check.Goals as goal
use Rattle.hertel_mehlhorn.proofs.check.Goals.{then-room-triangles-via-then-room-triangles, then-room-triangles-via-else-room-triangles+then-places-triangles}

module _ (cs : List Float) (tri : List ℕ) (room places : ℕ) where
  abbrev rows : ℕ
  rows = first_refusal (merger_checks cs tri room places)

  module _ (none : 0 ≡ first_refusal (before_triangles cs (length tri))) {coords : List Float} (same : coords ≡ cs) {n : ℕ} (is_n : n ≡ length (points_of coords)) where
    range_is : {t : Bool} → t ≡ out_of_range n tri → out_of_range (length (points_of cs)) tri ≡ t
    range_is e = rw (e, is_n, same)

    rest_decides : rows ≡ first_refusal (triangle_checks (points_of cs) tri room places)
    rest_decides = others_decide (triangles-front cs tri room places) (sym none)

    out : true ≡ out_of_range n tri → 9 ≡ rows
    out e = sym (rest_decides ∙ row_on 9 _ (range_is e))

    module _ (within : false ≡ out_of_range n tri) where
      room_decides : rows ≡ first_refusal (short_to_merge tri room places gives 6 ∷ [])
      room_decides = rest_decides ∙ row_off 9 _ (range_is within)

      short : room < length tri → 6 ≡ rows
      short h = sym (room_decides ∙ row_on 6 [] (rw (lt-ltb room (length tri) h)))

      module _ (fits : length tri ≤ room) where
        few_places : places < length tri / 3 → 6 ≡ rows
        few_places h = sym (room_decides ∙ row_on 6 [] (rw (le-ltb room (length tri) fits, lt-ltb places (length tri / 3) h)))

        enough : length tri / 3 ≤ places → 0 ≡ rows
        enough h = sym (room_decides ∙ row_off 6 [] (rw (le-ltb room (length tri) fits, le-ltb places (length tri / 3) h)) ∙ no_rows)

pub returns-in_err-points-clause-number : goal.returns-in_err-points-clause-number
returns-in_err-points-clause-number c =
    let p = err_from_is_err_and c.from_residual.result c.from_residual.ensures.1 in
    rw (p.1, p.2) (front_gives (triangles-front c.args.coords.now c.args.triangles.now c.args.room c.args.places) c.in_err-points.ensures.number (number_above _))

pub returns-then-out_of_range-clause-number : goal.returns-then-out_of_range-clause-number
returns-then-out_of_range-clause-number c = out _ _ _ _ c.in_ok-points.ensures.number c.in_ok-points.ensures.same c.count.ensures c.if-out_of_range.ensures

pub returns-then-room-triangles-clause-number : goal.returns-then-room-triangles-clause-number
returns-then-room-triangles-clause-number c =
    elim c.then-room-triangles.branch [
      | then-room-triangles-via-then-room-triangles w ↦ short _ _ _ _ c.in_ok-points.ensures.number c.in_ok-points.ensures.same c.count.ensures c.if-out_of_range.ensures w.if-room-triangles.true
      | then-room-triangles-via-else-room-triangles+then-places-triangles w ↦
          few_places _ _ _ _ c.in_ok-points.ensures.number c.in_ok-points.ensures.same c.count.ensures c.if-out_of_range.ensures w.if-room-triangles.false w.if-places-triangles.true
    ]

pub returns-clause-number : goal.returns-clause-number
returns-clause-number c =
    enough _ _ _ _ c.in_ok-points.ensures.number c.in_ok-points.ensures.same c.count.ensures c.if-out_of_range.ensures c.if-room-triangles.false c.if-places-triangles.false
