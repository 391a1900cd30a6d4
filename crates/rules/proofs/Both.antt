-- A cut, and the merge of what it has written: the merger accepts it, given room, and its pieces keep the outline's parity, area, size and border.
-- No piece turns right where the cut's last triangle, which is not tested, is not clockwise.
use Prim.Native.Nat.{ℕ, ◌*◌, ◌-◌, ◌/◌, ◌%◌, ◌≤◌, ◌<◌}
use mathlib.Core.Path.{◌≡◌, refl, sym, ◌∙◌, ap, subst}
use mathlib.Core.Bool.{false, not, ◌||◌}
use mathlib.Core.List.{List, [], ◌∷◌, map}
use native.Mathlib.Omega.{arith}
use native.Mathlib.Nat.{mul-div_cancel_left, mul-mod_right}
use borrow.Author.Tests.{lt-ltb, le-ltb}
use lib.Dec.{eqb, ltb, lit<}
use lib.IntN.{ℤ, pos}
use lib.ListN.{length, take}
use lib.Signed.{◌<ℤ◌}
use lib.Ieee.{Float}
use Rattle.algebra.specs.Lists.{Each, end, ◌&◌, count_from}
use Rattle.algebra.proofs.Lists.{each_head}
use Rattle.algebra.specs.Sums.{total, integers, naturals}
use Rattle.algebra.specs.Rings.{Corner, ring_of, last_of}
use Rattle.rules.specs.Limits.{most_points, most_triangles}
use Rattle.rules.specs.Plane.{Pt}
use Rattle.rules.specs.Grid.{points_of}
use Rattle.rules.specs.Crossing.{odd, odd_crossings}
use Rattle.rules.specs.Cut.{done, cut}
use Rattle.rules.specs.Layout.{flatten, triples}
use Rattle.rules.specs.Refusals.{first_refusal, out_of_range, list_checks, before_triangles, merger_checks}
use Rattle.rules.specs.Entries.{triangles_for, cutter, merger, written_triangles, written_pieces}
use Rattle.rules.specs.Measure.{points, area2, NotRight, NotClockwise, NoneRight}
use Rattle.rules.specs.Lines.{areas_for}
use Rattle.rules.proofs.Ears.{cut-not-right}
use Rattle.rules.proofs.Pieces.{merge-no-right}
use Rattle.rules.proofs.Outline.{cut-count}
use Rattle.rules.proofs.Layouts.{flat-each, triangles-length, triangles-back}
use Rattle.rules.proofs.Rows.{row_off, no_rows, front_none, others_decide}
use Rattle.rules.proofs.Fronts.{seven_front, list_front, triangles-front}
use Rattle.rules.proofs.Outlines.{Outlined, outline_none}
use Rattle.rules.proofs.Answers.{cutter-number, cutter-indices, merger-number, merger-written}
use Rattle.rules.proofs.Accepted.{Accepted, ready}
use Rattle.rules.proofs.Borders.{Bordered}
use Rattle.rules.proofs.Plans.{triangles_size, plan_border, triangles_plan, areas_plan}
use Rattle.rules.proofs.Results.{triangles_are, not_right, cut_result, outline_above, written-inside, written_area, merged_inside, merged_area, merged_size}

-- ---- the merger's rows on triangles of an outline

in_range_none : (n : ℕ) {l : List ℕ} → Each (λ i. i < n) l → out_of_range n l ≡ false
unfolding out_of_range
in_range_none n end = refl
in_range_none n (◌&◌ {a} h k) = rw (lt-ltb a n h) (in_range_none n k)

-- none applies to the triangles of an accepted outline where there is room
pub triangles_pass :
    (cs : List Float) (k room room_for_lengths : ℕ) → Outlined 0 most_points cs → Accepted (points_of cs) k → 3 * (length (points_of cs) - 2) ≤ room → length (points_of cs) - 2 ≤ room_for_lengths
    → first_refusal (merger_checks cs (flatten (triangles_for (points_of cs))) room room_for_lengths) ≡ 0
unfolding list_checks
triangles_pass cs k room room_for_lengths outlines a fits fits_lengths =
    let l = flatten (triangles_for (points_of cs)) in
    let m = length (points_of cs) - 2 in
    let n : length l ≡ 3 * m = ap (λ (ts : List (List ℕ)). length (flatten ts)) (triangles_are a) ∙ triangles-length a.triangles ∙ ap (λ (c : ℕ). 3 * c) (cut-count (points_of cs) a.triangles a.three a.is_cut) in
    let three : 0 < 3 = lit< tt in
    let d : length l / 3 ≡ m = rw n (mul-div_cancel_left m three) in
    let ragged : length l % 3 ≡ 0 = rw n (mul-mod_right 3 m) in
    let whole : not (eqb (length l % 3) 0) ≡ false = rw ragged in
    let count : ltb most_triangles (length l / 3) ≡ false = rw d (le-ltb most_triangles m (omega (arith, a.at_most))) in
    let short : (ltb room (length l) || ltb room_for_lengths (length l / 3)) ≡ false = rw (d, n, le-ltb room (3 * m) fits) (le-ltb room_for_lengths m fits_lengths) in
    let range = in_range_none (length (points_of cs)) (flat-each (triangles_plan (points_of cs) k a).below) in
    let early : first_refusal (before_triangles cs (length l)) ≡ 0 = others_decide (list_front cs (length l)) (outline_none outlines) ∙ row_off 8 _ whole ∙ row_off 10 _ count ∙ no_rows in
    others_decide (triangles-front cs l room room_for_lengths) early ∙ row_off 9 _ range ∙ row_off 6 _ short ∙ no_rows

-- ---- the last triangle

last_ring_lem : (c : Corner ℕ) (ts : List (Corner ℕ)) → last_of (ring_of c) (map ring_of ts) ≡ ring_of (last_of c ts)
last_ring_lem c [] = refl
last_ring_lem c (t ∷ ts) = last_ring_lem t ts

-- where the last triangle of a cut is not clockwise, none turns right
none_right : (ps : List Pt) (ts : List (Corner ℕ)) → cut ps ≡ done ts → NotClockwise ps (last_of [] (map ring_of ts)) → Each (NotRight ps) ts
unfolding cut
none_right ps [] e h = end
none_right ps (c ∷ ts) e h =
    let k : NotClockwise ps (ring_of (last_of c ts)) = subst (NotClockwise ps) (last_ring_lem c ts) h in
    cut-not-right ps (length ps - 3) (count_from 0 (length ps)) c ts e (each_head (not_right ps (last_of c ts ∷ []) (k & end)))

-- ---- the border

-- what the triangles that were written say of the outline's border
pub written-border : (cs : List Float) (out : List ℕ) → (cutter cs out).number ≡ 0 → (p : Pt) → Bordered (points_of cs) (map (points (points_of cs)) (written_triangles (cutter cs out))) p
written-border cs out ok p =
    let r = cut_result cs out ok in
    let a = r.outline in
    rw (r.written, ← triangles_are a) (plan_border (points_of cs) (triangles_for (points_of cs)) a.three (triangles_plan (points_of cs) (length out) a) p)

-- ---- both

module _ (cs : List Float) (cut_out out lens : List ℕ) (cut_ok : (cutter cs cut_out).number ≡ 0)
    (room : 3 * (length (points_of cs) - 2) ≤ length out) (room-for-lengths : length (points_of cs) - 2 ≤ length lens) where
  abbrev ps : List Pt
  ps = points_of cs

  -- the indices that the cut has written
  abbrev given : List ℕ
  given = take (3 * (cutter cs cut_out).count) (cutter cs cut_out).indices

  abbrev pieces : List (List ℕ)
  pieces = written_pieces (merger cs given out lens)

  -- the cut's triangles
  abbrev ts : List (Corner ℕ)
  ts = (cut_result cs cut_out cut_ok).outline.triangles

  given_is : given ≡ flatten (triangles_for ps)
  given_is = cutter-indices cs cut_out cut_ok

  outline : Outlined 0 most_points cs
  outline =
      let o = (ready cs (length cut_out) (front_none (seven_front cs (length cut_out)) (sym (cutter-number cs cut_out) ∙ cut_ok))).outlines in
      record { even = o.even; at_least = omega arith; at_most = o.at_most; on_grid = o.on_grid }

  -- the merger accepts what the cut has written
  pub merger_takes : (merger cs given out lens).number ≡ 0
  merger_takes =
      let rows = triangles_pass cs (length cut_out) (length out) (length lens) outline (cut_result cs cut_out cut_ok).outline room room-for-lengths in
      merger-number cs given out lens ∙ subst (λ (l : List ℕ). first_refusal (merger_checks cs l (length out) (length lens)) ≡ 0) (sym given_is) rows

  -- at every grid point the outline's crossing parity is that of the merged areas'
  pub both_inside : (p : Pt) → odd_crossings p ps ≡ odd (λ t. odd_crossings p (points ps t)) pieces
  both_inside p = written-inside cs cut_out cut_ok p ∙ sym (merged_inside cs given out lens merger_takes p)

  pub both_area : area2 ps ≡ total integers (λ t. area2 (points ps t)) pieces
  both_area = written_area cs cut_out cut_ok ∙ sym (merged_area cs given out lens merger_takes)

  -- to more than zero
  pub both_above : pos 0 <ℤ total integers (λ t. area2 (points ps t)) pieces
  both_above = subst (λ (z : ℤ). pos 0 <ℤ z) both_area (outline_above cs cut_out cut_ok)

  -- what the merged areas say of the outline's border
  pub both_border : (p : Pt) → Bordered ps (map (points ps) pieces) p
  unfolding areas_for
  both_border p =
      let a = (cut_result cs cut_out cut_ok).outline in
      let triangles : triples given ≡ triangles_for ps = ap triples (given_is ∙ ap flatten (triangles_are a)) ∙ triangles-back ts ∙ sym (triangles_are a) in
      rw (merger-written cs given out lens merger_takes, triangles) (plan_border ps (areas_for ps) a.three (areas_plan ps (length cut_out) a) p)

  -- the sum of (corners - 2) over the merged areas is the outline's
  pub both_size : length ps - 2 ≡ total naturals (λ t. length t - 2) pieces
  both_size =
      let a = (cut_result cs cut_out cut_ok).outline in
      sym (merged_size cs given out lens merger_takes ∙ ap (λ l. total naturals (λ t. length t - 2) (triples l)) (given_is ∙ ap flatten (triangles_are a)) ∙ ap (total naturals (λ t. length t - 2)) (triangles-back ts) ∙ triangles_size ts ∙ cut-count ps ts a.three a.is_cut)

  -- no corner of a merged area turns right if the cut's last triangle is not clockwise
  pub both_turns : NotClockwise ps (last_of [] (written_triangles (cutter cs cut_out))) → Each (NoneRight ps) pieces
  both_turns h =
      let r = cut_result cs cut_out cut_ok in
      let last = subst (λ (l : List (List ℕ)). NotClockwise ps (last_of [] l)) r.written h in
      rw (merger-written cs given out lens merger_takes, r.written) (merge-no-right ps ts (none_right ps ts r.outline.is_cut last))
