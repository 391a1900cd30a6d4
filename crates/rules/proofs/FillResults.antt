-- What comes back of a line that is filled: its number and the order of refusals; and demand 3 read over the text that was written.
use Prim.Native.Nat.{ℕ, ◌-◌, ◌≤◌}
use mathlib.Core.Path.{◌≡◌, refl, sym, ◌∙◌, ap, ap₂, subst}
use mathlib.Core.Logic.{◌≢◌}
use mathlib.Core.Bool.{Bool, true, false}
use mathlib.Core.List.{List, [], ◌∷◌, map, Memᴰ}
use native.Mathlib.Omega.{arith}
use borrow.Author.Tests.{le-ltb}
use lib.Dec.{ltb}
use lib.IntN.{ℤ, pos}
use lib.Signed.{◌<ℤ◌}
use lib.ListN.{length, take, drop, length-map}
use Rattle.algebra.specs.Lists.{Each}
use Rattle.algebra.proofs.Lists.{each_all, each_imp, each_map}
use Rattle.algebra.specs.Sums.{total, integers, naturals, parities}
use Rattle.algebra.proofs.Sums.{total-map, total-same}
use Rattle.algebra.specs.Rings.{ring_of}
use Rattle.rules.specs.Limits.{most_points}
use Rattle.rules.specs.Plane.{Pt, point}
use Rattle.rules.specs.Crossing.{odd, odd_crossings}
use Rattle.rules.specs.Layout.{over}
use Rattle.rules.specs.Refusals.{◌gives◌, first_refusal, equal_neighbours, area_not_above_zero, no_ear, count_checks}
use Rattle.rules.specs.Entries.{triangles_for}
use Rattle.rules.specs.Measure.{points, area2}
use Rattle.rules.specs.Text.{InForm, NotInForm, multipolygon_line}
use Rattle.rules.specs.Lines.{in_form, not_in_form, Writing, fill_room, before_ring, areas_for, fill_checks, filler, Fills}
use Rattle.rules.proofs.Rows.{row_off, given_number, front_skips, others_decide}
use Rattle.rules.proofs.Answers.{over-beyond, writing-number, writing-answered, writing_refused}
use Rattle.rules.proofs.Layouts.{take-over}
use Rattle.rules.proofs.TextLines.{multipolygon_injective}
use Rattle.rules.proofs.LineAnswers.{answer_of_lem, eleven_of}
use Rattle.rules.proofs.FillRows.{even, sound, corners-front, filled}
use Rattle.rules.proofs.Outline.{cut-count}
use Rattle.rules.proofs.Results.{triangles_are}
use Rattle.rules.proofs.Plans.{Plan, Plans, triangles_plan, areas_plan, plan_border}
use Rattle.rules.proofs.Borders.{Bordered}

-- ---- the ways to fill a line

module _ (plan : List Pt → List (List ℕ)) (line out : List ℕ) where
  pub fills_not : NotInForm line → Fills plan line out (record { number = 11; count = 0; text = out })
  fills_not h = not_in_form h refl

  module _ (corners : List Pt) (form : InForm line corners) where
    pub fills_refused : {n : ℕ} → n ≡ first_refusal (fill_checks corners (length out)) → n ≢ 0 → Fills plan line out (record { number = n; count = 0; text = out })
    unfolding filler
    fills_refused {n} e d =
        in_form form
        (ap (λ (k : ℕ). record { number = k; count = 0; text = out }) e
        ∙ sym (writing_refused (fill_checks corners (length out)) (multipolygon_line (map (points corners) (plan corners))) out (λ z. d (e ∙ z))))

    pub fills_written : {n : ℕ} {after : List ℕ} → first_refusal (fill_checks corners (length out)) ≡ 0 → n ≡ length (multipolygon_line (map (points corners) (plan corners)))
        → after ≡ over (multipolygon_line (map (points corners) (plan corners))) out → Fills plan line out (record { number = 0; count = n; text = after })
    unfolding filler
    fills_written {n} {after} none e f =
        in_form form
        (ap₂ (λ (k : ℕ) (l : List ℕ). record { number = 0; count = k; text = l }) e f
        ∙ sym (writing-answered (fill_checks corners (length out)) (multipolygon_line (map (points corners) (plan corners))) out none))

-- ---- the number

-- 1 is never given
fill_numbers : (corners : List Pt) (room : ℕ) → Memᴰ (first_refusal (fill_checks corners room)) (0 ∷ 2 ∷ 3 ∷ 4 ∷ 5 ∷ 13 ∷ 6 ∷ 7 ∷ [])
unfolding fill_checks before_ring count_checks
fill_numbers corners room = subst (λ (n : ℕ). Memᴰ n (0 ∷ 2 ∷ 3 ∷ 4 ∷ 5 ∷ 13 ∷ 6 ∷ 7 ∷ [])) (sym (row_off 1 _ (even (length corners)))) (given_number _)

not_six : (a b c : Bool) → first_refusal (a gives 5 ∷ b gives 13 ∷ false gives 6 ∷ c gives 7 ∷ []) ≢ 6
unfolding first_refusal
not_six true b c e = absurd (omega arith)
not_six false true c e = absurd (omega arith)
not_six false false true e = absurd (omega arith)
not_six false false false e = absurd (omega arith)

-- with room for the most corners, 6 is not given
room_enough : (corners : List Pt) (room : ℕ) → fill_room most_points ≤ room → first_refusal (fill_checks corners room) ≢ 6
unfolding count_checks before_ring
room_enough corners room h e =
    let first = front_skips (corners-front corners room) 6 refl e in
    let s = sound corners first in
    let roomy : ltb room (fill_room (length corners)) ≡ false = le-ltb room (fill_room (length corners)) (omega (arith, s.at_most)) in
    not_six (equal_neighbours corners) (area_not_above_zero corners) (no_ear corners) (rw roomy at (sym (others_decide (corners-front corners room) first) ∙ e))

module _ (plan : List Pt → List (List ℕ)) (line out : List ℕ) (r : Writing) (f : Fills plan line out r) where
  -- of a line in form it is the first refusal in the order 2, 3, 4, 5, 13, 6, 7, or 0
  pub fill_first : (corners : List Pt) → InForm line corners → r.number ≡ first_refusal (fill_checks corners (length out))
  unfolding filler
  fill_first corners form =
      ap (λ (w : Writing). w.number) (answer_of_lem f corners form) ∙ writing-number (fill_checks corners (length out)) (multipolygon_line (map (points corners) (plan corners))) out

  -- 11 where the line is not in form
  pub fill_eleven : NotInForm line → r.number ≡ 11
  fill_eleven h = ap (λ (w : Writing). w.number) (eleven_of f h)

  -- and no other number: none of the merger's, after an accepted cut
  pub fill_number : Memᴰ r.number (11 ∷ 0 ∷ 2 ∷ 3 ∷ 4 ∷ 5 ∷ 13 ∷ 6 ∷ 7 ∷ [])
  fill_number = go f
    where
      go : Fills plan line out r → Memᴰ r.number (11 ∷ 0 ∷ 2 ∷ 3 ∷ 4 ∷ 5 ∷ 13 ∷ 6 ∷ 7 ∷ [])
      go (in_form {corners = ds} g e) = Memᴰ.tail (subst (λ (n : ℕ). Memᴰ n (0 ∷ 2 ∷ 3 ∷ 4 ∷ 5 ∷ 13 ∷ 6 ∷ 7 ∷ [])) (sym (fill_first ds g)) (fill_numbers ds (length out)))
      go (not_in_form h e) = Memᴰ.head (fill_eleven h)

  -- nor 6, with room for the most corners
  pub fill_room_lem : fill_room most_points ≤ length out → r.number ≢ 6
  fill_room_lem h e = go f
    where
      go : Fills plan line out r → ⊥
      go (in_form {corners = ds} g k) = room_enough ds (length out) h (sym (fill_first ds g) ∙ e)
      go (not_in_form k q) = absurd (omega (arith, fill_eleven k))

  -- a refused line reports nothing and leaves every lent byte as it was
  pub fill_none : r.number ≢ 0 → (r.count ≡ 0) × (r.text ≡ out)
  unfolding filler
  fill_none d = go f
    where
      go : Fills plan line out r → (r.count ≡ 0) × (r.text ≡ out)
      go (in_form {corners = ds} g e) =
          let k = e ∙ writing_refused (fill_checks ds (length out)) (multipolygon_line (map (points ds) (plan ds))) out (λ z. d (fill_first ds g ∙ z)) in
          (ap (λ (w : Writing). w.count) k, ap (λ (w : Writing). w.text) k)
      go (not_in_form h e) = (ap (λ (w : Writing). w.count) e, ap (λ (w : Writing). w.text) e)

  -- ---- an accepted line

  module _ (corners : List Pt) (form : InForm line corners) (ok : r.number ≡ 0) where
    abbrev planned : List (List Pt)
    planned = map (points corners) (plan corners)

    written : r ≡ record { number = 0; count = length (multipolygon_line planned); text = over (multipolygon_line planned) out }
    unfolding filler
    written = answer_of_lem f corners form ∙ writing-answered (fill_checks corners (length out)) (multipolygon_line planned) out (sym (fill_first corners form) ∙ ok)

    -- what is written is the plan's writing
    pub fill_text : take r.count r.text ≡ multipolygon_line planned
    fill_text = rw written (take-over (multipolygon_line planned) out)

    -- which is read as no other rings
    pub fill_rings : (rings : List (List Pt)) → take r.count r.text ≡ multipolygon_line rings → rings ≡ planned
    fill_rings rings e = multipolygon_injective rings planned (sym e ∙ fill_text)

    -- and what lies behind it keeps its contents
    pub fill_beyond : drop r.count r.text ≡ drop r.count out
    fill_beyond = rw written (over-beyond (multipolygon_line planned) out)

-- ---- demand 3 over the text

-- rings that describe the area of an outline: each of three corners or more, which beyond two add up to the outline's; at every grid point
-- the outline's crossing parity is that of the rings'; doubled areas add up, to more than zero; and the rings tell the outline's border
pub record Describe (rings : List (List Pt)) (corners : List Pt) : Type 0 where
  pub three : Each (λ ring. 3 ≤ length ring) rings
  pub size : total naturals (λ ring. length ring - 2) rings ≡ length corners - 2
  pub inside : (p : Pt) → odd_crossings p corners ≡ odd (odd_crossings p) rings
  pub area : area2 corners ≡ total integers area2 rings
  pub above : pos 0 <ℤ total integers area2 rings
  pub border : (p : Pt) → Bordered corners rings p

planned_describes : {ps : List Pt} {rings : List (List ℕ)} → 3 ≤ length ps → Plan ps rings → Describe (map (points ps) rings) ps
planned_describes {ps} {rings} three plan = record {
  three = each_map (points ps) (each_imp (λ t h. rw (length-map t (point ps)) h) plan.three);
  size = total-map naturals (λ ring. length ring - 2) (points ps) rings ∙ total-same naturals (λ t. length (points ps t) - 2) (λ t. length t - 2) (λ t. ap (λ (n : ℕ). n - 2) (length-map t (point ps))) rings ∙ plan.size;
  inside = λ p. plan.inside p ∙ sym (total-map parities (odd_crossings p) (points ps) rings);
  area = plan.area ∙ sym (total-map integers area2 (points ps) rings);
  above = subst (λ (z : ℤ). pos 0 <ℤ z) (sym (total-map integers area2 (points ps) rings)) plan.above;
  border = plan_border ps rings three plan;
}

-- whatever rings the written text is read as, they describe the outline that was read
abbrev pub Described : (List Pt → List (List ℕ)) → Type 0
Described plan =
    (line out : List ℕ) (r : Writing) → Fills plan line out r → (corners : List Pt) → InForm line corners → r.number ≡ 0
    → (rings : List (List Pt)) → take r.count r.text ≡ multipolygon_line rings → Describe rings corners

fill_describes : (plan : List Pt → List (List ℕ)) → Plans plan → Described plan
fill_describes plan plans line out r f corners form ok rings e =
    let a = filled corners (length out) (sym (fill_first plan line out r f corners form) ∙ ok) in
    let same = fill_rings plan line out r f corners form ok rings e in
    subst (λ (l : List (List Pt)). Describe l corners) (sym same) (planned_describes a.outline.three (plans corners _ a.outline))

pub areas_described : Described areas_for
areas_described = fill_describes areas_for areas_plan

pub triangles_described : Described triangles_for
triangles_described = fill_describes triangles_for triangles_plan

-- n - 2 triangles for n corners
pub triangles-written :
    (line out : List ℕ) (r : Writing) → Fills triangles_for line out r → (corners : List Pt) → InForm line corners → r.number ≡ 0
    → (rings : List (List Pt)) → take r.count r.text ≡ multipolygon_line rings → (Each (λ ring. length ring ≡ 3) rings) × (length rings ≡ length corners - 2)
triangles-written line out r f corners form ok rings e =
    let a = (filled corners (length out) (sym (fill_first triangles_for line out r f corners form) ∙ ok)).outline in
    let same : rings ≡ map (points corners) (map ring_of a.triangles) = fill_rings triangles_for line out r f corners form ok rings e ∙ ap (map (points corners)) (triangles_are a) in
    rw same (
      each_map (points corners) (each_map ring_of (each_all (λ t. refl) a.triangles)),
      length-map (map ring_of a.triangles) (points corners) ∙ length-map a.triangles ring_of ∙ cut-count corners a.triangles a.three a.is_cut,
    )
