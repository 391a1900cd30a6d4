-- A line whose outline was cut, and the plan that is written: triangles, or the areas that they are merged into.
use Prim.Native.Nat.{ℕ, zero, suc, ◌*◌, ◌-◌, ◌/◌, ◌%◌, ◌^◌, ◌≤◌, ◌<◌}
use mathlib.Core.Path.{◌≡◌, refl, sym, ◌∙◌, ap, ap₂, subst}
use mathlib.Core.Bool.{false}
use mathlib.Core.List.{List, [], ◌∷◌, ◌++◌, map, append-nil}
use native.Mathlib.Omega.{arith}
use lib.Dec.{eqb}
use lib.ListN.{length, take, drop, replicate, length-append, length-map}
use lib.Ieee.{Float}
use Rattle.algebra.specs.Lists.{Each, end, ◌&◌, sum}
use Rattle.algebra.proofs.Lists.{each_++, each-drop, each_imp, each_map}
use Rattle.algebra.specs.Rings.{Corner, ring_of}
use Rattle.rules.specs.Limits.{most_points, most_triangles, most_indices}
use Rattle.rules.specs.Plane.{Pt}
use Rattle.rules.specs.Grid.{points_of}
use Rattle.rules.specs.Merge.{may_join, merge}
use Rattle.rules.specs.Layout.{flatten, split, triples, over}
use Rattle.rules.specs.Refusals.{first_refusal, off_grid, merger_checks}
use Rattle.rules.specs.Entries.{Merging, triangles_for, merger}
use Rattle.rules.specs.Measure.{points}
use Rattle.rules.specs.Text.{multipolygon_line}
use Rattle.rules.specs.Lines.{areas_for, fill_room, Fills}
use Rattle.rules.proofs.Layouts.{take-over, flat-each, triangles-length, few-pieces, sum-lengths, pieces-back, triangles-back}
use Rattle.rules.proofs.Outline.{cut-count}
use Rattle.rules.proofs.Outlines.{Outlined}
use Rattle.rules.proofs.Answers.{merger-number, merger-answered}
use Rattle.rules.proofs.Accepted.{Accepted}
use Rattle.rules.proofs.Results.{triangles_are}
use Rattle.rules.proofs.Both.{triangles_pass}
use Rattle.rules.proofs.Plans.{Plan, plan_some, triangles_plan, areas_plan}
use Rattle.rules.proofs.FillRows.{even, Filled, filled}
use Rattle.rules.proofs.FillResults.{fills_not, fills_refused, fills_written}
use Rattle.rules.proofs.FillRoom.{plan_fits}
use Rattle.std.specs.Prelude.{Result, Ok, Err}
use Rattle.std.specs.Result.{IsOk}
use Rattle.entries.specs.declared.Refusal.{Refusal}
use Rattle.entries.specs.Refusals.{number_of, answer_of}
use Rattle.entries.proofs.Refusals.{number_above}
use Rattle.hertel_mehlhorn.specs.Promise.{Promise}
use Rattle.decimals.specs.Writes.{Room, Wrote}
use Rattle.decimals.proofs.Texts.{wrote-over}
use Rattle.fill_line.specs.CutLine.{LineRefused, LineCut, not_in_form, in_form}

-- ---- refused

pub refused_fills :
    (plan : List Pt → List (List ℕ)) (line out : List ℕ) (refusal : Refusal) → LineRefused line (length out) (number_of refusal)
    → Fills plan line out (record { number = number_of refusal; count = 0; text = out })
refused_fills plan line out refusal (not_in_form h e) = subst (λ (n : ℕ). Fills plan line out (record { number = n; count = 0; text = out })) (sym e) (fills_not plan line out h)
refused_fills plan line out refusal (in_form {corners = corners} form e) = fills_refused plan line out corners form e (number_above refusal)

-- ---- corner numbers and lengths that stand for a plan

pub record Stands (cs : List Float) (rings : List (List ℕ)) (indices lengths : List ℕ) : Type 0 where
  pub known : Each (λ i. i < length (points_of cs)) indices
  pub read_back : split lengths indices ≡ rings
  pub some : 0 < length lengths
  pub within : sum lengths ≤ length indices
  pub filled_each : Each (λ n. 0 < n) lengths

stand :
    (cs : List Float) (corners : List Pt) (rings : List (List ℕ)) (rest : List ℕ) → points_of cs ≡ corners → 3 ≤ length corners → Plan corners rings
    → Each (λ i. i < length corners) rest → Stands cs rings (flatten rings ++ rest) (map length rings)
stand cs corners rings rest e three plan below = record {
  known = subst (λ (ps : List Pt). Each (λ i. i < length ps) (flatten rings ++ rest)) (sym e) (each_++ (flat-each plan.below) below);
  read_back = pieces-back rings rest;
  some = omega (arith, length-map rings length, plan_some corners rings three plan);
  within = omega (arith, sum-lengths rings, length-append (flatten rings) rest);
  filled_each = each_map length (each_imp (λ t h. omega arith) plan.three);
}

take-replicate : (a m n : ℕ) → m ≤ n → take m (replicate n a) ≡ replicate m a
take-replicate a zero n h = refl
take-replicate a (suc m) zero h = absurd (omega arith)
take-replicate a (suc m) (suc n) h = ap (λ (l : List ℕ). a ∷ l) (take-replicate a m n (omega arith))

each-replicate : {P : ℕ → Type 0} (a n : ℕ) → P a → Each P (replicate n a)
each-replicate a zero p = end
each-replicate a (suc n) p = p & each-replicate a n p

-- ---- a line that was cut

module _ {line : List ℕ} (out : List ℕ) {cs : List Float} {triangles : List ℕ} (on_grid : off_grid cs ≡ false) (cut : LineCut line (length out) cs triangles) where
  abbrev corners : List Pt
  corners = cut.corners

  outline : Filled corners (length out)
  outline = filled corners (length out) cut.accepted

  -- three indices for each of the triangles, of at most 510
  size : length triangles ≡ 3 * (length corners - 2)
  size =
      let a = outline.outline in
      ap length (cut.triangles ∙ ap flatten (triangles_are a))
      ∙ triangles-length a.triangles
      ∙ ap (λ (n : ℕ). 3 * n) (cut-count corners a.triangles a.three a.is_cut)

  pub few : length triangles / 3 ≤ most_triangles
  few = omega (arith, size, outline.outline.at_most)

  -- what the writer needs of a plan, and what it leaves
  module _ (plan : List Pt → List (List ℕ)) (kept : Plan corners (plan corners)) {indices lengths : List ℕ} (s : Stands cs (plan corners) indices lengths) where
    text_is : multipolygon_line (map (points (points_of cs)) (split lengths indices)) ≡ multipolygon_line (map (points corners) (plan corners))
    text_is = ap₂ (λ (ps : List Pt) (l : List (List ℕ)). multipolygon_line (map (points ps) l)) cut.points s.read_back

    fits : length (multipolygon_line (map (points corners) (plan corners))) ≤ fill_room (length corners)
    fits = plan_fits corners (plan corners) kept outline.on_grid

    pub text_fits : Room out 0 (multipolygon_line (map (points (points_of cs)) (split lengths indices)))
    text_fits = record { fits = omega (arith, ap length text_is, fits, outline.fits) }

    module _ {new : List ℕ} {n : ℕ} (w : Wrote out new 0 n (multipolygon_line (map (points (points_of cs)) (split lengths indices)))) where
      count_is : n ≡ length (multipolygon_line (map (points corners) (plan corners)))
      count_is = (wrote-over w).1 ∙ ap length text_is

      -- the number of bytes fits a word
      pub text-small : n < 2 ^ 32
      text-small = omega (arith, count_is, fits, outline.outline.at_most)

      pub text-within : n ≤ length out
      text-within = omega (arith, count_is, fits, outline.fits)

      pub text-written : Fills plan line out (record { number = 0; count = n; text = new })
      text-written = fills_written plan line out corners cut.form cut.accepted count_is ((wrote-over w).0 ∙ ap (λ (l : List ℕ). over l out) text_is)

  -- ---- triangles

  pub triangles_kept : Plan corners (triangles_for corners)
  triangles_kept = triangles_plan corners _ outline.outline

  lengths-three : map length (triangles_for corners) ≡ replicate (length triangles / 3) 3
  lengths-three =
      let a = outline.outline in
      let n : length a.triangles ≡ length triangles / 3 = cut-count corners a.triangles a.three a.is_cut ∙ omega (arith, size) in
      ap (map length) (triangles_are a) ∙ all_three a.triangles ∙ ap (λ (k : ℕ). replicate k 3) n
    where
      all_three : (ts : List (Corner ℕ)) → map length (map ring_of ts) ≡ replicate (length ts) 3
      all_three [] = refl
      all_three (t ∷ ts) = ap (λ (l : List ℕ). 3 ∷ l) (all_three ts)

  pub triangles_stand : (threes : List ℕ) → threes ≡ replicate most_triangles 3 → Stands cs (triangles_for corners) triangles (take (length triangles / 3) threes)
  triangles_stand threes e =
      let lengths : take (length triangles / 3) threes ≡ map length (triangles_for corners) = ap (take (length triangles / 3)) e ∙ take-replicate 3 (length triangles / 3) most_triangles few ∙ sym lengths-three in
      let indices : triangles ≡ flatten (triangles_for corners) ++ [] = cut.triangles ∙ sym (append-nil (flatten (triangles_for corners))) in
      subst (λ (l : List ℕ). Stands cs (triangles_for corners) l (take (length triangles / 3) threes)) (sym indices)
      (subst (Stands cs (triangles_for corners) (flatten (triangles_for corners) ++ [])) (sym lengths)
      (stand cs corners (triangles_for corners) [] cut.points outline.outline.three triangles_kept end))

  -- ---- areas

  pub areas_kept : Plan corners (areas_for corners)
  areas_kept = areas_plan corners _ outline.outline

  outlined : Outlined 0 most_points cs
  outlined = record {
    even = ap (λ (n : ℕ). eqb (n % 2) 1) cut.size ∙ even (length corners);
    at_least = omega arith;
    at_most = omega (arith, ap length cut.points, outline.outline.at_most);
    on_grid = on_grid;
  }

  module _ (indices lengths : List ℕ) (room : length indices ≡ most_indices) (room-for-lengths : length lengths ≡ most_triangles) where
    -- the merger takes the cut's triangles
    takes : (merger cs triangles indices lengths).number ≡ 0
    takes =
        let is : triangles ≡ flatten (triangles_for (points_of cs)) = cut.triangles ∙ ap (λ (ps : List Pt). flatten (triangles_for ps)) (sym cut.points) in
        let a : Accepted (points_of cs) (3 * (length corners - 2)) = subst (λ (ps : List Pt). Accepted ps (3 * (length corners - 2))) (sym cut.points) outline.outline in
        let n : length (points_of cs) ≡ length corners = ap length cut.points in
        let rows = triangles_pass cs (3 * (length corners - 2)) (length indices) (length lengths) outlined a (omega (arith, outline.outline.at_most)) (omega (arith, outline.outline.at_most)) in
        merger-number cs triangles indices lengths ∙ subst (λ (l : List ℕ). first_refusal (merger_checks cs l (length indices) (length lengths)) ≡ 0) (sym is) rows

    merged_are : merge (may_join (points_of cs)) (triples triangles) ≡ areas_for corners
    unfolding areas_for
    merged_are =
        let back : triples triangles ≡ triangles_for corners = ap triples (cut.triangles ∙ ap flatten (triangles_are outline.outline)) ∙ triangles-back outline.outline.triangles ∙ sym (triangles_are outline.outline) in
        ap₂ (λ (ps : List Pt) (l : List (List ℕ)). merge (may_join ps) l) cut.points back

    answered : merger cs triangles indices lengths ≡ record { number = 0; count = length (areas_for corners); indices = over (flatten (areas_for corners)) indices; lengths = over (map length (areas_for corners)) lengths }
    answered = merger-answered cs triangles indices lengths takes ∙ ap (λ (l : List (List ℕ)). record { number = 0; count = length l; indices = over (flatten l) indices; lengths = over (map length l) lengths }) merged_are

    pub not_refused : {indices' lengths' : List ℕ} (r : Result ℕ Refusal) → Promise cs triangles indices lengths (answer_of r) indices' lengths' → IsOk r
    not_refused (Ok count) p = refl
    not_refused (Err refusal) p = absurd (number_above refusal (p.number ∙ takes))

    -- of what the merger promises
    module _ {count : ℕ} {indices' lengths' : List ℕ} (p : Promise cs triangles indices lengths (answer_of (Ok count)) indices' lengths') where
      pub areas_count : count ≡ length (areas_for corners)
      areas_count = p.count ∙ ap (λ (w : Merging). w.count) answered

      pub areas_few : count ≤ most_triangles
      areas_few = omega (arith, areas_count, few-pieces areas_kept.three, areas_kept.size, outline.outline.at_most)

      pub areas_stand : indices ≡ replicate most_indices 0 → Stands cs (areas_for corners) indices' (take count lengths')
      areas_stand zeros =
          let is : indices' ≡ flatten (areas_for corners) ++ drop (length (flatten (areas_for corners))) indices = p.indices_are ∙ ap (λ (w : Merging). w.indices) answered in
          let ls : take count lengths' ≡ map length (areas_for corners)
          = ap₂ take (areas_count ∙ sym (length-map (areas_for corners) length)) (p.lengths_are ∙ ap (λ (w : Merging). w.lengths) answered) ∙ take-over (map length (areas_for corners)) lengths in
          let below : Each (λ i. i < length corners) (drop (length (flatten (areas_for corners))) indices)
          = each-drop (length (flatten (areas_for corners))) indices (subst (Each (λ i. i < length corners)) (sym zeros) (each-replicate 0 most_indices (omega (arith, outline.outline.three)))) in
          subst (λ (l : List ℕ). Stands cs (areas_for corners) l (take count lengths')) (sym is)
          (subst (Stands cs (areas_for corners) (flatten (areas_for corners) ++ drop (length (flatten (areas_for corners))) indices)) (sym ls)
          (stand cs corners (areas_for corners) _ cut.points outline.outline.three areas_kept below))

    -- so many areas, which stand in what was lent
    pub record Merged (count : ℕ) (indices' lengths' : List ℕ) : Type 0 where
      pub few : count ≤ most_triangles
      pub stands : Stands cs (areas_for corners) indices' (take count lengths')

    pub merged :
        indices ≡ replicate most_indices 0 → {indices' lengths' : List ℕ} (count : ℕ) {r : Result ℕ Refusal} → r ≡ Ok count → Promise cs triangles indices lengths (answer_of r) indices' lengths'
        → Merged count indices' lengths'
    merged zeros {indices'} {lengths'} count e p =
        let q : Promise cs triangles indices lengths (answer_of (Ok count)) indices' lengths' = subst (λ (r : Result ℕ Refusal). Promise cs triangles indices lengths (answer_of r) indices' lengths') e p in
        record { few = areas_few q; stands = areas_stand q zeros }
