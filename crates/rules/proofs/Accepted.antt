-- What the cutter's, the merger's and the hull's refusals leave: where none applies, the outline has all that the theorems on cutting ask, and is cut;
-- the triangles have all that the theorems on merging ask, and the cloud all that those on hulls ask. And refusals 13 and 7 exactly, over the cutter's own number.
use Prim.Native.Nat.{ℕ, ◌*◌, ◌-◌, ◌/◌, ◌%◌, ◌≤◌, ◌<◌}
use mathlib.Core.Path.{◌≡◌, refl, sym, ◌∙◌, ap}
use mathlib.Core.Logic.{◌≢◌}
use mathlib.Core.Bool.{Bool, not, true, false, ◌||◌}
use mathlib.Core.List.{List, [], ◌∷◌, ◌++◌}
use lib.Dec.{ltb, eqb}
use lib.IntN.{pos}
use lib.ListN.{length}
use lib.Signed.{le_z, ◌≤ℤ◌, ◌<ℤ◌}
use lib.Ieee.{Float}
use Rattle.algebra.specs.Lists.{Each, end, ◌&◌, any, count_from}
use Rattle.algebra.specs.Rings.{Corner, steps, edges}
use Rattle.algebra.proofs.Lists.{each_imp, none_passes}
use borrow.Author.Tests.{ltb-true, ltb-false}
use Rattle.algebra.proofs.Order.{lin}
use Rattle.algebra.proofs.Equal.{impossible, T→true, eqb-true, not-false, or-false}
use Rattle.rules.specs.Limits.{most_points, most_triangles}
use Rattle.rules.specs.Plane.{Pt, point, same}
use Rattle.rules.specs.Grid.{points_of}
use Rattle.rules.specs.Cut.{Cut, stuck, done, cut}
use Rattle.rules.specs.Measure.{points, area2, Apart}
use Rattle.rules.specs.Refusals.{Row, ◌gives◌, first_refusal, equal_neighbours, area_not_above_zero, is_stuck, no_ear, short_to_cut, out_of_range, on_one_line, count_checks, outline_checks, ring_checks, before_cutting, cutter_checks, list_checks, merger_checks, hull_checks}
use Rattle.rules.specs.Entries.{cutter}
use Rattle.rules.proofs.Rows.{passes, applies, row_on, front_none, front_skips, others_decide}
use Rattle.rules.proofs.Fronts.{cutter-front, thirteen_front, seven_front, list_front, triangles-front, cloud_front}
use Rattle.rules.proofs.Points.{differ, apart→not_same}
use Rattle.rules.proofs.Outline.{all-points}
use Rattle.rules.proofs.Outlines.{Outlined, outlined}
use Rattle.rules.proofs.Stuck.{NoEarLeft, stuck→no_ear, no_ear→stuck}
use Rattle.rules.proofs.Answers.{cutter-number}

-- ---- neighbours

module _ (ps : List Pt) where
  steps_apart : (a : ℕ) (l : List ℕ) (b : ℕ) → Each (λ e. same e.from e.to ≡ false) (steps (point ps a) (points ps l ++ point ps b ∷ [])) → Each (λ e. point ps e.from ≢ point ps e.to) (steps a (l ++ b ∷ []))
  steps_apart a [] b (h & end) = differ (point ps a) (point ps b) h & end
  steps_apart a (x ∷ l) b (h & k) = differ (point ps a) (point ps x) h & steps_apart x l b k

  apart : (ring : List ℕ) → Each (λ e. same e.from e.to ≡ false) (edges (points ps ring)) → Apart ps ring
  apart [] h = end
  apart (a ∷ l) h = steps_apart a l a h

  steps-differ : (a : ℕ) (l : List ℕ) (b : ℕ) → Each (λ e. point ps e.from ≢ point ps e.to) (steps a (l ++ b ∷ [])) → any (λ e. same e.from e.to) (steps (point ps a) (points ps l ++ point ps b ∷ [])) ≡ false
  steps-differ a [] b (h & end) = rw (apart→not_same (point ps a) (point ps b) h)
  steps-differ a (x ∷ l) b (h & k) = rw (apart→not_same (point ps a) (point ps x) h) (steps-differ x l b k)

  ring_differs : (ring : List ℕ) → Apart ps ring → any (λ e. same e.from e.to) (edges (points ps ring)) ≡ false
  ring_differs [] h = refl
  ring_differs (a ∷ l) h = steps-differ a l a h

  -- 5 stands for neighbours that are equal points, and for nothing else
  pub no_equals→apart : equal_neighbours ps ≡ false → Apart ps (count_from 0 (length ps))
  unfolding equal_neighbours
  no_equals→apart h = apart (count_from 0 (length ps)) (rw (all-points ps) (none_passes (λ e. same e.from e.to) (edges ps) h))

  pub apart→no_equals : Apart ps (count_from 0 (length ps)) → equal_neighbours ps ≡ false
  unfolding equal_neighbours
  apart→no_equals h = rw (all-points ps) at (ring_differs (count_from 0 (length ps)) h)

-- ---- the doubled area

module _ (ps : List Pt) where
  -- 13 stands for one that is not above zero, and for nothing else
  passed→above : area_not_above_zero ps ≡ false → pos 0 <ℤ area2 ps
  unfolding area_not_above_zero
  passed→above h = omega lin

  refused→not_above : area_not_above_zero ps ≡ true → area2 ps ≤ℤ pos 0
  unfolding area_not_above_zero
  refused→not_above h = omega lin

  not_above→refused : area2 ps ≤ℤ pos 0 → area_not_above_zero ps ≡ true
  unfolding area_not_above_zero
  not_above→refused h = T→true (le_z (area2 ps) (pos 0)) h.le

-- ---- the ring's rows

-- what they leave where none of them applies
pub record RingPassed (ps : List Pt) (short : Bool) : Type 0 where
  pub neighbours : Apart ps (count_from 0 (length ps))
  pub above : pos 0 <ℤ area2 ps
  pub roomy : short ≡ false

-- and what is left of rows behind them
pub ring-passed : (ps : List Pt) (short : Bool) (more : List Row) → first_refusal (ring_checks ps short ++ more) ≡ 0 → RingPassed ps short × (first_refusal more ≡ 0)
ring-passed ps short more e =
    let (equal, e₅) = passes (equal_neighbours ps) 4 _ e in
    let (flat, e₁₃) = passes (area_not_above_zero ps) 12 _ e₅ in
    let (roomy, e₆) = passes short 5 more e₁₃ in
    (record { neighbours = no_equals→apart ps equal; above = passed→above ps flat; roomy = roomy }, e₆)

-- ---- the cutter's rows before 7

module _ (cs : List Float) (room : ℕ) where
  abbrev outline : List Pt
  outline = points_of cs

  -- what they leave where none of them applies
  pub record Ready : Type 0 where
    pub outlines : Outlined 3 most_points cs
    pub ring : RingPassed outline (short_to_cut outline room)
    pub fits : 3 * (length outline - 2) ≤ room

  pub ready : first_refusal (before_cutting cs room) ≡ 0 → Ready
  ready e =
      let none = front_none (cutter-front cs room) e in
      let ring = (ring-passed outline (short_to_cut outline room) [] (sym (others_decide (cutter-front cs room) none) ∙ e)).0 in
      record { outlines = outlined 3 most_points cs none; ring = ring; fits = ltb-false room (3 * (length outline - 2)) ring.roomy }

-- ---- an accepted outline

pub record Accepted (ps : List Pt) (room : ℕ) : Type 0 where
  pub three : 3 ≤ length ps
  pub at_most : length ps ≤ most_points
  pub neighbours : Apart ps (count_from 0 (length ps))
  pub above : pos 0 <ℤ area2 ps
  pub fits : 3 * (length ps - 2) ≤ room
  pub triangles : List (Corner ℕ)
  pub is_cut : cut ps ≡ done triangles

pub not_stuck : (c : Cut) → is_stuck c ≡ false → (ts : List (Corner ℕ)) × (c ≡ done ts)
not_stuck stuck h = impossible (cc)
not_stuck (done ts) h = (ts, refl)

pub accepted : (cs : List Float) (room : ℕ) → first_refusal (cutter_checks cs room) ≡ 0 → Accepted (points_of cs) room
unfolding equal_neighbours no_ear
accepted cs room e =
    let ps = points_of cs in
    let early = front_none (seven_front cs room) e in
    let r = ready cs room early in
    let (ear, last) = passes (no_ear ps) 6 _ (sym (others_decide (seven_front cs room) early) ∙ e) in
    let (ts, is) = not_stuck (cut ps) ear in
    record {
      three = r.outlines.at_least;
      at_most = r.outlines.at_most;
      neighbours = r.ring.neighbours;
      above = r.ring.above;
      fits = r.fits;
      triangles = ts;
      is_cut = is;
    }

-- ---- refusal 13

module _ (cs : List Float) (out : List ℕ) where
  -- the cutter's number is 13 exactly if no earlier row applies and the doubled area is not above zero
  pub record NoArea : Type 0 where
    pub no_earlier : first_refusal (outline_checks 3 most_points cs ++ (equal_neighbours (points_of cs) gives 5 ∷ [])) ≡ 0
    pub not-above : area2 (points_of cs) ≤ℤ pos 0

  pub thirteen→area : (cutter cs out).number ≡ 13 → NoArea
  unfolding outline_checks count_checks
  thirteen→area e =
      let front = thirteen_front cs (length out) in
      let rows : first_refusal (cutter_checks cs (length out)) ≡ 13 = sym (cutter-number cs out) ∙ e in
      let early = front_skips front 13 refl rows in
      record { no_earlier = early; not-above = refused→not_above (points_of cs) (applies (area_not_above_zero (points_of cs)) 12 _ refl (sym (others_decide front early) ∙ rows)) }

  pub area→thirteen : NoArea → (cutter cs out).number ≡ 13
  area→thirteen h =
      cutter-number cs out ∙ others_decide (thirteen_front cs (length out)) h.no_earlier ∙ row_on 13 _ (not_above→refused (points_of cs) h.not-above)

-- ---- refusal 7

stuck_is : (c : Cut) → is_stuck c ≡ true → c ≡ stuck
stuck_is stuck h = refl
stuck_is (done ts) h = impossible (cc)

module _ (cs : List Float) (out : List ℕ) where
  abbrev ps : List Pt
  ps = points_of cs

  -- the cutter's number is 7 exactly if no earlier row applies and a ring of four or more, met while cutting, has no ear
  pub record StuckOnTheWay : Type 0 where
    pub no_earlier : first_refusal (before_cutting cs (length out)) ≡ 0
    pub ring : NoEarLeft ps (count_from 0 (length ps))

  pub seven→stuck : (cutter cs out).number ≡ 7 → StuckOnTheWay
  unfolding before_cutting outline_checks count_checks no_ear
  seven→stuck e =
      let rows : first_refusal (cutter_checks cs (length out)) ≡ 7 = sym (cutter-number cs out) ∙ e in
      let early = front_skips (seven_front cs (length out)) 7 refl rows in
      let is = stuck_is (cut ps) (applies (no_ear ps) 6 [] refl (sym (others_decide (seven_front cs (length out)) early) ∙ rows)) in
      record { no_earlier = early; ring = stuck→no_ear ps (ready cs (length out) early).outlines.at_least is }

  pub stuck→seven : StuckOnTheWay → (cutter cs out).number ≡ 7
  unfolding no_ear
  stuck→seven h =
      let three = (ready cs (length out) h.no_earlier).outlines.at_least in
      cutter-number cs out ∙ others_decide (seven_front cs (length out)) h.no_earlier ∙ row_on 7 [] (ap is_stuck (no_ear→stuck ps three h.ring))

-- ---- the merger's

pub record InRange (cs : List Float) (triangles : List ℕ) (room room_for_lengths : ℕ) : Type 0 where
  pub outlines : Outlined 0 most_points cs
  pub whole : length triangles % 3 ≡ 0
  pub few : length triangles / 3 ≤ most_triangles
  pub below : Each (λ i. i < length (points_of cs)) triangles
  pub fits : length triangles ≤ room
  pub fits_lengths : length triangles / 3 ≤ room_for_lengths

-- what the number of indices leaves
pub whole_list : (n : ℕ) → first_refusal (list_checks n) ≡ 0 → (n % 3 ≡ 0) × (n / 3 ≤ most_triangles)
unfolding list_checks
whole_list n e =
    let (ragged, e₈) = passes (not (eqb (n % 3) 0)) 7 _ e in
    let (most, e₁₀) = passes (ltb most_triangles (n / 3)) 9 _ e₈ in
    (eqb-true (n % 3) 0 (not-false (eqb (n % 3) 0) ragged), ltb-false most_triangles (n / 3) most)

module _ (cs : List Float) (triangles : List ℕ) (room room_for_lengths : ℕ) where
  abbrev n : ℕ
  n = length triangles

  pub in_range : first_refusal (merger_checks cs triangles room room_for_lengths) ≡ 0 → InRange cs triangles room room_for_lengths
  unfolding out_of_range
  in_range e =
      let points = length (points_of cs) in
      let none = front_none (triangles-front cs triangles room room_for_lengths) e in
      let first = front_none (list_front cs n) none in
      let (whole, few) = whole_list n (sym (others_decide (list_front cs n) first) ∙ none) in
      let (out, e₉) = passes (out_of_range points triangles) 8 _ (sym (others_decide (triangles-front cs triangles room room_for_lengths) none) ∙ e) in
      let (short, e₆) = passes (ltb room n || ltb room_for_lengths (n / 3)) 5 _ e₉ in
      let (s, t) = or-false (ltb room n) (ltb room_for_lengths (n / 3)) short in
      record {
        outlines = outlined 0 most_points cs first;
        whole = whole;
        few = few;
        below = each_imp (λ i h. ltb-true i points (not-false (ltb i points) h)) (none_passes (λ i. not (ltb i points)) triangles out);
        fits = ltb-false room n s;
        fits_lengths = ltb-false room_for_lengths (n / 3) t;
      }

-- ---- the hull's

-- a cloud that is not on one line, with a slot for each point
pub record Cloud (cs : List Float) (room : ℕ) : Type 0 where
  pub outlines : Outlined 2 most_points cs
  pub off-line : on_one_line (points_of cs) ≡ false
  pub fits : length (points_of cs) ≤ room

pub cloud : (cs : List Float) (room : ℕ) → first_refusal (hull_checks cs room) ≡ 0 → Cloud cs room
unfolding on_one_line
cloud cs room e =
    let points = length (points_of cs) in
    let none = front_none (cloud_front cs room) e in
    let (line, e₁₂) = passes (on_one_line (points_of cs)) 11 _ (sym (others_decide (cloud_front cs room) none) ∙ e) in
    let (short, e₆) = passes (ltb room points) 5 _ e₁₂ in
    record { outlines = outlined 2 most_points cs none; off-line = line; fits = ltb-false room points short }
