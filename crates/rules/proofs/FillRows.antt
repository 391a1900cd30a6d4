-- The rows of filling a line: what they leave where none applies, and that the cutter's rows say the same of the coordinates that were read.
use Prim.Native.Nat.{ℕ, ◌*◌, ◌-◌, ◌/◌, ◌%◌, ◌≤◌, ◌<◌}
use mathlib.Core.Path.{◌≡◌, refl, sym, ◌∙◌, ap, ap₂}
use mathlib.Core.Bool.{Bool, false}
use mathlib.Core.List.{List, [], ◌∷◌, ◌++◌, append_assoc}
use native.Mathlib.Omega.{arith}
use native.Mathlib.Nat.{mul-mod_right, mul-div_cancel_left}
use native.Mathlib.Decide.{ℕ_discrete}
use borrow.Author.Tests.{ltb-false, lt-ltb, le-ltb}
use lib.Dec.{eqb, ltb, lit<}
use lib.ListN.{length}
use lib.Ieee.{Float}
use Rattle.rules.specs.Limits.{most_points}
use Rattle.rules.specs.Plane.{Pt}
use Rattle.rules.specs.Grid.{points_of}
use Rattle.rules.specs.Cut.{cut}
use Rattle.rules.specs.Refusals.{Row, ◌gives◌, first_refusal, off_grid, no_ear, short_to_cut, count_checks, outline_checks, ring_checks, before_cutting, cutter_checks}
use Rattle.rules.specs.Lines.{off_corners, fill_room, before_ring, fill_checks}
use Rattle.rules.proofs.Rows.{row_on, row_off, passes, Front, front_gives, front_none, others_decide}
use Rattle.rules.proofs.Outlines.{counted}
use Rattle.rules.proofs.Accepted.{Accepted, ring-passed, not_stuck}
use Rattle.rules.proofs.Fronts.{cutter-front, seven_front}

-- 1 is never given
pub even : (n : ℕ) → eqb ((2 * n) % 2) 1 ≡ false
even n = rw (mul-mod_right 2 n)

-- ---- what they leave

grid_front : (corners : List Pt) → Front (count_checks 3 most_points (2 * length corners)) (off_corners corners gives 4 ∷ []) (before_ring corners)
unfolding count_checks before_ring
grid_front corners = record { whole = refl; numbered = refl }

-- the number of corners is in order, and they are on the grid
pub record Sound (corners : List Pt) : Type 0 where
  pub three : 3 ≤ length corners
  pub at_most : length corners ≤ most_points
  pub on_grid : off_corners corners ≡ false

pub sound : (corners : List Pt) → first_refusal (before_ring corners) ≡ 0 → Sound corners
sound corners e =
    let none = front_none (grid_front corners) e in
    let c = counted 3 most_points (2 * length corners) none in
    let off = (passes (off_corners corners) 3 [] (sym (others_decide (grid_front corners) none) ∙ e)).0 in
    record { three = omega (arith, c.at_least); at_most = omega (arith, c.at_most); on_grid = off }

module _ (corners : List Pt) (room : ℕ) where
  abbrev short : Bool
  short = ltb room (fill_room (length corners))

  pub corners-front : Front (before_ring corners) (ring_checks corners short ++ (no_ear corners gives 7 ∷ [])) (fill_checks corners room)
  unfolding count_checks before_ring fill_checks
  corners-front = record { whole = refl; numbered = refl }

  -- an outline that is filled
  pub record Filled : Type 0 where
    pub outline : Accepted corners (3 * (length corners - 2))
    pub on_grid : off_corners corners ≡ false
    pub fits : fill_room (length corners) ≤ room

  pub filled : first_refusal (fill_checks corners room) ≡ 0 → Filled
  unfolding no_ear
  filled e =
      let first = front_none corners-front e in
      let s = sound corners first in
      let (ring, behind) = ring-passed corners short _ (sym (others_decide corners-front first) ∙ e) in
      let (ear, last) = passes (no_ear corners) 6 _ behind in
      let (ts, is) = not_stuck (cut corners) ear in
      let enough : 3 * (length corners - 2) ≤ 3 * (length corners - 2) = omega arith in
      record {
        outline = record {
          three = s.three;
          at_most = s.at_most;
          neighbours = ring.neighbours;
          above = ring.above;
          fits = enough;
          triangles = ts;
          is_cut = is;
        };
        on_grid = s.on_grid;
        fits = ltb-false room (fill_room (length corners)) ring.roomy;
      }

-- ---- the cutter's

-- the coordinates stand for the corners, but for those off the grid
pub record StandFor (cs : List Float) (corners : List Pt) : Type 0 where
  pub pairs : length cs ≡ 2 * length corners
  pub off_grid_lem : off_grid cs ≡ off_corners corners
  pub points : off_corners corners ≡ false → points_of cs ≡ corners

-- with room for its indices exactly where there is room for the text
module _ (cs : List Float) (corners : List Pt) (room k : ℕ) (s : StandFor cs corners) (same-short : Sound corners → ltb k (3 * (length corners - 2)) ≡ ltb room (fill_room (length corners))) where
  same-front : outline_checks 3 most_points cs ≡ before_ring corners
  unfolding outline_checks before_ring
  same-front = ap₂ (λ (n : ℕ) (off : Bool). count_checks 3 most_points n ++ (off gives 4 ∷ [])) s.pairs s.off_grid_lem

  abbrev rows : List Row → List Pt → Bool → List Row
  rows front ps short = front ++ (ring_checks ps short ++ (no_ear ps gives 7 ∷ []))

  cutter_rows : cutter_checks cs k ≡ rows (outline_checks 3 most_points cs) (points_of cs) (short_to_cut (points_of cs) k)
  unfolding cutter_checks before_cutting
  cutter_rows = append_assoc (outline_checks 3 most_points cs) (ring_checks (points_of cs) (short_to_cut (points_of cs) k)) (no_ear (points_of cs) gives 7 ∷ [])

  fill_rows : fill_checks corners room ≡ rows (before_ring corners) corners (ltb room (fill_room (length corners)))
  unfolding fill_checks
  fill_rows = refl

  same_rows : Sound corners → cutter_checks cs k ≡ fill_checks corners room
  same_rows h =
      let p = s.points h.on_grid in
      cutter_rows
      ∙ ap₂ (λ (front : List Row) (ps : List Pt). rows front ps (short_to_cut ps k)) same-front p
      ∙ ap (rows (before_ring corners) corners) (same-short h)
      ∙ sym fill_rows

  -- what the cutter gives for the coordinates is what filling gives for the corners
  pub same_refusal : first_refusal (cutter_checks cs k) ≡ first_refusal (fill_checks corners room)
  same_refusal = go (ℕ_discrete (first_refusal (before_ring corners)) 0)
    where
      same_first : first_refusal (before_ring corners) ≡ first_refusal (outline_checks 3 most_points cs)
      same_first = ap first_refusal (sym same-front)

      go : Dec (first_refusal (before_ring corners) ≡ 0) → first_refusal (cutter_checks cs k) ≡ first_refusal (fill_checks corners room)
      go (yes e) = ap first_refusal (same_rows (sound corners e))
      go (no d) =
          let first = first_refusal (before_ring corners) in
          let a = front_gives (cutter-front cs k) {n = first} same_first d in
          sym (front_gives (seven_front cs k) {n = first} a d) ∙ front_gives (corners-front corners room) {n = first} refl d

-- ---- too many corners

pub too_many : (corners : List Pt) (room : ℕ) → most_points < length corners → first_refusal (fill_checks corners room) ≡ 3
unfolding fill_checks before_ring count_checks
too_many corners room h =
    let halves : 2 * length corners / 2 ≡ length corners = mul-div_cancel_left (length corners) (lit< tt) in
    row_off 1 _ (even (length corners)) ∙ row_off 2 _ (rw halves (le-ltb (length corners) 3 (omega arith))) ∙ row_on 3 _ (rw halves (lt-ltb most_points (length corners) h))
