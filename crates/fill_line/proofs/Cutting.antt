-- A line that is read and cut: refused by the reader, or answered by the cutter.
use Prim.Native.Nat.{ℕ, ◌*◌, ◌-◌, ◌≤◌, ◌<◌}
use mathlib.Core.Path.{◌≡◌, refl, sym, ◌∙◌, ap, ap₂, subst}
use mathlib.Core.Bool.{Bool, true, false, cond}
use mathlib.Core.List.{List, ◌++◌}
use native.Mathlib.Omega.{arith}
use borrow.Author.Tests.{lt-ltb, le-ltb}
use lib.Dec.{ltb}
use lib.ListN.{length, take}
use lib.Seq.{length-take-le, take-append-le}
use lib.Ieee.{Float}
use Rattle.rules.specs.Limits.{most_points, most_coordinates, most_indices}
use Rattle.rules.specs.Plane.{Pt}
use Rattle.rules.specs.Grid.{points_of}
use Rattle.rules.specs.Layout.{flatten}
use Rattle.rules.specs.Refusals.{first_refusal, off_grid, cutter_checks}
use Rattle.rules.specs.Entries.{cutter, triangles_for}
use Rattle.rules.specs.Text.{InForm}
use Rattle.rules.specs.Lines.{coordinates, off_corners, Reads, fill_room, fill_checks}
use Rattle.rules.proofs.Answers.{cutter-number, cutter-indices}
use Rattle.rules.proofs.Results.{cut_result}
use Rattle.rules.proofs.FillRows.{StandFor, same_refusal, too_many, filled}
use Rattle.std.specs.Prelude.{Ok, Err}
use Rattle.entries.specs.declared.Answer.{Answer}
use Rattle.entries.specs.declared.Refusal.{Refusal}
use Rattle.entries.specs.Refusals.{number_of, answer_of}
use Rattle.entries.proofs.Refusals.{number_above}
use Rattle.ear_clipping.specs.Promise.{Promise}
use Rattle.wkt.specs.Promise.{reading_of}
use Rattle.wkt.proofs.Corners.{coordinates-length, off_grid_read, points_read}
use Rattle.wkt.proofs.Outcomes.{Outcome, eleven, three, six, zero, outcome}
use Rattle.fill_line.specs.CutLine.{lent_for, LineRefused, LineCut, not_in_form, in_form}

-- ---- what was read

stands : (corners : List Pt) → StandFor (coordinates corners) corners
stands corners = record { pairs = coordinates-length corners; off_grid_lem = off_grid_read corners; points = points_read corners }

-- the room for indices says what the room for the text does
short_alike : (n room : ℕ) → 3 ≤ n → n ≤ most_points → ltb (lent_for n room) (3 * (n - 2)) ≡ ltb room (fill_room n)
short_alike n room least most = go (ltb room (fill_room n))
  where
    go : (t : Bool) → ltb (cond t 0 most_indices) (3 * (n - 2)) ≡ t
    go true = lt-ltb 0 (3 * (n - 2)) (omega arith)
    go false = le-ltb most_indices (3 * (n - 2)) (omega arith)

pub lent_most : (n room : ℕ) → lent_for n room ≤ most_indices
lent_most n room = go (ltb room (fill_room n))
  where
    go : (t : Bool) → cond t 0 most_indices ≤ most_indices
    go true = omega arith
    go false = omega arith

-- how many are lent, as the code finds it
pub lent_none : {needed : ℕ} (n room : ℕ) → needed ≡ fill_room n → room < needed → 0 ≡ lent_for n room
lent_none n room e h = ap (λ (t : Bool). cond t 0 most_indices) (sym (lt-ltb room (fill_room n) (omega arith)))

pub lent_all : {needed : ℕ} (n room : ℕ) → needed ≡ fill_room n → needed ≤ room → most_indices ≡ lent_for n room
lent_all n room e h = ap (λ (t : Bool). cond t 0 most_indices) (sym (le-ltb room (fill_room n) (omega arith)))

-- what the cutter gives for the coordinates of corners
module _ (corners : List Pt) (room k : ℕ) (lent out : List ℕ) (s : Answer) (is-k : k ≡ lent_for (length corners) room) (size : length lent ≡ most_indices)
    (p : Promise (coordinates corners) (take k lent) s out) where
  abbrev cs : List Float
  cs = coordinates corners

  lent_size : length (take k lent) ≡ lent_for (length corners) room
  lent_size = length-take-le k lent (omega (arith, is-k, lent_most (length corners) room)) ∙ is-k

  -- its number is the line's
  cut-number : s.number ≡ first_refusal (fill_checks corners room)
  cut-number =
      p.number
      ∙ cutter-number cs (take k lent)
      ∙ ap (λ (j : ℕ). first_refusal (cutter_checks cs j)) lent_size
      ∙ same_refusal cs corners room (lent_for (length corners) room) (stands corners) (λ h. short_alike (length corners) room h.three h.at_most)

  module _ (ok : s.number ≡ 0) where
    accepted : (cutter cs (take k lent)).number ≡ 0
    accepted = sym p.number ∙ ok

    off : off_corners corners ≡ false
    off = (filled corners room (sym cut-number ∙ ok)).on_grid

    triangles_of_lem : triangles_for (points_of cs) ≡ triangles_for corners
    triangles_of_lem = ap triangles_for (points_read corners off)

    pub fits : 3 * s.count ≤ length (take k lent)
    fits = let r = cut_result cs (take k lent) accepted in omega (arith, p.count, r.count, r.outline.fits)

    -- and it leaves its triangles
    left : take (3 * s.count) out ≡ flatten (triangles_for corners)
    left =
        ap₂ (λ (n : ℕ) (l : List ℕ). take (3 * n) l) p.count p.indices
        ∙ cutter-indices cs (take k lent) accepted
        ∙ ap flatten triangles_of_lem

-- ---- what the reader gave

module _ (line : List ℕ) (room : ℕ) (coords after : List Float) (size : length coords ≡ most_coordinates) where
  pub not_read : (refusal : Refusal) → Reads line coords (reading_of (answer_of (Err refusal)) after) → LineRefused line room (number_of refusal)
  not_read refusal reads = go (outcome reads)
    where
      go : Outcome line (length coords) (reading_of (answer_of (Err refusal)) after) → LineRefused line room (number_of refusal)
      go (eleven h e) = not_in_form h e
      go (three {corners = corners} form many e) = in_form form (e ∙ sym (too_many corners room many))
      go (six form few short e) = absurd (omega arith)
      go (zero form few e n read) = absurd (number_above refusal e)

  -- the corners that were read
  pub record Read (n : ℕ) : Type 0 where
    pub corners : List Pt
    pub form : InForm line corners
    pub few : length corners ≤ most_points
    pub count : n ≡ length corners
    pub stand : take (2 * n) after ≡ coordinates corners

  pub read : (n : ℕ) → Reads line coords (reading_of (answer_of (Ok n)) after) → Read n
  read n reads = go (outcome reads)
    where
      go : Outcome line (length coords) (reading_of (answer_of (Ok n)) after) → Read n
      go (eleven h e) = absurd (omega arith)
      go (three form many e) = absurd (omega arith)
      go (six form few short e) = absurd (omega arith)
      go (zero {corners = corners} form few e c cs) =
          record { corners = corners; form = form; few = few; count = c; stand = ap (λ (j : ℕ). take (2 * j) after) c ∙ cs }

  -- ---- cut

  module _ {n : ℕ} (r : Read n) (k : ℕ) (lent out : List ℕ) (is-k : k ≡ lent_for n room) (size-lent : length lent ≡ most_indices) where
    is-k' : k ≡ lent_for (length r.corners) room
    is-k' = is-k ∙ ap (λ (j : ℕ). lent_for j room) r.count

    promise : {s : Answer} → Promise (take (2 * n) after) (take k lent) s out → Promise (coordinates r.corners) (take k lent) s out
    promise {s = s} p = subst (λ (l : List Float). Promise l (take k lent) s out) r.stand p

    pub not_cut : (refusal : Refusal) → Promise (take (2 * n) after) (take k lent) (answer_of (Err refusal)) out → LineRefused line room (number_of refusal)
    not_cut refusal p = in_form r.form (cut-number r.corners room k lent out _ is-k' size-lent (promise p))

    -- m triangles
    module _ {m : ℕ} (p : Promise (take (2 * n) after) (take k lent) (answer_of (Ok m)) out) where
      none : 0 ≡ first_refusal (fill_checks r.corners room)
      none = cut-number r.corners room k lent out _ is-k' size-lent (promise p)

      pub cut_fits : 3 * m ≤ length (take k lent)
      cut_fits = fits r.corners room k lent out _ is-k' size-lent (promise p) refl

      pub on_grid : off_grid (take (2 * n) after) ≡ false
      on_grid = ap off_grid r.stand ∙ off_grid_read r.corners ∙ off r.corners room k lent out _ is-k' size-lent (promise p) refl

      pub was_cut : (rest : List ℕ) → length out ≡ length (take k lent) → LineCut line room (take (2 * n) after) (take (3 * m) (out ++ rest))
      was_cut rest same = record {
        corners = r.corners;
        form = r.form;
        accepted = sym none;
        size = ap length r.stand ∙ coordinates-length r.corners;
        points = ap points_of r.stand ∙ points_read r.corners (off r.corners room k lent out _ is-k' size-lent (promise p) refl);
        triangles = take-append-le (3 * m) out rest (omega (arith, same, cut_fits)) ∙ left r.corners room k lent out _ is-k' size-lent (promise p) refl;
      }
