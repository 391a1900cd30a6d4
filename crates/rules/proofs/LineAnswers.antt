-- What comes back of a line: one result at most; and what the reader gives back, by its refusals.
use Prim.Native.Nat.{ℕ, ◌*◌, ◌≤◌, ◌<◌}
use native.Mathlib.Omega.{arith}
use mathlib.Core.Path.{◌≡◌, refl, sym, ap, ◌∙◌}
use mathlib.Core.Logic.{◌≢◌}
use mathlib.Core.List.{List}
use lib.ListN.{length}
use lib.Ieee.{Float}
use borrow.Author.Tests.{lt-ltb, le-ltb}
use Rattle.rules.specs.Limits.{most_points}
use Rattle.rules.specs.Plane.{Pt}
use Rattle.rules.specs.Layout.{over}
use Rattle.rules.specs.Refusals.{first_refusal}
use Rattle.rules.specs.Text.{InForm, NotInForm}
use Rattle.rules.specs.Lines.{Answers, in_form, not_in_form, coordinates, reader_checks, reader, Reads}
use Rattle.rules.proofs.Rows.{row_on, row_off, no_rows}
use Rattle.rules.proofs.Answers.{unless-answered, unless_refused}
use Rattle.rules.proofs.TextLines.{in_form_one}

module _ {R : Type 0} {line : List ℕ} {eleven : R} {answer : List Pt → R} {r : R} where
  -- the answer for its corners, whichever fit
  pub answer_of_lem : Answers line eleven answer r → (corners : List Pt) → InForm line corners → r ≡ answer corners
  unfolding NotInForm
  answer_of_lem (in_form {corners = ds} g e) corners form = e ∙ ap answer (in_form_one line ds corners g form)
  answer_of_lem (not_in_form h e) corners form = absurd (h corners form)

  pub eleven_of : Answers line eleven answer r → NotInForm line → r ≡ eleven
  unfolding NotInForm
  eleven_of (in_form {corners = ds} g e) h = absurd (h ds g)
  eleven_of (not_in_form k e) h = e

-- a line has one list of corners at most, so one answer
pub answers_one : {R : Type 0} {line : List ℕ} {eleven : R} {answer : List Pt → R} {r s : R} → Answers line eleven answer r → Answers line eleven answer s → r ≡ s
answers_one a (in_form {corners = corners} form e) = answer_of_lem a corners form ∙ sym e
answers_one a (not_in_form h e) = eleven_of a h ∙ sym e

-- ---- the reader

pub reads-not : (line : List ℕ) (coords : List Float) → NotInForm line → Reads line coords (record { number = 11; count = 0; coords = coords })
reads-not line coords h = not_in_form h refl

module _ (coords : List Float) (corners : List Pt) where
  refused : (n : ℕ) → first_refusal (reader_checks corners (length coords)) ≡ n → n ≢ 0 → reader coords corners ≡ record { number = n; count = 0; coords = coords }
  unfolding reader
  refused n e d = unless_refused _ _ (λ z. d (sym e ∙ z)) ∙ ap (λ m. record { number = m; count = 0; coords = coords }) e

  pub reader-three : most_points < length corners → reader coords corners ≡ record { number = 3; count = 0; coords = coords }
  unfolding reader_checks
  reader-three h = refused 3 (row_on 3 _ (lt-ltb most_points (length corners) h)) (λ z. omega arith)

  module _ (few : length corners ≤ most_points) where
    pub reader_six : length coords < 2 * length corners → reader coords corners ≡ record { number = 6; count = 0; coords = coords }
    unfolding reader_checks
    reader_six h = refused 6 (row_off 3 _ (le-ltb most_points (length corners) few) ∙ row_on 6 _ (lt-ltb (length coords) (2 * length corners) h)) (λ z. omega arith)

    none : 2 * length corners ≤ length coords → first_refusal (reader_checks corners (length coords)) ≡ 0
    unfolding reader_checks
    none h = row_off 3 _ (le-ltb most_points (length corners) few) ∙ row_off 6 _ (le-ltb (length coords) (2 * length corners) h) ∙ no_rows

    pub reader-answered : 2 * length corners ≤ length coords → reader coords corners ≡ record { number = 0; count = length corners; coords = over (coordinates corners) coords }
    unfolding reader
    reader-answered h = unless-answered _ _ (none h)
