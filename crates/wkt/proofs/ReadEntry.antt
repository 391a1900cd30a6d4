-- What the reader gives back, by what was read; and that two results which its promise allows are equal.
use Prim.Native.Nat.{ℕ, ◌*◌, ◌≤◌, ◌<◌}
use native.Mathlib.Omega.{arith}
use mathlib.Core.Path.{◌≡◌, sym, ap, ap₂, ◌∙◌}
use mathlib.Core.List.{List, ◌∷◌}
use lib.ListN.{length, take}
use lib.Ieee.{Float}
use Rattle.rules.specs.Limits.{most_points}
use Rattle.rules.specs.Plane.{Pt}
use Rattle.rules.specs.Layout.{over}
use Rattle.rules.specs.Text.{bytes, InForm}
use Rattle.rules.specs.Lines.{in_form, Reading, Reads}
use Rattle.rules.proofs.LineAnswers.{answers_one, reader-three, reader_six, reader-answered}
use Rattle.entries.specs.declared.Answer.{Answer}
use Rattle.entries.proofs.Answers.{answers_equal}
use Rattle.wkt.specs.Reads.{Counted, OutlineRead}
use Rattle.wkt.specs.Promise.{reading_of}
use Rattle.wkt.proofs.Forms.{polygon_in_form}
use Rattle.wkt.proofs.Corners.{coordinates-length}

-- ---- what was read is held, where there is room for it

module _ {c : Pt} {cs : List Pt} {n : ℕ} {own : List Float} (k : Counted c cs n own) (few : n ≤ most_points) where
  pub held-length : length (take (2 * n) own) ≡ 2 * n
  held-length = ap length (k.held few) ∙ coordinates-length (c ∷ cs) ∙ ap (λ (m : ℕ). 2 * m) (sym k.counted)

-- ---- a POLYGON line

module _ {line : List ℕ} {n : ℕ} {own : List Float} (r : OutlineRead (bytes "POLYGON ((") line n own) where
  abbrev corners : List Pt
  corners = r.c ∷ r.cs

  form : InForm line corners
  form = polygon_in_form r.outlined

  pub too_many : (coords : List Float) → most_points < n → Reads line coords (record { number = 3; count = 0; coords = coords })
  too_many coords h = in_form form (sym (reader-three coords corners (omega (arith, h, r.known.counted))))

  module _ (few : n ≤ most_points) where
    fits : length corners ≤ most_points
    fits = omega (arith, few, r.known.counted)

    pub too_little_lem : (coords : List Float) → length coords < 2 * n → Reads line coords (record { number = 6; count = 0; coords = coords })
    too_little_lem coords h = in_form form (sym (reader_six coords corners fits (omega (arith, h, r.known.counted))))

    pub answered : (coords new : List Float) → 2 * n ≤ length coords → new ≡ over (take (2 * n) own) coords → Reads line coords (record { number = 0; count = n; coords = new })
    answered coords new h e =
        in_form form
        (ap₂ (λ (k : ℕ) (l : List Float). record { number = 0; count = k; coords = l }) r.known.counted (e ∙ ap (λ (l : List Float). over l coords) (r.known.held few))
        ∙ sym (reader-answered coords corners fits (omega (arith, h, r.known.counted))))

-- ---- two results that the promise allows are equal

pub unique : (line : List ℕ) (before : List Float) (r s : Answer) (after after' : List Float) → Reads line before (reading_of r after) → Reads line before (reading_of s after') → (r ≡ s) × (after ≡ after')
unique line before r s after after' p q =
    let e : reading_of r after ≡ reading_of s after' = answers_one p q in
    (answers_equal r s (ap (λ (x : Reading). x.number) e) (ap (λ (x : Reading). x.count) e), ap (λ (x : Reading). x.coords) e)
