-- Two results that a promise allows are equal.
use Prim.Native.Nat.{ℕ}
use mathlib.Core.Path.{◌≡◌, sym, ◌∙◌}
use mathlib.Core.List.{List}
use lib.Ieee.{Float}
use Rattle.rules.specs.Plane.{Pt}
use Rattle.rules.specs.Border.{Position}
use Rattle.hasplight.specs.Promise.{Reported, MergerPromise, PointPromise}
use Rattle.entries.specs.declared.Answer.{Answer}
use Rattle.entries.proofs.Answers.{answers_equal}
use Rattle.hasplight.specs.declared.Verdict.{Verdict}

-- of the cutter (`CutterPromise`) and of the hull (`HullPromise`)
pub reported_unique :
    (number count : ℕ) (report indices : List ℕ) (r s : Answer) (indices₁ indices₂ : List ℕ) → Reported number count report indices r indices₁ → Reported number count report indices s indices₂
    → (r ≡ s) × (indices₁ ≡ indices₂)
reported_unique number count report indices r s indices₁ indices₂ p q =
    (answers_equal r s (p.number_is ∙ sym q.number_is) (p.count_is ∙ sym q.count_is), p.bytes ∙ sym q.bytes)

pub merger_unique :
    (coords triangles indices lengths : List ℕ) (r s : Answer) (indices₁ lengths₁ indices₂ lengths₂ : List ℕ) → MergerPromise coords triangles indices lengths r indices₁ lengths₁
    → MergerPromise coords triangles indices lengths s indices₂ lengths₂ → (r ≡ s) × (indices₁ ≡ indices₂) × (lengths₁ ≡ lengths₂)
merger_unique coords triangles indices lengths r s indices₁ lengths₁ indices₂ lengths₂ p q =
    (answers_equal r s (p.number ∙ sym q.number) (p.count ∙ sym q.count), p.bytes ∙ sym q.bytes, p.length-bytes ∙ sym q.length-bytes)

pub point_unique : (test : Pt → List Pt → Position) (x y : Float) (coords : List ℕ) (r s : Verdict) → PointPromise test x y coords r → PointPromise test x y coords s → r ≡ s
point_unique test x y coords r s p q = verdicts_equal (p.number ∙ sym q.number) (p.answer ∙ sym q.answer)
  where
    verdicts_equal : r.number ≡ s.number → r.answer ≡ s.answer → r ≡ s
    verdicts_equal e f = λ i. record { number = e i; answer = f i }
