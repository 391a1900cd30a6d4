-- Two results that the promise allows are equal.
use Prim.Native.Nat.{ℕ}
use mathlib.Core.Path.{◌≡◌, ap}
use mathlib.Core.List.{List}
use Rattle.rules.specs.Plane.{Pt}
use Rattle.rules.specs.Lines.{Writing, Fills}
use Rattle.rules.proofs.LineAnswers.{answers_one}
use Rattle.entries.specs.declared.Answer.{Answer}
use Rattle.entries.proofs.Answers.{answers_equal}
use Rattle.wkt.specs.Promise.{writing_of}

pub unique :
    (plan : List Pt → List (List ℕ)) (line before : List ℕ) (r s : Answer) (after after' : List ℕ) → Fills plan line before (writing_of r after) → Fills plan line before (writing_of s after')
    → (r ≡ s) × (after ≡ after')
unique plan line before r s after after' p q =
    let e : writing_of r after ≡ writing_of s after' = answers_one p q in
    (answers_equal r s (ap (λ (w : Writing). w.number) e) (ap (λ (w : Writing). w.count) e), ap (λ (w : Writing). w.text) e)
