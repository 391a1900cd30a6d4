-- What the entry gives back, by its refusal and by what the merge has written; and that two results which the promise allows are equal.
use Prim.Native.Nat.{ℕ}
use mathlib.Core.Path.{◌≡◌, sym, ◌∙◌, ap}
use mathlib.Core.Logic.{◌≢◌}
use mathlib.Core.List.{List, map}
use lib.ListN.{length}
use lib.Ieee.{Float}
use Rattle.rules.specs.Grid.{points_of}
use Rattle.rules.specs.Merge.{may_join, merge}
use Rattle.rules.specs.Layout.{flatten, triples, over}
use Rattle.rules.specs.Refusals.{first_refusal, merger_checks}
use Rattle.rules.specs.Entries.{merger}
use Rattle.rules.proofs.Answers.{merger-number, merger-answered, merger_refused}
use Rattle.entries.specs.declared.Answer.{Answer}
use Rattle.entries.proofs.Answers.{answers_equal}
use Rattle.hertel_mehlhorn.specs.Promise.{Promise, Written}

module _ (cs : List Float) (tri out lens : List ℕ) where
  abbrev pieces : List (List ℕ)
  pieces = merge (may_join (points_of cs)) (triples tri)

  promised : (r : Answer) (out' lens' : List ℕ) → merger cs tri out lens ≡ record { number = r.number; count = r.count; indices = out'; lengths = lens' } → Promise cs tri out lens r out' lens'
  promised r out' lens' e = record { number = rw e; count = rw e; indices_are = rw e; lengths_are = rw e }

  number_is : {n : ℕ} → n ≡ first_refusal (merger_checks cs tri (length out) (length lens)) → (merger cs tri out lens).number ≡ n
  number_is is = merger-number cs tri out lens ∙ sym is

  pub refused : (n : ℕ) → n ≡ first_refusal (merger_checks cs tri (length out) (length lens)) → n ≢ 0 → Promise cs tri out lens (record { number = n; count = 0 }) out lens
  refused n is d =
      promised (record { number = n; count = 0 }) out lens
      (merger_refused cs tri out lens (λ e. d (sym (number_is is) ∙ e)) ∙ ap (λ m. record { number = m; count = 0; indices = out; lengths = lens }) (number_is is))

  pub merged :
      0 ≡ first_refusal (merger_checks cs tri (length out) (length lens)) → (count : ℕ) (out' lens' : List ℕ) → Written pieces out lens count out' lens'
      → Promise cs tri out lens (record { number = 0; count = count }) out' lens'
  merged is count out' lens' w =
      rw (w.count, w.indices_are, w.lengths_are) (promised (record { number = 0; count = length pieces }) (over (flatten pieces) out) (over (map length pieces) lens) (merger-answered cs tri out lens (number_is is)))

-- ---- two results that the promise allows are equal

pub unique :
    (cs : List Float) (tri out lens : List ℕ) (r s : Answer) (out₁ lens₁ out₂ lens₂ : List ℕ) → Promise cs tri out lens r out₁ lens₁ → Promise cs tri out lens s out₂ lens₂
    → (r ≡ s) × (out₁ ≡ out₂) × (lens₁ ≡ lens₂)
unique cs tri out lens r s out₁ lens₁ out₂ lens₂ p q =
    (answers_equal r s (p.number ∙ sym q.number) (p.count ∙ sym q.count), p.indices_are ∙ sym q.indices_are, p.lengths_are ∙ sym q.lengths_are)
