-- How many indices merged pieces have: two for each piece, and one for each given triangle. So they fit where the triangles do.
use Prim.Native.Nat.{ℕ, ◌+◌, ◌*◌, ◌-◌, ◌/◌, ◌≤◌}
use mathlib.Core.Path.{◌≡◌, refl}
use mathlib.Core.List.{List, [], ◌∷◌}
use native.Mathlib.Omega.{arith}
use lib.Dec.{lit≤}
use lib.ListN.{length}
use Rattle.algebra.specs.Lists.{Each, end, ◌&◌}
use Rattle.algebra.specs.Sums.{total, naturals}
use Rattle.rules.specs.Merge.{JoinTest, merge}
use Rattle.rules.specs.Layout.{flatten, triples}
use Rattle.rules.proofs.Layouts.{flat_size, few-pieces}
use Rattle.rules.proofs.Pieces.{merging}

abbrev beyond : List (List ℕ) → ℕ
beyond = total naturals (λ t. length t - 2)

triples-three : (l : List ℕ) → Each (λ t. 3 ≤ length t) (triples l)
unfolding triples
triples-three [] = end
triples-three (a ∷ []) = end
triples-three (a ∷ b ∷ []) = end
triples-three (a ∷ b ∷ c ∷ l) = lit≤ tt & triples-three l

triples-beyond : (l : List ℕ) → beyond (triples l) ≡ length l / 3
unfolding triples
triples-beyond [] = refl
triples-beyond (a ∷ []) = refl
triples-beyond (a ∷ b ∷ []) = refl
triples-beyond (a ∷ b ∷ c ∷ l) = omega (arith, triples-beyond l)

module _ (may : JoinTest) (l : List ℕ) where
  pub merged_corners : length (flatten (merge may (triples l))) ≡ length l / 3 + 2 * length (merge may (triples l))
  merged_corners =
      let m = merging may (triples l) in
      omega (arith, flat_size (m.three (triples-three l)), m.size, triples-beyond l)

  pub merged_count : length (merge may (triples l)) ≤ length l / 3
  merged_count =
      let m = merging may (triples l) in
      omega (arith, few-pieces (m.three (triples-three l)), m.size, triples-beyond l)
