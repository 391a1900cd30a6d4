-- A piece, joined with later pieces until it is finished.
use Rattle.std.specs.Prelude.{ℕ, ◌+◌, ◌≤◌, ◌<◌, ◌≡◌, List, ◌∷◌, length}
use Rattle.algebra.specs.Lists.{Each}
use Rattle.rules.specs.Merge.{JoinTest, merge}
use Rattle.joins.specs.declared.ring.Ring.{Ring}
use Rattle.joins.specs.Ring.{places, corners}

-- of n points. Each join has taken a later piece and has brought a corner
pub record Finished (may : JoinTest) (n : ℕ) (first : List ℕ) (later : List (List ℕ)) (ring : Ring) (left : List (List ℕ)) : Type 0 where
  pub merges : merge may (first ∷ later) ≡ corners ring ∷ merge may left
  pub known : Each (Each (λ v. v < n)) left
  pub three : 3 ≤ ring.len
  pub total : ring.len + length left ≡ 3 + length later
  pub places_low : Each (λ i. i < 512) (places ring)
