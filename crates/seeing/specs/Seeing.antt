-- What the code takes from a list of points: the farthest, and those that see a facet.
use Rattle.std.specs.Prelude.{ℕ, List, [], ◌∷◌}
use Rattle.algebra.specs.Lists.{keep}
use Rattle.rules.specs.Plane.{Pt, right, point}
use Rattle.rules.specs.Hull.{farthest}

-- the farthest of a list in the direction n, of equals the first; of none it is point 0
unfoldable pub farthest_of : List Pt → Pt → List ℕ → ℕ
unfolding farthest
farthest_of ps n [] = 0
farthest_of ps n (i ∷ l) = farthest ps n i l

-- those that see the facet from a to b: they stand right of it
unfoldable pub seeing : List Pt → Pt → Pt → List ℕ → List ℕ
seeing ps a b l = keep (λ i. right a b (point ps i)) l
