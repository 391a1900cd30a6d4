-- A ring of facets as it stands in an array: each facet's corner, marked, and behind it the points that see the facet. And a round as the code
-- makes it: no point sees both parts of a facet that is split at its farthest point, so those that see the second are not asked about the first.
use Rattle.std.specs.Prelude.{ℕ, ◌+◌, ◌-◌, ◌≤◌, ◌<◌, ◌≡◌, Bool, List, [], ◌∷◌, ◌++◌, ltb, length}
use Rattle.std.specs.List.{prefix_len}
use Rattle.algebra.specs.Lists.{Each}
use Rattle.rules.specs.Limits.{most_points}
use Rattle.rules.specs.Plane.{Pt, point}
use Rattle.rules.specs.Hull.{normal, before}
use Rattle.hulls.specs.Rounds.{Facet, Way}
use Rattle.seeing.specs.Seeing.{farthest_of}

-- ---- marks

abbrev pub mark_of : ℕ → ℕ
mark_of i = i + most_points

abbrev pub corner_of : ℕ → ℕ
corner_of x = x - most_points

abbrev pub Marked : ℕ → Type 0
Marked x = most_points ≤ x

abbrev pub unmarked : ℕ → Bool
unmarked x = ltb x most_points

-- how many unmarked numbers stand in front
abbrev pub leading : List ℕ → ℕ
leading l = prefix_len unmarked l

-- ---- facets

abbrev pub one_laid : Facet → List ℕ
one_laid f = mark_of f.from ∷ f.seen

unfoldable pub laid : List Facet → List ℕ
laid [] = []
laid (f ∷ facets) = one_laid f ++ laid facets

-- the facets from u to w and from w to v, each with the points of l that see it
abbrev pub two : List Pt → List ℕ → ℕ → ℕ → ℕ → List Facet
two ps l u w v = record { from = u; to = w; seen = before ps u w l } ∷ record { from = w; to = v; seen = before ps w v l } ∷ []

-- the facet from u to v, which the points of l see: split at the farthest of them, or as it is where there is none
unfoldable pub parts : List Pt → List ℕ → ℕ → ℕ → List Facet
unfolding farthest_of
parts ps [] u v = record { from = u; to = v; seen = [] } ∷ []
parts ps (i ∷ l) u v = two ps (i ∷ l) u (farthest_of ps (normal (point ps u) (point ps v)) (i ∷ l)) v

unfoldable pub sweep_of : List Pt → List Facet → List Facet
unfolding parts
sweep_of ps [] = []
sweep_of ps (f ∷ facets) = parts ps f.seen f.from f.to ++ sweep_of ps facets

-- ---- a ring of facets over n points

-- corners and lists are in range, and each facet ends where the next begins
pub record Sound (n : ℕ) (ring : List Facet) : Type 0 where
  pub corners : Each (λ f. f.from < n) ring
  pub lists : Each (λ f. Each (λ i. i < n) f.seen) ring
  pub corner : ℕ
  pub way : Way corner ring corner

-- the ring stands in a store, and what a sweep makes of it has room
pub record Held (ps : List Pt) (store : List ℕ) (ring : List Facet) : Type 0 where
  pub is : store ≡ laid ring
  pub sound : Sound (length ps) ring
  pub fits : length (laid (sweep_of ps ring)) ≤ most_points
