-- A ring is a list whose last element is followed by its first.
use Rattle.std.specs.Prelude.{ℕ, List, [], ◌∷◌, ◌++◌, take, drop}
use Rattle.algebra.specs.Sums.{Sums, total}

pub record Edge (A : Type 0) : Type 0 where
  pub from : A
  pub to : A

pub record Corner (A : Type 0) : Type 0 where
  pub before : A
  pub at : A
  pub after : A

-- the steps of a walk from a along l
abbrev pub steps : {A : Type 0} → A → List A → List (Edge A)
steps a [] = []
steps a (b ∷ l) = record { from = a; to = b } ∷ steps b l

-- an edge goes from each element to the next, the last to the first
abbrev pub edges : {A : Type 0} → List A → List (Edge A)
edges [] = []
edges (a ∷ rest) = steps a (rest ++ a ∷ [])

-- the corners of a walk that comes from a to b and goes on along l
abbrev pub bends : {A : Type 0} → A → A → List A → List (Corner A)
bends a b [] = []
bends a b (c ∷ l) = record { before = a; at = b; after = c } ∷ bends b c l

-- the last of a ∷ l
abbrev pub last_of : {A : Type 0} → A → List A → A
last_of a [] = a
last_of a (b ∷ l) = last_of b l

-- the first of l ++ a ∷ []
abbrev pub first_of : {A : Type 0} → A → List A → A
first_of a [] = a
first_of a (b ∷ l) = b

-- each element of the ring with its neighbours
abbrev pub corners : {A : Type 0} → List A → List (Corner A)
corners [] = []
corners (a ∷ rest) = bends (last_of a rest) a (rest ++ a ∷ [])

-- a triangle as a ring
abbrev pub ring_of : {A : Type 0} → Corner A → List A
ring_of c = c.before ∷ c.at ∷ c.after ∷ []

-- the ring begun at its place i
abbrev pub begun_at : {A : Type 0} → ℕ → List A → List A
begun_at i ring = drop i ring ++ take i ring

-- the ring begun at each of its places in turn
unfoldable pub rotations_from : {A : Type 0} → List A → List A → List (List A)
rotations_from passed [] = []
rotations_from passed (a ∷ rest) = ((a ∷ rest) ++ passed) ∷ rotations_from (passed ++ a ∷ []) rest

unfoldable pub rotations : {A : Type 0} → List A → List (List A)
unfolding rotations_from
rotations ring = rotations_from [] ring

-- the sum of w over the edges of a ring
abbrev pub around : {A G : Type 0} → Sums G → (A → A → G) → List A → G
around S w ring = total S (λ e. w e.from e.to) (edges ring)
