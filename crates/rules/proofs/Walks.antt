-- A loop over the edges of an outline: what is left of them once points 1 to i - 1 are passed.
use Prim.Native.Nat.{ℕ, ◌+◌, ◌≤◌, ◌<◌}
use mathlib.Core.Path.{◌≡◌, refl}
use mathlib.Core.List.{List, [], ◌∷◌, ◌++◌}
use native.Mathlib.Numerals.{add-one}
use native.Mathlib.Omega.{arith}
use lib.ListN.{length, drop, drop_of_length-le}
use lib.IntN.{pos}
use lib.Seq.{drop-cons}
use Rattle.algebra.specs.Rings.{Edge, steps, edges}
use Rattle.rules.specs.Plane.{Pt, point}

-- the edges from point a along the points from number i on, and back to the first
unfoldable pub edges_from : List Pt → Pt → ℕ → List (Edge Pt)
edges_from ps a i = steps a (drop i ps ++ point ps 0 ∷ [])

pub edges-first : (ps : List Pt) → 0 < length ps → edges ps ≡ edges_from ps (point ps 0) 1
unfolding edges_from
edges-first [] h = absurd (omega arith)
edges-first (p ∷ ps) h = refl

pub edges_more : (ps : List Pt) (a : Pt) (i : ℕ) → i < length ps → edges_from ps a i ≡ record { from = a; to = point ps i } ∷ edges_from ps (point ps i) (i + 1)
unfolding edges_from
edges_more ps a i h = rw (add-one i, drop-cons ps i (record { x = pos 0; y = pos 0 }) h)

pub edges-last : (ps : List Pt) (a : Pt) (i : ℕ) → length ps ≤ i → edges_from ps a i ≡ record { from = a; to = point ps 0 } ∷ []
unfolding edges_from
edges-last ps a i h = rw (drop_of_length-le ps h)
