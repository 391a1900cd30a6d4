-- Document 01, "Point tests": which edges a point crosses, the crossing parity, and the convex test.
use Rattle.std.specs.Prelude.{Bool, false, not, ◌&&◌, ◌||◌, List, [], ◌∷◌, ℤ, pos}
use Rattle.std.specs.Int.Signed.{lt_z, le_z}
use Rattle.algebra.specs.Lists.{any}
use Rattle.algebra.specs.Sums.{parities, total}
use Rattle.algebra.specs.Rings.{edges, around}
use Rattle.rules.specs.Plane.{Pt, minus, cross}

-- (p - a) x (b - a), for an edge a to b
abbrev pub perp : Pt → Pt → Pt → ℤ
perp p a b = cross (minus p a) (minus b a)

-- a.y <= p.y < b.y and (p - a) x (b - a) < 0
abbrev pub upward : Pt → Pt → Pt → Bool
upward p a b = le_z a.y p.y && (lt_z p.y b.y && lt_z (perp p a b) (pos 0))

-- b.y <= p.y < a.y and (p - a) x (b - a) > 0
abbrev pub downward : Pt → Pt → Pt → Bool
downward p a b = le_z b.y p.y && (lt_z p.y a.y && lt_z (pos 0) (perp p a b))

abbrev pub crossed : Pt → Pt → Pt → Bool
crossed p a b = upward p a b || downward p a b

-- an odd number of the elements passes the test
abbrev pub odd : {A : Type 0} → (A → Bool) → List A → Bool
odd f l = total parities f l

-- an odd number of edges is crossed: the crossing parity
unfoldable pub odd_crossings : Pt → List Pt → Bool
odd_crossings p ring = around parities (crossed p) ring

-- (p - a) x (b - a) isn't positive at one edge and negative at another; no corners: false
unfoldable pub inside_convex : Pt → List Pt → Bool
inside_convex p [] = false
inside_convex p (a ∷ l) =
    not (any (λ e. lt_z (pos 0) (perp p e.from e.to)) (edges (a ∷ l)) && any (λ e. lt_z (perp p e.from e.to) (pos 0)) (edges (a ∷ l)))
