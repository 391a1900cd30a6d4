-- A loop over the edges of an outline: the point at which it stands, and what is known of the edges that are left.
use Prim.Native.Nat.{ℕ, ◌+◌, ◌≤◌, ◌<◌}
use mathlib.Core.Path.{◌≡◌, sym, ◌∙◌, ap, subst}
use mathlib.Core.List.{List, [], ◌∷◌}
use native.Mathlib.Omega.{arith}
use lib.ListN.{length}
use Rattle.algebra.specs.Rings.{Edge, edges}
use Rattle.rules.specs.Plane.{Pt, point}
use Rattle.rules.proofs.Walks.{edges_from, edges-first, edges_more, edges-last}
use Rattle.grid.specs.declared.point.Point.{Point}
use Rattle.grid.specs.Points.{pt_of}

abbrev pub edge : Point → Point → Edge Pt
edge a b = record { from = pt_of a; to = pt_of b }

pub record Walk (ps : List Pt) (Known : List (Edge Pt) → Type 0) (a : Point) (i : ℕ) : Type 0 where
  pub from : 1 ≤ i
  pub known : Known (edges_from ps (pt_of a) i)

module _ (ps : List Pt) (Known : List (Edge Pt) → Type 0) where
  pub walk_first : (f : Point) → pt_of f ≡ point ps 0 → 0 < length ps → Known (edges ps) → Walk ps Known f 1
  walk_first f e h k = record { from = omega arith; known = subst Known (edges-first ps h ∙ ap (λ a. edges_from ps a 1) (sym e)) k }

  module _ {a : Point} {i : ℕ} (w : Walk ps Known a i) where
    -- the edge to point number i, and those behind it
    pub walk_here : i < length ps → (b : Point) → pt_of b ≡ point ps i → Known (edge a b ∷ edges_from ps (pt_of b) (i + 1))
    walk_here h b e = subst Known (edges_more ps (pt_of a) i h ∙ ap (λ q. record { from = pt_of a; to = q } ∷ edges_from ps q (i + 1)) (sym e)) w.known

    -- that edge is passed
    pub walk_more :
        (Then : List (Edge Pt) → Type 0) → i < length ps → (b : Point) → pt_of b ≡ point ps i
        → ((es : List (Edge Pt)) → Known (edge a b ∷ es) → Then es) → Walk ps Then b (i + 1)
    walk_more Then h b e step = record { from = omega (arith, w.from); known = step (edges_from ps (pt_of b) (i + 1)) (walk_here h b e) }

    -- the last edge is left
    pub walk_last : length ps ≤ i → (f : Point) → pt_of f ≡ point ps 0 → Known (edge a f ∷ [])
    walk_last h f e = subst Known (edges-last ps (pt_of a) i h ∙ ap (λ q. record { from = pt_of a; to = q } ∷ []) (sym e)) w.known
