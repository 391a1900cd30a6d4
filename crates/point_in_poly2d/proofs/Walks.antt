-- A loop over the edges of an outline that begins with the edge from the last point to the first: what is seen so far, with what the edges that are
-- left show, is what all edges show.
use Prim.Native.Nat.{ℕ, suc, ◌+◌, ◌≤◌, ◌<◌}
use mathlib.Core.Path.{◌≡◌, refl, sym, ◌∙◌, ap}
use mathlib.Core.List.{List, [], ◌∷◌}
use native.Mathlib.Numerals.{add-one}
use native.Mathlib.Omega.{arith}
use lib.ListN.{length, drop, drop_of_length-le}
use lib.IntN.{pos}
use lib.Ieee.{binary32, sub}
use lib.Seq.{drop-cons}
use Rattle.algebra.specs.Sums.{Sums, total}
use Rattle.algebra.specs.Rings.{Edge, edges, steps, last_of}
use Rattle.algebra.proofs.Sums.{idr, total_swap}
use Rattle.algebra.proofs.Rings.{steps-last}
use Rattle.rules.specs.Plane.{Pt, point}
use Rattle.rules.specs.Border.{Position}
use Rattle.grid.specs.declared.point.Point.{Point}
use Rattle.grid.specs.declared.vector.Vector.{Vector}
use Rattle.grid.specs.Points.{pt_of}
use Rattle.point_in_poly2d.specs.Ways.{Way}

last_is : (a : Pt) (l : List Pt) → last_of a l ≡ point (a ∷ l) (length l)
last_is a [] = refl
last_is a (b ∷ l) = last_is b l

pub way_to : (p e : Point) (d : Vector) {q : Pt} → pt_of e ≡ q → d.x ≡ sub binary32 e.x p.x → d.y ≡ sub binary32 e.y p.y → Way p q d
way_to p e d end_is x_is y_is = record { end = e; end_is = end_is; x_is = x_is; y_is = y_is }

-- where there is an edge, the rule is what all of them say
pub rule_is :
    {S : Type 0} (sums : Sums S) (shown : Pt → Edge Pt → S) (rule : Pt → List Pt → Position) (told : S → Position)
    → ((p a : Pt) (l : List Pt) → rule p (a ∷ l) ≡ told (total sums (shown p) (edges (a ∷ l)))) → (p : Pt) (ps : List Pt) → 0 < length ps
    → told (total sums (shown p) (edges ps)) ≡ rule p ps
rule_is sums shown rule told all p [] h = absurd (omega arith)
rule_is sums shown rule told all p (a ∷ l) h = sym (all p a l)

module _ {S : Type 0} (sums : Sums S) (shown : Pt → Edge Pt → S) (p : Point) (ps : List Pt) where
  abbrev shown_by : List (Edge Pt) → S
  shown_by es = total sums (shown (pt_of p)) es

  -- d is the way from the spot to the point `at`, at which the loop stands; the points from number i on are left
  pub record Walking (seen : S) (d : Vector) (i : ℕ) : Type 0 where
    pub at : Pt
    pub way : Way p at d
    pub known : sums.◌⊕◌ seen (total sums (shown (pt_of p)) (steps at (drop i ps))) ≡ total sums (shown (pt_of p)) (edges ps)

  pub walking_first : (k : ℕ) → suc k ≡ length ps → {d : Vector} → Way p (point ps k) d → {seen : S} → seen ≡ sums.nil → Walking seen d 0
  walking_first k h way is = record { at = point ps k; way = way; known = rw (is, sums.idl) (from_last ps k h) }
    where
      from_last : (ps : List Pt) (k : ℕ) → suc k ≡ length ps → shown_by (steps (point ps k) ps) ≡ shown_by (edges ps)
      from_last [] k h = absurd (omega arith)
      from_last (a ∷ l) k h =
          let n : length l ≡ k = omega arith in
          let last : last_of a l ≡ point (a ∷ l) k = last_is a l ∙ ap (point (a ∷ l)) n in
          ap (λ (z : Pt). shown_by (steps z (a ∷ l))) (sym last)
          ∙ total_swap sums (shown (pt_of p)) (record { from = last_of a l; to = a } ∷ []) (steps a l)
          ∙ ap shown_by (sym (steps-last a l a))

  module _ {seen : S} {d : Vector} {i : ℕ} (w : Walking seen d i) where
    -- the edge to point number i is looked at
    pub walking_more : i < length ps → {e : Vector} → Way p (point ps i) e → {r : S} → r ≡ sums.◌⊕◌ seen (shown (pt_of p) (record { from = w.at; to = point ps i })) → Walking r e (i + 1)
    walking_more h way {r} is = record { at = point ps i; way = way; known = rw (is, sums.assoc) (ap (sums.◌⊕◌ seen) (ap shown_by (sym here)) ∙ w.known) }
      where
        here : steps w.at (drop i ps) ≡ record { from = w.at; to = point ps i } ∷ steps (point ps i) (drop (i + 1) ps)
        here = rw (add-one i, drop-cons ps i (record { x = pos 0; y = pos 0 }) h) refl

    -- all edges are looked at
    pub walking_end : length ps ≤ i → seen ≡ shown_by (edges ps)
    walking_end h = sym (idr sums seen) ∙ ap (λ es. sums.◌⊕◌ seen (shown_by es)) (sym none) ∙ w.known
      where
        none : steps w.at (drop i ps) ≡ []
        none = rw (drop_of_length-le ps h) refl
