-- Measures of a ring of points: the sum over its edges of a weight that cancels with the reverse edge's. A cut and a merge keep every
-- measure. Two of them: the crossing parity at a point, and the doubled area.
use Prim.Native.Nat.{ℕ, ◌+◌}
use mathlib.Core.Path.{◌≡◌, refl, sym, ◌∙◌, ap}
use mathlib.Core.Bool.{Bool}
use mathlib.Core.List.{List, [], ◌∷◌, ◌++◌, map}
use lib.IntN.{ℤ}
use lib.ListN.{length}
use Rattle.algebra.specs.Lists.{Distinct}
use Rattle.algebra.specs.Sums.{Sums, total, integers, parities}
use Rattle.algebra.proofs.Sums.{total-map, total-same, xor_self}
use Rattle.rules.specs.Plane.{Pt, cross, point}
use Rattle.algebra.specs.Rings.{Edge, Corner, steps, edges, ring_of, around}
use Rattle.rules.specs.Crossing.{crossed, odd, odd_crossings}
use Rattle.rules.specs.Measure.{points, area2}
use Rattle.rules.specs.Cut.{done, cut_ring}
use Rattle.rules.specs.Merge.{JoinTest, merge}
use Rattle.rules.proofs.Turns.{crossed-back, cross-back}
use Rattle.rules.proofs.Cuts.{triangulation}
use Rattle.rules.proofs.Pieces.{merging}

pub record Measure (G : Type 0) : Type 0 where
  pub sums : Sums G
  pub weight : Pt → Pt → G
  pub back : (a b : Pt) → sums.◌⊕◌ (weight a b) (weight b a) ≡ sums.nil

abbrev pub measure : {G : Type 0} → Measure G → List Pt → G
measure M ring = around M.sums M.weight ring

abbrev pub crossing_parity : Pt → Measure Bool
crossing_parity p = record { sums = parities; weight = crossed p; back = λ a b. xor_self (crossed p a b) (crossed p b a) (crossed-back p a b) }

abbrev pub doubled_area : Measure ℤ
doubled_area = record { sums = integers; weight = cross; back = cross-back }

-- ---- the edges of a ring of corner numbers

abbrev pub edge_points : List Pt → Edge ℕ → Edge Pt
edge_points ps e = record { from = point ps e.from; to = point ps e.to }

module _ (ps : List Pt) where
  steps-points : (a : ℕ) (l : List ℕ) (b : ℕ) → steps (point ps a) (points ps l ++ point ps b ∷ []) ≡ map (edge_points ps) (steps a (l ++ b ∷ []))
  steps-points a [] b = refl
  steps-points a (x ∷ l) b = ap (λ (es : List (Edge Pt)). edge_points ps (record { from = a; to = x }) ∷ es) (steps-points x l b)

  pub edges-points : (ring : List ℕ) → edges (points ps ring) ≡ map (edge_points ps) (edges ring)
  edges-points [] = refl
  edges-points (a ∷ l) = steps-points a l a

module _ {G : Type 0} (M : Measure G) (ps : List Pt) where
  open M use {sums, weight, back}

  -- the same on corner numbers
  abbrev by_number : ℕ → ℕ → G
  by_number a b = weight (point ps a) (point ps b)

  measure_points : (ring : List ℕ) → measure M (points ps ring) ≡ around sums by_number ring
  measure_points ring = ap (total sums (λ e. weight e.from e.to)) (edges-points ps ring) ∙ total-map sums (λ e. weight e.from e.to) (edge_points ps) (edges ring)

  -- the total over pieces
  abbrev pub measures : List (List ℕ) → G
  measures pieces = total sums (λ t. measure M (points ps t)) pieces

  measures_points : (pieces : List (List ℕ)) → measures pieces ≡ total sums (around sums by_number) pieces
  measures_points = total-same sums (λ t. measure M (points ps t)) (around sums by_number) measure_points

  pub cut_keeps : (k : ℕ) (ring : List ℕ) (ts : List (Corner ℕ)) → length ring ≡ k + 3 → Distinct ring → cut_ring k ps ring ≡ done ts → measure M (points ps ring) ≡ measures (map ring_of ts)
  cut_keeps k ring ts n d e = measure_points ring ∙ (triangulation k ps ring ts n d e).sum sums by_number (λ a b. back (point ps a) (point ps b)) ∙ sym (measures_points (map ring_of ts))

  pub merge_keeps : (may : JoinTest) (pieces : List (List ℕ)) → measures (merge may pieces) ≡ measures pieces
  merge_keeps may pieces = measures_points (merge may pieces) ∙ (merging may pieces).sum sums by_number (λ a b. back (point ps a) (point ps b)) ∙ sym (measures_points pieces)

-- ---- any pieces and what they are merged into

module _ (ps : List Pt) (may : JoinTest) (pieces : List (List ℕ)) where
  pub pieces-inside : (p : Pt) → odd (λ t. odd_crossings p (points ps t)) (merge may pieces) ≡ odd (λ t. odd_crossings p (points ps t)) pieces
  unfolding odd_crossings
  pieces-inside p = merge_keeps (crossing_parity p) ps may pieces

  pub pieces_area : total integers (λ t. area2 (points ps t)) (merge may pieces) ≡ total integers (λ t. area2 (points ps t)) pieces
  unfolding area2
  pieces_area = merge_keeps doubled_area ps may pieces
