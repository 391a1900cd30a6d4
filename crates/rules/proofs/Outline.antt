-- Demand 3 for whole outlines: what the triangles of a cut keep of the outline.
use Prim.Native.Nat.{ℕ, zero, suc, ◌+◌, ◌-◌, ◌≤◌, ◌<◌}
use mathlib.Core.Path.{◌≡◌, sym, ◌∙◌, ap}
use mathlib.Core.List.{List, ◌∷◌, map}
use native.Mathlib.Omega.{arith}
use lib.IntN.{pos}
use lib.ListN.{length, drop, drop_of_length-le}
use lib.Seq.{drop-cons}
use Rattle.algebra.specs.Lists.{Each, count_from}
use Rattle.algebra.proofs.Counting.{count_below, count-distinct, count-length}
use Rattle.algebra.specs.Sums.{Sums, total, integers}
use Rattle.rules.specs.Plane.{Pt, point}
use Rattle.algebra.specs.Rings.{Corner, ring_of, around}
use Rattle.rules.specs.Crossing.{odd, odd_crossings}
use Rattle.rules.specs.Measure.{points, area2, Apart}
use Rattle.rules.specs.Cut.{done, cut_ring, cut}
use Rattle.rules.proofs.Cuts.{cuts, cuts_each, cuts_length, triangulation}
use Rattle.rules.proofs.Neighbours.{Met, met_apart}
use Rattle.rules.proofs.Measures.{Measure, measure, measures, cut_keeps, crossing_parity, doubled_area}

-- ---- the ring at first: 0 to n - 1

count-points : (ps : List Pt) (i n : ℕ) → i + n ≡ length ps → points ps (count_from i n) ≡ drop i ps
count-points ps i zero e = let h : length ps ≤ i = omega arith in sym (drop_of_length-le ps h)
count-points ps i (suc n) e =
    let h : i < length ps = omega arith in
    let k : suc i + n ≡ length ps = omega arith in
    rw (drop-cons ps i (record { x = pos 0; y = pos 0 }) h) (ap (λ (l : List Pt). point ps i ∷ l) (count-points ps (suc i) n k))

pub all-points : (ps : List Pt) → points ps (count_from 0 (length ps)) ≡ ps
all-points ps = let h : 0 + length ps ≡ length ps = omega arith in count-points ps 0 (length ps) h

-- ---- the theorems

module _ (ps : List Pt) (ts : List (Corner ℕ)) (three : 3 ≤ length ps) (cuts-to : cut ps ≡ done ts) where
  ring-length : length (count_from 0 (length ps)) ≡ (length ps - 3) + 3
  ring-length = rw (count-length 0 (length ps)) (omega arith)

  ring_cut : cut_ring (length ps - 3) ps (count_from 0 (length ps)) ≡ done ts
  unfolding cut
  ring_cut = cuts-to

  -- every sum along edges that cancels with the reverse edge's is the sum of the triangles'
  pub cut_sum : {G : Type 0} (S : Sums G) (w : ℕ → ℕ → G) → ((a b : ℕ) → S.◌⊕◌ (w a b) (w b a) ≡ S.nil) → around S w (count_from 0 (length ps)) ≡ total S (around S w) (map ring_of ts)
  cut_sum = (triangulation (length ps - 3) ps (count_from 0 (length ps)) ts ring-length (count-distinct 0 (length ps)) ring_cut).sum

  pub cut-count : length ts ≡ length ps - 2
  cut-count = omega (arith, cuts_length (cuts (length ps - 3) ps (count_from 0 (length ps)) ts ring_cut))

  pub cut-indices : Each (λ t. Each (λ i. i < length ps) (ring_of t)) ts
  cut-indices = cuts_each (cuts (length ps - 3) ps (count_from 0 (length ps)) ts ring_cut) (count_below (length ps))

  -- ---- every measure of the outline is the sum of the triangles'

  pub cut_measure : {G : Type 0} (M : Measure G) → measure M ps ≡ measures M ps (map ring_of ts)
  cut_measure M = ap (measure M) (sym (all-points ps)) ∙ cut_keeps M ps (length ps - 3) (count_from 0 (length ps)) ts ring-length (count-distinct 0 (length ps)) ring_cut

  -- the outline's crossing parity is that of the triangles'
  pub cut_inside : (p : Pt) → odd_crossings p ps ≡ odd (λ t. odd_crossings p (points ps t)) (map ring_of ts)
  unfolding odd_crossings
  cut_inside p = cut_measure (crossing_parity p)

  pub cut_area : area2 ps ≡ total integers (λ t. area2 (points ps t)) (map ring_of ts)
  unfolding area2
  cut_area = cut_measure doubled_area

-- no two neighbours of a ring that is met are equal points, if no two of the outline are
pub cut_neighbours : (ps : List Pt) (r : List ℕ) → Apart ps (count_from 0 (length ps)) → Met ps (count_from 0 (length ps)) r → Apart ps r
cut_neighbours ps r = met_apart ps (count-distinct 0 (length ps))
