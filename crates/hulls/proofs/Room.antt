-- How much a ring of facets takes: in every round its corners and lists together at most one place for each point, and the last ring
-- at least three corners.
use Prim.Native.Nat.{ℕ, zero, suc, ◌≤◌, ◌<◌}
use mathlib.Core.Path.{◌≡◌, refl}
use mathlib.Core.Bool.{false, ◌&&◌}
use mathlib.Core.List.{List, [], ◌∷◌, ◌++◌}
use native.Mathlib.Omega.{arith}
use native.Mathlib.Nat.{le_trans}
use lib.ListN.{length, length-append}
use Rattle.algebra.specs.Lists.{Each, end, ◌&◌}
use Rattle.algebra.proofs.Lists.{each_imp, each_++}
use Rattle.algebra.proofs.Rings.{rotated_length}
use Rattle.algebra.proofs.Equal.{impossible}
use Rattle.algebra.proofs.Occurrences.{at_most, times, times_++}
use Rattle.rules.specs.Plane.{Pt}
use Rattle.rules.specs.Hull.{leftward, rightward, support}
use Rattle.rules.specs.Refusals.{on_one_line}
use Rattle.hulls.specs.Rounds.{Facet, back, begun, first_ring, last_ring, round, rounds, split_by, there, unseen}
use Rattle.hulls.proofs.Rounds.{Good, held, Ring, begun_rotated, ring_kept}
use Rattle.hulls.proofs.Straight.{some_point}
use Rattle.hulls.proofs.Ends.{first_ring_lem, first_once, first-seen}

-- ---- at most one place for each point

-- the corners and lists of a ring, one behind the other
abbrev pub flat : List Facet → List ℕ
flat [] = []
flat (f ∷ l) = f.from ∷ (f.seen ++ flat l)

pub flat-held : (i : ℕ) (l : List Facet) → times i (flat l) ≡ held i l
flat-held i [] = refl
flat-held i (f ∷ l) = omega (arith, times_++ i f.seen (flat l), flat-held i l)

module _ (ps : List Pt) where
  pub flat_below : {k : ℕ} {l : List Facet} → Each (Good ps k) l → Each (λ i. i < length ps) (flat l)
  flat_below end = end
  flat_below (◌&◌ {a = f} {l = l} g h) = g.from_in & each_++ (each_imp (λ i p. p.0) g.sure) (flat_below h)

  pub ring_fits : {c : ℕ → ℕ} → ((i : ℕ) → c i ≤ 1) → {k : ℕ} (ring : List Facet) → Ring ps c k ring → length (flat ring) ≤ length ps
  ring_fits o ring r = at_most (length ps) (flat ring) (λ i. omega (arith, flat-held i ring, r.holds i, o i)) (flat_below r.good)

  -- in every round
  pub store : on_one_line ps ≡ false → (k : ℕ) → length (flat (rounds k ps (first_ring ps))) ≤ length ps
  store off k = ring_fits (first_once ps off) (rounds k ps (first_ring ps)) (ring_kept ps k (first_ring ps) (first_ring_lem ps (some_point ps off)))

  -- so there are at most as many corners
  flat-length : (l : List Facet) → length l ≤ length (flat l)
  flat-length [] = omega arith
  flat-length (f ∷ l) = omega (arith, length-append f.seen (flat l), flat-length l)

  pub last-room : on_one_line ps ≡ false → length (last_ring ps) ≤ length ps
  unfolding last_ring
  last-room off = omega (arith, store off (length ps), flat-length (rounds (length ps) ps (first_ring ps)))

  -- ---- at least three corners

  split-length : (f : Facet) (l : List ℕ) → 1 ≤ length (split_by ps f l)
  split-length f [] = omega arith
  split-length f (i ∷ l) = omega arith

  round_length : (l : List Facet) → length l ≤ length (round ps l)
  unfolding round
  round_length [] = omega arith
  round_length (f ∷ l) = omega (arith, length-append (split_by ps f f.seen) (round ps l), split-length f f.seen, round_length l)

  rounds-length : (k : ℕ) (l : List Facet) → length l ≤ length (rounds k ps l)
  unfolding rounds
  rounds-length zero l = omega (arith, rotated_length (begun_rotated [] l))
  rounds-length (suc k) l = omega (arith, rotated_length (begun_rotated [] l), round_length (begun [] l), rounds-length k (round ps (begun [] l)))

  -- a first facet that is seen is split
  abbrev two : ℕ → ℕ → List ℕ → List ℕ → List Facet
  two a b l m = record { from = a; to = b; seen = l } ∷ record { from = b; to = a; seen = m } ∷ []

  first_three : (a b : ℕ) (l m : List ℕ) → (unseen l && unseen m) ≡ false → 3 ≤ length (round ps (begun [] (two a b l m)))
  unfolding round begun
  first_three a b [] [] e = impossible (cc)
  first_three a b [] (j ∷ m) e = omega arith
  first_three a b (i ∷ l) [] e = omega arith
  first_three a b (i ∷ l) (j ∷ m) e = omega arith

  rounds-three : (n : ℕ) → 0 < n → (a b : ℕ) (l m : List ℕ) → (unseen l && unseen m) ≡ false → 3 ≤ length (rounds n ps (two a b l m))
  unfolding rounds
  rounds-three zero s a b l m t = absurd (omega arith)
  rounds-three (suc n) s a b l m t = le_trans (first_three a b l m t) (rounds-length n (round ps (begun [] (two a b l m))))

  pub last-three : on_one_line ps ≡ false → 3 ≤ length (last_ring ps)
  unfolding last_ring
  last-three off =
      let a = support ps rightward in
      let b = support ps leftward in
      rounds-three (length ps) (some_point ps off) a b (there ps a b) (back ps a b) (first-seen ps off)
