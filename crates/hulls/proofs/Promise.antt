-- Request M-104's promise, of every cloud that is not on one line.
use Prim.Native.Nat.{ℕ, zero, suc, ◌+◌, ◌≤◌, ◌<◌}
use mathlib.Core.Path.{◌≡◌, sym, ◌∙◌, ap, subst}
use mathlib.Core.Logic.{◌≢◌}
use mathlib.Core.Bool.{false}
use mathlib.Core.List.{List, [], ◌∷◌, ◌++◌, map}
use native.Mathlib.Omega.{arith}
use native.Mathlib.Nat.{add-zero, add-suc}
use lib.ListN.{length, length-map}
use Rattle.algebra.specs.Lists.{Each, end, ◌&◌}
use Rattle.algebra.specs.Rings.{Edge, steps, edges, bends, last_of}
use Rattle.algebra.proofs.Lists.{each_imp, each_both, each_map, each_back, each_head, each_++}
use Rattle.algebra.proofs.Rings.{steps-last}
use Rattle.algebra.proofs.Occurrences.{times, times-distinct}
use Rattle.rules.specs.Plane.{Pt, turns_right}
use Rattle.rules.specs.Measure.{NotRight, NoneRight}
use Rattle.rules.specs.Hull.{hull, leftward, rightward, support}
use Rattle.rules.specs.Refusals.{on_one_line}
use Rattle.hulls.specs.Rounds.{Facet, from_of, first_ring, last_ring, rounds}
use Rattle.hulls.specs.Cover.{AllLeft, Promised}
use Rattle.hulls.proofs.Rounds.{Good, not_listed, none_left, held, Ring, ring-rounds, ring_kept, ring_more, rounds_enough}
use Rattle.hulls.specs.Rounds.{Way, stay, along}
use Rattle.hulls.proofs.Straight.{some_point}
use Rattle.hulls.proofs.Ends.{first_ring_lem, first_once, held_none}
use Rattle.hulls.proofs.Room.{last-room, last-three}
use Rattle.hulls.proofs.Same.{hull_is}

-- ---- from the last ring to the promise

module _ (ps : List Pt) where
  abbrev edge_of : Facet → Edge ℕ
  edge_of f = record { from = f.from; to = f.to }

  -- no given point sees a facet of the last ring
  unseen-last : (f : Facet) → Good ps 0 f → AllLeft ps (edge_of f)
  unseen-last f g i l = not_listed ps g i l (ap (times i) (none_left ps g))

  -- the edges of the ring's corners are its facets
  steps-way :
      {Q : Edge ℕ → Type 0} (f : Facet) {l : List Facet} {c : ℕ} → Q (edge_of f) → Each (λ g. Q (edge_of g)) l → Way f.to l c
      → Each Q (steps f.from (map from_of l ++ c ∷ []))
  steps-way {Q} f q end (stay e) = subst (λ (z : ℕ). Q (record { from = f.from; to = z })) e q & end
  steps-way {Q} f q (◌&◌ {a = g} r h) (along e w) = subst (λ (z : ℕ). Q (record { from = f.from; to = z })) (sym e) q & steps-way g r h w

  edges-way : {Q : Edge ℕ → Type 0} {l : List Facet} {c : ℕ} → Each (λ g. Q (edge_of g)) l → Way c l c → Each Q (edges (map from_of l))
  edges-way end w = end
  edges-way {c} (◌&◌ {a = f} {l = l} q h) (along e w) = steps-way f q h (subst (λ (z : ℕ). Way f.to l z) (sym e) w)

  -- where every point is on or left of every edge, no corner turns right: the next corner is a point
  bends-left : (a b : ℕ) (l : List ℕ) → AllLeft ps (record { from = a; to = b }) → Each (AllLeft ps) (steps b l) → Each (λ i. i < length ps) l → Each (NotRight ps) (bends a b l)
  bends-left a b [] h hs ls = end
  bends-left a b (c ∷ l) h (k & hs) (i & ls) = h c i & bends-left b c l k hs ls

  corners-left : (h : List ℕ) → Each (AllLeft ps) (edges h) → Each (λ i. i < length ps) h → NoneRight ps h
  corners-left [] es is = end
  corners-left (a ∷ l) es (i & is) =
      let last = each_head (each_back (steps a l) (record { from = last_of a l; to = a } ∷ []) (rw (steps-last a l a) at es)) in
      bends-left (last_of a l) a (l ++ a ∷ []) last es (each_++ is (i & end))

  times-held : (i : ℕ) (l : List Facet) → times i (map from_of l) ≤ held i l
  times-held i [] = omega arith
  times-held i (f ∷ l) = omega (arith, times-held i l)

  promised : {c : ℕ → ℕ} (l : List Facet) → Ring ps c 0 l → ((i : ℕ) → c i ≤ 1) → Promised ps (map from_of l)
  promised l r o =
      let es : Each (AllLeft ps) (edges (map from_of l)) = edges-way (each_imp unseen-last r.good) r.way in
      let is : Each (λ i. i < length ps) (map from_of l) = each_map from_of (each_imp (λ f g. g.from_in) r.good) in
      record {
        distinct = times-distinct (map from_of l) (λ i. omega (arith, times-held i l, r.holds i, o i));
        in_range = is;
        none_right = corners-left (map from_of l) es is;
        all_left = es;
      }

  -- ---- the hull

  pub hull_promised : on_one_line ps ≡ false → Promised ps (hull ps)
  unfolding last_ring
  hull_promised off =
      let r = ring-rounds ps (length ps) (first_ring ps) (first_ring_lem ps (some_point ps off)) in
      subst (Promised ps) (sym (hull_is ps off)) (promised (last_ring ps) r (first_once ps off))

  -- at most one corner for each point, and at least three
  pub hull-room : on_one_line ps ≡ false → length (hull ps) ≤ length ps
  hull-room off = rw (hull_is ps off, length-map (last_ring ps) from_of) (last-room ps off)

  pub hull-three : on_one_line ps ≡ false → 3 ≤ length (hull ps)
  hull-three off = rw (hull_is ps off, length-map (last_ring ps) from_of) (last-three ps off)

  -- ---- what the rounds leave out

  seen_none : (i : ℕ) (l : List Facet) → held i l ≡ 0 → Each (λ f. times i f.seen ≡ 0) l
  seen_none i [] e = end
  seen_none i (f ∷ l) e = let h : times i f.seen ≡ 0 = omega arith in h & seen_none i l (omega arith)

  module _ (s : 0 < length ps) where
    abbrev a : ℕ
    a = support ps rightward

    abbrev b : ℕ
    b = support ps leftward

    -- the points that the crate keeps beside, on the line through both ends, see no facet of any round
    pub undecided :
        (i : ℕ) → i < length ps → i ≢ a → i ≢ b → turns_right ps a b i ≡ false → turns_right ps b a i ≡ false
        → (k : ℕ) → Each (λ f. turns_right ps f.from f.to i ≡ false) (rounds k ps (first_ring ps))
    undecided i l d e h g k =
        let r = ring_kept ps k (first_ring ps) (first_ring_lem ps s) in
        let z : held i (rounds k ps (first_ring ps)) ≡ 0 = omega (arith, r.holds i, held_none ps i d e h g) in
        each_imp (λ f p. not_listed ps p.0 i l p.1) (each_both r.good (seen_none i (rounds k ps (first_ring ps)) z))

    -- more rounds than points change nothing
    first_more : (k : ℕ) → Ring ps (λ i. held i (first_ring ps)) (length ps + k) (first_ring ps)
    first_more zero = rw (add-zero (length ps)) (first_ring_lem ps s)
    first_more (suc k) = rw (add-suc (length ps) k) (ring_more ps (first_more k))

    pub enough : (k : ℕ) → rounds (length ps + k) ps (first_ring ps) ≡ rounds (length ps) ps (first_ring ps)
    enough zero = rw (add-zero (length ps))
    enough (suc k) = rw (add-suc (length ps) k) (rounds_enough ps (length ps + k) (first_ring ps) (first_more k) ∙ enough k)
