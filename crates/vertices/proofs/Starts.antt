-- How the first vertices come about: the ring, the ears, the tree.
use Prim.Native.Nat.{ℕ, zero, suc, ◌+◌, ◌-◌, ◌<◌, ◌≤◌}
use native.Mathlib.Omega.{arith}
use native.Mathlib.Decide.{ℕ_discrete}
use mathlib.Core.Path.{◌≡◌, refl, ap, sym, ◌∙◌, subst}
use mathlib.Core.Logic.{◌⊎◌, inl, inr}
use mathlib.Core.Bool.{Bool, true, false, cond}
use mathlib.Core.List.{List}
use borrow.Author.Tests.{ltb-true, ltb-false, lt-ltb, le-ltb, eq-eqb, ne_eqb}
use lib.Dec.{ltb}
use lib.Ieee.{Float}
use lib.ListN.{length, set, length-set}
use lib.Seq.{get_or-set_same, get_or-set_other}
use Rattle.std.specs.Prelude.{Option, None}
use Rattle.algebra.specs.Lists.{count_from}
use Rattle.algebra.specs.Rings.{Corner}
use Rattle.algebra.proofs.Equal.{impossible}
use Rattle.rules.specs.Plane.{Pt}
use Rattle.rules.specs.Cut.{nothing}
use Rattle.winners.specs.Keys.{Proper, no as no_ear, Fair, ear_entry, node, with_node, decode, winner_in, Power, Leaves, Tree, LeafSame}
use Rattle.winners.specs.declared.Entry.{Entry}
use Rattle.winners.specs.declared.Winners.{Winners}
use Rattle.winners.proofs.Nodes.{proper_fair, set_same, set_other}
use Rattle.winners.proofs.Roots.{decode-lowest}
use Rattle.winners.proofs.Sizes.{power_small}
use Rattle.vertices.specs.Ears.{ear_of}
use Rattle.grid.specs.Listed.{listed}
use Rattle.blocking.specs.declared.outline.Outline.{Outline}
use Rattle.vertices.specs.declared.Vertex.{Vertex}
use Rattle.vertices.specs.declared.Vertices.{Vertices}
use Rattle.vertices.specs.Vertices.{points_in, count_in, vertex, prev_of, next_of, active_of, those, linked_corner, corner_at, Follows, Way, Links, ring_in, Ringed, Eared, Stands, AtCorner, before_first, after_first, first_vertex, Begun, first_ear, Updated}
use Rattle.vertices.proofs.Corners.{proper, at_corner_lem}

lt_or_le : (j n : ℕ) → (j < n) ⊎ (n ≤ j)
lt_or_le j n = go (ltb j n) refl
  where
    go : (t : Bool) → ltb j n ≡ t → (j < n) ⊎ (n ≤ j)
    go true e = inl (ltb-true j n e)
    go false e = inr (ltb-false j n e)

-- ---- the ring

pub none_begun : (ps : List Pt) (r : List Vertex) → length r ≡ 512 → Begun ps 0 r
none_begun ps r h = record { long = h; each = λ j l. absurd (omega arith) }

-- one more
pub begun_more : (ps : List Pt) (k : ℕ) (r : List Vertex) → k < 512 → Begun ps k r → Begun ps (k + 1) (set r k (first_vertex ps k))
begun_more ps k r small h = record { long = length-set r k _ ∙ h.long; each = λ j l. go j l (ℕ_discrete j k) }
  where
    go : (j : ℕ) → j < k + 1 → Dec (j ≡ k) → vertex (set r k (first_vertex ps k)) j ≡ first_vertex ps j
    go j l (yes q) = rw q (get_or-set_same r k (first_vertex ps k) _ (omega (arith, h.long)))
    go j l (no q) = get_or-set_other r k j (first_vertex ps k) _ q ∙ h.each j (omega arith)

-- the corners before and after
before_zero : (n : ℕ) → before_first n 0 ≡ n - 1
before_zero n = refl

before_suc : (n j : ℕ) → before_first n (suc j) ≡ j
before_suc n j = rw (ne_eqb (suc j) 0 (λ e. omega arith)) (omega arith)

after_suc : (n j : ℕ) → suc j < n → after_first n j ≡ suc j
after_suc n j l = rw (ne_eqb (j + 1) n (λ e. omega arith)) (omega arith)

after_last : (n j : ℕ) → j + 1 ≡ n → after_first n j ≡ 0
after_last n j e = rw (eq-eqb (j + 1) n e)

pub before_low : (n j : ℕ) → j < n → before_first n j < n
before_low n zero l = rw before_zero (omega arith)
before_low n (suc j) l = rw (before_suc n j) (omega arith)

pub after_low : (n j : ℕ) → j < n → after_first n j < n
after_low n j l = go (ℕ_discrete (j + 1) n)
  where
    go : Dec (j + 1 ≡ n) → after_first n j < n
    go (yes e) = rw (after_last n j e) (omega arith)
    go (no e) = rw (after_suc n j (omega arith)) (omega arith)

those-all : (o : ℕ → Bool) (k m : ℕ) → ((j : ℕ) → j < k + m → o j ≡ true) → those o k m ≡ count_from k m
unfolding those
those-all o k zero h = refl
those-all o k (suc m) h = rw (h k (omega arith), those-all o (suc k) m (λ j l. h j (omega arith)))

module _ (ps : List Pt) (r : List Vertex) (h : Begun ps (length ps) r) (big : 3 ≤ length ps) (small : length ps ≤ 512) where
  abbrev n : ℕ
  n = length ps

  prevs : (j : ℕ) → j < n → prev_of r j ≡ before_first n j
  prevs j l = ap (λ (v : Vertex). v.prev) (h.each j l)

  nexts : (j : ℕ) → j < n → next_of r j ≡ after_first n j
  nexts j l = ap (λ (v : Vertex). v.next) (h.each j l)

  actives : (j : ℕ) → j < n → active_of r j ≡ true
  actives j l = ap (λ (v : Vertex). v.active) (h.each j l)

  edge : (j : ℕ) → suc j < n → Follows (prev_of r) (next_of r) j (suc j)
  edge j l = (nexts j (omega arith) ∙ after_suc n j l, prevs (suc j) l ∙ before_suc n j)

  close : (j : ℕ) → j + 1 ≡ n → Follows (prev_of r) (next_of r) j 0
  close j e = (nexts j (omega arith) ∙ after_last n j e, prevs 0 (omega arith) ∙ (omega arith))

  up : (k m : ℕ) → k + suc m ≡ n → Way (prev_of r) (next_of r) 0 k (count_from (suc k) m)
  up k zero e = close k (omega arith)
  up k (suc m) e = (edge k (omega arith), up (suc k) m (omega arith))

  links-all : (m : ℕ) → suc m ≡ n → Links (prev_of r) (next_of r) (count_from 0 (suc m))
  links-all m e = up 0 m (omega arith)

  pub ring : ring_in n r ≡ count_from 0 n
  ring = those-all (active_of r) 0 n (λ j l. actives j (omega arith))

  ways : Links (prev_of r) (next_of r) (count_from 0 n)
  ways = let e : suc (n - 1) ≡ n = omega arith in subst (λ (x : ℕ). Links (prev_of r) (next_of r) (count_from 0 x)) e (links-all (n - 1) e)

  pub first-ringed : Ringed ps n r
  first-ringed = record {
    long = h.long;
    links = rw ring ways;
    within = λ j l. (rw (prevs j l) (before_low n j l), rw (nexts j l) (after_low n j l));
    lengths = λ j l e. ap (λ (v : Vertex). v.reciprocal) (h.each j l) ∙ rw (nexts j l);
  }

  pub first-corner : (j : ℕ) → j < n → AtCorner ps r j
  first-corner j l = at_corner_lem ps n r first-ringed j l (actives j l) small refl

  pub corner_is : (j : ℕ) → j < n → corner_at r j ≡ linked_corner (before_first n) (after_first n) j
  corner_is j l = λ i. record { before = prevs j l i; at = j; after = nexts j l i }

-- ---- the ears

-- by the test of a corner's number
there : (ps : List Pt) (j : ℕ) → j < length ps → first_ear ps j ≡ ear_of ps (linked_corner (before_first (length ps)) (after_first (length ps)) j)
there ps j l = rw (lt-ltb j (length ps) l)

not_there : (ps : List Pt) (j : ℕ) → length ps ≤ j → first_ear ps j ≡ None
not_there ps j l = rw (le-ltb j (length ps) l)

-- no ear is worked out yet
pub none_updated : (ps : List Pt) (w : Winners) → length w.nodes ≡ 1024 → Updated ps 0 w
none_updated ps w h = record { long = h; ears = λ j k. absurd (omega arith) }

-- one more ear
pub updated_more :
    (ps : List Pt) (k : ℕ) (w : Winners) (e : Option Float) → k < w.leaves → w.leaves ≤ 512 → e ≡ first_ear ps k → Updated ps k w → Updated ps (k + 1) (with_node w (w.leaves + k) (ear_entry k e))
updated_more ps k w e low small is h = record {
  long = length-set w.nodes (w.leaves + k) _ ∙ h.long;
  ears = λ j l. ears j l (ℕ_discrete j k);
}
  where
    ears : (j : ℕ) → j < k + 1 → Dec (j ≡ k) → node (with_node w (w.leaves + k) (ear_entry k e)) (w.leaves + j) ≡ ear_entry j (first_ear ps j)
    ears j l (yes q) =
        ap (λ (i : ℕ). node (with_node w (w.leaves + k) (ear_entry k e)) (w.leaves + i)) q
        ∙ set_same w (w.leaves + k) (ear_entry k e) (omega (arith, h.long))
        ∙ ap (ear_entry k) is ∙ ap (λ (i : ℕ). ear_entry i (first_ear ps i)) (sym q)
    ears j l (no q) = set_other w (w.leaves + k) (ear_entry k e) (w.leaves + j) (λ x. q (omega arith)) ∙ h.ears j (omega arith)

module _ (ps : List Pt) (proper : (c : Corner ℕ) → Proper (ear_of ps c)) where
  first-proper : (j : ℕ) → (j < length ps) ⊎ (length ps ≤ j) → Proper (first_ear ps j)
  first-proper j (inl l) = rw (there ps j l) (proper (linked_corner (before_first (length ps)) (after_first (length ps)) j))
  first-proper j (inr l) = rw (not_there ps j l) no_ear

  -- the leaves that the tree is built on
  pub updated_leaves : (w : Winners) → 1 ≤ w.leaves → w.leaves ≤ 512 → Updated ps w.leaves w → Leaves w
  updated_leaves w least small h = record { long = h.long; least = least; small = small; numbers = λ k l i. number k l i }
    where
      at : (j : ℕ) → j < w.leaves → Fair (node w (w.leaves + j)).key
      at j l = subst Fair (sym (ap (λ (e : Entry). e.key) (h.ears j l))) (proper_fair (first-proper j (lt_or_le j (length ps))))

      number : (k : ℕ) → w.leaves ≤ k → k < w.leaves + w.leaves → Fair (node w k).key
      number k l i = let e : k ≡ w.leaves + (k - w.leaves) = omega arith in rw e (at (k - w.leaves) (omega arith))

module _ (ps : List Pt) (r : List Vertex) (h : Begun ps (length ps) r) (big : 3 ≤ length ps) (small : length ps ≤ 512)
    (w w' : Winners) (power : Power w.leaves) (room : length ps ≤ w.leaves) (e : Updated ps w.leaves w) (t : Tree w') (same : LeafSame w w') where
  beyond : (j : ℕ) → j < w.leaves → length ps ≤ j → winner_in w' (w.leaves + j) ≡ nothing
  beyond j l i = ap decode (same.same (w.leaves + j) (omega arith) ∙ e.ears j l ∙ ap (ear_entry j) (not_there ps j i)) ∙ decode-lowest j

  nobody : (j : ℕ) → j < w.leaves → (length ps ≤ j) ⊎ (active_of r j ≡ false) → winner_in w' (w.leaves + j) ≡ nothing
  nobody j l (inl i) = beyond j l i
  nobody j l (inr i) = off (lt_or_le j (length ps))
    where
      off : (j < length ps) ⊎ (length ps ≤ j) → winner_in w' (w.leaves + j) ≡ nothing
      off (inl k) = impossible (cc (actives ps r h big small j k))
      off (inr k) = beyond j l k

  ears : (j : ℕ) → j < length ps → active_of r j ≡ true → node w' (w.leaves + j) ≡ ear_entry j (ear_of ps (corner_at r j))
  ears j l i =
      same.same (w.leaves + j) (omega arith) ∙ e.ears j (omega arith) ∙ ap (ear_entry j) (there ps j l)
      ∙ ap (λ (c : Corner ℕ). ear_entry j (ear_of ps c)) (sym (corner_is ps r h big small j l))

  pub first-eared : Eared ps (length ps) r w'
  first-eared = record { power = rw same.leaves power; room = rw same.leaves room; tree = t; ears = rw same.leaves ears; nobody = rw same.leaves nobody }

-- ---- the loop over the leaves

pub record Starting (o : Outline) (m i : ℕ) (s : Vertices) : Type 0 where
  pub outline : s.outline.now ≡ o
  pub begun : Begun (listed o.points.now) (length (listed o.points.now)) s.ring
  pub updated : Updated (listed o.points.now) i s.winners
  pub leaves : s.winners.leaves ≡ m
  pub power : Power m
  pub room : length (listed o.points.now) ≤ m

module _ (o : Outline) (m i : ℕ) (s : Vertices) (h : Starting o m i s) (big : 3 ≤ length (listed o.points.now)) where
  abbrev ps : List Pt
  ps = listed o.points.now

  same_points : points_in s ≡ ps
  same_points = ap (λ (x : Outline). listed x.points.now) h.outline

  small : length ps ≤ 512
  small = o.outlined.small

  leaves_small : m ≤ 512
  leaves_small = power_small m h.power

  pub starting_corner : i < count_in s → AtCorner (points_in s) s.ring i
  starting_corner l = rw same_points (first-corner ps s.ring h.begun big small i (rw same_points at l))

  pub leaf_there : i < m → (i < s.winners.leaves) × (s.winners.leaves ≤ 512)
  leaf_there l = rw h.leaves (l, leaves_small)

  first_is : cond (ltb i (length ps)) (ear_of ps (corner_at s.ring i)) None ≡ first_ear ps i
  first_is = go (lt_or_le i (length ps))
    where
      go : (i < length ps) ⊎ (length ps ≤ i) → cond (ltb i (length ps)) (ear_of ps (corner_at s.ring i)) None ≡ first_ear ps i
      go (inl l) = ap (λ (c : Corner ℕ). cond (ltb i (length ps)) (ear_of ps c) None) (corner_is ps s.ring h.begun big small i l)
      go (inr l) = rw (le-ltb i (length ps) l)

  pub starting_more :
      i < m → (e : Option Float) → e ≡ cond (ltb i (count_in s)) (ear_of (points_in s) (corner_at s.ring i)) None → (w : Winners) → w ≡ with_node s.winners (s.winners.leaves + i) (ear_entry i e)
      → Starting o m (i + 1) (record { outline = s.outline; ring = s.ring; winners = w })
  starting_more l e is w q =
      rw q
      (record {
        outline = h.outline;
        begun = h.begun;
        updated = updated_more ps i s.winners e (leaf_there l).0 (leaf_there l).1 (is ∙ rw same_points first_is) h.updated;
        leaves = h.leaves;
        power = h.power;
        room = h.room;
      })

  module _ (all : i ≡ m) where
    updated_all : Updated ps s.winners.leaves s.winners
    updated_all = subst (λ (x : ℕ). Updated ps x s.winners) (all ∙ sym h.leaves) h.updated

    pub starting_leaves : Leaves s.winners
    starting_leaves =
        updated_leaves ps (proper o.points.now.coords.now o.points.now.on_grid) s.winners (omega (arith, h.room, h.leaves)) (omega (arith, h.leaves, leaves_small)) updated_all

    pub started :
        (w : Winners) → Tree w → LeafSame s.winners w
        → Stands (record { outline = s.outline; ring = s.ring; winners = w }) × (ring_in (length ps) s.ring ≡ count_from 0 (length ps))
    started w t same =
        let power : Power s.winners.leaves = rw h.leaves h.power in
        let room : length ps ≤ s.winners.leaves = rw h.leaves h.room in
        let ringed : Ringed (points_in s) (count_in s) s.ring = rw same_points (first-ringed ps s.ring h.begun big small) in
        let eared : Eared (points_in s) (count_in s) s.ring w = rw same_points (first-eared ps s.ring h.begun big small s.winners w power room updated_all t same) in
        (record { ringed = ringed; eared = eared }, ring ps s.ring h.begun big small)
