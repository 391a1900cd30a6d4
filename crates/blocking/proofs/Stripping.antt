-- Strips by floats, the masks as they are filled, and what a mask leaves out.
use Prim.Native.Nat.{ℕ, zero, suc, ◌+◌, ◌*◌, ◌-◌, ◌/◌, ◌%◌, ◌^◌, ◌≤◌, ◌<◌}
use native.Mathlib.Decide.{ℕ_discrete}
use native.Mathlib.Omega.{arith}
use mathlib.Core.Path.{◌≡◌, refl, sym, ap, ◌∙◌, subst}
use mathlib.Core.Bool.{true, false}
use mathlib.Core.List.{List}
use mathlib.Core.Logic.{◌⊎◌, inl, inr}
use lib.Bits.{bit_or}
use lib.Dec.{T, lit≤}
use lib.IntN.{ℤ, pos, negsuc, nat_abs, neg_ℤ, ◌-ℤ◌, +ℤ_idl}
use lib.Ieee.{Float, nan, inf, fin, up, down, neg, binary32, sub, of_int, round, in_unsigned, to_unsigned}
use lib.ListN.{length, get_or, set, length-set}
use lib.Seq.{get_or-set_same, get_or-set_other}
use lib.Signed.{◌≤ℤ◌, ◌<ℤ◌, yes_non_neg, pos-nat_abs}
use Rattle.algebra.specs.Bits.{Has}
use Rattle.algebra.proofs.Bits.{has_one, has_both, has_left, has_right}
use Rattle.algebra.proofs.Sizes.{nat_abs_sub}
use Rattle.algebra.proofs.Order.{lin, at-, lt_or_leℤ}
use Rattle.rules.specs.Limits.{grid_edge}
use Rattle.rules.specs.Grid.{on_grid, signed, whole_of}
use Rattle.rules.specs.Plane.{Pt, point}
use Rattle.rules.proofs.GridSizes.{GridPoint}
use Rattle.grid.proofs.Turn.{grid_within}
use Rattle.grid.proofs.Value.{Within, signed-not, whole_back}
use Rattle.grid.proofs.Canon.{sub_canon}
use Rattle.blocking.specs.ByTurns.{Apart, left_of, right_of, under, over}
use Rattle.blocking.specs.Strips.{from_edge, Side, from_right, from_left, from_above, from_below, along, of_side, own_strip, no_points, mask, both, Marked, MarkedUpTo, Stripped, reached, candidates_of}
use Rattle.blocking.specs.declared.strips.Masks.{Masks}

-- ---- the strip of a coordinate

small_low : (z : ℤ) → nat_abs z ≤ grid_edge → z ≤ℤ pos 1024
small_low (pos n) h = omega lin
small_low (negsuc n) h = omega lin

small-back : (z : ℤ) → nat_abs z ≤ grid_edge → nat_abs (pos 0 -ℤ z) ≤ grid_edge
small-back z h = omega (arith, nat_abs_sub (pos 0) z)

-- how far it is from the edge
edge_far : (z : ℤ) → nat_abs z ≤ grid_edge → pos (nat_abs (pos 1024 -ℤ z)) ≡ pos 1024 -ℤ z
edge_far z h = let l = small_low z h in let w : pos 0 ≤ℤ (pos 1024 -ℤ z) = omega (lin, at- (pos 1024) z) in pos-nat_abs (pos 1024 -ℤ z) (yes_non_neg w)

far_low : (z : ℤ) → nat_abs z ≤ grid_edge → nat_abs (pos 1024 -ℤ z) ≤ 2048
far_low z h = omega (arith, nat_abs_sub (pos 1024) z)

strip_low : (z : ℤ) → nat_abs z ≤ grid_edge → from_edge z < 65
strip_low z h = omega (arith, far_low z h)

-- who is nearer to the edge has no later strip
nearer : (a b : ℤ) → nat_abs a ≤ grid_edge → nat_abs b ≤ grid_edge → a ≤ℤ b → from_edge b ≤ from_edge a
nearer a b h k l =
    let m : nat_abs (pos 1024 -ℤ b) ≤ nat_abs (pos 1024 -ℤ a) = omega (lin, edge_far a h, edge_far b k, at- (pos 1024) a, at- (pos 1024) b) in
    omega arith

-- so one with a later strip is farther from it
farther : (a b : ℤ) → nat_abs a ≤ grid_edge → nat_abs b ≤ grid_edge → (from_edge b ≤ from_edge a → ⊥) → b <ℤ a
farther a b h k n = go (lt_or_leℤ b a)
  where
    go : (b <ℤ a) ⊎ (a ≤ℤ b) → b <ℤ a
    go (inl l) = l
    go (inr l) = absurd (n (nearer a b h k l))

-- as the code finds it
on-within : (v : Float) → on_grid v ≡ true → Within grid_edge v (whole_of v)
on-within v h = grid_within v (subst T (sym h) tt)

literal : fin false 1 (pos 10) ≡ of_int binary32 (pos 1024)
unfolding of_int round
literal = refl

edge_is :
    {x : Float} {z : ℤ} → Within grid_edge x z
    → T (in_unsigned binary32 32 (sub binary32 (fin false 1 (pos 10)) x)) × (to_unsigned 32 (sub binary32 (fin false 1 (pos 10)) x) ≡ nat_abs (pos 1024 -ℤ z))
edge_is {x} {z} w =
    let e : sub binary32 (fin false 1 (pos 10)) x ≡ of_int binary32 (pos (nat_abs (pos 1024 -ℤ z)))
    = ap (λ (v : Float). sub binary32 v x) literal ∙ sub_canon binary32 (pos 1024) (lit≤ tt) w.is ∙ ap (of_int binary32) (sym (edge_far z w.small)) in
    whole_back _ (nat_abs (pos 1024 -ℤ z)) e (omega (arith, far_low z w.small))

pub strip_is :
    (v : Float) → on_grid v ≡ true
    → T (in_unsigned binary32 32 (sub binary32 (fin false 1 (pos 10)) v)) × (to_unsigned 32 (sub binary32 (fin false 1 (pos 10)) v) / 32 ≡ from_edge (whole_of v)) × (from_edge (whole_of v) < 65)
strip_is v on = let w = on-within v on in ((edge_is w).0, rw (edge_is w).1, strip_low (whole_of v) w.small)

-- a negated coordinate
pub neg_on : (v : Float) → on_grid v ≡ true → on_grid (neg v) ≡ true
unfolding neg
neg_on nan h = h
neg_on (inf s) h = h
neg_on (fin s m e) h = h

neg_whole : (v : Float) → whole_of (neg v) ≡ pos 0 -ℤ whole_of v
unfolding neg
neg_whole nan = refl
neg_whole (inf s) = refl
neg_whole (fin s m e) = signed-not s (m * up e / down e) ∙ sym (+ℤ_idl (neg_ℤ (signed s (m * up e / down e))))

pub neg_edge : (v : Float) → from_edge (whole_of (neg v)) ≡ from_edge (pos 0 -ℤ whole_of v)
neg_edge v = ap from_edge (neg_whole v)

pub strip_back :
    (v : Float) → on_grid v ≡ true
    → T (in_unsigned binary32 32 (sub binary32 (fin false 1 (pos 10)) (neg v))) × (to_unsigned 32 (sub binary32 (fin false 1 (pos 10)) (neg v)) / 32 ≡ from_edge (pos 0 -ℤ whole_of v))
    × (from_edge (pos 0 -ℤ whole_of v) < 65)
strip_back v on = rw (← neg_edge v) (strip_is (neg v) (neg_on v on))

-- ---- the masks as they are filled

abbrev pub plus : Side → Masks → ℕ → Masks
plus from_right m n = record { right = bit_or m.right n; left = m.left; upper = m.upper; lower = m.lower }
plus from_left m n = record { right = m.right; left = bit_or m.left n; upper = m.upper; lower = m.lower }
plus from_above m n = record { right = m.right; left = m.left; upper = bit_or m.upper n; lower = m.lower }
plus from_below m n = record { right = m.right; left = m.left; upper = m.upper; lower = bit_or m.lower n }

plus_kept : (side at : Side) (m : Masks) (n h : ℕ) → Has (of_side at m) h → Has (of_side at (plus side m n)) h
plus_kept from_right from_right m n h p = has_left m.right n h p
plus_kept from_right from_left m n h p = p
plus_kept from_right from_above m n h p = p
plus_kept from_right from_below m n h p = p
plus_kept from_left from_right m n h p = p
plus_kept from_left from_left m n h p = has_left m.left n h p
plus_kept from_left from_above m n h p = p
plus_kept from_left from_below m n h p = p
plus_kept from_above from_right m n h p = p
plus_kept from_above from_left m n h p = p
plus_kept from_above from_above m n h p = has_left m.upper n h p
plus_kept from_above from_below m n h p = p
plus_kept from_below from_right m n h p = p
plus_kept from_below from_left m n h p = p
plus_kept from_below from_above m n h p = p
plus_kept from_below from_below m n h p = has_left m.lower n h p

plus_there : (side : Side) (m : Masks) (n h : ℕ) → Has n h → Has (of_side side (plus side m n)) h
plus_there from_right m n h p = has_right m.right n h p
plus_there from_left m n h p = has_right m.left n h p
plus_there from_above m n h p = has_right m.upper n h p
plus_there from_below m n h p = has_right m.lower n h p

-- one mask after the other, each kept by the next
pub record Put (side : Side) (before : List Masks) (s g : ℕ) (after : List Masks) : Type 0 where
  pub long : length after ≡ 65
  pub kept : (at : Side) (k h : ℕ) → Has (mask before at k) h → Has (mask after at k) h
  pub there : Has (mask after side s) g

pub is_put : (side : Side) (l : List Masks) (s r g n : ℕ) → length l ≡ 65 → r ≡ s → r < 65 → n ≡ 2 ^ g → Put side l s g (set l r (plus side (get_or l r no_points) n))
is_put side l s r g n h q low e = record {
  long = length-set l r _ ∙ h;
  kept = λ at k i p. kept at k i p (ℕ_discrete k r);
  there = rw (← q, here) (plus_there side (get_or l r no_points) n g (rw e (has_one g)));
}
  where
    here : get_or (set l r (plus side (get_or l r no_points) n)) r no_points ≡ plus side (get_or l r no_points) n
    here = get_or-set_same l r _ no_points (omega arith)

    kept : (at : Side) (k i : ℕ) → Has (mask l at k) i → Dec (k ≡ r) → Has (mask (set l r (plus side (get_or l r no_points) n)) at k) i
    kept at k i p (yes z) = rw (z, here) (plus_kept side at (get_or l r no_points) n i (rw z at p))
    kept at k i p (no z) = rw (get_or-set_other l r k (plus side (get_or l r no_points) n) no_points z) p

pub is_marked :
    (l : List Masks) (p : Pt) (g : ℕ) (l₁ l₂ l₃ l₄ : List Masks) → Put from_right l (own_strip from_right p) g l₁ → Put from_left l₁ (own_strip from_left p) g l₂
    → Put from_above l₂ (own_strip from_above p) g l₃ → Put from_below l₃ (own_strip from_below p) g l₄ → Marked l p g l₄
is_marked l p g l₁ l₂ l₃ l₄ a b c d = record {
  long = d.long;
  kept = λ side k h i. d.kept side k h (c.kept side k h (b.kept side k h (a.kept side k h i)));
  there = there;
}
  where
    there : (side : Side) → Has (mask l₄ side (own_strip side p)) g
    there from_right = d.kept from_right _ g (c.kept from_right _ g (b.kept from_right _ g a.there))
    there from_left = d.kept from_left _ g (c.kept from_left _ g b.there)
    there from_above = d.kept from_above _ g c.there
    there from_below = d.there

-- one point more
pub marked_more :
    (ps : List Pt) (n : ℕ) (l m : List Masks) (p : Pt) (g : ℕ) → p ≡ point ps n → g ≡ n / 8 → MarkedUpTo ps n l → Marked l p g m → MarkedUpTo ps (n + 1) m
marked_more ps n l m p g e f u w = record { long = w.long; each = λ side k h. go side k h (ℕ_discrete k n) }
  where
    go : (side : Side) (k : ℕ) → k < n + 1 → Dec (k ≡ n) → Has (mask m side (own_strip side (point ps k))) (k / 8)
    go side k h (yes q) = rw (q, ← e, ← f) (w.there side)
    go side k h (no q) = w.kept side _ _ (u.each side k (omega arith))

-- ---- each mask put to those behind it

both_left : (side : Side) (m n : Masks) (h : ℕ) → Has (of_side side m) h → Has (of_side side (both m n)) h
both_left from_right m n h p = has_left m.right n.right h p
both_left from_left m n h p = has_left m.left n.left h p
both_left from_above m n h p = has_left m.upper n.upper h p
both_left from_below m n h p = has_left m.lower n.lower h p

both_right : (side : Side) (m n : Masks) (h : ℕ) → Has (of_side side n) h → Has (of_side side (both m n)) h
both_right from_right m n h p = has_right m.right n.right h p
both_right from_left m n h p = has_right m.left n.left h p
both_right from_above m n h p = has_right m.upper n.upper h p
both_right from_below m n h p = has_right m.lower n.lower h p

pub record Gathered (before : List Masks) (n : ℕ) (after : List Masks) : Type 0 where
  pub long : length after ≡ 65
  pub done : (side : Side) (s d g : ℕ) → s + d < n → Has (mask before side s) g → Has (mask after side (s + d)) g
  pub same : (s : ℕ) → n ≤ s → get_or after s no_points ≡ get_or before s no_points

pub gathered_first : (l : List Masks) → length l ≡ 65 → Gathered l 1 l
gathered_first l h = record { long = h; done = λ side s d g k p. let e : s + d ≡ s = omega arith in rw e p; same = λ s j. refl }

abbrev with-before : List Masks → ℕ → Masks
with-before m n = both (get_or m n no_points) (get_or m (n - 1) no_points)

pub gathered_more : (l m : List Masks) (n : ℕ) → 1 ≤ n → n < 65 → Gathered l n m → Gathered l (n + 1) (set m n (with-before m n))
gathered_more l m n low h w = record {
  long = length-set m n _ ∙ w.long;
  done = λ side s d g k p. go side s d g k p (ℕ_discrete (s + d) n);
  same = λ s j. get_or-set_other m n s _ no_points (omega arith) ∙ w.same s (omega arith);
}
  where
    here : get_or (set m n (with-before m n)) n no_points ≡ with-before m n
    here = get_or-set_same m n _ no_points (omega (arith, w.long))

    own : (side : Side) (s d g : ℕ) → s + d ≡ n → Has (mask l side s) g → Has (of_side side (with-before m n)) g
    own side s zero g q p = let e : s ≡ n = omega arith in both_left side (get_or m n no_points) (get_or m (n - 1) no_points) g (rw (w.same n (omega arith), ← e) p)
    own side s (suc d) g q p =
        let e : s + d ≡ n - 1 = omega arith in
        both_right side (get_or m n no_points) (get_or m (n - 1) no_points) g (rw e at (w.done side s d g (omega arith) p))

    go : (side : Side) (s d g : ℕ) → s + d < n + 1 → Has (mask l side s) g → Dec (s + d ≡ n) → Has (mask (set m n (with-before m n)) side (s + d)) g
    go side s d g k p (yes q) = rw (q, here) (own side s d g q p)
    go side s d g k p (no q) = rw (get_or-set_other m n (s + d) (with-before m n) no_points q) (w.done side s d g (omega arith) p)

pub all-stripped :
    (ps : List Pt) (l m : List Masks) → MarkedUpTo ps (length ps) l → ((side : Side) (s d g : ℕ) → s + d < 65 → Has (mask l side s) g → Has (mask m side (s + d)) g) → Stripped ps m
all-stripped ps l m u f = record { each = behind }
  where
    behind : (side : Side) (k s : ℕ) → k < length ps → from_edge (along side (point ps k)) ≤ s → s < 65 → Has (mask m side s) (k / 8)
    behind side k s h low t =
        let own = from_edge (along side (point ps k)) in
        let e : own_strip side (point ps k) + (s - own) ≡ s = omega arith in
        rw e at (f side (own_strip side (point ps k)) (s - own) (k / 8) (omega arith) (u.each side k h))

-- ---- what a mask leaves out

module _ (ps : List Pt) (strips : List Masks) (w : Stripped ps strips) (a b c : Pt) (A : GridPoint a) (B : GridPoint b) (C : GridPoint c) (k : ℕ) (h : k < length ps) (P : GridPoint (point ps k)) where
  along-small : (side : Side) {q : Pt} → GridPoint q → nat_abs (along side q) ≤ grid_edge
  along-small from_right g = g.x-small
  along-small from_left {q} g = small-back q.x g.x-small
  along-small from_above g = g.y-small
  along-small from_below {q} g = small-back q.y g.y-small

  -- farther from an edge than a point whose mask leaves it out
  past : (side : Side) (q : Pt) → GridPoint q → (Has (mask strips side (own_strip side q)) (k / 8) → ⊥) → along side (point ps k) <ℤ along side q
  past side q g n =
      farther (along side q) (along side (point ps k)) (along-small side g) (along-small side P)
      (λ l. n (w.each side k (from_edge (along side q)) h l (strip_low (along side q) (along-small side g))))

  all_past : (side : Side) → (Has (reached strips side a b c) (k / 8) → ⊥)
      → (along side (point ps k) <ℤ along side a) × (along side (point ps k) <ℤ along side b) × (along side (point ps k) <ℤ along side c)
  all_past side n =
      let x = mask strips side (own_strip side a) in
      let y = mask strips side (own_strip side b) in
      let z = mask strips side (own_strip side c) in (
        past side a A (λ p. n (has_left (bit_or x y) z (k / 8) (has_left x y (k / 8) p))),
        past side b B (λ p. n (has_left (bit_or x y) z (k / 8) (has_right x y (k / 8) p))),
        past side c C (λ p. n (has_right (bit_or x y) z (k / 8) p)),
      )

  turned : (u v : ℤ) → (pos 0 -ℤ u) <ℤ (pos 0 -ℤ v) → v <ℤ u
  turned u v l = omega (lin, at- (pos 0) u, at- (pos 0) v)

  apart_by : (side : Side) → (Has (reached strips side a b c) (k / 8) → ⊥) → Apart a b c (point ps k)
  apart_by from_right n = let (x, y, z) = all_past from_right n in left_of x y z
  apart_by from_left n = let (x, y, z) = all_past from_left n in right_of (turned _ _ x) (turned _ _ y) (turned _ _ z)
  apart_by from_above n = let (x, y, z) = all_past from_above n in under x y z
  apart_by from_below n = let (x, y, z) = all_past from_below n in over (turned _ _ x) (turned _ _ y) (turned _ _ z)

  pub left_out : (Has (candidates_of strips a b c) (k / 8) → ⊥) → Apart a b c (point ps k)
  unfolding candidates_of
  left_out n = go (has from_right) (has from_left) (has from_above) (has from_below)
    where
      has : (side : Side) → Dec (Has (reached strips side a b c) (k / 8))
      has side = ℕ_discrete (reached strips side a b c / 2 ^ (k / 8) % 2) 1

      go : Dec (Has (reached strips from_right a b c) (k / 8)) → Dec (Has (reached strips from_left a b c) (k / 8)) → Dec (Has (reached strips from_above a b c) (k / 8))
          → Dec (Has (reached strips from_below a b c) (k / 8)) → Apart a b c (point ps k)
      go (no q) s t u = apart_by from_right q
      go (yes p) (no q) t u = apart_by from_left q
      go (yes p) (yes q) (no r) u = apart_by from_above r
      go (yes p) (yes q) (yes r) (no s) = apart_by from_below s
      go (yes p) (yes q) (yes r) (yes s) = absurd (n (has_both _ _ (k / 8) (has_both _ _ (k / 8) (has_both _ _ (k / 8) p q) r) s))
