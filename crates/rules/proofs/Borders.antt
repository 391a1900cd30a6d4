-- Laws of the border: an edge and its reverse have the same points, ends count, what the outline test says of no, one and two corners, and what the
-- answers of several rings say of an outline that has their edges and their parity.
use mathlib.Core.Path.{◌≡◌, refl, sym, ◌∙◌, ap, ap₂}
use mathlib.Core.Logic.{◌≢◌}
use mathlib.Core.Bool.{Bool, true, false, not, cond, ◌&&◌, ◌||◌, or_comm, or-false, or_self_left}
use mathlib.Core.List.{List, [], ◌∷◌, Memᴰ}
use native.Mathlib.Omega.{arith}
use lib.IntN.{ℤ}
use lib.Signed.{lt_z, le_z, ◌≤ℤ◌}
use Rattle.algebra.specs.Lists.{Each, end, ◌&◌, any}
use Rattle.algebra.proofs.Lists.{each_imp, each_of, any_found}
use Rattle.algebra.proofs.Equal.{impossible, T→true}
use Rattle.algebra.proofs.Order.{lin}
use Rattle.algebra.specs.Sums.{xor}
use Rattle.rules.specs.Plane.{Pt, same, turn, left, right, straight}
use Rattle.rules.specs.Crossing.{crossed, odd, odd_crossings, inside_convex}
use Rattle.rules.specs.Border.{Position, outside, inside, border, is_inside, position_number, from_to, between, on_edge, on_border, position, convex_position}
use Rattle.rules.proofs.Turns.{turn_none, turn-same, turn-back, below_neg, above_neg, perp_none, crossed-back}

-- ---- one edge

between-back : (a b c : ℤ) → between b a c ≡ between a b c
between-back a b c = or_comm (from_to b a c) (from_to a b c)

straight-back : (a b p : Pt) → straight b a p ≡ straight a b p
straight-back a b p = rw (turn-back a b p, below_neg (turn a b p), above_neg (turn a b p)) (ap not (or_comm (right a b p) (left a b p)))

pub edge_back : (p a b : Pt) → on_edge p b a ≡ on_edge p a b
edge_back p a b = ap₂ ◌&&◌ (straight-back a b p) (ap₂ ◌&&◌ (between-back a.x b.x p.x) (between-back a.y b.y p.y))

at_least_itself : (z : ℤ) → le_z z z ≡ true
at_least_itself z = let h : z ≤ℤ z = omega lin in T→true (le_z z z) h.le

between-end : (a b : ℤ) → between a b a ≡ true
between-end a b = go (le_z a b) refl
  where
    go : (t : Bool) → le_z a b ≡ t → between a b a ≡ true
    go true e = rw (at_least_itself a, e)
    go false e = let h : b ≤ℤ a = omega lin in rw (at_least_itself a, e, T→true (le_z b a) h.le)

-- both ends of an edge are on it
pub begins_on_edge : (a b : Pt) → on_edge a a b ≡ true
begins_on_edge a b = rw (turn_none a b, between-end a.x b.x, between-end a.y b.y)

pub ends_on_edge : (a b : Pt) → on_edge b a b ≡ true
ends_on_edge a b = edge_back b b a ∙ begins_on_edge b a

-- ---- the three answers

module _ (p : Pt) (ring : List Pt) where
  pub touched→border : on_border p ring ≡ true → position p ring ≡ border
  unfolding position
  touched→border e = ap (λ (t : Bool). cond t border (cond (odd_crossings p ring) inside outside)) e

  -- off the border the crossing parity decides
  pub off-border : on_border p ring ≡ false → position p ring ≡ cond (odd_crossings p ring) inside outside
  unfolding position
  off-border e = ap (λ (t : Bool). cond t border (cond (odd_crossings p ring) inside outside)) e

  inside-off : on_border p ring ≡ false → is_inside (position p ring) ≡ odd_crossings p ring
  inside-off e = ap is_inside (off-border e) ∙ go (odd_crossings p ring)
    where
      go : (t : Bool) → is_inside (cond t inside outside) ≡ t
      go true = refl
      go false = refl

  pub border→touched : position p ring ≡ border → on_border p ring ≡ true
  border→touched e = go (on_border p ring) refl (odd_crossings p ring) refl
    where
      go : (t : Bool) → on_border p ring ≡ t → (o : Bool) → odd_crossings p ring ≡ o → t ≡ true
      go true i o j = refl
      go false i true j = impossible (cc (sym e ∙ off-border i))
      go false i false j = impossible (cc (sym e ∙ off-border i))

  not_touched : position p ring ≢ border → on_border p ring ≡ false
  not_touched n = go (on_border p ring) refl
    where
      go : (t : Bool) → on_border p ring ≡ t → t ≡ false
      go true i = absurd (n (touched→border i))
      go false i = refl

  -- the convex test has two answers
  pub convex-no-border : convex_position p ring ≢ border
  unfolding convex_position
  convex-no-border e = go (inside_convex p ring) e
    where
      go : (t : Bool) → cond t inside outside ≡ border → ⊥
      go true i = impossible (cc)
      go false i = impossible (cc)

-- no other answer is inside
pub only_inside : (t : Position) → is_inside t ≡ true → t ≡ inside
only_inside outside e = impossible (cc)
only_inside inside e = refl
only_inside border e = impossible (cc)

-- the number tells the answer
pub number_tells : (s t : Position) → position_number s ≡ position_number t → s ≡ t
number_tells outside outside e = refl
number_tells outside inside e = impossible e
number_tells outside border e = absurd (omega arith)
number_tells inside outside e = absurd (omega arith)
number_tells inside inside e = refl
number_tells inside border e = absurd (omega arith)
number_tells border outside e = absurd (omega arith)
number_tells border inside e = absurd (omega arith)
number_tells border border e = refl

-- ---- no corner, one, and two

pub no-corners : (p : Pt) → position p [] ≡ outside
unfolding position on_border odd_crossings
no-corners p = refl

-- of one corner the border is that corner, and all else is outside
pub one_corner : (p a : Pt) → position p (a ∷ []) ≡ cond (same a p) border outside
unfolding position on_border odd_crossings
one_corner p a = ap₂ (λ t o. cond t border (cond o inside outside)) touching even
  where
    none : (s t : Bool) → xor ((s && (t && false)) || (s && (t && false))) false ≡ false
    none true true = refl
    none true false = refl
    none false t = refl

    even : xor (crossed p a a) false ≡ false
    even = rw (perp_none p a) (none (le_z a.y p.y) (lt_z p.y a.y))

    boxed : (s t u v : Bool) → ((((s && t) || (s && t)) && ((u && v) || (u && v))) || false) ≡ (s && t && (u && v))
    boxed true true true true = refl
    boxed true true true false = refl
    boxed true true false v = refl
    boxed true false u v = refl
    boxed false t u v = refl

    touching : (on_edge p a a || false) ≡ same a p
    touching = rw (turn-same a p) (boxed (le_z a.x p.x) (le_z p.x a.x) (le_z a.y p.y) (le_z p.y a.y))

-- of two corners the border is the segment between them, and all else is outside
pub two-corners : (p a b : Pt) → position p (a ∷ b ∷ []) ≡ cond (on_edge p a b) border outside
unfolding position on_border odd_crossings
two-corners p a b =
    ap₂ (λ t o. cond t border (cond o inside outside)) touching even
  where
    touching : (on_edge p a b || (on_edge p b a || false)) ≡ on_edge p a b
    touching = ap (λ (t : Bool). on_edge p a b || (t || false)) (edge_back p a b) ∙ or_self_left (on_edge p a b) false ∙ or-false (on_edge p a b)

    even : xor (crossed p a b) (xor (crossed p b a) false) ≡ false
    even = ap (λ (t : Bool). xor (crossed p a b) (xor t false)) (sym (crossed-back p a b)) ∙ twice (crossed p a b)
      where
        twice : (t : Bool) → xor t (xor t false) ≡ false
        twice true = refl
        twice false = refl

-- ---- an outline and rings that have its edges and its parity

-- what rings say of the border of an outline, at a point
pub record Bordered (outline : List Pt) (rings : List (List Pt)) (p : Pt) : Type 0 where
  -- where the outline says border, some ring does
  pub some_border : position p outline ≡ border → (ring : List Pt) × Memᴰ ring rings × (position p ring ≡ border)
  -- where no ring says border, the outline says inside exactly if an odd number of rings does, and else outside
  pub odd_inside : Each (λ ring. position p ring ≢ border) rings → position p outline ≡ cond (odd (λ ring. is_inside (position p ring)) rings) inside outside

module _ (outline : List Pt) (rings : List (List Pt)) (p : Pt)
    (touches : on_border p outline ≡ true → any (on_border p) rings ≡ true) (parity : odd_crossings p outline ≡ odd (odd_crossings p) rings) where
  none_touched : Each (λ ring. on_border p ring ≡ false) rings → on_border p outline ≡ false
  none_touched h = go (on_border p outline) refl
    where
      go : (t : Bool) → on_border p outline ≡ t → t ≡ false
      go true i = let (ring, m, k) = any_found (on_border p) rings (touches i) in impossible (cc (sym k ∙ each_of h m))
      go false i = refl

  insides : {l : List (List Pt)} → Each (λ ring. on_border p ring ≡ false) l → odd (odd_crossings p) l ≡ odd (λ ring. is_inside (position p ring)) l
  insides end = refl
  insides (◌&◌ {a} e h) = ap₂ xor (sym (inside-off p a e)) (insides h)

  pub bordered : Bordered outline rings p
  bordered = record {
    some_border = λ e. let (ring, m, k) = any_found (on_border p) rings (touches (border→touched p outline e)) in (ring, m, touched→border p ring k);
    odd_inside = λ h. let off = each_imp (λ ring n. not_touched p ring n) h in off-border p outline (none_touched off) ∙ ap (λ (t : Bool). cond t inside outside) (parity ∙ insides off);
  }
