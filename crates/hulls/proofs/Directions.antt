-- Turns and directions: what a point that sees a part of a split facet sees besides.
use mathlib.Core.Path.{◌≡◌, refl, ◌∙◌}
use mathlib.Core.Logic.{◌≢◌, ◌⊎◌, inl, inr}
use mathlib.Core.Bool.{Bool, true, false}
use mathlib.Core.List.{[], ◌∷◌}
use lib.IntN.{ℤ, pos, neg_ℤ, ◌+ℤ◌, ◌-ℤ◌, ◌*ℤ◌, *ℤ_comm, *ℤ-zero, zero-*ℤ}
use lib.Signed.{lt_z, ◌≤ℤ◌, ◌<ℤ◌}
use Rattle.algebra.specs.Reify.{reify}
use Rattle.algebra.proofs.Solve.{ring}
use Rattle.algebra.proofs.Order.{lin, ≤ℤ→sub, <ℤ→sub, sub→<ℤ, at+, at-, up_neg, dn_neg, prod_nonneg, prod_pos, *ℤ-cancel-<, <ℤ→≤ℤ, ≤ℤ→¬<ℤ, triℤ, square_nonneg}
use Rattle.algebra.proofs.Integers.{negℤ_*ℤ_negℤ}
use Rattle.rules.specs.Plane.{Pt, turn, right}
use Rattle.rules.specs.Hull.{differ, dot, normal}
use Rattle.rules.proofs.Turns.{coordinates, turn_rotates, turn_none, turn_end, turn-back}

-- ---- identities

-- how far x is from the facet's line, in the direction of its normal, is the turn backwards; from either end
pub far_from : (a b x : Pt) → dot (normal a b) x -ℤ dot (normal a b) a ≡ neg_ℤ (turn a b x)
far_from a b x = ring (coordinates (a ∷ b ∷ x ∷ [])) (search reify depth 12) (search reify depth 12) refl

far_to : (a b x : Pt) → dot (normal a b) x -ℤ dot (normal a b) b ≡ neg_ℤ (turn a b x)
far_to a b x = ring (coordinates (a ∷ b ∷ x ∷ [])) (search reify depth 12) (search reify depth 12) refl

-- and how far x is from w
both : (a b w x : Pt) → dot (normal a b) x -ℤ dot (normal a b) w ≡ neg_ℤ (turn a w x +ℤ turn w b x)
both a b w x = ring (coordinates (a ∷ b ∷ w ∷ x ∷ [])) (search reify depth 12) (search reify depth 12) refl

-- three vectors from one point, and a direction n: n(X)(W x V) + n(W)(V x X) + n(V)(X x W) = 0, from a and from b
around-from :
    (n a b w x : Pt)
    → (dot n a -ℤ dot n w) *ℤ neg_ℤ (turn a b x) ≡ (dot n a -ℤ dot n x) *ℤ neg_ℤ (turn a b w) +ℤ (dot n a -ℤ dot n b) *ℤ neg_ℤ (turn a w x)
around-from n a b w x = ring (coordinates (n ∷ a ∷ b ∷ w ∷ x ∷ [])) (search reify depth 12) (search reify depth 12) refl

around-to :
    (n a b w x : Pt)
    → (dot n b -ℤ dot n w) *ℤ neg_ℤ (turn a b x) ≡ (dot n b -ℤ dot n x) *ℤ neg_ℤ (turn a b w) +ℤ (dot n b -ℤ dot n a) *ℤ neg_ℤ (turn w b x)
around-to n a b w x = ring (coordinates (n ∷ a ∷ b ∷ w ∷ x ∷ [])) (search reify depth 12) (search reify depth 12) refl

-- ---- signs

-- b q = a p + c r with a and b not below zero, and c, p and r above it
weigh :
    (a b c p q r : ℤ) → b *ℤ q ≡ a *ℤ p +ℤ c *ℤ r
    → pos 0 ≤ℤ a → pos 0 ≤ℤ b → pos 0 <ℤ c → pos 0 <ℤ p → pos 0 <ℤ r → (pos 0 <ℤ b) × (pos 0 <ℤ q)
weigh a b c p q r e ha hb hc hp hr =
    let ap : pos 0 ≤ℤ (a *ℤ p) = prod_nonneg ha (<ℤ→≤ℤ hp) in
    let cr : pos 0 <ℤ (c *ℤ r) = prod_pos hc hr in
    let bq : pos 0 <ℤ (b *ℤ q) = omega (lin, at+ (a *ℤ p) (c *ℤ r)) in
    let bz : (b *ℤ pos 0) <ℤ (b *ℤ q) = rw (*ℤ-zero b) bq in
    let hq : pos 0 <ℤ q = *ℤ-cancel-< b hb bz in
    let qz : (q *ℤ pos 0) <ℤ (q *ℤ b) = rw (*ℤ-zero q, *ℤ_comm q b) bq in
    (*ℤ-cancel-< q (<ℤ→≤ℤ hq) qz, hq)

below : (z : ℤ) → z <ℤ pos 0 → pos 0 <ℤ neg_ℤ z
below z h = omega (lin, up_neg z, dn_neg z)

above : (z : ℤ) → pos 0 <ℤ neg_ℤ z → z <ℤ pos 0
above z h = omega (lin, up_neg z, dn_neg z)

-- a point that sees the part from a to w of a facet that is split at w sees the facet; and w is not at a's height in a's direction
pub sees_from :
    (n a b w x : Pt) → dot n x ≤ℤ dot n a → dot n w ≤ℤ dot n a → dot n b <ℤ dot n a → turn a b w <ℤ pos 0 → turn a w x <ℤ pos 0
    → (dot n w <ℤ dot n a) × (turn a b x <ℤ pos 0)
sees_from n a b w x hx hw hb s t =
    let r = weigh (dot n a -ℤ dot n x) (dot n a -ℤ dot n w) (dot n a -ℤ dot n b) (neg_ℤ (turn a b w)) (neg_ℤ (turn a b x)) (neg_ℤ (turn a w x)) (around-from n a b w x)
    (≤ℤ→sub hx) (≤ℤ→sub hw) (<ℤ→sub hb) (below (turn a b w) s) (below (turn a w x) t) in
    (sub→<ℤ r.0, above (turn a b x) r.1)

pub sees_to :
    (n a b w x : Pt) → dot n x ≤ℤ dot n b → dot n w ≤ℤ dot n b → dot n a <ℤ dot n b → turn a b w <ℤ pos 0 → turn w b x <ℤ pos 0
    → (dot n w <ℤ dot n b) × (turn a b x <ℤ pos 0)
sees_to n a b w x hx hw ha s t =
    let r = weigh (dot n b -ℤ dot n x) (dot n b -ℤ dot n w) (dot n b -ℤ dot n a) (neg_ℤ (turn a b w)) (neg_ℤ (turn a b x)) (neg_ℤ (turn w b x)) (around-to n a b w x)
    (≤ℤ→sub hx) (≤ℤ→sub hw) (<ℤ→sub ha) (below (turn a b w) s) (below (turn w b x) t) in
    (sub→<ℤ r.0, above (turn a b x) r.1)

-- no point sees both parts, where none is farther than w
not_both : (d e s t : ℤ) → d -ℤ e ≡ neg_ℤ (s +ℤ t) → d ≤ℤ e → s <ℤ pos 0 → t <ℤ pos 0 → ⊥
not_both d e s t i h k l = omega (lin, at- d e, at+ s t, up_neg (s +ℤ t), dn_neg (s +ℤ t))

pub sees_one : (a b w x : Pt) → dot (normal a b) x ≤ℤ dot (normal a b) w → turn a w x <ℤ pos 0 → turn w b x <ℤ pos 0 → ⊥
sees_one a b w x = not_both (dot (normal a b) x) (dot (normal a b) w) (turn a w x) (turn w b x) (both a b w x)

-- to see a facet is to be farther than its ends in the direction of its normal
out : (d e t : ℤ) → d -ℤ e ≡ neg_ℤ t → t <ℤ pos 0 → e <ℤ d
out d e t i h = omega (lin, at- d e, up_neg t, dn_neg t)

not_out : (d e t : ℤ) → d -ℤ e ≡ neg_ℤ t → pos 0 ≤ℤ t → d ≤ℤ e
not_out d e t i h = omega (lin, at- d e, up_neg t, dn_neg t)

pub out_from : (a b x : Pt) → turn a b x <ℤ pos 0 → dot (normal a b) a <ℤ dot (normal a b) x
out_from a b x = out (dot (normal a b) x) (dot (normal a b) a) (turn a b x) (far_from a b x)

pub out_to : (a b x : Pt) → turn a b x <ℤ pos 0 → dot (normal a b) b <ℤ dot (normal a b) x
out_to a b x = out (dot (normal a b) x) (dot (normal a b) b) (turn a b x) (far_to a b x)

pub not_out_from : (a b x : Pt) → pos 0 ≤ℤ turn a b x → dot (normal a b) x ≤ℤ dot (normal a b) a
not_out_from a b x = not_out (dot (normal a b) x) (dot (normal a b) a) (turn a b x) (far_from a b x)

-- ---- to see a facet is to stand right of it

pub seen_lt : (a b x : Pt) → right a b x ≡ true → turn a b x <ℤ pos 0
seen_lt a b x e = go (turn a b x) e
  where
    go : (z : ℤ) → lt_z z (pos 0) ≡ true → z <ℤ pos 0
    go z h = omega lin

pub lt_seen : (a b x : Pt) → turn a b x <ℤ pos 0 → right a b x ≡ true
lt_seen a b x h = go (lt_z (turn a b x) (pos 0)) refl
  where
    go : (t : Bool) → lt_z (turn a b x) (pos 0) ≡ t → t ≡ true
    go true e = refl
    go false e = absurd (no_lt (turn a b x) h e)
      where
        no_lt : (z : ℤ) → z <ℤ pos 0 → lt_z z (pos 0) ≡ false → ⊥
        no_lt z k e = omega lin

pub unseen_le : (a b x : Pt) → right a b x ≡ false → pos 0 ≤ℤ turn a b x
unseen_le a b x e = go (turn a b x) e
  where
    go : (z : ℤ) → lt_z z (pos 0) ≡ false → pos 0 ≤ℤ z
    go z h = omega lin

-- the ends of a facet do not see it
pub unseen-end : (a b : Pt) → right a b b ≡ false
unseen-end a b = rw (turn_end a b)

pub unseen-begin : (a b : Pt) → right a b a ≡ false
unseen-begin a b = rw (turn_none a b)

-- ---- points that are not one point

square_zero : (z : ℤ) → (z *ℤ z) ≤ℤ pos 0 → z ≡ pos 0
square_zero z h = go (triℤ z (pos 0))
  where
    go : (z <ℤ pos 0) ⊎ ((z ≡ pos 0) ⊎ (pos 0 <ℤ z)) → z ≡ pos 0
    go (inl l) = let k : pos 0 <ℤ (z *ℤ z) = rw (negℤ_*ℤ_negℤ z z) at (prod_pos (below z l) (below z l)) in absurd (≤ℤ→¬<ℤ h k)
    go (inr (inl e)) = e
    go (inr (inr l)) = absurd (≤ℤ→¬<ℤ h (prod_pos l l))

flat-turn : (p q r s : ℤ) → p ≡ pos 0 → q ≡ pos 0 → p *ℤ r -ℤ q *ℤ s ≡ pos 0
flat-turn p q r s e f = rw (e, f, zero-*ℤ r, zero-*ℤ s)

parts : (p q : ℤ) → (p +ℤ q) ≤ℤ pos 0 → pos 0 ≤ℤ p → pos 0 ≤ℤ q → (p ≤ℤ pos 0) × (q ≤ℤ pos 0)
parts p q h k l = (omega (lin, at+ p q), omega (lin, at+ p q))

-- a turn at a and b that is not straight has two points
pub turn-differ : (a b x : Pt) → turn a b x ≢ pos 0 → differ a b ≡ true
turn-differ a b x n = go (differ a b) refl
  where
    dx : ℤ
    dx = b.x -ℤ a.x

    dy : ℤ
    dy = b.y -ℤ a.y

    one_point : (p q r s : ℤ) → lt_z (pos 0) (p *ℤ p +ℤ q *ℤ q) ≡ false → p *ℤ r -ℤ q *ℤ s ≡ pos 0
    one_point p q r s e =
        let h : (p *ℤ p +ℤ q *ℤ q) ≤ℤ pos 0 = no_lt (p *ℤ p +ℤ q *ℤ q) e in
        let (k, l) = parts (p *ℤ p) (q *ℤ q) h (square_nonneg p) (square_nonneg q) in
        flat-turn p q r s (square_zero p k) (square_zero q l)
      where
        no_lt : (z : ℤ) → lt_z (pos 0) z ≡ false → z ≤ℤ pos 0
        no_lt z e = omega lin

    go : (t : Bool) → differ a b ≡ t → t ≡ true
    go true e = refl
    go false e = absurd (n (one_point (b.x -ℤ a.x) (b.y -ℤ a.y) (x.y -ℤ a.y) (x.x -ℤ a.x) e))

neg_not_zero : (z w : ℤ) → w ≡ neg_ℤ z → z <ℤ pos 0 → w ≢ pos 0
neg_not_zero z w e h f = omega (lin, up_neg z, dn_neg z)

-- a point that sees a facet is neither of its ends
pub differ-from : (a b w : Pt) → turn a b w <ℤ pos 0 → differ a w ≡ true
differ-from a b w h = turn-differ a w b (neg_not_zero (turn a b w) (turn a w b) (turn_rotates a w b ∙ turn_rotates w b a ∙ turn-back a b w) h)

pub differ-to : (a b w : Pt) → turn a b w <ℤ pos 0 → differ w b ≡ true
differ-to a b w h = turn-differ w b a (neg_not_zero (turn a b w) (turn w b a) (turn_rotates w b a ∙ turn-back a b w) h)
