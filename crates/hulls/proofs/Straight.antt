-- Points on one line: what refusal 12's test says of every three points.
use Prim.Native.Nat.{ℕ, ◌<◌}
use mathlib.Core.Path.{◌≡◌, refl, sym, ◌∙◌, ap}
use mathlib.Core.Logic.{◌≢◌}
use mathlib.Core.Bool.{Bool, true, false, not}
use mathlib.Core.List.{List, [], ◌∷◌}
use native.Mathlib.Omega.{arith}
use lib.ListN.{length}
use lib.IntN.{ℤ, pos, neg_ℤ, ◌-ℤ◌, ◌*ℤ◌, *ℤ-zero, zero-*ℤ}
use lib.Signed.{lt_z, ◌<ℤ◌}
use Rattle.algebra.specs.Reify.{reify}
use Rattle.algebra.specs.Lists.{any}
use Rattle.algebra.proofs.Lists.{none_passes, each_at, any-nowhere}
use Rattle.algebra.proofs.Equal.{impossible, not-true}
use Rattle.algebra.proofs.Solve.{ring}
use Rattle.algebra.proofs.Order.{lin, at-, up_neg, dn_neg, <ℤ→sub, *ℤ-cancel-≤, ≤ℤ-antisym, ≡→≤ℤ}
use Rattle.rules.specs.Plane.{Pt, turn, left, point, turns_left}
use Rattle.rules.specs.Refusals.{on_one_line}
use Rattle.rules.proofs.Turns.{coordinates, turn-back}
use Rattle.hulls.specs.Cover.{OneLine}

-- ---- three points

on_line : (a b p q r : Pt) → (a.x -ℤ b.x) *ℤ turn p q r ≡ (r.x -ℤ p.x) *ℤ (turn a b q -ℤ turn a b p) -ℤ (q.x -ℤ p.x) *ℤ (turn a b r -ℤ turn a b p)
on_line a b p q r = ring (coordinates (a ∷ b ∷ p ∷ q ∷ r ∷ [])) (search reify depth 12) (search reify depth 12) refl

zero_factor : (c z : ℤ) → pos 0 <ℤ c → c *ℤ z ≡ pos 0 → z ≡ pos 0
zero_factor c z h e =
    let k : c *ℤ z ≡ c *ℤ pos 0 = e ∙ sym (*ℤ-zero c) in
    ≤ℤ-antisym (*ℤ-cancel-≤ c h (≡→≤ℤ k)) (*ℤ-cancel-≤ c h (≡→≤ℤ (sym k)))

-- three points on the line through a and b, which is not upright, are on one line
pub straight : (a b p q r : Pt) → b.x <ℤ a.x → turn a b p ≡ pos 0 → turn a b q ≡ pos 0 → turn a b r ≡ pos 0 → turn p q r ≡ pos 0
straight a b p q r h e f g = zero_factor (a.x -ℤ b.x) (turn p q r) (<ℤ→sub h) (on_line a b p q r ∙ rw (e, f, g, *ℤ-zero (r.x -ℤ p.x), *ℤ-zero (q.x -ℤ p.x)))

-- so are three points of one x
pub level : (a b x : Pt) → b.x ≡ a.x → x.x ≡ a.x → turn a b x ≡ pos 0
level a b x e f =
    let d : b.x -ℤ a.x ≡ pos 0 = omega (lin, at- b.x a.x) in
    let c : x.x -ℤ a.x ≡ pos 0 = omega (lin, at- x.x a.x) in
    rw (d, c, zero-*ℤ (x.y -ℤ a.y), *ℤ-zero (b.y -ℤ a.y))

-- ---- the test

abbrev origin : Pt
origin = record { x = pos 0; y = pos 0 }

module _ (ps : List Pt) where
  not_left : on_one_line ps ≡ true → (i j k : ℕ) → i < length ps → j < length ps → k < length ps → turns_left ps i j k ≡ false
  unfolding on_one_line
  not_left e i j k p q r =
      let over = not-true (any (λ a. any (λ b. any (left a b) ps) ps) ps) e in
      let from_i = each_at origin ps i p (none_passes (λ a. any (λ b. any (left a b) ps) ps) ps over) in
      let to_j = each_at origin ps j q (none_passes (λ b. any (left (point ps i) b) ps) ps from_i) in
      each_at origin ps k r (none_passes (left (point ps i) (point ps j)) ps to_j)

  -- neither i, j, k nor j, i, k turn left
  pub refused_line : on_one_line ps ≡ true → OneLine ps
  refused_line e i j k p q r =
      go (turn (point ps i) (point ps j) (point ps k)) (turn (point ps j) (point ps i) (point ps k)) (turn-back (point ps i) (point ps j) (point ps k))
      (not_left e i j k p q r) (not_left e j i k q p r)
    where
      go : (t u : ℤ) → u ≡ neg_ℤ t → lt_z (pos 0) t ≡ false → lt_z (pos 0) u ≡ false → t ≡ pos 0
      go t u b h k = omega (lin, up_neg t, dn_neg t)

  pub line_refused : OneLine ps → on_one_line ps ≡ true
  unfolding on_one_line
  line_refused o = ap not (any-nowhere origin (λ a. any (λ b. any (left a b) ps) ps) ps (λ i p. from_i i p))
    where
      straight-on : (i j k : ℕ) → i < length ps → j < length ps → k < length ps → turns_left ps i j k ≡ false
      straight-on i j k p q r = ap (lt_z (pos 0)) (o i j k p q r)

      from_i : (i : ℕ) → i < length ps → any (λ b. any (left (point ps i) b) ps) ps ≡ false
      from_i i p = any-nowhere origin (λ b. any (left (point ps i) b) ps) ps (λ j q. any-nowhere origin (left (point ps i) (point ps j)) ps (λ k r. straight-on i j k p q r))

  -- one turn is enough
  pub off_line_one : (a b i : ℕ) → a < length ps → b < length ps → i < length ps → turn (point ps a) (point ps b) (point ps i) ≢ pos 0 → on_one_line ps ≡ false
  off_line_one a b i p q r n = go (on_one_line ps) refl
    where
      go : (t : Bool) → on_one_line ps ≡ t → t ≡ false
      go true e = absurd (n (refused_line e a b i p q r))
      go false e = refl

-- no points are on one line
pub some_point : (ps : List Pt) → on_one_line ps ≡ false → 0 < length ps
unfolding on_one_line
some_point [] e = impossible (cc)
some_point (p ∷ ps) e = omega arith
