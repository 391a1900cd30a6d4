-- In whole numbers: a point on the line of an edge is on the edge where the dot product of the ways to its ends isn't above zero.
use Prim.Native.Nat.{ℕ, zero, suc, ◌*◌, ◌<◌}
use mathlib.Core.Path.{◌≡◌, refl, sym, ◌∙◌, ap, ap₂, subst}
use mathlib.Core.Bool.{Bool, true, false, not, ◌&&◌, ◌||◌, not-not}
use mathlib.Core.List.{[], ◌∷◌}
use native.Mathlib.Omega.{arith}
use native.Mathlib.Nat.{mul-pos, mul-zero, zero-mul}
use borrow.Author.Tests.{lt-ltb}
use lib.Dec.{leb-suc-zero}
use lib.IntN.{ℤ, pos, negsuc, neg_ℤ, ◌+ℤ◌, ◌-ℤ◌, ◌*ℤ◌, *ℤ_comm, zero-*ℤ}
use lib.Signed.{lt_z, le_z, ◌≤ℤ◌, ◌<ℤ◌}
use Rattle.algebra.specs.Reify.{reify}
use Rattle.algebra.proofs.Solve.{ring}
use Rattle.algebra.proofs.Order.{lin, at+, at-, lt_z_eq, le_z_not_lt_z, <ℤ→sub, sub→<ℤ, sub→≡ℤ, *ℤ-cancel-≤, square_nonneg}
use Rattle.rules.specs.Plane.{Pt, minus, turn, left, right}
use Rattle.rules.specs.Border.{between, in_box, on_edge}
use Rattle.rules.proofs.Turns.{turn_rotates}

-- ---- whole numbers: one is between two others where the product of the ways to them is not above zero

not-above : (k : ℕ) → lt_z (pos 0) (neg_ℤ (pos k)) ≡ false
not-above zero = refl
not-above (suc k) = refl

product_above : (x y : ℤ) → lt_z (pos 0) (x *ℤ y) ≡ ((lt_z (pos 0) x && lt_z (pos 0) y) || (lt_z x (pos 0) && lt_z y (pos 0)))
product_above (pos zero) (pos n) = rw (zero-mul n)
product_above (pos zero) (negsuc n) = not-above (0 * suc n)
product_above (pos (suc m)) (pos zero) = rw (mul-zero (suc m), lt-ltb 0 (suc m) (omega arith), leb-suc-zero (suc m))
product_above (pos (suc m)) (pos (suc n)) =
    let p : 0 < suc m = omega arith in
    let q : 0 < suc n = omega arith in
    rw (lt-ltb 0 (suc m * suc n) (mul-pos p q), lt-ltb 0 (suc m) p, lt-ltb 0 (suc n) q)
product_above (pos (suc m)) (negsuc n) = not-above (suc m * suc n) ∙ rw (lt-ltb 0 (suc m) (omega arith), leb-suc-zero (suc m))
product_above (negsuc m) (pos zero) = not-above (suc m * 0)
product_above (negsuc m) (pos (suc n)) = not-above (suc m * suc n) ∙ rw (leb-suc-zero (suc n))
product_above (negsuc m) (negsuc n) = let p : 0 < suc m = omega arith in let q : 0 < suc n = omega arith in lt-ltb 0 (suc m * suc n) (mul-pos p q)

from_below_lem : (a c : ℤ) → le_z a c ≡ not (lt_z (pos 0) (a -ℤ c))
from_below_lem a c = le_z_not_lt_z a c ∙ ap not (lt_z_eq {a = c} {b = a} {c = pos 0} {d = a -ℤ c} <ℤ→sub sub→<ℤ)

from-above : (a c : ℤ) → le_z c a ≡ not (lt_z (a -ℤ c) (pos 0))
from-above a c = le_z_not_lt_z c a ∙ ap not (lt_z_eq {a = a} {b = c} {c = a -ℤ c} {d = pos 0} (λ h. omega (lin, at- a c)) (λ h. omega (lin, at- a c)))

product_between : (a b c : ℤ) → lt_z (pos 0) ((a -ℤ c) *ℤ (b -ℤ c)) ≡ not (between a b c)
product_between a b c = rw (from_below_lem a c, from-above b c, from_below_lem b c, from-above a c) (product_above x y ∙ signs (lt_z (pos 0) x) refl (lt_z x (pos 0)) refl (lt_z (pos 0) y) refl (lt_z y (pos 0)) refl)
  where
    x : ℤ
    x = a -ℤ c

    y : ℤ
    y = b -ℤ c

    signs : (p : Bool) → lt_z (pos 0) x ≡ p → (n : Bool) → lt_z x (pos 0) ≡ n → (q : Bool) → lt_z (pos 0) y ≡ q → (m : Bool) → lt_z y (pos 0) ≡ m → ((p && q) || (n && m)) ≡ not ((not p && not m) || (not q && not n))
    signs true i true j q k m l = absurd (omega lin)
    signs true i false j true k m l = refl
    signs true i false j false k m l = refl
    signs false i n j true k true l = absurd (omega lin)
    signs false i true j true k false l = refl
    signs false i true j false k true l = refl
    signs false i true j false k false l = refl
    signs false i false j true k false l = refl
    signs false i false j false k m l = cases m
      where
        cases : (m : Bool) → false ≡ not ((true && not m) || (true && true))
        cases true = refl
        cases false = refl

-- ---- a point on the line of an edge is on the edge where the dot product of the ways to its ends isn't above zero

abbrev pub dot : Pt → Pt → ℤ
dot u v = u.x *ℤ v.x +ℤ u.y *ℤ v.y

-- where the products of the coordinates have no product below zero, their sum is above zero exactly if one of them is
sum-above : (x y : ℤ) → pos 0 ≤ℤ (x *ℤ y) → not (lt_z (pos 0) (x +ℤ y)) ≡ (not (lt_z (pos 0) x) && not (lt_z (pos 0) y))
sum-above x y h = go (lt_z (pos 0) x) refl (lt_z (pos 0) y) refl (lt_z (pos 0) (x +ℤ y)) refl
  where
    other : (x y : ℤ) → pos 0 <ℤ x → pos 0 ≤ℤ (x *ℤ y) → pos 0 ≤ℤ y
    other x y p h = *ℤ-cancel-≤ x p (rw (*ℤ_comm x (pos 0), zero-*ℤ x) h)

    go : (s : Bool) → lt_z (pos 0) x ≡ s → (t : Bool) → lt_z (pos 0) y ≡ t → (r : Bool) → lt_z (pos 0) (x +ℤ y) ≡ r → not r ≡ (not s && not t)
    go true i true j true k = refl
    go true i false j true k = refl
    go false i true j true k = refl
    go false i false j true k = absurd (omega (lin, at+ x y))
    go true i t j false k = let p : pos 0 <ℤ x = omega lin in let q = other x y p h in absurd (omega (lin, at+ x y))
    go false i true j false k = let p : pos 0 <ℤ y = omega lin in let q = other y x p (rw (*ℤ_comm y x) h) in absurd (omega (lin, at+ x y))
    go false i false j false k = refl

module _ (a b p : Pt) where
  abbrev u : Pt
  u = minus a p

  abbrev v : Pt
  v = minus b p

  -- the product of both is the square of one side of the turn's equation
  products : turn a b p ≡ pos 0 → pos 0 ≤ℤ ((u.x *ℤ v.x) *ℤ (u.y *ℤ v.y))
  products e =
      let same : u.x *ℤ v.y ≡ u.y *ℤ v.x = sub→≡ℤ (turn_rotates p a b ∙ e) in
      let square : (u.x *ℤ v.x) *ℤ (u.y *ℤ v.y) ≡ (u.x *ℤ v.y) *ℤ (u.x *ℤ v.y) = regroup u.x v.x u.y v.y ∙ ap (λ (z : ℤ). (u.x *ℤ v.y) *ℤ z) (sym same) in
      subst (λ (z : ℤ). pos 0 ≤ℤ z) (sym square) (square_nonneg (u.x *ℤ v.y))
    where
      regroup : (a b c d : ℤ) → (a *ℤ b) *ℤ (c *ℤ d) ≡ (a *ℤ d) *ℤ (c *ℤ b)
      regroup a b c d = ring (a ∷ b ∷ c ∷ d ∷ []) (search reify depth 12) (search reify depth 12) refl

  pub on_edge_by_dot : ((le_z (turn a b p) (pos 0) && le_z (pos 0) (turn a b p)) && not (lt_z (pos 0) (dot u v))) ≡ on_edge p a b
  on_edge_by_dot =
      rw (le_z_not_lt_z (turn a b p) (pos 0), le_z_not_lt_z (pos 0) (turn a b p)) (go (left a b p) refl (right a b p) refl)
    where
      boxed : turn a b p ≡ pos 0 → not (lt_z (pos 0) (dot u v)) ≡ in_box a b p
      boxed e =
          sum-above (u.x *ℤ v.x) (u.y *ℤ v.y) (products e)
          ∙ ap₂ (λ (s t : Bool). not s && not t) (product_between a.x b.x p.x) (product_between a.y b.y p.y)
          ∙ ap₂ ◌&&◌ (not-not (between a.x b.x p.x)) (not-not (between a.y b.y p.y))

      go : (l : Bool) → left a b p ≡ l → (r : Bool) → right a b p ≡ r → ((not l && not r) && not (lt_z (pos 0) (dot u v))) ≡ (not (l || r) && in_box a b p)
      go true i r j = refl
      go false i true j = refl
      go false i false j = boxed (omega lin)
