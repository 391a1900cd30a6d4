-- The ring solver over ℤ: an expression's normal form has its value, so two expressions with one normal form are equal at all values.
use mathlib.Core.Path.{◌≡◌, refl, sym, ◌∙◌, ap, ap₂, subst}
use mathlib.Core.List.{List, [], ◌∷◌}
use mathlib.Core.Bool.{Bool, true, false, not, cond}
use Prim.Native.Nat.{ℕ, zero, suc, compare, Ordering}
use lib.Dec.{T, leb, compare_is_eq, eqb→eq}
use lib.IntN.{ℤ, pos, negsuc, neg_ℤ, ◌+ℤ◌, ◌*ℤ◌, +ℤ_idl, +ℤ_idr, +ℤ_assoc, neg_ℤ-+ℤ, zero-*ℤ, *ℤ-zero}
use Rattle.algebra.specs.Poly.{Expr, var, con, ◌:+◌, ◌:-◌, ◌:*◌, neg, env, ⟦◌⟧, Mono, mono, ins, joined, times, after, cmp_vars, cmp, Poly, nil, term, front, place, insert, padd, scale, pmul, pneg, normal, vval, mval, pval}
use Rattle.algebra.specs.Reify.{Reify, expr, means}
use Rattle.algebra.proofs.Integers.{+ℤ-left-comm, *ℤ-distr-l, *ℤ-distr-r, *ℤ-assoc, *ℤ-left-comm, *ℤ-swap, negℤ_*ℤ, pos1_*ℤ, *ℤ-pos1}

-- ---- two monomials that compare equal are equal
after_eq : (o r : Ordering) → after o r ≡ Ordering.eq → (o ≡ Ordering.eq) × (r ≡ Ordering.eq)
after_eq Ordering.lt r e = absurd (subst (λ (o : Ordering). T (not (compare_is_eq o))) e tt)
after_eq Ordering.eq r e = (refl, e)
after_eq Ordering.gt r e = absurd (subst (λ (o : Ordering). T (not (compare_is_eq o))) e tt)

cmp_vars_eq : (m k : List ℕ) → cmp_vars m k ≡ Ordering.eq → m ≡ k
cmp_vars_eq [] [] e = refl
cmp_vars_eq [] (y ∷ ys) e = absurd (subst (λ (o : Ordering). T (not (compare_is_eq o))) e tt)
cmp_vars_eq (x ∷ xs) [] e = absurd (subst (λ (o : Ordering). T (not (compare_is_eq o))) e tt)
cmp_vars_eq (x ∷ xs) (y ∷ ys) e =
    let q = after_eq (compare x y) (cmp_vars xs ys) e in
    ap₂ ◌∷◌ (eqb→eq x y (subst (λ (o : Ordering). T (compare_is_eq o)) (sym q.0) tt)) (cmp_vars_eq xs ys q.1)

module _ (ρ : ℕ → ℤ) where
  cmp_eq : (m k : Mono) → cmp m k ≡ Ordering.eq → mval m ρ ≡ mval k ρ
  cmp_eq (mono c m) (mono d k) e = ap (λ (v : List ℕ). vval v ρ) (cmp_vars_eq m k (after_eq (compare c d) (cmp_vars m k) e).1)

  -- ---- monomials
  pick_val : (b : Bool) (x y : ℕ) (ys r : List ℕ) → vval r ρ ≡ ρ x *ℤ vval ys ρ → vval (cond b (x ∷ y ∷ ys) (y ∷ r)) ρ ≡ ρ x *ℤ (ρ y *ℤ vval ys ρ)
  pick_val true x y ys r e = refl
  pick_val false x y ys r e = rw e (*ℤ-left-comm (ρ y) (ρ x) (vval ys ρ))

  ins-val : (x : ℕ) (m : List ℕ) → vval (ins x m) ρ ≡ ρ x *ℤ vval m ρ
  ins-val x [] = refl
  ins-val x (y ∷ ys) = pick_val (leb x y) x y ys (ins x ys) (ins-val x ys)

  joined-val : (m k : List ℕ) → vval (joined m k) ρ ≡ vval m ρ *ℤ vval k ρ
  joined-val [] k = sym (pos1_*ℤ (vval k ρ))
  joined-val (x ∷ m) k = ins-val x (joined m k) ∙ ap (λ (z : ℤ). ρ x *ℤ z) (joined-val m k) ∙ sym (*ℤ-assoc (ρ x) (vval m ρ) (vval k ρ))

  times-val : (m k : Mono) → mval (times m k) ρ ≡ mval m ρ *ℤ mval k ρ
  times-val (mono c m) (mono d k) = joined-val m k

  -- ---- polynomials
  front-val : (c : ℤ) (m : Mono) (p : Poly) → pval (front c m p) ρ ≡ c *ℤ mval m ρ +ℤ pval p ρ
  front-val (pos zero) m p = sym (ap (λ (z : ℤ). z +ℤ pval p ρ) (zero-*ℤ (mval m ρ)) ∙ +ℤ_idl (pval p ρ))
  front-val (pos (suc n)) m p = refl
  front-val (negsuc n) m p = refl

  place-val : (o : Ordering) (c : ℤ) (m : Mono) (d : ℤ) (k : Mono) (p r : Poly) → (o ≡ Ordering.eq → mval m ρ ≡ mval k ρ) → pval r ρ ≡ c *ℤ mval m ρ +ℤ pval p ρ → pval (place o c m d k p r) ρ ≡ c *ℤ mval m ρ +ℤ (d *ℤ mval k ρ +ℤ pval p ρ)
  place-val Ordering.lt c m d k p r h e = refl
  place-val Ordering.eq c m d k p r h e = front-val (c +ℤ d) k p ∙ rw (h refl, *ℤ-distr-r c d (mval k ρ)) (+ℤ_assoc (c *ℤ mval k ρ) (d *ℤ mval k ρ) (pval p ρ))
  place-val Ordering.gt c m d k p r h e = rw e (+ℤ-left-comm (d *ℤ mval k ρ) (c *ℤ mval m ρ) (pval p ρ))

  insert-val : (c : ℤ) (m : Mono) (p : Poly) → pval (insert c m p) ρ ≡ c *ℤ mval m ρ +ℤ pval p ρ
  insert-val c m nil = refl
  insert-val c m (term d k p) = place-val (cmp m k) c m d k p (insert c m p) (cmp_eq m k) (insert-val c m p)

  padd-val : (p q : Poly) → pval (padd p q) ρ ≡ pval p ρ +ℤ pval q ρ
  padd-val nil q = sym (+ℤ_idl (pval q ρ))
  padd-val (term c m p) q = insert-val c m (padd p q) ∙ rw (padd-val p q) (sym (+ℤ_assoc (c *ℤ mval m ρ) (pval p ρ) (pval q ρ)))

  scale-val : (c : ℤ) (m : Mono) (p : Poly) → pval (scale c m p) ρ ≡ (c *ℤ mval m ρ) *ℤ pval p ρ
  scale-val c m nil = sym (*ℤ-zero (c *ℤ mval m ρ))
  scale-val c m (term d k p) = insert-val (c *ℤ d) (times m k) (scale c m p) ∙ rw (scale-val c m p, times-val m k, *ℤ-swap c d (mval m ρ) (mval k ρ)) (sym (*ℤ-distr-l (c *ℤ mval m ρ) (d *ℤ mval k ρ) (pval p ρ)))

  pmul-val : (p q : Poly) → pval (pmul p q) ρ ≡ pval p ρ *ℤ pval q ρ
  pmul-val nil q = sym (zero-*ℤ (pval q ρ))
  pmul-val (term c m p) q = padd-val (scale c m q) (pmul p q) ∙ rw (scale-val c m q, pmul-val p q) (sym (*ℤ-distr-r (c *ℤ mval m ρ) (pval p ρ) (pval q ρ)))

  pneg-val : (p : Poly) → pval (pneg p) ρ ≡ neg_ℤ (pval p ρ)
  pneg-val nil = refl
  pneg-val (term c m p) = rw (pneg-val p, negℤ_*ℤ c (mval m ρ)) (sym (neg_ℤ-+ℤ (c *ℤ mval m ρ) (pval p ρ)))

  normal-val : (e : Expr) → pval (normal e) ρ ≡ ⟦ e ⟧ ρ
  normal-val (var n) = +ℤ_idr (pos 1 *ℤ (ρ n *ℤ pos 1)) ∙ pos1_*ℤ (ρ n *ℤ pos 1) ∙ *ℤ-pos1 (ρ n)
  normal-val (con c) = front-val c (mono 0 []) nil ∙ +ℤ_idr (c *ℤ pos 1) ∙ *ℤ-pos1 c
  normal-val (a :+ b) = padd-val (normal a) (normal b) ∙ ap₂ ◌+ℤ◌ (normal-val a) (normal-val b)
  normal-val (a :- b) = padd-val (normal a) (pneg (normal b)) ∙ ap₂ ◌+ℤ◌ (normal-val a) (pneg-val (normal b) ∙ ap neg_ℤ (normal-val b))
  normal-val (a :* b) = pmul-val (normal a) (normal b) ∙ ap₂ ◌*ℤ◌ (normal-val a) (normal-val b)
  normal-val (neg a) = pneg-val (normal a) ∙ ap neg_ℤ (normal-val a)

-- two expressions with one normal form are equal at all values: `solve e f refl ρ`
pub solve : (e f : Expr) → normal e ≡ normal f → (ρ : ℕ → ℤ) → ⟦ e ⟧ ρ ≡ ⟦ f ⟧ ρ
solve e f h ρ = sym (normal-val ρ e) ∙ ap (λ (p : Poly). pval p ρ) h ∙ normal-val ρ f

-- the same over a list of values, with the expressions written: `ring_by (x ∷ y ∷ []) e f refl`
pub ring_by : (xs : List ℤ) (e f : Expr) → normal e ≡ normal f → ⟦ e ⟧ (env xs) ≡ ⟦ f ⟧ (env xs)
ring_by xs e f h = solve e f h (env xs)

-- and with the expressions found: `ring (x ∷ y ∷ []) (search reify depth 12) (search reify depth 12) refl`
pub ring : (xs : List ℤ) {a b : ℤ} (r : Reify xs a) (s : Reify xs b) → normal (expr r) ≡ normal (expr s) → a ≡ b
ring xs r s h = sym (means r) ∙ solve (expr r) (expr s) h (env xs) ∙ means s
