-- Every edge of an outline is an edge, in its direction, of some ring of any list that keeps the sums along edges: of its triangles, and of the areas
-- that these are merged into. The sum that shows it counts the edge, less its reverse.
use Prim.Native.Nat.{ℕ, zero, suc, ◌+◌, ◌≤◌}
use mathlib.Core.Path.{◌≡◌, refl, sym, subst}
use mathlib.Core.Logic.{◌⊎◌, inl, inr}
use mathlib.Core.Bool.{Bool, true, false, ◌&&◌}
use mathlib.Core.List.Memᴰ
use mathlib.Core.List.{List, [], ◌∷◌, ◌++◌, Memᴰ}
use native.Mathlib.Omega.{arith}
use lib.Dec.{eqb}
use lib.IntN.{ℤ, pos, ◌+ℤ◌, ◌-ℤ◌}
use lib.Signed.{◌≤ℤ◌, ◌<ℤ◌}
use Rattle.algebra.specs.Lists.{Each, end, ◌&◌, any, count_from}
use Rattle.algebra.proofs.Lists.{each_imp, each_both, each_member, none_passes, any_found}
use Rattle.algebra.proofs.Equal.{eqb_same, eqb-true, and_true_l, and_true_r}
use Rattle.algebra.proofs.Order.{lin, at+}
use Rattle.algebra.specs.Sums.{total, integers}
use Rattle.algebra.specs.Rings.{Edge, steps, edges, around}

-- ---- what an edge counts

abbrev is : Edge ℕ → ℕ → ℕ → Bool
is e a b = eqb e.from a && eqb e.to b

abbrev one : Bool → ℤ
one true = pos 1
one false = pos 0

-- 1 for the edge itself, -1 for its reverse, 0 for every other
unfoldable pub counted : Edge ℕ → ℕ → ℕ → ℤ
counted e a b = one (is e a b) -ℤ one (is e b a)

pub counted_back : (e : Edge ℕ) (a b : ℕ) → counted e a b +ℤ counted e b a ≡ pos 0
unfolding counted
counted_back e a b = go (is e a b) (is e b a)
  where
    go : (s t : Bool) → (one s -ℤ one t) +ℤ (one t -ℤ one s) ≡ pos 0
    go true true = refl
    go true false = refl
    go false true = refl
    go false false = refl

is_from : (e : Edge ℕ) (a b : ℕ) → is e a b ≡ true → e.from ≡ a
is_from e a b h = eqb-true e.from a (and_true_l (eqb e.from a) (eqb e.to b) h)

is_to : (e : Edge ℕ) (a b : ℕ) → is e a b ≡ true → e.to ≡ b
is_to e a b h = eqb-true e.to b (and_true_r (eqb e.from a) (eqb e.to b) h)

module _ (e : Edge ℕ) (a b : ℕ) where
  another : is e a b ≡ false → counted e a b ≤ℤ pos 0
  unfolding counted
  another h = rw h (go (is e b a))
    where
      go : (t : Bool) → (pos 0 -ℤ one t) ≤ℤ pos 0
      go true = record { le = tt }
      go false = record { le = tt }

  no-reverse : is e b a ≡ false → pos 0 ≤ℤ counted e a b
  unfolding counted
  no-reverse h = rw h (go (is e a b))
    where
      go : (t : Bool) → pos 0 ≤ℤ (one t -ℤ pos 0)
      go true = record { le = tt }
      go false = record { le = tt }

  itself : is e a b ≡ true → is e b a ≡ false → pos 0 <ℤ counted e a b
  unfolding counted
  itself h k = rw (h, k) (record { lt = tt })

-- ---- sums of what is not above zero, and of what is not below

module _ {A : Type 0} (f : A → ℤ) where
  at_most : {l : List A} → Each (λ a. f a ≤ℤ pos 0) l → total integers f l ≤ℤ pos 0
  at_most end = record { le = tt }
  at_most (◌&◌ {a} {l} h k) = let m = at_most k in omega (lin, at+ (f a) (total integers f l))

  at_least : {l : List A} → Each (λ a. pos 0 ≤ℤ f a) l → pos 0 ≤ℤ total integers f l
  at_least end = record { le = tt }
  at_least (◌&◌ {a} {l} h k) = let m = at_least k in omega (lin, at+ (f a) (total integers f l))

  above : {l : List A} {b : A} → Each (λ a. pos 0 ≤ℤ f a) l → Memᴰ b l → pos 0 <ℤ f b → pos 0 <ℤ total integers f l
  above end m p = absurd (Memᴰ.not-nil m)
  above {b} (◌&◌ {a} {l} h k) m p = go (above k) (Memᴰ.cases_cons m)
    where
      go : (Memᴰ b l → pos 0 <ℤ f b → pos 0 <ℤ total integers f l) → (b ≡ a) ⊎ Memᴰ b l → pos 0 <ℤ total integers f (a ∷ l)
      go rec (inl i) = let q : pos 0 <ℤ f a = subst (λ (a : A). pos 0 <ℤ f a) i p in let r = at_least k in omega (lin, at+ (f a) (total integers f l))
      go rec (inr j) = let q = rec j p in omega (lin, at+ (f a) (total integers f l))

-- ---- the edges of an outline of n corners by their numbers: from each to the next, and from the last to 0

Follows : ℕ → Edge ℕ → Type 0
Follows n e = (e.to ≡ suc e.from) ⊎ ((suc e.from ≡ n) × (e.to ≡ 0))

steps-follow : (i m : ℕ) → Each (Follows (suc (i + m))) (steps i (count_from (suc i) m ++ 0 ∷ []))
unfolding Follows
steps-follow i zero = let last : suc i ≡ suc (i + 0) = omega arith in inr (last, refl) & end
steps-follow i (suc m) =
    let n : suc (suc i + m) ≡ suc (i + suc m) = omega arith in
    inl refl & subst (λ (n : ℕ). Each (Follows n) (steps (suc i) (count_from (suc (suc i)) m ++ 0 ∷ []))) n (steps-follow (suc i) m)

outline_follows : (n : ℕ) → Each (Follows n) (edges (count_from 0 n))
outline_follows zero = end
outline_follows (suc n) = let e : suc (0 + n) ≡ suc n = omega arith in subst (λ (n' : ℕ). Each (Follows n') (edges (count_from 0 (suc n)))) e (steps-follow 0 n)

-- of three corners or more none is the reverse of another
not-reverse : (n : ℕ) → 3 ≤ n → (e d : Edge ℕ) → Follows n e → Follows n d → is e d.to d.from ≡ false
unfolding Follows
not-reverse n three e d f g = go (is e d.to d.from) refl f g
  where
    go : (t : Bool) → is e d.to d.from ≡ t → Follows n e → Follows n d → is e d.to d.from ≡ false
    go false i f g = i
    go true i (inl f) (inl g) = absurd (omega (arith, is_from e d.to d.from i, is_to e d.to d.from i))
    go true i (inl f) (inr (g, h)) = absurd (omega (arith, is_from e d.to d.from i, is_to e d.to d.from i))
    go true i (inr (f, h)) (inl g) = absurd (omega (arith, is_from e d.to d.from i, is_to e d.to d.from i))
    go true i (inr (f, h)) (inr (g, k)) = absurd (omega (arith, is_from e d.to d.from i, is_to e d.to d.from i))

-- ---- the theorem

-- some ring of the list has the edge
abbrev pub EdgeOf : List (List ℕ) → Edge ℕ → Type 0
EdgeOf rings e = (t : List ℕ) × Memᴰ t rings × Memᴰ e (edges t)

abbrev has : Edge ℕ → List ℕ → Bool
has e t = any (λ d. is e d.from d.to) (edges t)

-- where an edge is counted above zero, some ring has it
some_ring : (e : Edge ℕ) (rings : List (List ℕ)) → pos 0 <ℤ total integers (around integers (counted e)) rings → EdgeOf rings e
some_ring e rings p = go (any (has e) rings) refl
  where
    go : (b : Bool) → any (has e) rings ≡ b → EdgeOf rings e
    go true i =
        let (t, m, h) = any_found (has e) rings i in
        let (d, k, same) = any_found (λ d. is e d.from d.to) (edges t) h in
        let q : d ≡ e = λ j. record { from = sym (is_from e d.from d.to same) j; to = sym (is_to e d.from d.to same) j } in
        (t, m, subst (λ (d : Edge ℕ). Memᴰ d (edges t)) q k)
    go false i =
        let most = at_most (around integers (counted e)) (each_imp (λ t h. at_most (λ d. counted e d.from d.to) (each_imp (λ d k. another e d.from d.to k) (none_passes (λ d. is e d.from d.to) (edges t) h))) (none_passes (has e) rings i)) in
        absurd (omega lin)

pub kept_edges :
    (n : ℕ) → 3 ≤ n → (rings : List (List ℕ)) → ((e : Edge ℕ) → around integers (counted e) (count_from 0 n) ≡ total integers (around integers (counted e)) rings)
    → Each (EdgeOf rings) (edges (count_from 0 n))
kept_edges n three rings kept = each_imp one_edge (each_both (each_member (edges (count_from 0 n))) (outline_follows n))
  where
    one_edge : (e : Edge ℕ) → Memᴰ e (edges (count_from 0 n)) × Follows n e → EdgeOf rings e
    one_edge e (m, f) =
        let none = each_imp (λ d g. no-reverse e d.from d.to (not-reverse n three e d f g)) (outline_follows n) in
        let here = itself e e.from e.to (rw (eqb_same e.from, eqb_same e.to)) (not-reverse n three e e f f) in
        some_ring e rings (subst (λ (z : ℤ). pos 0 <ℤ z) (kept e) (above (λ d. counted e d.from d.to) none m here))
