-- The root of a tree that stands is what all leaves give together, level by level, where giving together is associative.
use Prim.Native.Nat.{ℕ, zero, suc, ◌+◌, ◌*◌, ◌-◌, ◌^◌, ◌≤◌, ◌<◌}
use native.Mathlib.Omega.{arith}
use mathlib.Core.Path.{◌≡◌, refl, sym, ap, ◌∙◌}
use mathlib.Core.Bool.{Bool, true, false}
use native.Mathlib.Nat.{pow-suc}
use lib.Dec.{ltb}
use lib.Pow.{pow_pos}
use borrow.Author.Tests.{ltb-true, ltb-false}
use Rattle.winners.specs.Tree.{Right, Stands, together}

module _
    {A : Type 0} (join : A → A → A) (Good : A → Type 0) (good : (a b : A) → Good a → Good b → Good (join a b))
    (assoc : (a b c : A) → Good a → Good b → Good c → join (join a b) c ≡ join a (join b c)) where
  pub good_together : (t : ℕ → A) (i n : ℕ) → ((k : ℕ) → i ≤ k → k ≤ i + n → Good (t k)) → Good (together join t i n)
  good_together t i zero h = h i (omega arith) (omega arith)
  good_together t i (suc n) h = good _ _ (h i (omega arith) (omega arith)) (good_together t (suc i) n (λ k p q. h k (omega arith) (omega arith)))

  -- a level gives what the level below it gives
  level : (t : ℕ → A) (i n : ℕ) → ((k : ℕ) → i ≤ k → k ≤ i + n → Right join t k) → ((k : ℕ) → i * 2 ≤ k → k ≤ i * 2 + (n * 2 + 1) → Good (t k))
      → together join t i n ≡ together join t (i * 2) (n * 2 + 1)
  level t i zero r g =
      let e : i * 2 + 1 ≡ suc (i * 2) = omega arith in
      r i (omega arith) (omega arith) ∙ ap (λ (k : ℕ). join (t (i * 2)) (t k)) e
  level t i (suc n) r g =
      let e : i * 2 + 1 ≡ suc (i * 2) = omega arith in
      let s : suc n * 2 + 1 ≡ suc (suc (n * 2 + 1)) = omega arith in
      let w : suc i * 2 ≡ suc (suc (i * 2)) = omega arith in
      let rest = together join t (suc (suc (i * 2))) (n * 2 + 1) in
      ap (λ (x : A). join x (together join t (suc i) n)) (r i (omega arith) (omega arith) ∙ ap (λ (k : ℕ). join (t (i * 2)) (t k)) e)
      ∙ ap (λ (x : A). join (join (t (i * 2)) (t (suc (i * 2)))) x) (level t (suc i) n (λ k p q. r k (omega arith) (omega arith)) (λ k p q. g k (omega arith) (omega arith)) ∙ ap (λ (k : ℕ). together join t k (n * 2 + 1)) w)
      ∙ assoc (t (i * 2)) (t (suc (i * 2))) rest (g (i * 2) (omega arith) (omega arith)) (g (suc (i * 2)) (omega arith) (omega arith)) (good_together t (suc (suc (i * 2))) (n * 2 + 1) (λ k p q. g k (omega arith) (omega arith)))
      ∙ ap (together join t (i * 2)) (sym s)

  module _ (t : ℕ → A) (m : ℕ) (stands : Stands join t m) (leaves : (k : ℕ) → m ≤ k → k < m + m → Good (t k)) where
    good_node : (d k : ℕ) → 1 ≤ k → k < m + m → m + m ≤ k + d → Good (t k)
    good_node zero k p q r = absurd (omega arith)
    good_node (suc d) k p q r = go (ltb k m) refl (λ i a b c. good_node d i a b c)
      where
        go : (b : Bool) → ltb k m ≡ b → ((i : ℕ) → 1 ≤ i → i < m + m → m + m ≤ i + d → Good (t i)) → Good (t k)
        go true e rec =
            let l : k < m = ltb-true k m e in
            rw (stands.right k p l) (good _ _ (rec (k * 2) (omega arith) (omega arith) (omega arith)) (rec (k * 2 + 1) (omega arith) (omega arith) (omega arith)))
        go false e rec = leaves k (ltb-false k m e) q

    good_at : (k : ℕ) → 1 ≤ k → k < m + m → Good (t k)
    good_at k p q = good_node (m + m) k p q (omega arith)

    at_level : (j i : ℕ) → i ≡ 2 ^ j → i ≤ m → t 1 ≡ together join t i (i - 1)
    at_level zero i e h = let z : i ≡ 1 = e in rw z
    at_level (suc j) i e h =
        let p : 0 < 2 ^ j = pow_pos j in
        let s : i ≡ 2 ^ j * 2 = e ∙ pow-suc 2 j in
        let n : (2 ^ j - 1) * 2 + 1 ≡ 2 ^ j * 2 - 1 = omega arith in
        at_level j (2 ^ j) refl (omega arith)
        ∙ level t (2 ^ j) (2 ^ j - 1) (λ k a b. stands.right k (omega arith) (omega arith)) (λ k a b. good_at k (omega arith) (omega arith))
        ∙ ap (together join t (2 ^ j * 2)) n
        ∙ ap (λ (x : ℕ). together join t x (x - 1)) (sym s)

    -- the root, where the number of leaves is a power of two
    pub root_is : (h : ℕ) → m ≡ 2 ^ h → t 1 ≡ together join t m (m - 1)
    root_is h e = at_level h m e (omega arith)
