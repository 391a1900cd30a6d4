-- Tests as equations of their flag: equality of naturals, conjunction, disjunction and negation.
use Prim.Native.Nat.{ℕ}
use mathlib.Core.Path.{◌≡◌, refl, sym, subst}
use mathlib.Core.Logic.{◌≢◌}
use mathlib.Core.Bool.{Bool, true, false, not, ◌&&◌, ◌||◌}
use native.Mathlib.Omega.{arith}
use lib.Dec.{T, eqb, eqb→eq, eqb_refl}

-- two constructors are never equal: `impossible (cc)` where a hypothesis says that they are
pub impossible : {X : Type 0} → ◌≡◌ {A = ℕ} 0 1 → X
impossible e = absurd (omega arith)

pub T→true : (b : Bool) → T b → b ≡ true
T→true true t = refl
T→true false t = absurd t

pub eqb_same : (n : ℕ) → eqb n n ≡ true
eqb_same n = T→true (eqb n n) (eqb_refl n)

pub eqb-true : (m n : ℕ) → eqb m n ≡ true → m ≡ n
eqb-true m n e = eqb→eq m n (subst T (sym e) tt)

pub eqb-other : (m n : ℕ) → m ≢ n → eqb m n ≡ false
eqb-other m n d = go (eqb m n) refl
  where
    go : (b : Bool) → eqb m n ≡ b → b ≡ false
    go true e = absurd (d (eqb-true m n e))
    go false e = refl

pub and_true_l : (a b : Bool) → (a && b) ≡ true → a ≡ true
and_true_l true b e = refl
and_true_l false b e = e

pub and_true_r : (a b : Bool) → (a && b) ≡ true → b ≡ true
and_true_r true b e = e
and_true_r false b e = impossible (cc)

pub not-true : (a : Bool) → not a ≡ true → a ≡ false
not-true true e = sym e
not-true false e = refl

pub not-false : (a : Bool) → not a ≡ false → a ≡ true
not-false true e = refl
not-false false e = sym e

pub or-false : (a b : Bool) → (a || b) ≡ false → (a ≡ false) × (b ≡ false)
or-false true b e = impossible (cc)
or-false false b e = (refl, e)

-- where u rules t out, it need not be asked
pub and_only : (t u : Bool) → (u ≡ true → t ≡ false) → u ≡ (not t && u)
and_only true true h = h refl
and_only true false h = refl
and_only false u h = refl
