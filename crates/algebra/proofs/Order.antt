-- The order of ℤ. `up` and `dn` carry a fact of integers to one of naturals, which `omega` reads, and back.
use mathlib.Core.Path.{◌≡◌, refl, sym, ap, subst}
use mathlib.Core.Logic.{◌⊎◌, inl, inr}
use mathlib.Core.Bool.{Bool, true, false, not, cond}
use Prim.Native.Nat.{ℕ, zero, suc, ◌+◌, ◌-◌, ◌≤◌, ◌<◌}
use native.Mathlib.Omega.{arith}
use native.Mathlib.Nat.{mul-pos}
use lib.Dec.{T, ltb, ltb→lt, leb→le, nltb→le, nleb→lt, le→leb, lt→ltb, not_T}
use lib.IntN.{ℤ, pos, negsuc, neg_ℤ, sub_ℕ, ◌+ℤ◌, ◌-ℤ◌, ◌*ℤ◌}
use lib.Signed.{lt_z, le_z, ◌≤ℤ◌, ◌<ℤ◌, lt_z_no}
use Rattle.algebra.specs.Parts.{up, dn}
use Rattle.algebra.proofs.Integers.{*ℤ-sub-l}

-- ---- to the naturals, and back: rules for `omega`

pub ≤ℤ→ : {a b : ℤ} → a ≤ℤ b → up a + dn b ≤ up b + dn a
≤ℤ→ {a = pos a} {b = pos b} h = omega (arith, leb→le a b h.le)
≤ℤ→ {a = pos a} {b = negsuc b} h = absurd h.le
≤ℤ→ {a = negsuc a} {b = pos b} h = omega arith
≤ℤ→ {a = negsuc a} {b = negsuc b} h = omega (arith, leb→le b a h.le)

pub →≤ℤ : {a b : ℤ} → up a + dn b ≤ up b + dn a → a ≤ℤ b
→≤ℤ {a = pos a} {b = pos b} h = record { le = le→leb a b (omega arith) }
→≤ℤ {a = pos a} {b = negsuc b} h = absurd (omega arith)
→≤ℤ {a = negsuc a} {b = pos b} h = record { le = tt }
→≤ℤ {a = negsuc a} {b = negsuc b} h = record { le = le→leb b a (omega arith) }

pub <ℤ→ : {a b : ℤ} → a <ℤ b → up a + dn b < up b + dn a
<ℤ→ {a = pos a} {b = pos b} h = omega (arith, ltb→lt a b h.lt)
<ℤ→ {a = pos a} {b = negsuc b} h = absurd h.lt
<ℤ→ {a = negsuc a} {b = pos b} h = omega arith
<ℤ→ {a = negsuc a} {b = negsuc b} h = omega (arith, ltb→lt b a h.lt)

pub →<ℤ : {a b : ℤ} → up a + dn b < up b + dn a → a <ℤ b
→<ℤ {a = pos a} {b = pos b} h = record { lt = lt→ltb a b (omega arith) }
→<ℤ {a = pos a} {b = negsuc b} h = absurd (omega arith)
→<ℤ {a = negsuc a} {b = pos b} h = record { lt = tt }
→<ℤ {a = negsuc a} {b = negsuc b} h = record { lt = lt→ltb b a (omega arith) }

pub ≡ℤ→ : {a b : ℤ} → a ≡ b → up a + dn b ≡ up b + dn a
≡ℤ→ {a} e = rw (← e)

pub →≡ℤ : {a b : ℤ} → up a + dn b ≡ up b + dn a → a ≡ b
→≡ℤ {a = pos a} {b = pos b} h = ap pos (omega arith)
→≡ℤ {a = pos a} {b = negsuc b} h = absurd (omega arith)
→≡ℤ {a = negsuc a} {b = pos b} h = absurd (omega arith)
→≡ℤ {a = negsuc a} {b = negsuc b} h = ap negsuc (omega arith)

-- what `up` and `dn` are at a sum, a difference and a negation: facts for `omega`'s list
at-sub : (a b : ℕ) → up (sub_ℕ a b) + b ≡ a + dn (sub_ℕ a b)
at-sub a b = go (ltb a b) (ltb→lt a b) (nltb→le a b)
  where
    go : (c : Bool) → (T c → a < b) → (T (not c) → b ≤ a) → up (cond c (negsuc (b - suc a)) (pos (a - b))) + b ≡ a + dn (cond c (negsuc (b - suc a)) (pos (a - b)))
    go true f g = omega (arith, f tt)
    go false f g = omega (arith, g tt)

pub at+ : (a b : ℤ) → up (a +ℤ b) + (dn a + dn b) ≡ up a + up b + dn (a +ℤ b)
at+ (pos a) (pos b) = omega arith
at+ (pos a) (negsuc b) = omega (arith, at-sub a (suc b))
at+ (negsuc a) (pos b) = omega (arith, at-sub b (suc a))
at+ (negsuc a) (negsuc b) = omega arith

pub up_neg : (a : ℤ) → up (neg_ℤ a) ≡ dn a
up_neg (pos zero) = refl
up_neg (pos (suc n)) = refl
up_neg (negsuc n) = refl

pub dn_neg : (a : ℤ) → dn (neg_ℤ a) ≡ up a
dn_neg (pos zero) = refl
dn_neg (pos (suc n)) = refl
dn_neg (negsuc n) = refl

pub neg_zero : (a : ℤ) → neg_ℤ a ≡ pos 0 → a ≡ pos 0
neg_zero a e = →≡ℤ (omega (arith, ≡ℤ→ e, up_neg a, dn_neg a))

pub at- : (a b : ℤ) → up (a -ℤ b) + (dn a + up b) ≡ up a + dn b + dn (a -ℤ b)
at- a b = omega (arith, at+ a (neg_ℤ b), up_neg b, dn_neg b)

-- one of the two parts is zero
pub up_or_dn : (a : ℤ) → (up a ≡ 0) ⊎ (dn a ≡ 0)
up_or_dn (pos n) = inr refl
up_or_dn (negsuc n) = inl refl

-- the tests of the order, as a condition of the code leaves them: passed or failed, as a type or as an equation of the flag
T_true : (b : Bool) → b ≡ true → T b
T_true b e = subst T (sym e) tt

T_false : (b : Bool) → b ≡ false → T (not b)
T_false true e = absurd (subst T e tt)
T_false false e = tt

nlt→ : (a b : ℤ) → T (not (lt_z a b)) → b ≤ℤ a
nlt→ a b t = lt_z_no t

nle→ : (a b : ℤ) → T (not (le_z a b)) → b <ℤ a
nle→ (pos a) (pos b) t = record { lt = lt→ltb b a (nleb→lt a b t) }
nle→ (pos a) (negsuc b) t = record { lt = tt }
nle→ (negsuc a) (pos b) t = absurd t
nle→ (negsuc a) (negsuc b) t = record { lt = lt→ltb a b (nleb→lt b a t) }

pub lt_z→ : (a b : ℤ) → T (lt_z a b) → up a + dn b < up b + dn a
lt_z→ a b t = <ℤ→ {a = a} {b = b} (record { lt = t })

pub le_z→ : (a b : ℤ) → T (le_z a b) → up a + dn b ≤ up b + dn a
le_z→ a b t = ≤ℤ→ {a = a} {b = b} (record { le = t })

pub nlt_z→ : (a b : ℤ) → T (not (lt_z a b)) → up b + dn a ≤ up a + dn b
nlt_z→ a b t = ≤ℤ→ (nlt→ a b t)

pub nle_z→ : (a b : ℤ) → T (not (le_z a b)) → up b + dn a < up a + dn b
nle_z→ a b t = <ℤ→ (nle→ a b t)

pub lt_z_true→ : (a b : ℤ) → lt_z a b ≡ true → up a + dn b < up b + dn a
lt_z_true→ a b e = lt_z→ a b (T_true (lt_z a b) e)

pub le_z_true→ : (a b : ℤ) → le_z a b ≡ true → up a + dn b ≤ up b + dn a
le_z_true→ a b e = le_z→ a b (T_true (le_z a b) e)

pub lt_z_false→ : (a b : ℤ) → lt_z a b ≡ false → up b + dn a ≤ up a + dn b
lt_z_false→ a b e = nlt_z→ a b (T_false (lt_z a b) e)

pub le_z_false→ : (a b : ℤ) → le_z a b ≡ false → up b + dn a < up a + dn b
le_z_false→ a b e = nle_z→ a b (T_false (le_z a b) e)

-- `omega lin` proves an order or an equation between integers from those in scope. Each sum, difference and negation that it has to see through is listed:
-- `omega (lin, at+ a c, at- b d)`. It proves a `⊥` or an order of naturals from integers too
pub ruleset lin = (arith, ≤ℤ→, →≤ℤ, <ℤ→, →<ℤ, ≡ℤ→, →≡ℤ, lt_z→, le_z→, nlt_z→, nle_z→, lt_z_true→, le_z_true→, lt_z_false→, le_z_false→)

-- ---- laws of the order

pub ≤ℤ-trans : {a b c : ℤ} → a ≤ℤ b → b ≤ℤ c → a ≤ℤ c
≤ℤ-trans h k = omega lin

pub <ℤ→≤ℤ : {a b : ℤ} → a <ℤ b → a ≤ℤ b
<ℤ→≤ℤ h = omega lin

pub ≤ℤ-antisym : {a b : ℤ} → a ≤ℤ b → b ≤ℤ a → a ≡ b
≤ℤ-antisym h k = omega lin

pub ≡→≤ℤ : {a b : ℤ} → a ≡ b → a ≤ℤ b
≡→≤ℤ e = omega lin

¬<ℤ→≤ℤ : {a b : ℤ} → ¬ (a <ℤ b) → b ≤ℤ a
¬<ℤ→≤ℤ {a} {b} n = lt_z_no (not_T (lt_z a b) (λ t. n (record { lt = t })))

pub ≤ℤ→¬<ℤ : {a b : ℤ} → a ≤ℤ b → ¬ (b <ℤ a)
≤ℤ→¬<ℤ h k = omega lin

-- ---- the tests

no_lt_z : {a b : ℤ} → b ≤ℤ a → T (not (lt_z a b))
no_lt_z {a} {b} h = not_T (lt_z a b) (λ t. ≤ℤ→¬<ℤ h (record { lt = t }))

bool_eq : (b c : Bool) → (T b → T c) → (T c → T b) → b ≡ c
bool_eq true true f g = refl
bool_eq true false f g = absurd (f tt)
bool_eq false true f g = absurd (g tt)
bool_eq false false f g = refl

pub le_z_not_lt_z : (a b : ℤ) → le_z a b ≡ not (lt_z b a)
le_z_not_lt_z a b = bool_eq (le_z a b) (not (lt_z b a)) (λ t. no_lt_z {a = b} {b = a} (record { le = t })) (λ t. (lt_z_no {a = b} {b = a} t).le)

pub lt_z_eq : {a b c d : ℤ} → (a <ℤ b → c <ℤ d) → (c <ℤ d → a <ℤ b) → lt_z a b ≡ lt_z c d
lt_z_eq {a} {b} {c} {d} f g = bool_eq (lt_z a b) (lt_z c d) (λ t. (f (record { lt = t })).lt) (λ t. (g (record { lt = t })).lt)

-- ---- decisions: three ways, two ways

pub triℤ : (a b : ℤ) → (a <ℤ b) ⊎ ((a ≡ b) ⊎ (b <ℤ a))
triℤ a b = go (lt_z a b) (λ t. record { lt = t }) (λ t. lt_z_no t) (lt_z b a) (λ t. record { lt = t }) (λ t. lt_z_no t)
  where
    go : (c : Bool) → (T c → a <ℤ b) → (T (not c) → b ≤ℤ a) → (d : Bool) → (T d → b <ℤ a) → (T (not d) → a ≤ℤ b) → (a <ℤ b) ⊎ ((a ≡ b) ⊎ (b <ℤ a))
    go true f g d p q = inl (f tt)
    go false f g true p q = inr (inr (p tt))
    go false f g false p q = inr (inl (≤ℤ-antisym (q tt) (g tt)))

pub lt_or_leℤ : (a b : ℤ) → (a <ℤ b) ⊎ (b ≤ℤ a)
lt_or_leℤ a b = go (lt_z a b) (λ t. record { lt = t }) (λ t. lt_z_no t)
  where
    go : (c : Bool) → (T c → a <ℤ b) → (T (not c) → b ≤ℤ a) → (a <ℤ b) ⊎ (b ≤ℤ a)
    go true f g = inl (f tt)
    go false f g = inr (g tt)

-- ---- differences

pub ≤ℤ→sub : {a b : ℤ} → a ≤ℤ b → pos 0 ≤ℤ (b -ℤ a)
≤ℤ→sub {a} {b} h = omega (lin, at- b a)

sub→≤ℤ : {a b : ℤ} → pos 0 ≤ℤ (b -ℤ a) → a ≤ℤ b
sub→≤ℤ {a} {b} h = omega (lin, at- b a)

pub <ℤ→sub : {a b : ℤ} → a <ℤ b → pos 0 <ℤ (b -ℤ a)
<ℤ→sub {a} {b} h = omega (lin, at- b a)

pub sub→<ℤ : {a b : ℤ} → pos 0 <ℤ (b -ℤ a) → a <ℤ b
sub→<ℤ {a} {b} h = omega (lin, at- b a)

pub sub→≡ℤ : {a b : ℤ} → a -ℤ b ≡ pos 0 → a ≡ b
sub→≡ℤ {a} {b} e = omega (lin, at- a b)

-- ---- products

pub prod_nonneg : {a b : ℤ} → pos 0 ≤ℤ a → pos 0 ≤ℤ b → pos 0 ≤ℤ (a *ℤ b)
prod_nonneg {a = pos a} {b = pos b} h k = omega lin
prod_nonneg {a = pos a} {b = negsuc b} h k = absurd k.le
prod_nonneg {a = negsuc a} {b} h k = absurd h.le

pub prod_pos : {a b : ℤ} → pos 0 <ℤ a → pos 0 <ℤ b → pos 0 <ℤ (a *ℤ b)
prod_pos {a = pos a} {b = pos b} h k = let p : 0 < a = omega lin in let q : 0 < b = omega lin in omega (lin, mul-pos p q)
prod_pos {a = pos a} {b = negsuc b} h k = absurd k.lt
prod_pos {a = negsuc a} {b} h k = absurd h.lt

-- a factor that is not negative keeps ≤, a positive one keeps <
pub *ℤ-mono : {a b : ℤ} (c : ℤ) → pos 0 ≤ℤ c → a ≤ℤ b → (c *ℤ a) ≤ℤ (c *ℤ b)
*ℤ-mono {a} {b} c h k = sub→≤ℤ (rw (← *ℤ-sub-l c b a) (prod_nonneg h (≤ℤ→sub k)))

*ℤ-mono-< : {a b : ℤ} (c : ℤ) → pos 0 <ℤ c → a <ℤ b → (c *ℤ a) <ℤ (c *ℤ b)
*ℤ-mono-< {a} {b} c h k = sub→<ℤ (rw (← *ℤ-sub-l c b a) (prod_pos h (<ℤ→sub k)))

pub *ℤ-cancel-≤ : (c : ℤ) {a b : ℤ} → pos 0 <ℤ c → (c *ℤ a) ≤ℤ (c *ℤ b) → a ≤ℤ b
*ℤ-cancel-≤ c {a} {b} h k = ¬<ℤ→≤ℤ (λ l. ≤ℤ→¬<ℤ k (*ℤ-mono-< c h l))

pub *ℤ-cancel-< : (c : ℤ) {a b : ℤ} → pos 0 ≤ℤ c → (c *ℤ a) <ℤ (c *ℤ b) → a <ℤ b
*ℤ-cancel-< c {a} {b} h k = go (lt_or_leℤ a b)
  where
    go : (a <ℤ b) ⊎ (b ≤ℤ a) → a <ℤ b
    go (inl l) = l
    go (inr l) = absurd (≤ℤ→¬<ℤ (*ℤ-mono c h l) k)

pub square_nonneg : (a : ℤ) → pos 0 ≤ℤ (a *ℤ a)
square_nonneg (pos a) = omega lin
square_nonneg (negsuc a) = omega lin
