-- Which results are an integer's own float, `of_int f z`, bit for bit, and not only that integer in value: all but a -0.
use mathlib.Core.Path.{◌≡◌, refl, ap, ◌∙◌}
use Prim.Native.Nat.{ℕ, ◌*◌, ◌^◌, ◌≤◌}
use native.Mathlib.Omega.{arith}
use mathlib.Core.Logic.{◌⊎◌, inl, inr}
use mathlib.Core.Bool.{Bool, true, false, false≢true}
use lib.IntN.{ℤ, pos, negsuc, neg_ℤ, nat_abs, ◌+ℤ◌, ◌-ℤ◌, ◌*ℤ◌, +ℤ_idr}
use lib.Ieee.{Float, fin, Format, prec, unlike, round, sum, add, sub, neg, mul, of_int}
use Rattle.rules.specs.Grid.{signed}
use Rattle.grid.proofs.Value.{Is, add_at, mul_at, of_int_is, neg_is, sum_of_int, BothNeg0, signed_mul}

-- a sum is, unless both are -0
add_canon : (f : Format) (x y : Float) (a b : ℤ) (i : Is x a) (j : Is y b) → (BothNeg0 i.s i.n j.s j.n → ⊥) → add f x y ≡ of_int f (a +ℤ b)
add_canon f x y a b i j no0 = go (sum_of_int f i.s j.s i.n j.n)
  where
    go : (sum f i.s i.n j.s j.n 1 ≡ of_int f (signed i.s i.n +ℤ signed j.s j.n)) ⊎ BothNeg0 i.s i.n j.s j.n → add f x y ≡ of_int f (a +ℤ b)
    go (inl e) = add_at f x y i.s j.s i.n j.n i.value j.value ∙ e ∙ cc (i.whole, j.whole)
    go (inr z) = absurd (no0 z)

-- x + 0.0 takes -0 to +0, and nothing else
pub add_zero_canon : (f : Format) {x : Float} {a : ℤ} → Is x a → add f x (fin false 0 (pos 0)) ≡ of_int f a
add_zero_canon f {x} {a} i =
    add_canon f x (fin false 0 (pos 0)) a (pos 0) i (record { s = false; n = 0; value = (refl, refl); whole = refl }) (λ z. false≢true z.2)
    ∙ ap (of_int f) (+ℤ_idr a)

-- an integer's own float is no -0
no_neg0 : (f : Format) (a : ℤ) (h : nat_abs a ≤ 2 ^ prec f) → (of_int_is f a h).s ≡ true → (of_int_is f a h).n ≡ 0 → ⊥
unfolding of_int_is
no_neg0 f (pos n) h e z = false≢true e
no_neg0 f (negsuc n) h e z = omega arith

-- so a difference is one where what is taken from is
pub sub_canon : (f : Format) (a : ℤ) {y : Float} {b : ℤ} → nat_abs a ≤ 2 ^ prec f → Is y b → sub f (of_int f a) y ≡ of_int f (a -ℤ b)
unfolding sub
sub_canon f a {y} {b} h j = add_canon f (of_int f a) (neg y) a (neg_ℤ b) (of_int_is f a h) (neg_is y b j) (λ z. no_neg0 f a h z.0 z.1)

pub add_of_int : (f : Format) (a b : ℤ) → nat_abs a ≤ 2 ^ prec f → nat_abs b ≤ 2 ^ prec f → add f (of_int f a) (of_int f b) ≡ of_int f (a +ℤ b)
add_of_int f a b h k = add_canon f (of_int f a) (of_int f b) a b (of_int_is f a h) (of_int_is f b k) (λ z. no_neg0 f a h z.0 z.1)

-- a square is, and so is a sum of two
square : (f : Format) (s : Bool) (n : ℕ) → round f (unlike s s) (n * n) 1 ≡ of_int f (signed (unlike s s) (n * n))
unfolding of_int
square f false n = refl
square f true n = refl

pub mul_self : (f : Format) {x : Float} {a : ℤ} → Is x a → mul f x x ≡ of_int f (a *ℤ a)
mul_self f {x} {a} i =
    mul_at f x x i.s i.s i.n i.n i.value i.value ∙ square f i.s i.n ∙ ap (of_int f) (signed_mul i.s i.s i.n i.n ∙ cc i.whole)

pub dot_self : (f : Format) {x y : Float} {a b : ℤ} → Is x a → Is y b → nat_abs (a *ℤ a) ≤ 2 ^ prec f → nat_abs (b *ℤ b) ≤ 2 ^ prec f
    → add f (mul f x x) (mul f y y) ≡ of_int f (a *ℤ a +ℤ b *ℤ b)
dot_self f {x} {y} {a} {b} i j h k = rw (mul_self f i, mul_self f j) (add_of_int f (a *ℤ a) (b *ℤ b) h k)
