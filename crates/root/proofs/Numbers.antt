-- A hyperbola's value is no NaN: a sum with a number above zero, and a quotient of one below zero, are none where the other operand is none.
use Rattle.std.proofs.Common.{◌≡◌, ℕ, zero, suc, ◌+◌, ◌-◌, ◌*◌, ◌^◌, Bool, true, false, cond, not, ◌&&◌, T, eqb, ltb, ℤ, pos, ne_eqb}
use mathlib.Core.Bool.{beq}
use lib.Ieee.{Float, nan, inf, fin, Format, prec, low, emax, unlike, neg, odd, units, round, sum, add, div, of_int, is_nan}
use lib.Ieee.Fits.{round_is}
use lib.Ieee.Positive.{positive}

abbrev pub Number : Float → Type 0
Number x = T (not (is_nan x))

odd_number : (d : ℕ) (s : Bool) (q k l : ℕ) → Number (odd d s q k l)
unfolding odd is_nan
odd_number d s zero k l = tt
odd_number d s (suc q) k l = tt

units_number : (f : Format) (s : Bool) (q k : ℕ) → Number (units f s q k)
unfolding units is_nan
units_number f s q k = go (ltb (q * 2 ^ k) (2 ^ (low f + suc (emax f))))
  where
    go : (b : Bool) → Number (cond b (odd (suc (prec f)) s q k (low f)) (inf s))
    go true = odd_number (suc (prec f)) s q k (low f)
    go false = tt

round_number : (f : Format) (s : Bool) (a b : ℕ) → Number (round f s a b)
round_number f s a b = rw (round_is f s a b) (units_number f s _ _)

sum_number : (f : Format) (s : Bool) (a : ℕ) (t : Bool) (b c : ℕ) → Number (sum f s a t b c)
unfolding sum
sum_number f s a t b c = same (beq s t)
  where
    apart : (l : Bool) → Number (cond l (round f t (b - a) c) (round f (s && ltb b a) (a - b) c))
    apart true = round_number f t (b - a) c
    apart false = round_number f (s && ltb b a) (a - b) c

    same : (e : Bool) → Number (cond e (round f s (a + b) c) (cond (ltb a b) (round f t (b - a) c) (round f (s && ltb b a) (a - b) c)))
    same true = round_number f s (a + b) c
    same false = apart (ltb a b)

pub whole-number : (f : Format) (n : ℕ) → Number (of_int f (pos n))
unfolding of_int
whole-number f n = round_number f false n 1

sum_positive : (f : Format) (x y : Float) → Number x → T (positive y) → Number (add f x y)
unfolding add is_nan
sum_positive f nan y p q = p
sum_positive f (inf s) nan p q = q
sum_positive f (inf s) (inf t) p q = absurd q
sum_positive f (inf s) (fin t n d) p q = tt
sum_positive f (fin s m e) nan p q = q
sum_positive f (fin s m e) (inf t) p q = tt
sum_positive f (fin s m e) (fin t n d) p q = sum_number f s _ t _ _

below_zero : (s : Bool) (m : ℕ) (e : ℤ) → T (positive (neg (fin s m e))) → m ≡ 0 → ⊥
unfolding neg
below_zero false m e p z = absurd p
below_zero true m e p z = let q : T (ltb 0 0) = rw z at p in absurd q

quotient : (f : Format) (s : Bool) (a b : ℕ) (z y : Bool) → y ≡ false → Number (cond z (cond y nan (inf s)) (round f s a b))
unfolding is_nan
quotient f s a b true y e = rw e tt
quotient f s a b false y e = round_number f s a b

negative_by : (f : Format) (x y : Float) → T (positive (neg x)) → Number y → Number (div f x y)
unfolding div neg is_nan
negative_by f nan y p q = absurd p
negative_by f (inf s) y p q = absurd p
negative_by f (fin s m e) nan p q = q
negative_by f (fin s m e) (inf t) p q = tt
negative_by f (fin s m e) (fin t n d) p q = quotient f (unlike s t) _ _ (eqb n 0) (eqb m 0) (ne_eqb m 0 (below_zero s m e p))

pub hyperbola_number :
    (f : Format) (level fall ahead x : Float) → T (positive level) → T (positive (neg fall)) → T (positive ahead) → Number x
    → Number (add f (div f fall (add f x ahead)) level)
hyperbola_number f level fall ahead x l d a n =
    sum_positive f (div f fall (add f x ahead)) level (negative_by f fall (add f x ahead) d (sum_positive f x ahead n a)) l
