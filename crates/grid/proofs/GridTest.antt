-- The test of a whole number with no remainder: x + C - C is x only at a whole x, for C = 1.5 * 2 ^ 23 and x between -1025 and 1025, since what lies from 2 ^ 23 to 2 ^ 24 rounds to a whole number.
use mathlib.Core.Path.{◌≡◌, refl, sym, ap, ◌∙◌, subst}
use Prim.Native.Nat.{ℕ, suc, ◌+◌, ◌-◌, ◌*◌, ◌/◌, ◌%◌, ◌^◌, ◌≤◌, ◌<◌, compare}
use native.Mathlib.Nat.{mul-one, mul_assoc, mul_right_comm, mul-pos, le_trans, le_of_eq, lt_of_lt_of_le, lt_of_le_of_lt, lt_of_not-le, not-le_of_lt, mul-lt-mul_of_pos_right, mul-le-mul_right, div-lt_iff_lt-mul, mul-mod_left, le_of_suc-le-suc, le-div_iff_mul-le, eq_of_mul-eq-mul_right}
use native.Mathlib.Omega.{arith}
use mathlib.Core.Bool.{Bool, true, false, not, cond, ◌&&◌, ◌||◌, beq}
use lib.Dec.{T, ltb, eqb, leb-suc-suc, lit<, lit≤}
use lib.IntN.{ℤ, pos, negsuc, nat_abs, ◌+ℤ◌, ◌-ℤ◌, +ℤ-neg_ℤ_cancel}
use lib.Signed.{le_z, ≤ℤ_refl}
use lib.Pow.{pow_pos, pow_mono}
use lib.Ieee.{Float, nan, inf, fin, binary32, up, down, size, nearest, units, round, sum, add, sub, eq, lt}
use lib.Ieee.Digits.{size-lt, size-le}
use lib.Ieee.Fits.{nearest-le, core, round_is, down_pos}
use borrow.Author.Tests.{lt-ltb, le-ltb, le-leb, ltb-true, ltb-false, eqb-true, eqb-false}
use Rattle.algebra.proofs.Equal.{T→true, and_true_l}
use Rattle.algebra.proofs.Sizes.{nat_abs_add}
use Rattle.rules.specs.Limits.{grid_edge}
use Rattle.rules.specs.Grid.{whole_of, on_grid}
use Rattle.grid.proofs.Value.{Is, add_is, sub_is, eq_is}
use Rattle.grid.proofs.Turn.{grid_within}
use lib.Ieee.Exact.{HasValue, units_val}

abbrev pub lo : Float
lo = fin true 1025 (pos 0)

abbrev pub hi : Float
hi = fin false 1025 (pos 0)

-- ---- the comparisons
ltb-div : (X D : ℕ) → 0 < D → ltb (X * 1) (1025 * D) ≡ ltb (X / D) 1025
ltb-div X D p = go (ltb (X / D) 1025) refl
  where
    go : (t : Bool) → ltb (X / D) 1025 ≡ t → ltb (X * 1) (1025 * D) ≡ t
    go true e = lt-ltb (X * 1) (1025 * D) (rw mul-one ((div-lt_iff_lt-mul p).0 (ltb-true (X / D) 1025 e)))
    go false e = le-ltb (X * 1) (1025 * D) (rw mul-one ((le-div_iff_mul-le p).0 (ltb-false (X / D) 1025 e)))

lt_hi : (s : Bool) (m : ℕ) (e : ℤ) → lt (fin s m e) hi ≡ (s || ltb (m * up e / down e) 1025)
unfolding lt
lt_hi false m e = ltb-div (m * up e) (down e) (down_pos e)
lt_hi true m e = lt-ltb 0 (m * up e * 1 + 1025 * down e) (let h = down_pos e in omega arith)

lt_lo : (s : Bool) (m : ℕ) (e : ℤ) → lt lo (fin s m e) ≡ (not s || ltb (m * up e / down e) 1025)
unfolding lt
lt_lo false m e = lt-ltb 0 (1025 * down e + m * up e * 1) (let h = down_pos e in omega arith)
lt_lo true m e = ltb-div (m * up e) (down e) (down_pos e)

-- ---- from 2 ^ 23 to 2 ^ 24 every float is whole
size_gt : (n j : ℕ) → 2 ^ j ≤ n → j < size n
size_gt n j h = lt_of_not-le (λ (g : size n ≤ j). not-le_of_lt (lt_of_lt_of_le (size-lt n) (pow_mono g)) h)

over_one : (x : Float) (s : Bool) (q l : ℕ) → 0 < l → HasValue x s (q * l) l → HasValue x s q 1
over_one nan s q l p v = v
over_one (inf t) s q l p v = v
over_one (fin t m e) s q l p v = (v.0, mul-one (m * up e) ∙ eq_of_mul-eq-mul_right l p (m * up e) (q * down e) (v.1 ∙ mul_right_comm q l (down e)))

dropped : (z : ℕ) → z ≤ 173 → 172 < z → z - 24 ≡ 149
dropped z a b = omega arith

pub round_is_whole : (num den : ℕ) → 0 < den → 2 ^ 23 * den ≤ num → num < 2 ^ 24 * den → (N : ℕ) × HasValue (round binary32 false num den) false N 1 × (N ≤ 2 ^ 24)
round_is_whole num den p g h =
    let l = 2 ^ 149 in
    let n = num * l in
    let z = size (n / den) in
    let up' : n < 2 ^ 24 * den * l = mul-lt-mul_of_pos_right h (pow_pos 149) in
    let above : n < 2 ^ 173 * den = lt_of_lt_of_le up' (le_of_eq (mul_right_comm (2 ^ 24) den l)) in
    let below : 2 ^ 172 * den ≤ n = le_trans (le_of_eq (sym (mul_right_comm (2 ^ 23) den l))) (mul-le-mul_right l g) in
    let k : z - 24 ≡ 149 = dropped z (size-le (n / den) 173 ((div-lt_iff_lt-mul p).1 above)) (size_gt (n / den) 172 ((le-div_iff_mul-le p).1 below)) in
    let u = den * l in
    let q = nearest (n / u) (compare (n % u * 2) u) in
    let small : n / u < 2 ^ 24 = (div-lt_iff_lt-mul (mul-pos p (pow_pos 149))).1 (lt_of_lt_of_le up' (le_of_eq (mul_assoc (2 ^ 24) den l))) in
    let q≤ : q ≤ 2 ^ 24 = le_trans (nearest-le (n / u) (compare (n % u * 2) u)) small in
    let is : round binary32 false num den ≡ units binary32 false q 149 = round_is binary32 false num den ∙ ap (λ (j : ℕ). core binary32 false n den j) k in
    let room : q * l < 2 ^ 277 = lt_of_le_of_lt (mul-le-mul_right l q≤) (lit< tt) in
    (q, rw is (over_one (units binary32 false q 149) false q l (pow_pos 149) (units_val binary32 false q 149 room)), q≤)

-- 12582912
abbrev pub big_f : Float
big_f = fin false 3 (pos 22)

-- the two sums as they are before they are rounded
plus_big : (m : ℕ) (e : ℤ) → add binary32 (fin false m e) big_f ≡ round binary32 false (m * up e + 12582912 * down e) (down e)
unfolding add
plus_big m e = ap (λ (x : ℕ). round binary32 false (x + 12582912 * down e) (down e * 1)) (mul-one (m * up e)) ∙ ap (λ (x : ℕ). round binary32 false (m * up e + 12582912 * down e) x) (mul-one (down e))

from_big : (m : ℕ) (e : ℤ) → m * up e < 12582912 * down e → add binary32 (fin true m e) big_f ≡ round binary32 false (12582912 * down e - m * up e) (down e)
unfolding add
from_big m e h =
    let a = m * up e in
    let b = 12582912 * down e in
    ap (λ (x : ℕ). sum binary32 true x false b (down e * 1)) (mul-one a)
    ∙ ap (λ (x : ℕ). sum binary32 true a false b x) (mul-one (down e))
    ∙ ap (λ (t : Bool). cond t (round binary32 false (b - a) (down e)) (round binary32 (ltb b a) (a - b) (down e))) (lt-ltb a b h)

near_big : (s : Bool) (m : ℕ) (e : ℤ) → m * up e < 1025 * down e → (N : ℕ) × HasValue (add binary32 (fin s m e) big_f) false N 1 × (N ≤ 2 ^ 24)
near_big false m e h = let d = down_pos e in rw (plus_big m e) (round_is_whole (m * up e + 12582912 * down e) (down e) d (omega arith) (omega arith))
near_big true m e h =
    let d = down_pos e in
    rw (from_big m e (omega arith)) (round_is_whole (12582912 * down e - m * up e) (down e) d (omega arith) (omega arith))

big_is : Is big_f (pos 12582912)
big_is = record { s = false; n = 12582912; value = (refl, refl); whole = refl }

close : (N : ℕ) → N ≤ 2 ^ 24 → nat_abs (pos N -ℤ pos 12582912) ≤ 2 ^ 24
close N h = go (ltb N 12582912)
  where
    go : (t : Bool) → nat_abs (cond t (negsuc (12582912 - suc N)) (pos (N - 12582912))) ≤ 2 ^ 24
    go true = omega arith
    go false = omega arith

-- so x + C - C is whole, whatever x is
back_is : (s : Bool) (m : ℕ) (e : ℤ) → m * up e < 1025 * down e → (z : ℤ) × Is (sub binary32 (add binary32 (fin s m e) big_f) big_f) z
back_is s m e h =
    let k = near_big s m e h in
    let i : Is (add binary32 (fin s m e) big_f) (pos k.0) = record { s = false; n = k.0; value = k.1; whole = refl } in
    (pos k.0 -ℤ pos 12582912, sub_is binary32 (add binary32 (fin s m e) big_f) big_f (pos k.0) (pos 12582912) i big_is (close k.0 k.2))

-- ---- two floats that are equal
-- one is whole where the other is
eq_whole : (y : Float) (z : ℤ) (s : Bool) (m : ℕ) (e : ℤ) → Is y z → eq y (fin s m e) ≡ true → m * up e % down e ≡ 0
unfolding eq
eq_whole nan z s m e i h = absurd i.value
eq_whole (inf u) z s m e i h = absurd i.value
eq_whole (fin u n d) z s m e i h =
    let A = n * up d * down e in
    let B = m * up e * down d in
    let same : A ≡ B = eqb-true A B (and_true_l (eqb A B) (beq u s || eqb A 0) h) in
    let n1 : n * up d ≡ i.n * down d = sym (mul-one (n * up d)) ∙ i.value.1 in
    let x : m * up e ≡ i.n * down e =
    eq_of_mul-eq-mul_right (down d) (down_pos d) (m * up e) (i.n * down e) (sym same ∙ ap (λ (x : ℕ). x * down e) n1 ∙ mul_right_comm i.n (down d) (down e)) in
    ap (λ (y : ℕ). y % down e) x ∙ mul-mod_left i.n (down e)

-- and two that are the same whole number are equal
eq_same : (x y : Float) (z : ℤ) → Is x z → Is y z → eq x y ≡ true
eq_same x y z i j = eq_is x y z z i j ∙ rw (T→true (le_z z z) (≤ℤ_refl z).le)

-- ---- the test
both : (s b w : Bool) → cond (not s || b) (cond (s || b) w false) false ≡ (w && b)
both false false false = refl
both false false true = refl
both false true false = refl
both false true true = refl
both true false false = refl
both true false true = refl
both true true false = refl
both true true true = refl

room : (n : ℕ) → n ≤ grid_edge → n + 12582912 ≤ 2 ^ 24
room n h = omega arith

outside : (s v w : Bool) → cond (not s || false) (cond (s || false) v false) false ≡ (w && false)
outside false v false = refl
outside false v true = refl
outside true v false = refl
outside true v true = refl

eq_back : (s : Bool) (m : ℕ) (e : ℤ) → m * up e < 1025 * down e → eq (sub binary32 (add binary32 (fin s m e) big_f) big_f) (fin s m e) ≡ eqb (m * up e % down e) 0
eq_back s m e h = go (eqb (m * up e % down e) 0) refl
  where
    x : Float
    x = fin s m e

    y : Float
    y = sub binary32 (add binary32 x big_f) big_f

    -- at a whole x each of the two steps is exact
    yes' : m * up e % down e ≡ 0 → eq y x ≡ true
    yes' r =
        let q = m * up e / down e in
        let q≤ : q ≤ grid_edge = le_of_suc-le-suc ((div-lt_iff_lt-mul (down_pos e)).1 h) in
        let on : on_grid (fin s m e) ≡ true = rw (r, le-leb q grid_edge q≤) in
        let w = grid_within (fin s m e) (subst T (sym on) tt) in
        let z = whole_of (fin s m e) in
        let C = pos 12582912 in
        let a = add_is binary32 (fin s m e) big_f z C w.is big_is (le_trans (nat_abs_add z C) (room (nat_abs z) w.small)) in
        let home : z +ℤ C -ℤ C ≡ z = +ℤ-neg_ℤ_cancel z C in
        let b = sub_is binary32 (add binary32 (fin s m e) big_f) big_f (z +ℤ C) C a big_is (subst (λ (k : ℤ). nat_abs k ≤ 2 ^ 24) (sym home) (le_trans w.small (lit≤ tt))) in
        eq_same (sub binary32 (add binary32 (fin s m e) big_f) big_f) (fin s m e) z (subst (λ (k : ℤ). Is (sub binary32 (add binary32 (fin s m e) big_f) big_f) k) home b) w.is

    no' : (t : Bool) → eq y x ≡ t → (m * up e % down e ≡ 0 → ⊥) → t ≡ false
    no' true g r = absurd (r (eq_whole y (back_is s m e h).0 s m e (back_is s m e h).1 g))
    no' false g r = refl

    go : (t : Bool) → eqb (m * up e % down e) 0 ≡ t → eq y x ≡ t
    go true g = yes' (eqb-true (m * up e % down e) 0 g)
    go false g = no' (eq y x) refl (eqb-false (m * up e % down e) 0 g)

test_fin : (s : Bool) (m : ℕ) (e : ℤ)
    → cond (lt lo (fin s m e)) (cond (lt (fin s m e) hi) (eq (sub binary32 (add binary32 (fin s m e) big_f) big_f) (fin s m e)) false) false ≡ on_grid (fin s m e)
test_fin s m e = rw (lt_lo s m e, lt_hi s m e, ← leb-suc-suc (m * up e / down e) grid_edge) (go (ltb (m * up e / down e) 1025) refl)
  where
    go : (t : Bool) → ltb (m * up e / down e) 1025 ≡ t
        → cond (not s || t) (cond (s || t) (eq (sub binary32 (add binary32 (fin s m e) big_f) big_f) (fin s m e)) false) false ≡ (eqb (m * up e % down e) 0 && t)
    go true g = rw (eq_back s m e ((div-lt_iff_lt-mul (down_pos e)).0 (ltb-true (m * up e / down e) 1025 g))) (both s true (eqb (m * up e % down e) 0))
    go false g = outside s (eq (sub binary32 (add binary32 (fin s m e) big_f) big_f) (fin s m e)) (eqb (m * up e % down e) 0)

pub grid_test : (x : Float) → cond (lt lo x) (cond (lt x hi) (eq (sub binary32 (add binary32 x big_f) big_f) x) false) false ≡ on_grid x
unfolding lt
grid_test nan = refl
grid_test (inf false) = refl
grid_test (inf true) = refl
grid_test (fin s m e) = test_fin s m e
