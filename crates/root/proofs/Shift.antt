-- `1 << l` and m scaled by two shifts, which the machine has as products cut to the width.
use Rattle.std.proofs.Common.{◌≡◌, ℕ, ◌+◌, ◌-◌, ◌*◌, ◌%◌, ◌^◌, ◌<◌, ◌≤◌, ◌∙◌, mod-eq_of_lt, mul_assoc, one-mul, arith, lit<, pow-add, shl_exact}
use Rattle.rules.specs.Root.{Scaled}
use Rattle.rules.proofs.Scale.{four_pow, scale_low}

pub one_shl : (l w : ℕ) → l < w → (1 * 2 ^ l) % 2 ^ w ≡ 2 ^ l
one_shl l w h = shl_exact {a = 1} 1 l w (lit< tt) (omega arith) ∙ one-mul (2 ^ l)

-- the number scaled
pub scaled_shl : (m j : ℕ) → m ≤ 2 ^ 23 → Scaled m j → ((m * 2 ^ (2 * j - 16)) % 2 ^ 32 * 65536) % 2 ^ 64 ≡ m * 4 ^ j
scaled_shl m j h s =
    let e : j + j ≡ 2 * j - 16 + 16 = omega (arith, scale_low m j h s) in
    let f : m * 2 ^ (2 * j - 16) * 65536 ≡ m * 4 ^ j = rw (four_pow j, e, pow-add 2 (2 * j - 16) 16) (mul_assoc m (2 ^ (2 * j - 16)) 65536) in
    let g : (m * 2 ^ (2 * j - 16)) % 2 ^ 32 ≡ m * 2 ^ (2 * j - 16) = mod-eq_of_lt (omega (arith, f, s.high)) in
    rw (g, f) (mod-eq_of_lt (omega (arith, s.high)))
