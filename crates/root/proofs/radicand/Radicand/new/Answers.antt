-- `Radicand::new` meets its contract: m has 32 - z binary digits, z the count of its leading zeros.
use Rattle.std.proofs.Common.{◌≡◌, ℕ, suc, ◌-◌, ◌*◌, ◌/◌, ◌%◌, ◌^◌, ◌<◌, ◌≤◌, lt_of_not-le, arith, pow_mono}
use lib.Count.{count_leading_zeros, leading_top}
use Rattle.rules.specs.Root.{Scaled}
use Rattle.rules.proofs.Scale.{scaled_by}
use Rattle.root.proofs.Shift.{scaled_shl}
use Rattle.root.proofs.radicand.Radicand.new.Goals as goal

zeros : (m : ℕ) → 0 < m → m < 2 ^ 32 → count_leading_zeros 32 m ≤ 31
zeros m p h = let t = leading_top 32 m p h in omega (arith, t.1)

short : (m i : ℕ) → m ≤ 2 ^ 23 → 2 ^ i ≤ m → i < 24
short m i h g = lt_of_not-le λ q. let far : 2 ^ 24 ≤ 2 ^ i = pow_mono q in omega arith

scaled : (m : ℕ) → 0 < m → m ≤ 2 ^ 23 → Scaled m (23 - (31 - count_leading_zeros 32 m) / 2)
scaled m p h =
    let t = leading_top 32 m p (omega arith) in
    let i = t.0 in
    let e : 31 - count_leading_zeros 32 m ≡ i = omega (arith, t.1) in
    let f : suc i - 1 ≡ i = omega arith in
    let low : 2 ^ (suc i - 1) ≤ m = rw f t.2 in
    rw (e, ← f) (scaled_by m (suc i) (omega arith) (short m i h t.2) low t.3)

abbrev exponent : ℕ → ℕ
exponent m = 23 - (31 - count_leading_zeros 32 m) / 2

shifted : (m n : ℕ) → 0 < m → m ≤ 2 ^ 23 → n ≡ (m * 2 ^ (2 * exponent m - 16)) % 2 ^ 32 → (n * 65536) % 2 ^ 64 ≡ m * 4 ^ exponent m
shifted m n p h e = rw e (scaled_shl m (exponent m) h (scaled m p h))

pub returns-clause-scaled : goal.returns-clause-scaled
returns-clause-scaled c = scaled c.args.m c.requires.nonzero c.requires.bound

pub returns-clause-value : goal.returns-clause-value
returns-clause-value c = shifted c.args.m c.from.result c.requires.nonzero c.requires.bound c.from.ensures

pub invariant_of-result : goal.invariant_of-result
invariant_of-result c =
    let s = scaled c.args.m c.requires.nonzero c.requires.bound in
    let e = shifted c.args.m c.from.result c.requires.nonzero c.requires.bound c.from.ensures in
    record { low = rw e s.low; high = rw e s.high }
