-- The digits of a root from the highest: `Found n k b` says that k holds the digits of n's root from the place b on, and that the places below are still open.
use Rattle.std.proofs.Common.{◌≡◌, ℕ, zero, suc, ◌+◌, ◌-◌, ◌*◌, ◌%◌, ◌^◌, ◌<◌, ◌≤◌, sym, ap, ◌∙◌, pow-suc, mul-le-mul, arith}
use Rattle.rules.specs.Root.{Nearest}
use Rattle.rules.proofs.Squares.{square_suc}
use Rattle.root.proofs.Shift.{one_shl}

pub record Found (n k b : ℕ) : Type 0 where
  pub low : k * k ≤ n
  pub high : n < (k + 2 ^ b) * (k + 2 ^ b)
  pub room : k + 2 ^ b ≤ 2 ^ 24
  pub places : b ≤ 24

-- the place below b
module _ (n k b : ℕ) (f : Found n k b) (p : 0 < b) where
  halves : k + 2 ^ b ≡ k + 2 ^ (b - 1) + 2 ^ (b - 1)
  halves =
      let e : suc (b - 1) ≡ b = omega arith in
      let d : 2 ^ b ≡ 2 ^ (b - 1) * 2 = ap (λ (x : ℕ). 2 ^ x) (sym e) ∙ pow-suc 2 (b - 1) in
      omega arith

  -- k with a digit there, as the code shifts it in
  abbrev tried : ℕ
  tried = k + (1 * 2 ^ (b - 1)) % 2 ^ 64

  tried_is : tried ≡ k + 2 ^ (b - 1)
  tried_is = let h : b - 1 < 64 = omega (arith, f.places) in rw (one_shl (b - 1) 64 h)

  pub set : tried * tried ≤ n → Found n tried (b - 1)
  set h = record { low = h; high = rw (tried_is, ← halves) f.high; room = omega (arith, tried_is, halves, f.room); places = omega (arith, f.places) }

  pub clear : n < tried * tried → Found n k (b - 1)
  clear h = record { low = f.low; high = rw tried_is at h; room = omega (arith, halves, f.room); places = omega (arith, f.places) }

  pub small : tried ≤ 2 ^ 24
  small = omega (arith, tried_is, halves, f.room)

  pub squared : tried * tried ≤ 2 ^ 48
  squared = mul-le-mul small small

some : (n k : ℕ) → 0 < n → n ≤ k * k + k → 0 < k
some n zero p h = omega arith
some n (suc k) p h = omega arith

-- with no place left, k or the next number is the nearest
module _ (n k b : ℕ) (f : Found n k b) (z : b ≡ 0) where
  last : n < suc k * suc k
  last =
      let e : k + 1 ≡ suc k = omega arith in
      rw (z, e) at f.high

  pub last-small : k < 2 ^ 24
  last-small = let h : k + 1 ≤ 2 ^ 24 = rw z at f.room in omega arith

  pub last-squared : k * k ≤ 2 ^ 48
  last-squared = let h : k ≤ 2 ^ 24 = omega (arith, last-small) in mul-le-mul h h

  pub up : k * k + k < n → Nearest n (k + 1)
  up h =
      let e : k + 1 ≡ suc k = omega arith in
      rw e (omega (arith, square_suc k, last))

  pub stay : 2 ^ 46 ≤ n → n ≤ k * k + k → Nearest n k
  stay p h = omega (arith, f.low, some n k (omega arith) h)
