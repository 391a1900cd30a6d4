-- Numbers as sets of small numbers, by their binary digits.
use Rattle.std.specs.Prelude.{ℕ, ◌/◌, ◌%◌, ◌^◌, ◌≡◌}

-- bit number k of m
abbrev pub bit : ℕ → ℕ → ℕ
bit m k = m / 2 ^ k % 2

-- it is set
abbrev pub Has : ℕ → ℕ → Type 0
Has m k = bit m k ≡ 1
