-- An integer as the difference of two naturals, `up z - dn z`, by which `omega` reads it.
use Rattle.std.specs.Prelude.{ℕ, zero, suc, ℤ, pos, negsuc}

abbrev pub up : ℤ → ℕ
up (pos n) = n
up (negsuc n) = zero

abbrev pub dn : ℤ → ℕ
dn (pos n) = zero
dn (negsuc n) = suc n
