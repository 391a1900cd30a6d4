-- How far n is below g*g + 3*g tells whether g + 1 or g is nearest to its root.
use Rattle.std.proofs.Common.{◌≡◌, ℕ, suc, ◌+◌, ◌-◌, ◌*◌, ◌%◌, ◌^◌, ◌<◌, ◌≤◌, mul-le-mul, arith}
use Rattle.rules.specs.Root.{Nearest}
use Rattle.rules.proofs.Squares.{square_suc}

pub squared : (g : ℕ) → g < 2 ^ 25 → g * g ≤ 2 ^ 50
squared g h = let l : g ≤ 2 ^ 25 = omega arith in mul-le-mul l l

module _ (n g : ℕ) (h : n < 2 ^ 48) (s : g < 2 ^ 25) where
  -- as the code subtracts, with a wrap
  abbrev below : ℕ
  below = (g * g + 3 * g + (2 ^ 64 - n)) % 2 ^ 64

  module _ (p : below < 4 * g) where
    exact : below + n ≡ g * g + 3 * g
    exact = omega (arith, squared g s)

    pub up : below < 2 * g → Nearest n (g + 1)
    up q =
        let e : g + 1 ≡ suc g = omega arith in
        rw e (omega (arith, exact, square_suc g))

    pub stay : 2 * g ≤ below → Nearest n g
    stay q = omega (arith, exact)
