-- Document 01, "Square root and pointiness". `IsRoot` is its sentence, and `root` computes what the sentence says.
use Rattle.std.specs.Prelude.{ℕ, zero, suc, ◌+◌, ◌-◌, ◌*◌, ◌/◌, ◌^◌, ◌≤◌, ◌<◌, false, cond, ltb, leb, pos, ◌+ℤ◌, ◌*ℤ◌, nat_abs, Float}
use Rattle.std.specs.Float.Ieee as Ieee
use Rattle.std.specs.Float.{fin, binary32}
use Rattle.std.specs.Float.Ieee.{size}
use Rattle.rules.specs.Plane.{Pt}

-- j is the number with 2^46 <= m * 4^j < 2^48
pub record Scaled (m j : ℕ) : Type 0 where
  pub low : 2 ^ 46 ≤ m * 4 ^ j
  pub high : m * 4 ^ j < 2 ^ 48

-- the root of m is k / 2^j, for a whole m from 1 to 2^23
pub record IsRoot (m k j : ℕ) : Type 0 where
  pub scaled : Scaled m j
  pub low : 2 ^ 23 ≤ k
  pub high : k ≤ 2 ^ 24 - 1
  pub above : (2 * k - 1) ^ 2 < 4 * (m * 4 ^ j)
  pub below : 4 * (m * 4 ^ j) < (2 * k + 1) ^ 2

-- its last two lines without the halves, n being m * 4^j: k is the whole number nearest to the root of n, k*k - k < n <= k*k + k
pub record Nearest (n k : ℕ) : Type 0 where
  pub above : k * k < n + k
  pub below : n ≤ k * k + k

-- the largest number whose square is at most n: k has its binary digits from the place b on, and those below are put to it from the highest
unfoldable pub digits : ℕ → ℕ → ℕ → ℕ
digits zero k n = k
digits (suc b) k n = digits b (cond (leb ((k + 2 ^ b) * (k + 2 ^ b)) n) (k + 2 ^ b) k) n

-- the whole number nearest to the root of an n below 2^48
unfoldable pub nearest_root : ℕ → ℕ
unfolding digits
nearest_root n = let k = digits 24 0 n in cond (ltb (k * k + k) n) (suc k) k

-- the j with 2^46 <= m * 4^j < 2^48, from how many binary digits m has
unfoldable pub scale : ℕ → ℕ
unfolding size
scale m = 23 - (size m - 1) / 2

-- the f32 that is k / 2^j; of 0 it is 0
unfoldable pub root : ℕ → Float
unfolding Ieee.round nearest_root scale
root zero = fin false 0 (pos 0)
root (suc m) = let j = scale (suc m) in Ieee.round binary32 false (nearest_root (suc m * 4 ^ j)) (2 ^ j)

-- r = 1 / len of the vector d, where len is the root of dx*dx + dy*dy
unfoldable pub reciprocal : Pt → Float
unfolding Ieee.div root
reciprocal d = Ieee.div binary32 (fin false 1 (pos 0)) (root (nat_abs (d.x *ℤ d.x +ℤ d.y *ℤ d.y)))

-- v.x*w.x + v.y*w.y, products first, with v = (dx*r, dy*r) from the vector d to the corner before, and w likewise from the vector e to the corner after
unfoldable pub pointiness : Pt → Pt → Float
unfolding Ieee.add Ieee.mul Ieee.of_int reciprocal
pointiness d e =
    let r = reciprocal d in
    let s = reciprocal e in
    let f = Ieee.of_int binary32 in
    Ieee.add binary32
    (Ieee.mul binary32 (Ieee.mul binary32 (f d.x) r) (Ieee.mul binary32 (f e.x) s))
    (Ieee.mul binary32 (Ieee.mul binary32 (f d.y) r) (Ieee.mul binary32 (f e.y) s))
