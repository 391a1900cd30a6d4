-- Coordinates that stand as bytes: how many points they are, and what is known of each where none is off the grid.
use Prim.Native.Nat.{ℕ, ◌+◌, ◌*◌, ◌/◌, ◌%◌, ◌≤◌, ◌<◌}
use mathlib.Core.Path.{◌≡◌, refl, sym, ◌∙◌, ap}
use mathlib.Core.Bool.{Bool, true, false, not, ◌||◌, or-false, or_assoc}
use mathlib.Core.List.{List}
use native.Mathlib.Omega.{arith}
use native.Mathlib.Nat.{lt_of_not-le}
use lib.Dec.{T}
use lib.ListN.{length, get_or, drop, drop_of_length-le}
use lib.Ieee.{Float, nan, binary32, of_bits, nan_bits}
use Rattle.algebra.proofs.Lists.{any_next}
use Rattle.rules.specs.Grid.{on_grid, points_of}
use Rattle.rules.specs.Refusals.{off_grid}
use Rattle.rules.proofs.Coordinates.{points-length, grid_at}
use Rattle.words.specs.Bytes.{floats_of, word_at}
use Rattle.words.proofs.Nans.{is_nan, is_number}
use Rattle.words.proofs.Words.{floats-length, floats_at}

pub points_many : (bytes : List ℕ) → length (points_of (floats_of bytes)) ≡ length bytes / 8
points_many bytes =
    let halved : length bytes / 4 / 2 ≡ length bytes / 8 = omega arith in
    points-length (floats_of bytes) ∙ ap (λ n. n / 2) (floats-length bytes) ∙ halved

-- word number k, which was read, and the float that it is
module _ (bytes : List ℕ) (k : ℕ) (h : k * 4 + 3 < length bytes) {w : ℕ} (is : w ≡ word_at bytes k) where
  pub read_float : {x : Float} → x ≡ of_bits binary32 w → x ≡ get_or (floats_of bytes) k nan
  read_float e = e ∙ ap (of_bits binary32) is ∙ sym (floats_at bytes k (omega arith))

  pub read_on : off_grid (floats_of bytes) ≡ false → on_grid (of_bits binary32 w) ≡ true
  read_on g = ap on_grid (read_float refl) ∙ grid_at (floats_of bytes) k g (omega (arith, floats-length bytes))

-- the bits of a float on the grid are no NaN's
pub grid_number : (b : ℕ) → on_grid (of_bits binary32 b) ≡ true → T (not (nan_bits binary32 b))
grid_number b h =
    let small : b % 2147483648 < 2139095041 = lt_of_not-le λ q. none q in
    is_number b (omega arith)
  where
    none : 2139095041 ≤ b % 2147483648 → ⊥
    none q = let e : false ≡ true = sym (ap on_grid (is_nan b (omega arith))) ∙ h in let z : ◌≡◌ {A = ℕ} 0 1 = cc in omega arith

-- ---- the check of one word after the other: all are off the grid where a word before i is, or a word from i on

module _ (bytes : List ℕ) (i : ℕ) (off : Bool) where
  abbrev pub Checked : Type 0
  Checked = off_grid (floats_of bytes) ≡ (off || off_grid (drop i (floats_of bytes)))

  part : i < length bytes / 4 → off_grid (drop i (floats_of bytes)) ≡ (not (on_grid (of_bits binary32 (word_at bytes i))) || off_grid (drop (i + 1) (floats_of bytes)))
  unfolding off_grid
  part h = any_next nan _ (floats_of bytes) i (omega (arith, floats-length bytes)) ∙ ap (λ x. not (on_grid x) || off_grid (drop (i + 1) (floats_of bytes))) (floats_at bytes i h)

  pub checked_more :
      i < length bytes / 4 → (w : ℕ) → w ≡ word_at bytes i → (on off' : Bool) → on ≡ on_grid (of_bits binary32 w) → off' ≡ (off || not on) → Checked
      → off_grid (floats_of bytes) ≡ (off' || off_grid (drop (i + 1) (floats_of bytes)))
  checked_more h w is on off' e f k =
      k
      ∙ ap (λ t. off || t) (part h)
      ∙ sym (or_assoc off _ (off_grid (drop (i + 1) (floats_of bytes))))
      ∙ ap (λ t. t || off_grid (drop (i + 1) (floats_of bytes))) (sym (f ∙ ap (λ t. off || not t) (e ∙ ap (λ b. on_grid (of_bits binary32 b)) is)))

  pub checked_end : length bytes / 4 ≤ i → Checked → off ≡ off_grid (floats_of bytes)
  unfolding off_grid
  checked_end h k =
      let z : length (floats_of bytes) ≤ i = omega (arith, floats-length bytes) in
      sym (k ∙ rw (drop_of_length-le (floats_of bytes) z) (or-false off))
