-- A list that is written over the front of another, element by element.
use Prim.Native.Nat.{ℕ, suc, ◌+◌, ◌≤◌, ◌<◌}
use native.Mathlib.Omega.{arith}
use native.Mathlib.Numerals.{add-one}
use mathlib.Core.Path.{◌≡◌, ◌∙◌}
use mathlib.Core.List.{List, ◌++◌, append_assoc}
use lib.ListN.{length, get_or, set, take, drop}
use lib.Seq.{take-suc, drop-cons, set_at, length-take-le, take_all}

module _ {A : Type 0} (d : A) (l to₀ : List A) where
  -- one element more
  pub copy_more : (to : List A) (i : ℕ) (v : A) → i < length l → i < length to₀ → v ≡ get_or l i d → to ≡ take i l ++ drop i to₀ → set to i v ≡ take (i + 1) l ++ drop (i + 1) to₀
  copy_more to i v h k e f =
      rw (f, e, drop-cons to₀ i d k, set_at (take i l) (get_or to₀ i d) (drop (suc i) to₀) (get_or l i d) i (length-take-le i l (omega arith)), add-one i, take-suc l i d h, append_assoc)

  pub copy_end : (to : List A) (i n : ℕ) → n ≡ length l → n ≤ i → i ≤ n → to ≡ take i l ++ drop i to₀ → to ≡ l ++ drop n to₀
  copy_end to i n e h k f = let q : i ≡ n = omega arith in f ∙ rw (take_all i l (omega arith), q)
