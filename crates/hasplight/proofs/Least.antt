-- How much room is lent on: no more than is ever asked for.
use Prim.Native.Nat.{ℕ, ◌≤◌, ◌<◌}
use mathlib.Core.Path.{◌≡◌, refl, sym, ◌∙◌}
use mathlib.Core.Bool.{Bool, true, false, cond}
use native.Mathlib.Omega.{arith}
use lib.Dec.{ltb}
use borrow.Author.Tests.{lt-ltb, le-ltb, ltb-true, ltb-false}
use Rattle.rules.specs.Limits.{most_indices}
use Rattle.hasplight.specs.Promise.{least_of}

pub least-few : (n : ℕ) → n < most_indices → n ≡ least_of n
least-few n h = rw (lt-ltb n most_indices h) refl

pub least_many : (n : ℕ) → most_indices ≤ n → most_indices ≡ least_of n
least_many n h = rw (le-ltb n most_indices h) refl

pub least_below : (k : ℕ) → least_of k ≤ most_indices
least_below k = go (ltb k most_indices) refl
  where
    go : (t : Bool) → ltb k most_indices ≡ t → cond t k most_indices ≤ most_indices
    go true e = let l = ltb-true k most_indices e in omega arith
    go false e = omega arith

pub least-within : (k : ℕ) → least_of k ≤ k
least-within k = go (ltb k most_indices) refl
  where
    go : (t : Bool) → ltb k most_indices ≡ t → cond t k most_indices ≤ k
    go true e = omega arith
    go false e = let l = ltb-false k most_indices e in omega arith

-- a test of the room against what is asked for is the same with the room that is lent on
pub least-room : (k x : ℕ) → x ≤ most_indices → ltb (least_of k) x ≡ ltb k x
least-room k x h = go (ltb k most_indices) refl
  where
    go : (t : Bool) → ltb k most_indices ≡ t → ltb (cond t k most_indices) x ≡ ltb k x
    go true e = refl
    go false e = let l = ltb-false k most_indices e in le-ltb most_indices x h ∙ sym (le-ltb k x (omega arith))
