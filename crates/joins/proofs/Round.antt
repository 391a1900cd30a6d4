-- A queue in a buffer that is written round and round: what is first in it, and what is put at its back.
use Prim.Native.Nat.{ℕ, zero, suc, ◌+◌, ◌-◌, ◌%◌, ◌<◌}
use native.Mathlib.Omega.{arith}
use native.Mathlib.Numerals.{add-one}
use mathlib.Core.Path.{◌≡◌, refl, ap₂}
use mathlib.Core.List.{List, [], ◌∷◌, ◌++◌}
use lib.ListN.{length, get_or, set}
use Rattle.rules.specs.MergeQueue.{window}
use Rattle.rules.proofs.QueueWindow.{length-window, window_put}

pub queue_length : (store : List ℕ) (h n : ℕ) → length (window store h n) ≡ n
queue_length = length-window

-- places that are equal by 1024 are one
window_wrapped : (store : List ℕ) (h k n : ℕ) → h % 1024 ≡ k % 1024 → window store h n ≡ window store k n
window_wrapped store h k zero e = refl
window_wrapped store h k (suc n) e = ap₂ (λ (i : ℕ) (l : List ℕ). get_or store i 0 ∷ l) e (window_wrapped store (suc h) (suc k) n (omega arith))

pub window_first : (store : List ℕ) (h n : ℕ) → h < 1024 → 0 < n → window store h n ≡ get_or store h 0 ∷ window store ((h + 1) % 1024) (n - 1)
window_first store h zero low some = absurd (omega arith)
window_first store h (suc n) low some =
    let here : h % 1024 ≡ h = omega arith in
    let less : suc n - 1 ≡ n = omega arith in
    rw less (ap₂ (λ (i : ℕ) (l : List ℕ). get_or store i 0 ∷ l) here (window_wrapped store (suc h) ((h + 1) % 1024) n (omega arith)))

pub window_more : (store : List ℕ) (v h n : ℕ) → length store ≡ 1024 → n < 1024 → window (set store ((h + n) % 1024) v) h (n + 1) ≡ window store h n ++ v ∷ []
window_more store v h n size low = rw (add-one n) (window_put store v h n size low)
