-- The lists that the code writes.
use Prim.Native.Nat.{ℕ, suc, ◌+◌, ◌<◌}
use native.Mathlib.Omega.{arith}
use mathlib.Core.Path.{◌≡◌, ap, ◌∙◌}
use mathlib.Core.List.{List, [], ◌∷◌, ◌++◌, append_assoc}
use lib.ListN.{length, set, take, length-set}
use Rattle.ear_clipping.specs.Store.{put3}
use lib.Seq.{take-suc-set}

pub take_put : (l : List ℕ) (k a b c : ℕ) → k + 2 < length l → take (k + 3) (put3 l k a b c) ≡ take k l ++ a ∷ b ∷ c ∷ []
take_put l k a b c h =
    let l₁ = set l k a in
    let l₂ = set l₁ (k + 1) b in
    let e₃ : k + 3 ≡ suc (k + 2) = omega arith in
    let e₂ : k + 2 ≡ suc (k + 1) = omega arith in
    let e₁ : k + 1 ≡ suc k = omega arith in
    let t₁ : take (suc k) l₁ ≡ take k l ++ a ∷ [] = take-suc-set l k a (omega arith) in
    let t₂ : take (suc (k + 1)) l₂ ≡ take (k + 1) l₁ ++ b ∷ [] = take-suc-set l₁ (k + 1) b (simp length-set (omega arith)) in
    let t₃ : take (suc (k + 2)) (set l₂ (k + 2) c) ≡ take (k + 2) l₂ ++ c ∷ [] = take-suc-set l₂ (k + 2) c (simp length-set (omega arith)) in
    ap (λ (x : ℕ). take x (put3 l k a b c)) e₃
    ∙ t₃
    ∙ ap (λ (x : List ℕ). x ++ c ∷ [])
    (ap (λ (x : ℕ). take x l₂) e₂ ∙ t₂ ∙ ap (λ (x : List ℕ). x ++ b ∷ []) (ap (λ (x : ℕ). take x l₁) e₁ ∙ t₁))
    ∙ simp append_assoc
