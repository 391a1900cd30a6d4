-- A test over some elements of a list: what it says of each of them.
use Prim.Native.Nat.{ℕ, suc, ◌+◌, ◌≤◌, ◌<◌}
use native.Mathlib.Omega.{arith}
use mathlib.Core.Path.{◌≡◌, refl, sym, ap, ◌∙◌}
use mathlib.Core.Bool.{Bool, true, false, ◌||◌, or-false, or_assoc}
use mathlib.Core.List.{List, [], ◌∷◌}
use lib.ListN.{length, get_or, take, drop, drop_of_length-le}
use Rattle.std.proofs.lemmas.List.{length-take-le, length-drop, get_or-take, get_or-drop}
use Rattle.algebra.specs.Lists.{any}
use Rattle.algebra.proofs.Equal.{impossible}
use Rattle.algebra.proofs.Lists.{each_at, none_passes, any_next}

module _ {A : Type 0} (f : A → Bool) (l : List A) where
  -- a loop along a list that says of each element whether it passes
  pub next : {i : ℕ} (hit : Bool) {a : A} {b whole : Bool} → i < length l → a ≡ get_or l i a → b ≡ f a → whole ≡ (hit || any f (drop i l)) → whole ≡ (hit || b || any f (drop (i + 1) l))
  next {i} hit {a} {b} h is g e =
      let rest = any f (drop (i + 1) l) in
      e ∙ ap (λ (t : Bool). hit || t) (any_next a f l i h ∙ ap (λ (t : Bool). t || rest) (ap f (sym is) ∙ sym g)) ∙ sym (or_assoc hit b rest)

  pub last : (i : ℕ) (hit : Bool) → length l ≤ i → {whole : Bool} → whole ≡ (hit || any f (drop i l)) → hit ≡ whole
  last i hit h e = sym (e ∙ ap (λ (m : List A). hit || any f m) (drop_of_length-le l h) ∙ or-false hit)

module _ {A : Type 0} (d : A) (f : A → Bool) where
  -- what passes stands at some place
  some_at : (l : List A) → any f l ≡ true → (i : ℕ) × (i < length l) × (f (get_or l i d) ≡ true)
  some_at [] e = impossible (cc)
  some_at (a ∷ l) e = go (f a) refl (some_at l)
    where
      go : (t : Bool) → f a ≡ t → (any f l ≡ true → (i : ℕ) × (i < length l) × (f (get_or l i d) ≡ true)) → (i : ℕ) × (i < length (a ∷ l)) × (f (get_or (a ∷ l) i d) ≡ true)
      go true h r = (0, omega arith, h)
      go false h r = let (i, m, q) = r (rw h at e) in (suc i, omega arith, q)

  module _ (l : List A) (at n : ℕ) (h : at + n ≤ length l) where
    -- the n elements from number `at` on
    abbrev part : List A
    part = take n (drop at l)

    long : length part ≡ n
    long = length-take-le n (drop at l) (rw (length-drop at l) (omega arith))

    here : (i : ℕ) → i < n → get_or part i d ≡ get_or l (at + i) d
    here i m = get_or-take n (drop at l) i d m ∙ get_or-drop at l i d

    -- where none passes, each one fails
    pub none_of : any f part ≡ false → (i : ℕ) → i < n → f (get_or l (at + i) d) ≡ false
    none_of e i m = ap f (sym (here i m)) ∙ each_at d part i (rw long m) (none_passes f part e)

    -- where some passes, one of them does
    pub some_of : any f part ≡ true → (i : ℕ) × (i < n) × (f (get_or l (at + i) d) ≡ true)
    some_of e = let (i, m, q) = some_at part e in let low : i < n = rw long at m in (i, low, ap f (sym (here i low)) ∙ q)
