-- The first line of some bytes ends where the first newline stands.
use Rattle.std.proofs.Common.{ℕ, suc, ◌+◌, ◌-◌, ◌≡◌, ◌≢◌, ◌<◌, Bool, true, false, cond, List, [], ◌∷◌, ◌++◌, length, take, drop, get_or, ap, sym, refl, subst, ◌∙◌, add-one, one-add, arith, position, Option, Some, None, length-take}
use mathlib.Core.Bool.{not}
use lib.Dec.{eqb, ltb}
use lib.Seq.{take_all, drop-cons}
use lib.ListN.{length-drop, take-append-drop}
use borrow.Author.Tests.{eqb-true, eqb-false, ltb-true, ltb-false, lt-ltb}
use Rattle.std.specs.Prelude.{unwrap_or}
use Rattle.std.specs.List.{position_or_len}
use Rattle.std.proofs.lemmas.List.Sums.{passes_at_first}
use Rattle.algebra.specs.Lists.{Each, end, ◌&◌}
use Rattle.rules.specs.Text.{first_line}

-- no newline is among the bytes
abbrev pub NoNewline : List ℕ → Type 0
NoNewline bytes = Each (λ b. b ≢ 10) bytes

abbrev newline_at : List ℕ → ℕ
newline_at bytes = position_or_len (λ b. eqb b 10) bytes

first_is : (bytes : List ℕ) → take (newline_at bytes) bytes ≡ first_line bytes
unfolding first_line
first_is [] = refl
first_is (b ∷ bytes) = go (eqb b 10) (first_is bytes)
  where
    go : (t : Bool) → take (newline_at bytes) bytes ≡ first_line bytes → take (cond (not t) (1 + newline_at bytes) 0) (b ∷ bytes) ≡ cond t [] (b ∷ first_line bytes)
    go true e = refl
    go false e = rw (one-add (newline_at bytes)) (ap (λ (l : List ℕ). b ∷ l) e)

none_in_front : (bytes : List ℕ) → NoNewline (take (newline_at bytes) bytes)
none_in_front [] = end
none_in_front (b ∷ bytes) = go (eqb b 10) refl (none_in_front bytes)
  where
    go : (t : Bool) → eqb b 10 ≡ t → NoNewline (take (newline_at bytes) bytes) → NoNewline (take (cond (not t) (1 + newline_at bytes) 0) (b ∷ bytes))
    go true e h = end
    go false e h = rw (one-add (newline_at bytes)) (eqb-false b 10 e & h)

pub no_newline : (bytes : List ℕ) → NoNewline (first_line bytes)
no_newline bytes = subst NoNewline (first_is bytes) (none_in_front bytes)

-- ---- by what `position` gives

module _ (bytes : List ℕ) where
  pub line_taken : {n : Option ℕ} → n ≡ position (λ b. eqb b 10) bytes → take (unwrap_or n (length bytes)) bytes ≡ first_line bytes
  line_taken e = rw e (go (ltb (newline_at bytes) (length bytes)) refl)
    where
      go : (t : Bool) → ltb (newline_at bytes) (length bytes) ≡ t → take (unwrap_or (cond t (Some (newline_at bytes)) None) (length bytes)) bytes ≡ first_line bytes
      go true h = first_is bytes
      go false h = take_all (length bytes) bytes (omega arith) ∙ sym (take_all (newline_at bytes) bytes (ltb-false (newline_at bytes) (length bytes) h)) ∙ first_is bytes

  pub none_there : None ≡ position (λ b. eqb b 10) bytes → NoNewline bytes
  none_there e = go (ltb (newline_at bytes) (length bytes)) refl e
    where
      go : (t : Bool) → ltb (newline_at bytes) (length bytes) ≡ t → None ≡ cond t (Some (newline_at bytes)) None → NoNewline bytes
      go true h f = cc
      go false h f = subst NoNewline (take_all (newline_at bytes) bytes (ltb-false (newline_at bytes) (length bytes) h)) (none_in_front bytes)

  -- what stands around the first
  pub record Around (n : ℕ) : Type 0 where
    pub line : NoNewline (take n bytes)
    pub parts : bytes ≡ take n bytes ++ (10 ∷ drop (n + 1) bytes)

  pub around : {n : ℕ} → Some n ≡ position (λ b. eqb b 10) bytes → Around n
  around {n} e = go (ltb (newline_at bytes) (length bytes)) refl e
    where
      there : newline_at bytes < length bytes → Around (newline_at bytes)
      there h =
          let k : ℕ = newline_at bytes in
          let at : get_or bytes k 0 ≡ 10 = eqb-true (get_or bytes k 0) 10 (passes_at_first (λ b. eqb b 10) bytes 0 h) in
          let rest : drop k bytes ≡ 10 ∷ drop (k + 1) bytes = rw (add-one k) (drop-cons bytes k 0 h) ∙ ap (λ (b : ℕ). b ∷ drop (k + 1) bytes) at in
          record { line = none_in_front bytes; parts = sym (take-append-drop k bytes) ∙ ap (λ (l : List ℕ). take k bytes ++ l) rest }

      go : (t : Bool) → ltb (newline_at bytes) (length bytes) ≡ t → Some n ≡ cond t (Some (newline_at bytes)) None → Around n
      go true h f = let same : newline_at bytes ≡ n = cc in subst Around same (there (ltb-true (newline_at bytes) (length bytes) h))
      go false h f = cc

-- by where the first line ends
module _ (bytes : List ℕ) (n : ℕ) (first : take n bytes ≡ first_line bytes) where
  pub taken_no_newline : NoNewline (take n bytes)
  taken_no_newline = subst NoNewline (sym first) (no_newline bytes)

  pub line-ended : n < length bytes → bytes ≡ take n bytes ++ (10 ∷ drop (suc n) bytes)
  line-ended h =
      let k : newline_at bytes ≡ n = omega (arith, h, ap length (first ∙ sym (first_is bytes)), length-take n bytes, length-take (newline_at bytes) bytes) in
      let there : Some n ≡ position (λ b. eqb b 10) bytes = rw (k, lt-ltb n (length bytes) h) refl in
      rw (← add-one n) (around bytes there).parts

-- a part that is lent up to the end
pub to_the_end : (bytes : List ℕ) (at : ℕ) → take (length bytes - at) (drop at bytes) ≡ drop at bytes
to_the_end bytes at = take_all (length bytes - at) (drop at bytes) (omega (arith, length-drop at bytes))

pub parted_at : (bytes : List ℕ) {n at : ℕ} → at ≡ n + 1 → Around bytes n → bytes ≡ take n bytes ++ (10 ∷ take (length bytes - at) (drop at bytes))
parted_at bytes {n} e a = rw (e, to_the_end bytes (n + 1)) a.parts
