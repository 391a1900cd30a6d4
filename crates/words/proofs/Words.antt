-- Laws of words in bytes: how many there are, which stands where, and how they are read and written one after the other.
use Prim.Native.Nat.{ℕ, zero, suc, ◌+◌, ◌-◌, ◌*◌, ◌/◌, ◌<◌, ◌≤◌}
use mathlib.Core.Path.{◌≡◌, refl, sym, ◌∙◌, ap}
use mathlib.Core.List.{List, [], ◌∷◌, ◌++◌, map}
use native.Mathlib.Numerals.{add-one}
use native.Mathlib.Omega.{arith}
use lib.ListN.{length, get_or, take, drop, length-append, length-map}
use lib.Seq.{take-suc, length-take-le, take_at, take_all}
use borrow.Rule.Slice.PartMut.{put_mid}
use Rattle.std.proofs.lemmas.List.{map-id, take-append-drop}
use Rattle.std.proofs.lemmas.Slice.{take-put_mid, drop-put_mid, drop-append-drop}
use lib.Ieee.{Float, nan, binary32, of_bits}
use Rattle.rules.specs.Layout.{over}
use Rattle.words.specs.Bytes.{words_of, floats_of, bytes_of, word_at}

pub words_length : (l : List ℕ) → length (words_of l) ≡ length l / 4
unfolding words_of
words_length [] = refl
words_length (a ∷ []) = refl
words_length (a ∷ b ∷ []) = refl
words_length (a ∷ b ∷ c ∷ []) = refl
words_length (a ∷ b ∷ c ∷ d ∷ l) = rw (words_length l) (quarter (length l))
  where
    quarter : (n : ℕ) → suc (n / 4) ≡ suc (suc (suc (suc n))) / 4
    quarter n = omega arith

pub words_at : (l : List ℕ) (i : ℕ) → i * 4 + 3 < length l → get_or (words_of l) i 0 ≡ word_at l i
unfolding words_of
words_at [] i h = absurd (omega arith)
words_at (a ∷ []) i h = absurd (omega arith)
words_at (a ∷ b ∷ []) i h = absurd (omega arith)
words_at (a ∷ b ∷ c ∷ []) i h = absurd (omega arith)
words_at (a ∷ b ∷ c ∷ d ∷ l) zero h = refl
words_at (a ∷ b ∷ c ∷ d ∷ l) (suc i) h =
    let e : suc i * 4 ≡ suc (suc (suc (suc (i * 4)))) = omega arith in
    let f₁ : suc (suc (suc (suc (i * 4)))) + 1 ≡ suc (suc (suc (suc (i * 4 + 1)))) = omega arith in
    let f₂ : suc (suc (suc (suc (i * 4)))) + 2 ≡ suc (suc (suc (suc (i * 4 + 2)))) = omega arith in
    let f₃ : suc (suc (suc (suc (i * 4)))) + 3 ≡ suc (suc (suc (suc (i * 4 + 3)))) = omega arith in
    rw (e, f₁, f₂, f₃) (words_at l i (omega arith))

-- ---- floats

pub floats-length : (l : List ℕ) → length (floats_of l) ≡ length l / 4
unfolding floats_of
floats-length l = length-map (words_of l) (of_bits binary32) ∙ words_length l

pub map_at : {A : Type 0} (f : ℕ → A) (d : A) (l : List ℕ) (i : ℕ) → i < length l → get_or (map f l) i d ≡ f (get_or l i 0)
map_at f d [] i h = absurd (omega arith)
map_at f d (a ∷ l) zero h = refl
map_at f d (a ∷ l) (suc i) h = map_at f d l i (omega arith)

pub floats_at : (l : List ℕ) (i : ℕ) → i < length l / 4 → get_or (floats_of l) i nan ≡ of_bits binary32 (word_at l i)
unfolding floats_of
floats_at l i h = map_at (of_bits binary32) nan (words_of l) i (omega (arith, words_length l)) ∙ ap (of_bits binary32) (words_at l i (omega arith))

-- ---- the words of bytes that were read to the front of a list

pub as_floats : (bytes : List ℕ) (old : List Float) {new : List Float} → new ≡ map (of_bits binary32) (words_of bytes) ++ drop (length bytes / 4) old → new ≡ floats_of bytes ++ drop (length bytes / 4) old
unfolding floats_of
as_floats bytes old e = e

pub as_words : (bytes old : List ℕ) {new : List ℕ} → new ≡ map (λ word. word) (words_of bytes) ++ drop (length bytes / 4) old → new ≡ words_of bytes ++ drop (length bytes / 4) old
as_words bytes old e = e ∙ ap (λ (l : List ℕ). l ++ drop (length bytes / 4) old) (map-id (words_of bytes))

module _ (bytes old new : List ℕ) (is : new ≡ words_of bytes ++ drop (length bytes / 4) old) where
  pub words_read : take (length bytes / 4) new ≡ words_of bytes
  words_read = ap (take (length bytes / 4)) is ∙ take_at (words_of bytes) _ (length bytes / 4) (words_length bytes)

  pub words_many : length bytes / 4 ≡ length (take (length bytes / 4) new)
  words_many = sym (ap length words_read ∙ words_length bytes)

module _ (bytes : List ℕ) (old new : List Float) (is : new ≡ floats_of bytes ++ drop (length bytes / 4) old) where
  pub floats_read : take (length bytes / 4) new ≡ floats_of bytes
  floats_read = ap (take (length bytes / 4)) is ∙ take_at (floats_of bytes) _ (length bytes / 4) (floats-length bytes)

  pub floats_many : length bytes / 4 ≡ length (take (length bytes / 4) new)
  floats_many = sym (ap length floats_read ∙ floats-length bytes)

-- ---- writing

pub bytes-length : (ws : List ℕ) → length (bytes_of ws) ≡ length ws * 4
unfolding bytes_of
bytes-length [] = refl
bytes-length (w ∷ ws) = omega (arith, bytes-length ws)

bytes-append : (ws vs : List ℕ) → bytes_of (ws ++ vs) ≡ bytes_of ws ++ bytes_of vs
unfolding bytes_of
bytes-append [] vs = refl
bytes-append (w ∷ ws) vs = simp (bytes-append ws vs)

pub write-first : (ws old : List ℕ) → old ≡ over (bytes_of (take 0 ws)) old
unfolding bytes_of
write-first ws old = refl

-- one word more, as four bytes in the place of those that stood there
pub write_more :
    (ws old new new' four : List ℕ) (i : ℕ) → i < length ws → length ws * 4 ≤ length old → new ≡ over (bytes_of (take i ws)) old → length new ≡ length old
    → four ≡ bytes_of (get_or ws i 0 ∷ []) → new' ≡ put_mid (i * 4) (i * 4 + 4 - i * 4) new four → new' ≡ over (bytes_of (take (i + 1) ws)) old
write_more ws old new new' four i h room e len f g =
    let n = i * 4 + 4 in
    let front = bytes_of (take i ws) in
    let front-long : length front ≡ i * 4 = bytes-length (take i ws) ∙ ap (λ (x : ℕ). x * 4) (length-take-le i ws (omega arith)) in
    let four-long : length four ≡ 4 = ap length f ∙ bytes-length (get_or ws i 0 ∷ []) in
    let written : take n new' ≡ front ++ four =
    ap (take n) g
    ∙ take-put_mid (i * 4) (n - i * 4) new four n (omega (arith, four-long)) (omega (arith, len))
    ∙ ap (λ (x : List ℕ). x ++ four) (ap (take (i * 4)) e ∙ take_at front _ (i * 4) front-long) in
    let left : drop n new' ≡ drop n old =
    ap (drop n) g
    ∙ drop-put_mid (i * 4) (n - i * 4) new four n (omega arith) (omega (arith, len)) (omega (arith, four-long))
    ∙ ap (drop n) e
    ∙ drop-append-drop (length front) old front n (omega (arith, front-long)) refl in
    let all : bytes_of (take (i + 1) ws) ≡ front ++ four =
    ap bytes_of (rw (add-one i) (take-suc ws i 0 h))
    ∙ bytes-append (take i ws) (get_or ws i 0 ∷ [])
    ∙ ap (λ (x : List ℕ). front ++ x) (sym f) in
    let all-long : length (bytes_of (take (i + 1) ws)) ≡ n = ap length all ∙ length-append front four ∙ omega (arith, front-long, four-long) in
    sym (take-append-drop n new')
    ∙ ap (λ (x : List ℕ). x ++ drop n new') (written ∙ sym all)
    ∙ ap (λ (x : List ℕ). bytes_of (take (i + 1) ws) ++ x) (left ∙ ap (λ (x : ℕ). drop x old) (sym all-long))

pub write-last : (ws old new : List ℕ) (i : ℕ) → length ws ≤ i → new ≡ over (bytes_of (take i ws)) old → new ≡ over (bytes_of ws) old
write-last ws old new i h e = e ∙ ap (λ (x : List ℕ). over (bytes_of x) old) (take_all i ws h)
