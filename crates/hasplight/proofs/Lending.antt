-- An entry that is lent the first words of a room of the most indices: what it reports does not depend on what the lent words held, nor on
-- room past what is ever asked for.
use Prim.Native.Nat.{ℕ, ◌*◌, ◌/◌, ◌≤◌}
use mathlib.Core.Path.{◌≡◌, sym, ◌∙◌, ap}
use mathlib.Core.Logic.{◌≢◌}
use mathlib.Core.List.{List, [], ◌++◌}
use native.Mathlib.Omega.{arith}
use native.Mathlib.Decide.{ℕ_discrete}
use lib.Dec.{ltb}
use lib.ListN.{length, take, drop, length-append, length-drop}
use lib.Seq.{take-append-le, length-take-le}
use Rattle.rules.specs.Limits.{most_indices}
use Rattle.rules.specs.Layout.{over}
use Rattle.words.specs.Bytes.{words_of, bytes_of}
use Rattle.words.proofs.Words.{words_length, write-first}
use Rattle.entries.specs.declared.Answer.{Answer}
use Rattle.hasplight.specs.Promise.{least_of, Reported}
use Rattle.hasplight.proofs.Least.{least_below, least-within, least-room}

-- number, count and indices afterwards by what is lent; a count of n stands for `size n` indices, and `need` is the room that is asked for
pub record Reports (number count : List ℕ → ℕ) (indices : List ℕ → List ℕ) (size : ℕ → ℕ) (need : ℕ) : Type 0 where
  pub report : List ℕ
  pub answered : (out : List ℕ) → number out ≡ 0 → take (size (count out)) (indices out) ≡ report
  pub reported : ℕ
  pub counted : (out : List ℕ) → number out ≡ 0 → count out ≡ reported
  pub refused : (out : List ℕ) → number out ≢ 0 → count out ≡ 0
  pub nothing : size 0 ≡ 0
  pub fits : (out : List ℕ) → size (count out) ≤ length out
  pub kept : (out : List ℕ) → length (indices out) ≡ length out
  pub by_room : (out out' : List ℕ) → ltb (length out) need ≡ ltb (length out') need → number out ≡ number out'

module _ {number count : List ℕ → ℕ} {indices : List ℕ → List ℕ} {size : ℕ → ℕ} {need : ℕ} (e : Reports number count indices size need) where
  -- the same number gives the same report
  same : (out out' : List ℕ) → number out ≡ number out' → (count out ≡ count out') × (take (size (count out)) (indices out) ≡ take (size (count out')) (indices out'))
  same out out' q = go (ℕ_discrete (number out) 0)
    where
      none : (o : List ℕ) → number o ≢ 0 → take (size (count o)) (indices o) ≡ []
      none o d = ap (λ (n : ℕ). take (size n) (indices o)) (e.refused o d) ∙ ap (λ (n : ℕ). take n (indices o)) e.nothing

      go : Dec (number out ≡ 0) → (count out ≡ count out') × (take (size (count out)) (indices out) ≡ take (size (count out')) (indices out'))
      go (yes z) = let z' = sym q ∙ z in (e.counted out z ∙ sym (e.counted out' z'), e.answered out z ∙ sym (e.answered out' z'))
      go (no d) = let d' : number out' ≢ 0 = λ z. d (q ∙ z) in (e.refused out d ∙ sym (e.refused out' d'), none out d ∙ sym (none out' d'))

  -- it is lent the first `room` of the words, of as many bytes
  module _ (few : need ≤ most_indices) (bytes words : List ℕ) {room : ℕ} (a : Answer) {told : Answer} (after : List ℕ) (r : room ≡ least_of (length bytes / 4)) (w : length words ≡ most_indices)
      (t : a ≡ told) (n : told.number ≡ number (take room words)) (c : told.count ≡ count (take room words)) (i : after ≡ indices (take room words)) where
    abbrev lent : List ℕ
    lent = take room words

    lent_length : length lent ≡ room
    lent_length = length-take-le room words (omega (arith, least_below (length bytes / 4)))

    count_is : a.count ≡ count lent
    count_is = ap (λ (x : Answer). x.count) t ∙ c

    after-length : length after ≡ room
    after-length = ap length i ∙ e.kept lent ∙ lent_length

    pub words_kept : most_indices ≡ length (after ++ drop room words)
    words_kept = sym (length-append after (drop room words) ∙ omega (arith, after-length, length-drop room words, least_below (length bytes / 4)))

    written_fits : size a.count ≤ room
    written_fits = omega (arith, e.fits lent, ap size count_is, lent_length)

    pub room_for : (k : ℕ) → k ≡ size a.count → (k ≤ length (after ++ drop room words)) × (k * 4 ≤ length bytes)
    room_for k q = (omega (arith, words_kept, written_fits, least_below (length bytes / 4)), omega (arith, written_fits, least-within (length bytes / 4)))

    number_same : number lent ≡ number (words_of bytes)
    number_same = e.by_room lent (words_of bytes) (rw (lent_length, r, words_length bytes) (least-room (length bytes / 4) need few))

    count_same : a.count ≡ count (words_of bytes)
    count_same = count_is ∙ (same lent (words_of bytes) number_same).0

    written : (k : ℕ) → k ≡ size a.count → take k (after ++ drop room words) ≡ take (size (count (words_of bytes))) (indices (words_of bytes))
    written k q =
        take-append-le k after (drop room words) (omega (arith, after-length, written_fits, q))
        ∙ ap (λ (m : ℕ). take m after) (q ∙ ap size count_is) ∙ ap (take (size (count lent))) i ∙ (same lent (words_of bytes) number_same).1

    -- and what is written as bytes is the report
    pub gives :
        (k : ℕ) {bytes' : List ℕ} → k ≡ size a.count → bytes' ≡ over (bytes_of (take k (after ++ drop room words))) bytes
        → Reported (number (words_of bytes)) (count (words_of bytes)) (take (size (count (words_of bytes))) (indices (words_of bytes))) bytes a bytes'
    gives k q b = record { number_is = ap (λ (x : Answer). x.number) t ∙ n ∙ number_same; count_is = count_same; bytes = b ∙ ap (λ (ws : List ℕ). over (bytes_of ws) bytes) (written k q) }

  -- what is refused before anything is lent
  pub gives_none :
      (bytes : List ℕ) (n : ℕ) → n ≡ number (words_of bytes) → n ≢ 0
      → Reported (number (words_of bytes)) (count (words_of bytes)) (take (size (count (words_of bytes))) (indices (words_of bytes))) bytes (record { number = n; count = 0 }) bytes
  gives_none bytes n q d =
      let none = e.refused (words_of bytes) (λ z. d (q ∙ z)) in
      record {
        number_is = q;
        count_is = sym none;
        bytes = write-first (indices (words_of bytes)) bytes ∙ ap (λ (m : ℕ). over (bytes_of (take m (indices (words_of bytes)))) bytes) (sym (ap size none ∙ e.nothing));
      }
