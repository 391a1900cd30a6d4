-- Bytes of a line put behind those that are held of it.
use Rattle.std.proofs.Common.{ℕ, ◌+◌, ◌-◌, ◌≤◌, min, ◌≡◌, List, ◌++◌, length, take, ap, sym, ◌∙◌, arith}
use lib.Seq.{length-take-le, take-append-add}
use borrow.Rule.Slice.PartMut.{put_mid}
use Rattle.std.proofs.lemmas.List.{take_min}
use Rattle.std.proofs.lemmas.Slice.{take-put_mid}

module _ (old : List ℕ) (held : ℕ) (more : List ℕ) (h : held ≤ length old) where
  abbrev room : ℕ
  room = length old - held

  -- all that is held then, of the bytes that fit
  held-text : take (length old) (take held old ++ more) ≡ take held old ++ take (min room (length more)) more
  held-text =
      let size : length (take held old) ≡ held = length-take-le held old h in
      let whole : length old ≡ length (take held old) + room = omega (arith, size) in
      ap (λ (k : ℕ). take k (take held old ++ more)) whole ∙ take-append-add (take held old) more room ∙ ap (λ (l : List ℕ). take held old ++ l) (sym (take_min room more))

  module _ {n : ℕ} {mid : List ℕ} (fits : n ≡ min (length more) room) (copied : mid ≡ take n more) where
    size : length mid ≡ n
    size = ap length copied ∙ length-take-le n more (omega arith)

    pub text_kept : take (held + n) (put_mid held (held + n - held) old mid) ≡ take (length old) (take held old ++ more)
    text_kept =
        let e : held + n ≡ held + length mid = omega (arith, size) in
        let k : n ≡ min room (length more) = omega arith in
        take-put_mid held (held + n - held) old mid (held + n) e h ∙ ap (λ (l : List ℕ). take held old ++ l) (copied ∙ ap (λ (i : ℕ). take i more) k) ∙ sym held-text

    -- by where the bytes that are held end
    pub kept_up_to : {end : ℕ} → end ≡ held + n → take end (put_mid held (held + n - held) old mid) ≡ take (length old) (take held old ++ more)
    kept_up_to e = rw e text_kept
