-- Text over lent bytes: one text behind another is the two as one, and a text that is written in parts.
use Prim.Native.Nat.{ℕ, ◌+◌, ◌-◌, ◌≤◌, ◌<◌}
use native.Mathlib.Nat.{add_assoc, add-zero, zero-add}
use native.Mathlib.Numerals.{add-one}
use native.Mathlib.Omega.{arith}
use mathlib.Core.Path.{◌≡◌, refl, sym, ap, ap₂, ◌∙◌}
use mathlib.Core.List.{List, [], ◌∷◌, ◌++◌, append_assoc, append-nil}
use lib.ListN.{length, take, drop, set, length-append, length-drop, take-append-drop}
use lib.Seq.{length-take-le, take_all, take_at, drop_at, drop-drop, set_split}
use borrow.Rule.Slice.PartMut.{put_mid}
use Rattle.std.proofs.lemmas.Slice.{put_mid-paste}
use Rattle.rules.specs.Layout.{over}
use Rattle.decimals.specs.declared.write.Text.{Text}
use Rattle.decimals.specs.Writes.{written, Wrote, Takes, Grew}

length-written : (old : List ℕ) (at : ℕ) (text : List ℕ) → at + length text ≤ length old → length (written old at text) ≡ length old
unfolding written
length-written old at text h =
    omega (arith, length-append (take at old) (text ++ drop (at + length text) old), length-append text (drop (at + length text) old), length-drop (at + length text) old, length-take-le at old (omega arith))

written_one : (old : List ℕ) (at b : ℕ) → at < length old → set old at b ≡ written old at (b ∷ [])
unfolding written
written_one old at b h = rw (add-one at) (set_split old at b h)

written_more : (old : List ℕ) (at : ℕ) (s t : List ℕ) → at + length s + length t ≤ length old → written (written old at s) (at + length s) t ≡ written old at (s ++ t)
unfolding written
written_more old at s t h =
    let front = take at old in
    let back = drop (at + length s) old in
    let n : length (front ++ s) ≡ at + length s = omega (arith, length-append front s, length-take-le at old (omega arith)) in
    let whole : front ++ (s ++ back) ≡ (front ++ s) ++ back = sym (append_assoc front s back) in
    let before : take (at + length s) (front ++ (s ++ back)) ≡ front ++ s = ap (take (at + length s)) whole ∙ take_at (front ++ s) back (at + length s) n in
    let behind : drop (at + length s + length t) (front ++ (s ++ back)) ≡ drop (at + length (s ++ t)) old =
    sym (drop-drop (length t) (at + length s) (front ++ (s ++ back)))
    ∙ ap (drop (length t)) (ap (drop (at + length s)) whole ∙ drop_at (front ++ s) back (at + length s) n)
    ∙ drop-drop (length t) (at + length s) old
    ∙ ap (λ (k : ℕ). drop k old) (add_assoc at (length s) (length t) ∙ ap (λ (k : ℕ). at + k) (sym (length-append s t))) in
    ap₂ (λ (a b : List ℕ). a ++ (t ++ b)) before behind
    ∙ append_assoc front s (t ++ drop (at + length (s ++ t)) old)
    ∙ ap (λ (l : List ℕ). front ++ l) (sym (append_assoc s t (drop (at + length (s ++ t)) old)))

-- what `copy_from_slice` leaves
pub put_word : (old : List ℕ) (at : ℕ) (text : List ℕ) {mid : List ℕ} → mid ≡ text → put_mid at (at + length text - at) old mid ≡ written old at text
unfolding written
put_word old at text {mid} e =
    let n : length text ≡ at + length text - at = omega arith in
    put_mid-paste at (at + length text - at) old mid text (length text) e n refl
    ∙ append_assoc (take at old) (take (length text) text) (drop (at + length text) old)
    ∙ ap (λ (l : List ℕ). take at old ++ (l ++ drop (at + length text) old)) (take_all (length text) text (omega arith))

-- ---- what a call wrote

pub wrote_none : (old : List ℕ) (at : ℕ) → at ≤ length old → Wrote old old at at []
unfolding written
wrote_none old at h = record { is = sym (ap (λ (k : ℕ). take at old ++ drop k old) (add-zero at) ∙ take-append-drop at old); ends = sym (add-zero at); room = record { fits = omega arith } }

pub wrote_byte : {old new : List ℕ} {at b : ℕ} → at < length old → new ≡ set old at b → Wrote old new at (at + 1) (b ∷ [])
wrote_byte {old} {new} {at} {b} h e = record { is = e ∙ written_one old at b h; ends = refl; room = record { fits = omega arith } }

pub wrote-length : {old new : List ℕ} {at end : ℕ} {s : List ℕ} → Wrote old new at end s → length new ≡ length old
wrote-length {old} {new} {at} {end} {s} w = ap length w.is ∙ length-written old at s w.room.fits

pub wrote_as : {old new : List ℕ} {at end : ℕ} {s t : List ℕ} → t ≡ s → Wrote old new at end s → Wrote old new at end t
wrote_as e w = rw e w

pub wrote_then : {a b c : List ℕ} {i j k : ℕ} {s t : List ℕ} → Wrote a b i j s → Wrote b c j k t → Wrote a c i k (s ++ t)
wrote_then {a} {b} {c} {i} {j} {k} {s} {t} w v =
    let r : i + length s + length t ≤ length a = omega (arith, v.room.fits, w.ends, wrote-length w) in
    record {
      is = v.is ∙ ap₂ (λ (x : List ℕ) (y : ℕ). written x y t) w.is w.ends ∙ written_more a i s t r;
      ends = omega (arith, v.ends, w.ends, length-append s t);
      room = record { fits = omega (arith, length-append s t) };
    }

-- what was written at the front stands over what was there
pub wrote-over : {old new : List ℕ} {end : ℕ} {text : List ℕ} → Wrote old new 0 end text → (new ≡ over text old) × (end ≡ length text)
unfolding written
wrote-over {old} {new} {end} {text} w = (w.is ∙ ap (λ (n : ℕ). text ++ drop n old) (zero-add (length text)), w.ends ∙ zero-add (length text))

-- what the lent bytes are at last, when the text is let go
pub wrote_at_last : {old new out : List ℕ} {at end : ℕ} {text : List ℕ} → Wrote old out at end text → new ≡ out → Wrote old new at end text
wrote_at_last w e = rw e w

-- ---- what was written behind a text

pub grew_then : {a b c : Text} {s t : List ℕ} → Grew a b s → Grew b c t → Grew a c (s ++ t)
grew_then g h = record { wrote = wrote_then g.wrote h.wrote; same_out = h.same_out ∙ g.same_out }

pub grew_as : {a b : Text} {s t : List ℕ} → t ≡ s → Grew a b s → Grew a b t
grew_as e g = rw e g

-- ---- a text that is written in parts: there was room for all of it, and `left` is still to be written

pub record Partly (old new : Text) (text left : List ℕ) : Type 0 where
  pub done : List ℕ
  pub whole : text ≡ done ++ left
  pub grew : Grew old new done
  pub room : Takes old text

pub partly_none : {old : Text} {text : List ℕ} → Takes old text → Partly old old text text
partly_none {old} {text} h = record { done = []; whole = refl; grew = record { wrote = wrote_none old.out.now old.end (omega (arith, h.fits)); same_out = refl }; room = h }

-- what is left fits behind what is written
pub partly_room : {old new : Text} {text left : List ℕ} → Partly old new text left → Takes new left
partly_room {left = left} p = record {
  fits = omega (arith, p.room.fits, ap length p.whole, length-append p.done left, p.grew.wrote.ends, wrote-length p.grew.wrote);
}

-- and so does each part of it, and a byte
pub partly_fits : {old new : Text} {text : List ℕ} (s t : List ℕ) → Partly old new text (s ++ t) → Takes new s
partly_fits s t p = record { fits = omega (arith, (partly_room p).fits, length-append s t) }

pub partly_byte : {old new : Text} {text rest : List ℕ} {b : ℕ} → Partly old new text (b ∷ rest) → new.end < length new.out.now
partly_byte p = omega (arith, (partly_room p).fits)

-- the next part is written
pub partly_more : {a b c : Text} {text : List ℕ} (s t : List ℕ) → Partly a b text (s ++ t) → Grew b c s → Partly a c text t
partly_more s t p g = record { done = p.done ++ s; whole = p.whole ∙ sym (append_assoc p.done s t); grew = grew_then p.grew g; room = p.room }

-- the last part is written
pub partly_end : {a b c : Text} {text left : List ℕ} → Partly a b text left → Grew b c left → Grew a c text
partly_end p g = grew_as p.whole (grew_then p.grew g)

-- nothing is left
pub partly_whole : {old new : Text} {text : List ℕ} → Partly old new text [] → Grew old new text
partly_whole p = grew_as (p.whole ∙ append-nil p.done) p.grew

-- what is left was written in parts itself
pub partly_then : {a b c : Text} {text mid left : List ℕ} → Partly a b text mid → Partly b c mid left → Partly a c text left
partly_then {left = left} p q = record {
  done = p.done ++ q.done;
  whole = p.whole ∙ ap (λ (l : List ℕ). p.done ++ l) q.whole ∙ sym (append_assoc p.done q.done left);
  grew = grew_then p.grew q.grew;
  room = p.room;
}

pub partly_as : {old new : Text} {text left rest : List ℕ} → left ≡ rest → Partly old new text left → Partly old new text rest
partly_as e p = rw (← e) p
