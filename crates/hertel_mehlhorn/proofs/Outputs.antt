-- Lists that are written over the front of others, part by part.
use Prim.Native.Nat.{ℕ, suc, ◌+◌, ◌-◌, ◌<◌, ◌≤◌}
use native.Mathlib.Omega.{arith}
use native.Mathlib.Numerals.{add-one}
use mathlib.Core.Path.{◌≡◌, refl, sym, ◌∙◌, ap}
use mathlib.Core.List.{List, [], ◌∷◌, ◌++◌, append_assoc, append-nil}
use lib.ListN.{length, get_or, set, take, drop, length-append, length-drop, drop_of_length-le}
use lib.Seq.{drop-cons, set_at, take_all, take_at, drop_at, drop-drop}
use borrow.Rule.Slice.PartMut.{put_mid, post_of}
use Rattle.rules.specs.Layout.{flatten, over}
use Rattle.rules.proofs.Layouts.{length_over}

pub flat_append : (x y : List (List ℕ)) → flatten (x ++ y) ≡ flatten x ++ flatten y
unfolding flatten
flat_append [] y = refl
flat_append (p ∷ x) y = rw (flat_append x y, append_assoc)

-- `front`, w numbers long, has been written over the front of `old`
pub record Built (old new front : List ℕ) (w : ℕ) : Type 0 where
  pub is : new ≡ over front old
  pub size : length front ≡ w

pub built_length : (old new front : List ℕ) (w : ℕ) → Built old new front w → w ≤ length old → length new ≡ length old
built_length old new front w b h = ap length b.is ∙ length_over front old (omega (arith, b.size))

-- one number more
pub built_put : (old new front : List ℕ) (w v : ℕ) → Built old new front w → w < length old → Built old (set new w v) (front ++ v ∷ []) (w + 1)
built_put old new front w v b h =
    let l : length (front ++ v ∷ []) ≡ w + 1 = length-append front (v ∷ []) ∙ rw b.size in
    let s : length front ≡ w = b.size in
    record { is = rw (b.is, s, l, drop-cons old w 0 h, set_at front (get_or old w 0) (drop (suc w) old) v w s, append_assoc, add-one w); size = l }

-- a list whose part from place w on was lent, and came back with x at its front
lent_tail : (to ys x : List ℕ) (w : ℕ) → ys ≡ over x (take (length to - w) (drop w to)) → put_mid w (length to - w) to ys ≡ take w to ++ over x (drop w to)
lent_tail to ys x w e =
    let l : length (drop w to) ≤ length to - w = simp length-drop (omega arith) in
    let z : post_of w (length to - w) to ≡ [] = drop_of_length-le (drop w to) l in
    rw (e, z, take_all (length to - w) (drop w to) l, append-nil)

-- one part more, written to what was lent from place w on
pub built_lent :
    (old new front x ys : List ℕ) (w : ℕ) → Built old new front w → ys ≡ over x (take (length new - w) (drop w new))
    → Built old (put_mid w (length new - w) new ys) (front ++ x) (w + length x)
built_lent old new front x ys w b e = record {
  is =
      lent_tail new ys x w e
      ∙ rw (b.is, take_at front (drop (length front) old) w b.size, drop_at front (drop (length front) old) w b.size, drop-drop, length-append) (sym (append_assoc front x _));
  size = length-append front x ∙ rw b.size;
}
