-- The later pieces in their store: a piece written, the pieces as a list, and the list that is left where the last moves into another's place.
use Prim.Native.Nat.{ℕ, zero, suc, ◌+◌, ◌-◌, ◌*◌, ◌/◌, ◌^◌, ◌≤◌, ◌<◌}
use native.Mathlib.Omega.{arith}
use native.Mathlib.Numerals.{add-one}
use mathlib.Core.Path.{◌≡◌, refl, sym, ◌∙◌, ap, ap₂, subst}
use mathlib.Core.Logic.{◌≢◌}
use mathlib.Core.List.{List, [], ◌∷◌}
use lib.Bits.{bit_or}
use native.Mathlib.Nat.{lt_of_not-le}
use native.Mathlib.Decide.{ℕ_discrete}
use lib.ListN.{length, get_or, set, length-set, length-take}
use lib.Seq.{get_or-set_same, get_or-set_other, get_or-take, ext_get_or}
use Rattle.algebra.specs.Lists.{Each, end, ◌&◌}
use Rattle.algebra.proofs.Lists.{each_imp}
use Rattle.pieces.specs.Pieces.{start_of, end_of, piece_at, pieces_from, later, put_piece, moved, moved_shows, swap_removed, Shown, show, shows, Piece, Low, Lie}
use Rattle.algebra.proofs.Bits.{has_left, has_right, has_one}

-- ---- as a list

pub length_from : (edges : List ℕ) (k n : ℕ) → length (pieces_from edges k n) ≡ n
unfolding pieces_from
length_from edges k zero = refl
length_from edges k (suc n) = ap suc (length_from edges (suc k) n)

pub from_at : (edges : List ℕ) (k n i : ℕ) → i < n → get_or (pieces_from edges k n) i [] ≡ piece_at edges (k + i)
unfolding pieces_from
from_at edges k zero i h = absurd (omega arith)
from_at edges k (suc n) zero h = let e : k + 0 ≡ k = omega arith in rw e
from_at edges k (suc n) (suc i) h = let e : suc k + i ≡ k + suc i = omega arith in from_at edges (suc k) n i (omega arith) ∙ ap (piece_at edges) e

pub later_length : (edges : List ℕ) (from count : ℕ) → length (later edges from count) ≡ count - from
later_length edges from count = length_from edges from (count - from)

-- the first, and those behind it
pub later_first : (edges : List ℕ) (a count : ℕ) → a < count → later edges a count ≡ piece_at edges a ∷ later edges (a + 1) count
unfolding pieces_from
later_first edges a count h = let e : count - a ≡ suc (count - (a + 1)) = omega arith in rw (e, add-one a)

pub later_none : (edges : List ℕ) (a count : ℕ) → count ≤ a → later edges a count ≡ []
unfolding pieces_from
later_none edges a count h = let e : count - a ≡ 0 = omega arith in rw e

pub three : {x x' y y' z z' : ℕ} → x ≡ x' → y ≡ y' → z ≡ z' → x ∷ y ∷ z ∷ [] ≡ x' ∷ y' ∷ z' ∷ []
three p q r = ap₂ (λ (a : ℕ) (l : List ℕ). a ∷ l) p (ap₂ (λ (a b : ℕ). a ∷ b ∷ []) q r)

-- ---- a piece written

module _ (edges : List ℕ) (k x y z : ℕ) where
  abbrev with-x : List ℕ
  with-x = set edges (3 * k) x

  abbrev with-y : List ℕ
  with-y = set with-x (3 * k + 1) y

  length_put : length (put_piece edges k x y z) ≡ length edges
  unfolding put_piece
  length_put = simp length-set

  put_other : (m : ℕ) → m ≢ 3 * k → m ≢ 3 * k + 1 → m ≢ 3 * k + 2 → get_or (put_piece edges k x y z) m 0 ≡ get_or edges m 0
  unfolding put_piece
  put_other m p q r = get_or-set_other with-y (3 * k + 2) m z 0 r ∙ get_or-set_other with-x (3 * k + 1) m y 0 q ∙ get_or-set_other edges (3 * k) m x 0 p

  module _ (j i : ℕ) (h : j ≢ k) (low : i < 3) where
    apart : (d : ℕ) → d < 3 → 3 * j + i ≢ 3 * k + d
    apart d l q = h (omega arith)

    other_at : get_or (put_piece edges k x y z) (3 * j + i) 0 ≡ get_or edges (3 * j + i) 0
    other_at = put_other (3 * j + i) (λ q. apart 0 (omega arith) (omega (arith, q))) (apart 1 (omega arith)) (apart 2 (omega arith))

  other-first : (j : ℕ) → j ≢ k → get_or (put_piece edges k x y z) (3 * j) 0 ≡ get_or edges (3 * j) 0
  other-first j h = let e : 3 * j + 0 ≡ 3 * j = omega arith in rw e at (other_at j 0 h (omega arith))

  pub other-piece : (j : ℕ) → j ≢ k → piece_at (put_piece edges k x y z) j ≡ piece_at edges j
  other-piece j h = three (ap start_of (other-first j h)) (ap start_of (other_at j 1 h (omega arith))) (ap start_of (other_at j 2 h (omega arith)))

  module _ (room : 3 * k + 2 < length edges) where
    put_first : get_or (put_piece edges k x y z) (3 * k) 0 ≡ x
    unfolding put_piece
    put_first = get_or-set_other with-y (3 * k + 2) (3 * k) z 0 (λ q. omega arith) ∙ get_or-set_other with-x (3 * k + 1) (3 * k) y 0 (λ q. omega arith) ∙ get_or-set_same edges (3 * k) x 0 (omega arith)

    put_second : get_or (put_piece edges k x y z) (3 * k + 1) 0 ≡ y
    unfolding put_piece
    put_second = get_or-set_other with-y (3 * k + 2) (3 * k + 1) z 0 (λ q. omega arith) ∙ get_or-set_same with-x (3 * k + 1) y 0 (omega (arith, length-set edges (3 * k) x))

    put_third : get_or (put_piece edges k x y z) (3 * k + 2) 0 ≡ z
    unfolding put_piece
    put_third = get_or-set_same with-y (3 * k + 2) z 0 (omega (arith, length-set with-x (3 * k + 1) y, length-set edges (3 * k) x))

    pub put_piece_lem : piece_at (put_piece edges k x y z) k ≡ start_of x ∷ start_of y ∷ start_of z ∷ []
    put_piece_lem = three (ap start_of put_first) (ap start_of put_second) (ap start_of put_third)

-- ---- its eight shown

module _ (eights : List ℕ) (v k : ℕ) where
  length-show : length (show eights v k) ≡ length eights
  unfolding show
  length-show = simp length-set

  module _ (fits : v < length eights) where
    show-same : get_or (show eights v k) v 0 ≡ bit_or (get_or eights v 0) (2 ^ (k / 8))
    unfolding show
    show-same = get_or-set_same eights v (bit_or (get_or eights v 0) (2 ^ (k / 8))) 0 fits

    show-new : Shown (show eights v k) k v
    show-new = rw show-same (has_right (get_or eights v 0) (2 ^ (k / 8)) (k / 8) (has_one (k / 8)))

    show_kept : (j w : ℕ) → Shown eights j w → Shown (show eights v k) j w
    unfolding show
    show_kept j w h = go (ℕ_discrete w v)
      where
        go : Dec (w ≡ v) → Shown (set eights v (bit_or (get_or eights v 0) (2 ^ (k / 8)))) j w
        go (yes q) = rw (q, get_or-set_same eights v (bit_or (get_or eights v 0) (2 ^ (k / 8))) 0 fits) (has_left (get_or eights v 0) (2 ^ (k / 8)) (j / 8) (rw q at h))
        go (no q) = rw (get_or-set_other eights v w (bit_or (get_or eights v 0) (2 ^ (k / 8))) 0 q) h

module _ (eights : List ℕ) (k x y z : ℕ) where
  length-shows : length (shows eights k x y z) ≡ length eights
  length-shows = length-show _ (start_of z) k ∙ length-show _ (start_of y) k ∙ length-show eights (start_of x) k

  module _ (fits-x : start_of x < length eights) (fits-y : start_of y < length eights) (fits-z : start_of z < length eights) where
    abbrev one : List ℕ
    one = show eights (start_of x) k

    abbrev two : List ℕ
    two = show one (start_of y) k

    fits_one : start_of y < length one
    fits_one = omega (arith, length-show eights (start_of x) k)

    fits_two : start_of z < length two
    fits_two = omega (arith, length-show eights (start_of x) k, length-show one (start_of y) k)

    shows_kept : (j w : ℕ) → Shown eights j w → Shown (shows eights k x y z) j w
    shows_kept j w h = show_kept two (start_of z) k fits_two j w (show_kept one (start_of y) k fits_one j w (show_kept eights (start_of x) k fits-x j w h))

    shows-all : Each (Shown (shows eights k x y z) k) (start_of x ∷ start_of y ∷ start_of z ∷ [])
    shows-all =
        show_kept two (start_of z) k fits_two k (start_of x) (show_kept one (start_of y) k fits_one k (start_of x) (show-new eights (start_of x) k fits-x))
        & show_kept two (start_of z) k fits_two k (start_of y) (show-new one (start_of y) k fits_one)
        & show-new two (start_of z) k fits_two
        & end

-- ---- the pieces

pub low : {edges eights : List ℕ} (k : ℕ) → Piece edges eights k → Low edges k
low k p = record { first = omega (arith, p.third); second = omega (arith, p.first); third = omega (arith, p.second) }

module _ (edges eights : List ℕ) (k x y z : ℕ) (edges_size : length edges ≡ 1536) (eights_size : length eights ≡ 512) (room : k < 512)
    (to-y : end_of x ≡ start_of y) (to-z : end_of y ≡ start_of z) (to-x : end_of z ≡ start_of x) where
  fits : (start_of x < length eights) × (start_of y < length eights) × (start_of z < length eights)
  fits = (omega (arith, to-x), omega (arith, to-y), omega (arith, to-z))

  piece_put : Piece (put_piece edges k x y z) (shows eights k x y z) k
  piece_put =
      let r : 3 * k + 2 < length edges = omega arith in
      let a = put_first edges k x y z r in
      let b = put_second edges k x y z r in
      let c = put_third edges k x y z r in
      record {
        first = ap end_of a ∙ to-y ∙ sym (ap start_of b);
        second = ap end_of b ∙ to-z ∙ sym (ap start_of c);
        third = ap end_of c ∙ to-x ∙ sym (ap start_of a);
        shown = subst (Each (Shown (shows eights k x y z) k)) (sym (put_piece_lem edges k x y z r)) (shows-all eights k x y z fits.0 fits.1 fits.2);
      }

  piece_kept : (j : ℕ) → j ≢ k → Piece edges eights j → Piece (put_piece edges k x y z) (shows eights k x y z) j
  piece_kept j h p =
      let a = other-first edges k x y z j h in
      let b = other_at edges k x y z j 1 h (omega arith) in
      let c = other_at edges k x y z j 2 h (omega arith) in
      record {
        first = ap end_of a ∙ p.first ∙ sym (ap start_of b);
        second = ap end_of b ∙ p.second ∙ sym (ap start_of c);
        third = ap end_of c ∙ p.third ∙ sym (ap start_of a);
        shown = subst (Each (Shown (shows eights k x y z) j)) (sym (other-piece edges k x y z j h)) (each_imp (shows_kept eights k x y z fits.0 fits.1 fits.2 j) p.shown);
      }

  -- one more piece, or another in the place of one
  pub lie_put : (from count count' : ℕ) → Lie edges eights from count → count' ≤ 510 → count' ≤ count + 1 → (count < count' → k ≡ count) → Lie (put_piece edges k x y z) (shows eights k x y z) from count'
  lie_put from count count' l few most last = record {
    edges_size = length_put edges k x y z ∙ edges_size;
    eights_size = length-shows eights k x y z ∙ eights_size;
    few = few;
    each = λ j h i. go j h i (ℕ_discrete j k);
  }
    where
      go : (j : ℕ) → from ≤ j → j < count' → Dec (j ≡ k) → Piece (put_piece edges k x y z) (shows eights k x y z) j
      go j h i (yes q) = subst (Piece (put_piece edges k x y z) (shows eights k x y z)) (sym q) piece_put
      go j h i (no q) = piece_kept j q (l.each j h (below j i q))
        where
          below : (j : ℕ) → j < count' → j ≢ k → j < count
          below j i q = lt_of_not-le λ b. q (omega (arith, last (omega arith)))

-- ---- the last piece in the place of another

module _ (edges eights : List ℕ) (from count place : ℕ) (l : Lie edges eights from count) (there : from + place < count) where
  abbrev last : ℕ
  last = count - 1

  pub lie_moved : Lie (moved edges (from + place) last) (moved_shows edges eights (from + place) last) from last
  lie_moved =
      let p = l.each last (omega arith) (omega arith) in
      lie_put edges eights (from + place) _ _ _ l.edges_size l.eights_size (omega (arith, l.few)) p.first p.second p.third from count last l (omega (arith, l.few)) (omega arith) (λ h. absurd (omega arith))

  abbrev pieces : List (List ℕ)
  pieces = later edges from count

  abbrev mover : List ℕ
  mover = get_or pieces (length pieces - 1) []

  pub moved_is : later (moved edges (from + place) last) from last ≡ swap_removed place pieces
  moved_is = ext_get_or [] _ _ (length_from (moved edges (from + place) last) from (last - from) ∙ sym size) each_at
    where
      n : length pieces ≡ count - from
      n = length_from edges from (count - from)

      size : length (swap_removed place pieces) ≡ last - from
      size = rw (length-take, length-set) (omega (arith, n))

      mover_is : mover ≡ piece_at edges last
      mover_is =
          let e : from + (length pieces - 1) ≡ last = omega (arith, n) in
          from_at edges from (count - from) (length pieces - 1) (omega (arith, n)) ∙ ap (piece_at edges) e

      at_place : (i : ℕ) → i < last - from → Dec (i ≡ place) → piece_at (moved edges (from + place) last) (from + i) ≡ get_or (set pieces place mover) i []
      at_place i h (yes q) =
          rw q (put_piece_lem edges (from + place) _ _ _ (omega (arith, l.edges_size, l.few)) ∙ sym mover_is ∙ sym (get_or-set_same pieces place mover [] (omega (arith, n))))
      at_place i h (no q) =
          other-piece edges (from + place) _ _ _ (from + i) (λ e. q (omega arith))
          ∙ sym (get_or-set_other pieces place i mover [] q ∙ from_at edges from (count - from) i (omega arith))

      each_at : (i : ℕ) → i < length (later (moved edges (from + place) last) from last) → get_or (later (moved edges (from + place) last) from last) i [] ≡ get_or (swap_removed place pieces) i []
      each_at i h =
          let k : i < last - from = omega (arith, length_from (moved edges (from + place) last) from (last - from)) in
          let m : i < length pieces - 1 = omega (arith, n) in
          from_at (moved edges (from + place) last) from (last - from) i k ∙ at_place i k (ℕ_discrete i place) ∙ sym (get_or-take (length pieces - 1) (set pieces place mover) i [] m)

pub length_swap_removed : (place : ℕ) (pieces : List (List ℕ)) → length (swap_removed place pieces) ≡ length pieces - 1
length_swap_removed place pieces = length-take (length pieces - 1) _ ∙ rw length-set (omega arith)
