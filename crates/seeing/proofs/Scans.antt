-- One step of the loops over a list of points: the farthest so far, and those so far that see a facet.
use Prim.Native.Nat.{ℕ, ◌+◌, ◌≤◌, ◌<◌}
use native.Mathlib.Omega.{arith}
use native.Mathlib.Nat.{add-zero, zero-add}
use native.Mathlib.Numerals.{add-one}
use mathlib.Core.Path.{◌≡◌, refl, sym, ◌∙◌, ap}
use mathlib.Core.Bool.{Bool, true, false, cond}
use mathlib.Core.List.{List, [], ◌∷◌, ◌++◌, append-nil, append_assoc}
use lib.ListN.{length, get_or, set, take, drop, length-append, take-append-drop, drop_of_length-le}
use lib.Seq.{drop-cons, take-suc, take_all, take-suc-set, take-set-le, length-take-le}
use lib.Signed.{lt_z}
use lib.Ieee.{Float, lt}
use Rattle.std.specs.Int.{from_bool}
use Rattle.algebra.specs.Lists.{Each, count_from}
use Rattle.algebra.proofs.Lists.{each_at, keep_++}
use Rattle.algebra.proofs.Counting.{count_below, count_more}
use Rattle.rules.specs.Plane.{Pt, point, right}
use Rattle.rules.specs.Hull.{dot, farthest, support}
use Rattle.grid.proofs.Value.{Is, lt_is}
use Rattle.seeing.specs.Seeing.{farthest_of, seeing}

-- all of them, numbered
pub all_there : (n : ℕ) (all : List ℕ) → all ≡ count_from 0 n → (k : ℕ) → k < length all → get_or all k 0 < n
all_there n all e k h = let below : Each (λ i. i < n) all = rw e (count_below n) in each_at 0 all k h below

pub one_counted : (out : List ℕ) (i : ℕ) → i < length out → take i out ≡ count_from 0 i → take (i + 1) (set out i i) ≡ count_from 0 (i + 1)
one_counted out i h e =
    ap (λ (n : ℕ). take n (set out i i)) (add-one i) ∙ take-suc-set out i i h ∙ ap (λ (l : List ℕ). l ++ (i ∷ [])) e ∙ ap (λ (n : ℕ). count_from 0 i ++ (n ∷ [])) (sym (zero-add i)) ∙ sym (count_more 0 i) ∙ ap (count_from 0) (sym (add-one i))

-- ---- the farthest

module _ (ps : List Pt) (N : Pt) (list : List ℕ) where
  -- of the first i points of the list `best` is the farthest, and so far is `most`
  pub record Best (best : ℕ) (most : Float) (i : ℕ) : Type 0 where
    pub left : farthest_of ps N list ≡ farthest ps N best (drop i list)
    pub far : Is most (dot N (point ps best))

  first-left : (l : List ℕ) → 0 < length l → farthest_of ps N l ≡ farthest ps N (get_or l 0 0) (drop 1 l)
  unfolding farthest_of
  first-left [] h = absurd (omega arith)
  first-left (i ∷ l) h = refl

  pub best-first : 0 < length list → {j : ℕ} → j ≡ get_or list 0 0 → {most : Float} → Is most (dot N (point ps j)) → Best j most 1
  best-first h e f = record { left = first-left list h ∙ ap (λ (j : ℕ). farthest ps N j (drop 1 list)) (sym e); far = f }

  module _ {best : ℕ} {most : Float} {i : ℕ} (b : Best best most i) (h : i < length list) {j : ℕ} (e : j ≡ get_or list i 0) {far : Float} (f : Is far (dot N (point ps j))) where
    next : drop i list ≡ j ∷ drop (i + 1) list
    next = drop-cons list i 0 h ∙ rw (add-one i, e)

    one_more : (l : List ℕ) → farthest ps N best (j ∷ l) ≡ farthest ps N (cond (lt_z (dot N (point ps best)) (dot N (point ps j))) j best) l
    unfolding farthest
    one_more l = refl

    step : (t : Bool) → lt most far ≡ t → farthest_of ps N list ≡ farthest ps N (cond t j best) (drop (i + 1) list)
    step t k =
        let d : lt_z (dot N (point ps best)) (dot N (point ps j)) ≡ t = sym (lt_is most far (dot N (point ps best)) (dot N (point ps j)) b.far f) ∙ k in
        b.left ∙ ap (farthest ps N best) next ∙ one_more (drop (i + 1) list) ∙ ap (λ (s : Bool). farthest ps N (cond s j best) (drop (i + 1) list)) d

    pub best_farther : lt most far ≡ true → Best j far (i + 1)
    best_farther k = record { left = step true k; far = f }

    pub best-stays : lt most far ≡ false → Best best most (i + 1)
    best-stays k = record { left = step false k; far = b.far }

  pub best-last : {best : ℕ} {most : Float} {i : ℕ} → Best best most i → length list ≤ i → best ≡ farthest_of ps N list
  unfolding farthest
  best-last {best} b h = sym (b.left ∙ ap (farthest ps N best) (drop_of_length-le list h))

-- of all points it is the rules' own
both_zero : (t : Bool) → ◌≡◌ {A = ℕ} (cond t 0 0) 0
both_zero true = refl
both_zero false = refl

pub support-all : (ps : List Pt) (N : Pt) (all : List ℕ) → all ≡ count_from 0 (length ps) → 0 < length ps → farthest_of ps N all ≡ support ps N
unfolding farthest_of support farthest
support-all [] N all e h = absurd (omega arith)
support-all (p ∷ ps) N all e h =
    ap (farthest_of (p ∷ ps) N) e ∙ ap (λ (i : ℕ). farthest (p ∷ ps) N i (count_from 1 (length ps))) (sym (both_zero (lt_z (dot N p) (dot N p))))

-- ---- those that see a facet

pub one_at-most : (t : Bool) → from_bool t ≤ 1
one_at-most true = omega arith
one_at-most false = omega arith

one_if : (t : Bool) → from_bool t ≡ cond t 1 0
one_if true = refl
one_if false = refl

module _ (ps : List Pt) (a b : Pt) where
  abbrev sees : ℕ → Bool
  sees i = right a b (point ps i)

  pub seeing_++ : (l m : List ℕ) → seeing ps a b (l ++ m) ≡ seeing ps a b l ++ seeing ps a b m
  unfolding seeing
  seeing_++ l m = keep_++ sees l m

  seeing_one : (j : ℕ) → seeing ps a b (j ∷ []) ≡ cond (sees j) (j ∷ []) []
  unfolding seeing
  seeing_one j = refl

  module _ (list old : List ℕ) where
    -- of the first i points of the list those that see the facet stand behind the old numbers, up to `end`
    pub record Kept (out : List ℕ) (end i : ℕ) : Type 0 where
      pub end_is : end ≡ length old + length (seeing ps a b (take i list))
      pub so_far : take end out ≡ old ++ seeing ps a b (take i list)

    pub kept_none : (out : List ℕ) (k : ℕ) → k ≤ length out → take k out ≡ old → Kept out k 0
    unfolding seeing
    kept_none out k h e = record { end_is = sym (length-take-le k out h) ∙ ap length e ∙ sym (add-zero (length old)); so_far = e ∙ sym (append-nil old) }

    -- there is room for one more
    pub kept_fits : {out : List ℕ} {end i : ℕ} → Kept out end i → end ≤ length old + length (seeing ps a b list)
    kept_fits {end} {i} h =
        let e : length (seeing ps a b list) ≡ length (seeing ps a b (take i list)) + length (seeing ps a b (drop i list)) =
        ap (λ (l : List ℕ). length (seeing ps a b l)) (sym (take-append-drop i list)) ∙ ap length (seeing_++ (take i list) (drop i list)) ∙ length-append (seeing ps a b (take i list)) (seeing ps a b (drop i list)) in
        omega (arith, h.end_is)

    module _ {out : List ℕ} {end i : ℕ} (h : Kept out end i) (low : i < length list) (room : end < length out) (t : Bool) (is : t ≡ sees (get_or list i 0)) where
      abbrev j : ℕ
      j = get_or list i 0

      abbrev new : List ℕ
      new = cond t (j ∷ []) []

      more : seeing ps a b (take (i + 1) list) ≡ seeing ps a b (take i list) ++ new
      more =
          ap (seeing ps a b) (ap (λ (n : ℕ). take n list) (add-one i) ∙ take-suc list i 0 low)
          ∙ seeing_++ (take i list) (j ∷ []) ∙ ap (λ (l : List ℕ). seeing ps a b (take i list) ++ l) (seeing_one j ∙ ap (λ (s : Bool). cond s (j ∷ []) []) (sym is))

      size : (s : Bool) → length (cond s (j ∷ []) []) ≡ cond s 1 0
      size true = refl
      size false = refl

      written : (s : Bool) → take (end + cond s 1 0) (set out end j) ≡ take end out ++ cond s (j ∷ []) []
      written true = ap (λ (n : ℕ). take n (set out end j)) (add-one end) ∙ take-suc-set out end j room
      written false = ap (λ (n : ℕ). take n (set out end j)) (add-zero end) ∙ take-set-le end out end j (omega arith) ∙ sym (append-nil (take end out))

      pub kept_more : (one : ℕ) → one ≡ from_bool t → Kept (set out end j) (end + one) (i + 1)
      kept_more one o = rw (o, one_if t) (record {
        end_is = omega (arith, h.end_is, ap length more, length-append (seeing ps a b (take i list)) new, size t);
        so_far = written t ∙ ap (λ (l : List ℕ). l ++ new) h.so_far ∙ append_assoc old (seeing ps a b (take i list)) new ∙ ap (λ (l : List ℕ). old ++ l) (sym more);
      })

    pub kept_all : {out : List ℕ} {end i : ℕ} → Kept out end i → length list ≤ i → take end out ≡ old ++ seeing ps a b list
    kept_all {i} h p = rw (take_all i list p) at h.so_far
