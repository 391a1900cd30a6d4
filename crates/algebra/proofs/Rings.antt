-- Laws of rings: a ring begun elsewhere, the place of a corner in its ring, and the sum around a ring that is begun elsewhere,
-- that loses an element, or that is joined from two rings at the edge which they share.
use Prim.Native.Nat.{ℕ, suc}
use mathlib.Core.Path.{◌≡◌, refl, sym, ◌∙◌, ap, ap₂}
use mathlib.Core.Logic.{◌≢◌}
use mathlib.Core.List.{List, [], ◌∷◌, ◌++◌, map, map-append, append_assoc, append-nil}
use native.Mathlib.Omega.{arith}
use lib.ListN.{length, take, drop, length-append, take-append-drop}
use lib.Seq.{take_at, drop_at}
use Rattle.algebra.specs.Lists.{Each, end, ◌&◌, Distinct, new, count_from}
use Rattle.algebra.proofs.Lists.{each_swap, each_++, each-front, each_map, each_all, distinct_swap}
use Rattle.algebra.specs.Sums.{Sums, total}
use Rattle.algebra.proofs.Sums.{total_++, total_swap, insert, left_comm, idr}
use Rattle.algebra.specs.Rings.{Edge, Corner, steps, edges, bends, corners, last_of, first_of, begun_at, rotations_from, rotations, around}

module _ {A : Type 0} where
  abbrev edge : A → A → Edge A
  edge a b = record { from = a; to = b }

  pub last_++ : (a : A) (l : List A) (b : A) (m : List A) → last_of a (l ++ b ∷ m) ≡ last_of b m
  last_++ a [] b m = refl
  last_++ a (x ∷ l) b m = last_++ x l b m

  pub each_last : {P : A → Type 0} {a : A} {l : List A} → Each P (a ∷ l) → P (last_of a l)
  each_last (p & end) = p
  each_last (p & (q & h)) = each_last (q & h)

  -- ---- what holds of the elements of a walk holds of the ends of its steps

  pub each_from : {P : A → Type 0} {a : A} {l : List A} → Each P (a ∷ l) → Each (λ e. P e.from) (steps a l)
  each_from (p & end) = end
  each_from (p & (q & h)) = p & each_from (q & h)

  pub each_to : {P : A → Type 0} (a : A) {l : List A} → Each P l → Each (λ e. P e.to) (steps a l)
  each_to a end = end
  each_to a (◌&◌ {a = b} p h) = p & each_to b h

  -- where nothing is met twice, no step begins at the last
  pub not-from-last : {a : A} {l : List A} → Distinct (a ∷ l) → Each (λ e. e.from ≢ last_of a l) (steps a l)
  not-from-last (new end d) = end
  not-from-last (new (n & h) d) = each_last (n & h) & not-from-last d

  -- ---- a walk through b is one to b and one from b

  steps_through : (a : A) (l : List A) (b : A) (m : List A) → steps a (l ++ b ∷ m) ≡ steps a (l ++ b ∷ []) ++ steps b m
  steps_through a [] b m = refl
  steps_through a (x ∷ l) b m = ap (λ (z : List (Edge A)). edge a x ∷ z) (steps_through x l b m)

  pub steps-last : (a : A) (l : List A) (b : A) → steps a (l ++ b ∷ []) ≡ steps a l ++ edge (last_of a l) b ∷ []
  steps-last a [] b = refl
  steps-last a (x ∷ l) b = ap (λ (z : List (Edge A)). edge a x ∷ z) (steps-last x l b)

  bends_through : (a b : A) (l : List A) (c : A) (m : List A) → bends a b (l ++ c ∷ m) ≡ bends a b (l ++ c ∷ []) ++ bends (last_of b l) c m
  bends_through a b [] c m = refl
  bends_through a b (x ∷ l) c m = ap (λ (z : List (Corner A)). record { before = a; at = b; after = x } ∷ z) (bends_through b x l c m)

  -- ---- a ring of two parts: what either part gives to its edges and corners

  pub edges-two : (x : A) (xs : List A) (y : A) (ys : List A) → edges (x ∷ xs ++ y ∷ ys) ≡ steps x (xs ++ y ∷ []) ++ steps y (ys ++ x ∷ [])
  edges-two x xs y ys = ap (steps x) (append_assoc xs (y ∷ ys) (x ∷ [])) ∙ steps_through x xs y (ys ++ x ∷ [])

  pub corners-two : (x : A) (xs : List A) (y : A) (ys : List A) → corners (x ∷ xs ++ y ∷ ys) ≡ bends (last_of y ys) x (xs ++ y ∷ []) ++ bends (last_of x xs) y (ys ++ x ∷ [])
  corners-two x xs y ys = ap₂ (λ z l. bends z x l) (last_++ x xs y ys) (append_assoc xs (y ∷ ys) (x ∷ [])) ∙ bends_through (last_of y ys) x xs y (ys ++ x ∷ [])

-- m is the ring l begun elsewhere
pub record Rotated {A : Type 0} (l m : List A) : Type 0 where
  pub front : List A
  pub back : List A
  pub was : l ≡ front ++ back
  pub now : m ≡ back ++ front

pub swapped : {A : Type 0} (xs ys : List A) → Rotated (xs ++ ys) (ys ++ xs)
swapped xs ys = record { front = xs; back = ys; was = refl; now = refl }

pub rotated_back : {A : Type 0} {l m : List A} → Rotated l m → Rotated m l
rotated_back t = record { front = t.back; back = t.front; was = t.now; now = t.was }

unrotated : {A : Type 0} (l : List A) → Rotated l l
unrotated l = record { front = []; back = l; was = refl; now = sym (append-nil l) }

module _ {A : Type 0} where
  edges_swapped : (xs ys : List A) → Rotated (edges (xs ++ ys)) (edges (ys ++ xs))
  edges_swapped [] ys = rw (append-nil ys) (unrotated (edges ys))
  edges_swapped (x ∷ xs) [] = rw (append-nil xs) (unrotated (edges (x ∷ xs)))
  edges_swapped (x ∷ xs) (y ∷ ys) = rw (edges-two x xs y ys, edges-two y ys x xs) (swapped (steps x (xs ++ y ∷ [])) (steps y (ys ++ x ∷ [])))

  corners_swapped : (xs ys : List A) → Rotated (corners (xs ++ ys)) (corners (ys ++ xs))
  corners_swapped [] ys = rw (append-nil ys) (unrotated (corners ys))
  corners_swapped (x ∷ xs) [] = rw (append-nil xs) (unrotated (corners (x ∷ xs)))
  corners_swapped (x ∷ xs) (y ∷ ys) = rw (corners-two x xs y ys, corners-two y ys x xs) (swapped (bends (last_of y ys) x (xs ++ y ∷ [])) (bends (last_of x xs) y (ys ++ x ∷ [])))

  pub edges_rotated : {l m : List A} → Rotated l m → Rotated (edges l) (edges m)
  edges_rotated t = rw (t.was, t.now) (edges_swapped t.front t.back)

  pub corners_rotated : {l m : List A} → Rotated l m → Rotated (corners l) (corners m)
  corners_rotated t = rw (t.was, t.now) (corners_swapped t.front t.back)

  pub each_rotated : {P : A → Type 0} {l m : List A} → Rotated l m → Each P l → Each P m
  each_rotated t h = rw t.now (each_swap t.front t.back (rw t.was at h))

  -- an element taken out: what holds of the edges, and of the new one, holds of the rest's
  pub edges-without : {P : Edge A → Type 0} (p : A) (l : List A) → Each P (edges (p ∷ l)) → P (edge (last_of p l) (first_of p l)) → Each P (edges l)
  edges-without p [] h n = end
  edges-without {P} p (s ∷ l) (q & h) n = rw (steps-last s l s) (each_++ (each-front (steps s l) (edge (last_of s l) p ∷ []) (rw (steps-last s l p) at h)) (n & end))

  pub distinct_rotated : {l m : List A} → Rotated l m → Distinct l → Distinct m
  distinct_rotated t d = rw t.now (distinct_swap t.front t.back (rw t.was at d))

  pub map_rotated : {B : Type 0} (f : A → B) {l m : List A} → Rotated l m → Rotated (map f l) (map f m)
  map_rotated f t = record {
    front = map f t.front;
    back = map f t.back;
    was = ap (map f) t.was ∙ map-append f t.front t.back;
    now = ap (map f) t.now ∙ map-append f t.back t.front;
  }

  pub total_rotated : {G : Type 0} (S : Sums G) (f : A → G) {l m : List A} → Rotated l m → total S f l ≡ total S f m
  total_rotated S f t = rw (t.was, t.now) (total_swap S f t.front t.back)

  pub rotated_length : {l m : List A} → Rotated l m → length l ≡ length m
  rotated_length t = rw (t.was, t.now, length-append t.front t.back, length-append t.back t.front) (omega arith)

  pub begun_rotated : (ring : List A) (i : ℕ) → Rotated ring (begun_at i ring)
  begun_rotated ring i = record { front = take i ring; back = drop i ring; was = sym (take-append-drop i ring); now = refl }

  -- the rotations of a ring are the ring begun at place 0, 1 and so on
  rotations_from-begun : (ring passed l : List A) (i : ℕ) → ring ≡ passed ++ l → length passed ≡ i → rotations_from passed l ≡ map (λ j. begun_at j ring) (count_from i (length l))
  unfolding rotations_from
  rotations_from-begun ring passed [] i e n = refl
  rotations_from-begun ring passed (a ∷ l) i e n =
      let here : (a ∷ l) ++ passed ≡ begun_at i ring = rw (e, take_at passed (a ∷ l) i n, drop_at passed (a ∷ l) i n) in
      ap₂ ◌∷◌ here (rotations_from-begun ring (passed ++ a ∷ []) l (suc i) (e ∙ sym (append_assoc passed (a ∷ []) l)) (omega (arith, length-append passed (a ∷ []))))

  pub rotations-begun : (ring : List A) → rotations ring ≡ map (λ i. begun_at i ring) (count_from 0 (length ring))
  unfolding rotations
  rotations-begun ring = rotations_from-begun ring [] ring 0 refl refl

  pub rotations_are : (ring : List A) → Each (Rotated ring) (rotations ring)
  rotations_are ring = rw (rotations-begun ring) (each_map (λ i. begun_at i ring) (each_all (begun_rotated ring) (count_from 0 (length ring))))

-- where a corner stands in its ring
pub record Place {A : Type 0} (ring : List A) (c : Corner A) : Type 0 where
  pub front : List A
  pub back : List A
  pub whole : ring ≡ front ++ c.at ∷ back
  pub before : c.before ≡ last_of c.at (back ++ front)
  pub after : c.after ≡ first_of c.at (back ++ front)

module _ {A : Type 0} where
  first_++ : (a b : A) (l : List A) → first_of a l ≡ first_of b (l ++ a ∷ [])
  first_++ a b [] = refl
  first_++ a b (x ∷ l) = refl

  places_from_lem : (ring passed : List A) (prev at : A) (l : List A) (first : A) → ring ≡ passed ++ at ∷ l → prev ≡ last_of at (l ++ passed) → first ≡ first_of at passed → Each (Place ring) (bends prev at (l ++ first ∷ []))
  places_from_lem ring passed prev at [] first e p q = record { front = passed; back = []; whole = e; before = p; after = q } & end
  places_from_lem ring passed prev at (b ∷ l) first e p q =
      record { front = passed; back = b ∷ l; whole = e; before = p; after = refl }
      & places_from_lem ring (passed ++ at ∷ []) at b l first (e ∙ sym (append_assoc passed (at ∷ []) (b ∷ l))) (sym (ap (last_of b) (sym (append_assoc l passed (at ∷ []))) ∙ last_++ b (l ++ passed) at [])) (q ∙ first_++ at b passed)

  pub places : (ring : List A) → Each (Place ring) (corners ring)
  places [] = end
  places (a ∷ l) = places_from_lem (a ∷ l) [] (last_of a l) a l a refl (ap (last_of a) (sym (append-nil l))) refl

-- ---- sums around rings

module _ {A G : Type 0} (S : Sums G) (w : A → A → G) where
  open S use {◌⊕◌, nil, assoc, comm, idl}

  abbrev weight : Edge A → G
  weight e = w e.from e.to

  pub around_rotated : {l m : List A} → Rotated l m → around S w l ≡ around S w m
  around_rotated t = total_rotated S weight (edges_rotated t)

  module _ (back : (a b : A) → w a b ⊕ w b a ≡ nil) where
    triangle : (a b c d r : G) → c ⊕ d ≡ nil → b ⊕ (r ⊕ (a ⊕ nil)) ≡ (a ⊕ (b ⊕ (c ⊕ nil))) ⊕ (r ⊕ (d ⊕ nil))
    triangle a b c d r e = insert S c d (b ⊕ (r ⊕ (a ⊕ nil))) e ∙ simp (assoc, left_comm S, idl)

    -- the first element taken out: its triangle and the rest
    remove_first : (p : A) (l : List A) → around S w (p ∷ l) ≡ around S w (last_of p l ∷ p ∷ first_of p l ∷ []) ⊕ around S w l
    remove_first p [] = insert S (w p p) (w p p) (w p p ⊕ nil) (back p p) ∙ sym (idr S (w p p ⊕ (w p p ⊕ (w p p ⊕ nil))))
    remove_first p (s ∷ l) =
        let q = last_of s l in
        rw (steps-last s l p, steps-last s l s, total_++ S weight (steps s l) (edge q p ∷ []), total_++ S weight (steps s l) (edge q s ∷ []))
        (triangle (w q p) (w p s) (w s q) (w q s) (total S weight (steps s l)) (back s q))

    -- an element taken out by its place
    pub remove : (xs : List A) (p : A) (ys : List A) → around S w (xs ++ p ∷ ys) ≡ around S w (last_of p (ys ++ xs) ∷ p ∷ first_of p (ys ++ xs) ∷ []) ⊕ around S w (xs ++ ys)
    remove xs p ys = around_rotated (swapped xs (p ∷ ys)) ∙ remove_first p (ys ++ xs) ∙ ap (λ (z : G). around S w (last_of p (ys ++ xs) ∷ p ∷ first_of p (ys ++ xs) ∷ []) ⊕ z) (around_rotated (swapped ys xs))

    -- two rings joined at the edge that they share
    pub join : (s e : A) (rest_a rest_b : List A) → around S w ((e ∷ rest_a) ++ (s ∷ rest_b)) ≡ around S w (s ∷ e ∷ rest_a) ⊕ around S w (e ∷ s ∷ rest_b)
    join s e rest_a rest_b =
        rw (edges-two e rest_a s rest_b, total_++ S weight (steps e (rest_a ++ s ∷ [])) (steps s (rest_b ++ e ∷ [])))
        (insert S (w s e) (w e s) (total S weight (steps e (rest_a ++ s ∷ [])) ⊕ total S weight (steps s (rest_b ++ e ∷ []))) (back s e) ∙ simp (assoc, left_comm S))
