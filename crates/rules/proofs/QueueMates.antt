-- The search for a mate: the pieces that it has passed, what it finds in a triangle, and the list of pieces that it leaves.
use Prim.Native.Nat.{ℕ, zero, suc, ◌-◌, ◌≤◌, ◌<◌}
use native.Mathlib.Omega.{arith}
use mathlib.Core.Path.{◌≡◌, refl, sym, ◌∙◌, ap, ap₂, subst}
use mathlib.Core.Bool.{Bool, true, false, cond, ◌&&◌}
use mathlib.Core.List.{List, [], ◌∷◌, ◌++◌, append_assoc, append-nil}
use mathlib.Core.Option.{Option, none, some}
use lib.Dec.{eqb}
use lib.ListN.{length, length-append, length-take, get_or, set, take, drop, take-append-drop}
use lib.Seq.{take-length, drop-cons, take-append_seam, drop-append_seam, set-append_seam, take_at, get_or_at}
use Rattle.algebra.specs.Lists.{Each, end, ◌&◌, first, or_else}
use Rattle.algebra.proofs.Lists.{each_tail}
use Rattle.algebra.specs.Rings.{rotations, rotations_from}
use Rattle.algebra.proofs.Rings.{each_rotated}
use Rattle.rules.specs.Merge.{follows, Part, last_first, mate}
use Rattle.rules.proofs.Merges.{Picked, mated_in}
use Rattle.rules.proofs.Queues.{Apart, mate_none, picked_each}

-- ---- pieces that the search has passed

module _ (e s : ℕ) where
  mate_skip : (passed front back : List (List ℕ)) → Each (Apart e s) front → mate e s passed (front ++ back) ≡ mate e s (passed ++ front) back
  unfolding mate
  mate_skip passed [] back h = rw append-nil
  mate_skip passed (b ∷ front) back (h & hs) = rw (h, mate) (mate_skip (passed ++ b ∷ []) front back hs ∙ ap (λ (l : List (List ℕ)). mate e s l back) (append_assoc passed (b ∷ []) front))

  -- the first later piece with the edge
  mate-found :
      (front : List (List ℕ)) (b : List ℕ) (back : List (List ℕ)) (rest : List ℕ) → Each (Apart e s) front → first (follows e s) (rotations b) ≡ some rest
      → mate e s [] (front ++ b ∷ back) ≡ some (record { piece = rest; others = front ++ last_first back })
  unfolding mate
  mate-found front b back rest h f = mate_skip [] front (b ∷ back) h ∙ rw (f, mate)

-- ---- triangles

module _ (e s : ℕ) where
  -- a to b is the edge that is looked for
  abbrev pub runs : ℕ → ℕ → Bool
  runs a b = eqb a e && eqb b s

  either : {A : Type 0} (t : Bool) (a : A) (m : Option A) → or_else (cond t (some a) none) m ≡ cond t (some a) m
  either true a m = refl
  either false a m = refl

  -- the edge's place in a triangle, by three tests; what follows it is the triangle's third corner
  pub in_triangle_lem :
      (x y z : ℕ)
      → first (follows e s) (rotations (x ∷ y ∷ z ∷ [])) ≡ cond (runs x y) (some (z ∷ [])) (cond (runs y z) (some (x ∷ [])) (cond (runs z x) (some (y ∷ [])) none))
  unfolding first follows rotations rotations_from
  in_triangle_lem x y z =
      either (runs x y) (z ∷ []) _
      ∙ ap (cond (runs x y) (some (z ∷ []))) (either (runs y z) (x ∷ []) _ ∙ ap (cond (runs y z) (some (x ∷ []))) (either (runs z x) (y ∷ []) none))

picked_one : {P : List ℕ → Type 0} {b : List ℕ} {l m : List (List ℕ)} → Picked b l m → Each P l → P b
picked_one {P} {b} p h = go p.front (subst (Each P) p.was h)
  where
    go : (front : List (List ℕ)) → Each P (front ++ b ∷ p.back) → P b
    go [] (h & _) = h
    go (_ ∷ front) (_ & h) = go front h

-- what holds of every corner of the later pieces, holds of the mate's and of those that are left
pub mate-each : {P : ℕ → Type 0} (e s : ℕ) (later : List (List ℕ)) (b : Part) → mate e s [] later ≡ some b → Each (Each P) later → Each P b.piece × Each (Each P) b.others
mate-each e s later b m h =
    let r = mated_in e s [] later b m in
    (each_tail (each_tail (each_rotated r.rotated (picked_one r.picked h))), picked_each r.picked h)

-- ---- the list that `swap_remove` leaves

last_first_lem : (l : List (List ℕ)) (c : List ℕ) → last_first (l ++ c ∷ []) ≡ c ∷ l
last_first_lem l c =
    let n : length (l ++ c ∷ []) - 1 ≡ length l = rw (length-append l (c ∷ [])) (omega arith) in
    rw (n, drop-append_seam l (c ∷ []), take-append_seam l (c ∷ []))

data Ends {A : Type 0} : List A → Type 0 where
  empty : Ends []
  ends : (l : List A) (c : A) → Ends (l ++ c ∷ [])

ends_of : {A : Type 0} (l : List A) → Ends l
ends_of [] = empty
ends_of {A} (a ∷ l) = go (ends_of l)
  where
    go : {l : List A} → Ends l → Ends (a ∷ l)
    go empty = ends [] a
    go (ends m c) = ends (a ∷ m) c

-- the last piece is written over b, and the list is one shorter
swap_removed :
    (front : List (List ℕ)) (b : List ℕ) (back : List (List ℕ)) (n : ℕ) → suc n ≡ length (front ++ b ∷ back)
    → front ++ last_first back ≡ take n (set (front ++ b ∷ back) (length front) (get_or (front ++ b ∷ back) n []))
swap_removed front b back n h = go (ends_of back) h
  where
    go : {back : List (List ℕ)} → Ends back → suc n ≡ length (front ++ b ∷ back) → front ++ last_first back ≡ take n (set (front ++ b ∷ back) (length front) (get_or (front ++ b ∷ back) n []))
    go empty h =
        let m : length front ≡ n = omega (arith, length-append front (b ∷ [])) in
        rw (get_or_at front b [] [] n m, set-append_seam front b [] b, take_at front (b ∷ []) n m, append-nil front)
    go (ends mid c) h =
        let m : length (front ++ b ∷ mid) ≡ n = omega (arith, length-append front (b ∷ (mid ++ c ∷ [])), length-append mid (c ∷ []), length-append front (b ∷ mid)) in
        let m' : length (front ++ c ∷ mid) ≡ n = omega (arith, m, length-append front (c ∷ mid), length-append front (b ∷ mid)) in
        let g : get_or (front ++ b ∷ (mid ++ c ∷ [])) n [] ≡ c = ap (λ (l : List (List ℕ)). get_or l n []) (sym (append_assoc front (b ∷ mid) (c ∷ []))) ∙ get_or_at (front ++ b ∷ mid) c [] [] n m in
        let t : take n (front ++ c ∷ (mid ++ c ∷ [])) ≡ front ++ c ∷ mid = ap (take n) (sym (append_assoc front (c ∷ mid) (c ∷ []))) ∙ take_at (front ++ c ∷ mid) (c ∷ []) n m' in
        ap (λ (l : List (List ℕ)). front ++ l) (last_first_lem mid c) ∙ sym (ap (λ (x : List ℕ). take n (set (front ++ b ∷ (mid ++ c ∷ [])) (length front) x)) g ∙ ap (take n) (set-append_seam front b (mid ++ c ∷ []) c) ∙ t)

last_first-length : (l : List (List ℕ)) → length (last_first l) ≡ length l
last_first-length l = go (ends_of l)
  where
    go : {l : List (List ℕ)} → Ends l → length (last_first l) ≡ length l
    go empty = refl
    go (ends m c) = ap length (last_first_lem m c) ∙ (rw (length-append m (c ∷ [])) (omega arith))

pub picked_length : {b : List ℕ} {l m : List (List ℕ)} → Picked b l m → suc (length m) ≡ length l
picked_length {b} p = rw (p.was, p.now, length-append p.front (last_first p.back), length-append p.front (b ∷ p.back), last_first-length p.back) (omega arith)

-- ---- the search by numbers of pieces: n is the number of the last one

front-each : {P : List ℕ → Type 0} (k : ℕ) (l : List (List ℕ)) → k ≤ length l → ((i : ℕ) → i < k → P (get_or l i [])) → Each P (take k l)
front-each zero l h f = end
front-each (suc k) [] h f = end
front-each (suc k) (b ∷ l) h f = f 0 (omega arith) & front-each k l (omega arith) (λ i j. f (suc i) (omega arith))

pub mate-nowhere : (e s : ℕ) (later : List (List ℕ)) → ((i : ℕ) → i < length later → Apart e s (get_or later i [])) → mate e s [] later ≡ none
mate-nowhere e s later f = mate_none e s [] later (subst (Each (Apart e s)) (take-length later) (front-each (length later) later (omega arith) f))

pub mate-at :
    (e s : ℕ) (later : List (List ℕ)) (k n : ℕ) (rest : List ℕ) → suc n ≡ length later → k ≤ n → ((i : ℕ) → i < k → Apart e s (get_or later i []))
    → first (follows e s) (rotations (get_or later k [])) ≡ some rest
    → mate e s [] later ≡ some (record { piece = rest; others = take n (set later k (get_or later n [])) })
mate-at e s later k n rest size low f found =
    let b = get_or later k [] in
    let front = take k later in
    let back = drop (suc k) later in
    let whole : front ++ b ∷ back ≡ later = ap (λ (l : List (List ℕ)). front ++ l) (sym (drop-cons later k [] (omega arith))) ∙ take-append-drop k later in
    let long : length front ≡ k = length-take k later ∙ omega arith in
    let there : mate e s [] (front ++ b ∷ back) ≡ some (record { piece = rest; others = front ++ last_first back }) = mate-found e s front b back rest (front-each k later (omega arith) f) found in
    let left : front ++ last_first back ≡ take n (set (front ++ b ∷ back) (length front) (get_or (front ++ b ∷ back) n [])) = swap_removed front b back n (size ∙ ap length (sym whole)) in
    let left' : front ++ last_first back ≡ take n (set later k (get_or later n [])) = left ∙ ap₂ (λ (l : List (List ℕ)) (i : ℕ). take n (set l i (get_or l n []))) whole long in
    ap (mate e s []) (sym whole) ∙ there ∙ ap (λ (l : List (List ℕ)). some (record { piece = rest; others = l })) left'
