-- The merger's steps, one after the other, end with what `merge` gives: a step at a corner is `join` there, so that A's corners one by
-- one give its `next_join`; and every join, and every step to the next A, leaves one piece fewer to go through.
use Prim.Native.Nat.{ℕ, zero, suc, ◌+◌, ◌-◌, ◌*◌, ◌≤◌, ◌<◌}
use mathlib.Core.Path.{◌≡◌, refl, sym, ◌∙◌, ap, ap₂}
use mathlib.Core.Logic.{◌≢◌}
use mathlib.Core.Bool.{Bool, true, false, cond}
use mathlib.Core.List.{List, [], ◌∷◌, ◌++◌, append_assoc, append-nil}
use mathlib.Core.Option.{Option, none, some, map}
use native.Mathlib.Omega.{arith}
use borrow.Author.Tests.{le-ltb, lt-ltb}
use lib.Dec.{ltb}
use lib.Ieee.{Float}
use lib.ListN.{length, get_or, take, set, length-append}
use lib.Seq.{get_or-append_seam, get_or-append-add, set-append_seam, take-append-add, drop-cons, drop-length, get_or_at, set_at}
use Rattle.algebra.specs.Lists.{or_else, first, count_from}
use Rattle.algebra.specs.Sums.{total, naturals}
use Rattle.algebra.specs.Rings.{begun_at, rotations}
use Rattle.algebra.proofs.Equal.{impossible}
use Rattle.algebra.proofs.Lists.{first-map}
use Rattle.algebra.proofs.Rings.{rotated_length, begun_rotated, rotations-begun}
use Rattle.rules.specs.Merge.{follows, Part, with, last_first, mate, JoinTest, joint, may_join, join_with, join, next_join, merge}
use Rattle.rules.specs.Grid.{points_of}
use Rattle.rules.specs.Layout.{triples}
use Rattle.rules.specs.Entries.{merger, written_pieces}
use Rattle.rules.specs.Steps.{State, begin, finished, piece_at, Reverse, reverse_at, reverse_edge, swap_remove, joined, join_or_next, at_corner, step, run, Ends, enough_steps}
use Rattle.rules.proofs.Merges.{Picked, Join, next_join_lem, picked_sum, merge-next, merge-join}
use Rattle.rules.proofs.Answers.{merger-written}

-- ---- the list of pieces after a join

-- the last piece moves into the gap
last-moved : (b : List ℕ) (back : List (List ℕ)) → take (length back) (get_or (b ∷ back) (length back) [] ∷ back) ≡ last_first back
last-moved b [] = refl
last-moved b (c ∷ l) =
    let n : suc (length l) - 1 ≡ length l = omega arith in
    let h : length l < length (c ∷ l) = omega arith in
    rw (n, drop-cons (c ∷ l) (length l) [] h, drop-length l)

swapped_out : (front : List (List ℕ)) (b : List ℕ) (back : List (List ℕ)) (j : ℕ) → length front ≡ j → swap_remove j (front ++ b ∷ back) ≡ front ++ last_first back
swapped_out front b back j h =
    let all = front ++ b ∷ back in
    let last = get_or (b ∷ back) (length back) [] in
    let n : length all - 1 ≡ length front + length back = omega (arith, length-append front (b ∷ back)) in
    let is_last : piece_at all (length all - 1) ≡ last = rw n (get_or-append-add front (b ∷ back) (length back) []) in
    ap₂ take n (ap (set all j) is_last ∙ set_at front b back last j h)
    ∙ take-append-add front (last ∷ back) (length back)
    ∙ ap (λ (l : List (List ℕ)). front ++ l) (last-moved b back)

-- ---- steps

one_step : {may : JoinTest} {pieces : List (List ℕ)} {n m : ℕ} {state next : State} → n < m → step may state ≡ next → Ends may next n pieces → Ends may state m pieces
unfolding run
one_step {may} q e h = record { steps = suc h.steps; at_most = omega arith; ended = ap (run may h.steps) e ∙ h.ended; stays = h.stays }

-- where no A is left nothing happens
finished-stays : (may : JoinTest) (pieces : List (List ℕ)) (n : ℕ) → run may n (finished pieces) ≡ finished pieces
unfolding run step
finished-stays may pieces zero = refl
finished-stays may pieces (suc n) = rw (le-ltb (length pieces) (length pieces) (omega arith)) (finished-stays may pieces n)

already : (may : JoinTest) (pieces : List (List ℕ)) (n : ℕ) → Ends may (finished pieces) n pieces
unfolding run
already may pieces n = record { steps = 0; at_most = omega arith; ended = refl; stays = finished-stays may pieces }

-- ---- one step at a corner of A

-- A is the first of `left`, at its corner 0, and the pieces in front of it are finished
abbrev among : List (List ℕ) → List (List ℕ) → State
among front left = record { pieces = front ++ left; place = length front; corner = 0 }

module _ (may : JoinTest) (front : List (List ℕ)) (a : List ℕ) (later : List (List ℕ)) where
  abbrev all : List (List ℕ)
  all = front ++ a ∷ later

  abbrev at : ℕ → State
  at i = record { pieces = all; place = length front; corner = i }

  -- what the search by place finds, and what `mate` finds
  data Found : Option Reverse → Option Part → Type 0 where
    nowhere : Found none none
    found : {r : Reverse} {m : Part} {b : List ℕ} (p : Picked b later m.others) → r.place ≡ suc (length front) + length p.front → r.rest ≡ m.piece → Found (some r) (some m)

  -- behind the pieces that were passed
  finds : (e s : ℕ) (passed more : List (List ℕ)) (j : ℕ) → later ≡ passed ++ more → j ≡ suc (length front) + length passed → Found (first (reverse_at e s all) (count_from j (length more))) (mate e s passed more)
  unfolding first mate
  finds e s passed [] j q n = nowhere
  finds e s passed (b ∷ more) j q n =
      rw here (go (first (follows e s) (rotations b)) (finds e s (passed ++ b ∷ []) more (suc j) (q ∙ sym (append_assoc passed (b ∷ []) more)) (omega (arith, length-append passed (b ∷ [])))))
    where
      here : piece_at all j ≡ b
      here = rw (q, ← append_assoc front (a ∷ passed) (b ∷ more)) (get_or_at (front ++ a ∷ passed) b more [] j (omega (arith, n, length-append front (a ∷ passed))))

      go :
          (o : Option (List ℕ)) → Found (first (reverse_at e s all) (count_from (suc j) (length more))) (mate e s (passed ++ b ∷ []) more)
          → Found (or_else (map (λ rest. record { place = j; rest = rest }) o) (first (reverse_at e s all) (count_from (suc j) (length more)))) (or_else (with o (passed ++ last_first more)) (mate e s (passed ++ b ∷ []) more))
      go none rec = rec
      go (some rest) rec = found (record { front = passed; back = more; was = q; now = refl }) n refl

  finds_mate : (e s i : ℕ) → Found (reverse_edge e s (at i)) (mate e s [] later)
  unfolding reverse_edge
  finds_mate e s i =
      let n : length all - suc (length front) ≡ length later = omega (arith, length-append front (a ∷ later)) in
      rw n (finds e s [] later (suc (length front)) refl (omega arith))

  -- where a join leads
  abbrev after : Part → State
  after j = among front (j.piece ∷ j.others)

  joined_is : (i j : ℕ) (piece b : List ℕ) (others : List (List ℕ)) (p : Picked b later others) → j ≡ suc (length front) + length p.front → joined (at i) piece j ≡ after (record { piece = piece; others = others })
  joined_is i j piece b others p n =
      let x : length (front ++ piece ∷ p.front) ≡ j = omega (arith, n, length-append front (piece ∷ p.front)) in
      ap (λ (l : List (List ℕ)). record { pieces = l; place = length front; corner = 0 })
      (rw (set-append_seam front a later piece, p.was, p.now, ← append_assoc front (piece ∷ p.front) (b ∷ p.back), ← append_assoc front (piece ∷ p.front) (last_first p.back))
      (swapped_out (front ++ piece ∷ p.front) b p.back j x))

  data Went (i : ℕ) : Option Part → State → Type 0 where
    goes_on : Went i none (at (suc i))
    joins : {j : Part} {state : State} → state ≡ after j → Went i (some j) state

  corner-step : (i : ℕ) (ring : List ℕ) → Went i (join may later ring) (at_corner may (at i) ring)
  unfolding join join_with at_corner
  corner-step i [] = goes_on
  corner-step i (s ∷ []) = goes_on
  corner-step i (s ∷ e ∷ rest_a) = go (finds_mate e s i)
    where
      go : {r : Option Reverse} {m : Option Part} → Found r m → Went i (join_with may s e rest_a m) (join_or_next may (at i) s e rest_a r)
      go nowhere = goes_on
      go (found {r} {m} {b} p n q) = rw q (next (may (joint s e rest_a m.piece) (joint e s m.piece rest_a)))
        where
          next : (t : Bool) → Went i (cond t (some (record { piece = (e ∷ rest_a) ++ (s ∷ m.piece); others = m.others })) none) (cond t (joined (at i) ((e ∷ rest_a) ++ (s ∷ m.piece)) r.place) (at (suc i)))
          next true = joins (joined_is i r.place ((e ∷ rest_a) ++ (s ∷ m.piece)) b m.others p n)
          next false = goes_on

  -- ---- along A's corners

  is_piece : piece_at all (length front) ≡ a
  is_piece = get_or-append_seam front a later []

  not_last : ltb (length front) (length all) ≡ true
  not_last = lt-ltb (length front) (length all) (omega (arith, length-append front (a ∷ later)))

  step-at : (i : ℕ) → i < length a → step may (at i) ≡ at_corner may (at i) (begun_at i a)
  unfolding step
  step-at i h = rw (not_last, is_piece, lt-ltb i (length a) h)

  -- A's first join at k corners from i on
  abbrev join_from : ℕ → ℕ → Option Part
  join_from i k = first (λ i. join may later (begun_at i a)) (count_from i k)

  -- where A's corners lead: to A joined, or to the next A
  abbrev Then : Option Part → State
  Then none = record { pieces = all; place = suc (length front); corner = 0 }
  Then (some j) = after j

  step_past : (i : ℕ) → i ≡ length a → step may (at i) ≡ Then none
  unfolding step
  step_past i h = rw (not_last, is_piece, le-ltb i (length a) (omega arith))

  module _ (n : ℕ) (pieces : List (List ℕ)) where
    from-corner : (i k m : ℕ) → i + k ≡ length a → k + n < m → Ends may (Then (join_from i k)) n pieces → Ends may (at i) m pieces
    unfolding first
    from-corner i zero m q b h = one_step (omega arith) (step_past i (omega arith)) h
    from-corner i (suc k) m q b h = go (from-corner (suc i) k (suc (k + n)) (omega arith) (omega arith)) (corner-step i (begun_at i a)) (step-at i (omega arith)) h
      where
        go :
            (Ends may (Then (join_from (suc i) k)) n pieces → Ends may (at (suc i)) (suc (k + n)) pieces) → {o : Option Part} {state : State} → Went i o state → step may (at i) ≡ state
            → Ends may (Then (or_else o (join_from (suc i) k))) n pieces → Ends may (at i) m pieces
        go rec goes_on e h = one_step (omega arith) e (rec h)
        go rec (joins w) e h = one_step (omega arith) (e ∙ w) h

  -- A's corners from 0 on
  from_first : (n m : ℕ) (pieces : List (List ℕ)) → length a + n < m → Ends may (Then (next_join may a later)) n pieces → Ends may (at 0) m pieces
  unfolding next_join
  from_first n m pieces b h =
      let e : next_join may a later ≡ join_from 0 (length a) = ap (first (join may later)) (rotations-begun a) ∙ first-map (join may later) (λ i. begun_at i a) (count_from 0 (length a)) in
      from-corner n pieces 0 (length a) m (omega arith) b (rw e at h)

-- ---- the end

abbrev all-corners : List (List ℕ) → ℕ
all-corners pieces = total naturals length pieces

-- a join leaves one piece fewer, and no more corners
module _ {may : JoinTest} {a : List ℕ} {later : List (List ℕ)} {j : Part} (h : Join may a later j) where
  one_fewer : suc (length j.others) ≡ length later
  one_fewer =
      let p = h.picked in
      rw (p.was, p.now, length-append p.front (h.b ∷ p.back), length-append p.front (last_first p.back), ← rotated_length (begun_rotated p.back (length p.back - 1))) (omega arith)

  no_more_corners : all-corners (j.piece ∷ j.others) ≤ all-corners (a ∷ later)
  no_more_corners =
      rw (h.piece, picked_sum naturals length h.picked, rotated_length h.rotated_a, rotated_length h.rotated_b, length-append h.rest_a (h.s ∷ h.rest_b)) (omega arith)

no_pieces : (may : JoinTest) → merge may [] ≡ []
unfolding merge
no_pieces may = refl

module _ (may : JoinTest) (most : ℕ) where
  to_end : (k : ℕ) (front left : List (List ℕ)) → length left ≡ k → all-corners left ≤ most → Ends may (among front left) (k * suc most) (front ++ merge may left)
  to_end zero front [] n c = rw (no_pieces may, append-nil front) (already may front (0 * suc most))
  to_end zero front (a ∷ later) n c = absurd (omega arith)
  to_end (suc k) front [] n c = absurd (omega arith)
  to_end (suc k) front (a ∷ later) n c = from_first may front a later (k * suc most) (suc k * suc most) (front ++ merge may (a ∷ later)) (omega arith) (go (to_end k) (next_join may a later) refl)
    where
      go :
          ((front left : List (List ℕ)) → length left ≡ k → all-corners left ≤ most → Ends may (among front left) (k * suc most) (front ++ merge may left))
          → (o : Option Part) → next_join may a later ≡ o → Ends may (Then may front a later o) (k * suc most) (front ++ merge may (a ∷ later))
      go rec none e =
          let place : length (front ++ a ∷ []) ≡ suc (length front) = omega (arith, length-append front (a ∷ [])) in
          rw (merge-next may a later e) (rw (append_assoc front (a ∷ []) later, append_assoc front (a ∷ []) (merge may later), place) at (rec (front ++ a ∷ []) later (omega arith) (omega arith)))
      go rec (some j) e =
          let h = next_join_lem may a later j e in
          rw (merge-join may a later j e (one_fewer h)) (rec front (j.piece ∷ j.others) (omega (arith, one_fewer h)) (omega (arith, no_more_corners h)))

-- the steps from any pieces end with what `merge` makes of them
pub steps-merge : (may : JoinTest) (pieces : List (List ℕ)) → Ends may (begin pieces) (enough_steps pieces) (merge may pieces)
steps-merge may pieces = to_end may (all-corners pieces) (length pieces) [] pieces refl (omega arith)

-- ---- what an end says

run_further : (may : JoinTest) (n m : ℕ) (state : State) → run may (n + m) state ≡ run may m (run may n state)
unfolding run
run_further may zero m state = let e : 0 + m ≡ m = omega arith in rw e
run_further may (suc n) m state = let e : suc n + m ≡ suc (n + m) = omega arith in rw e (run_further may n m (step may state))

-- as many steps as the end allows lead there
pub at-end : {may : JoinTest} {state : State} {n : ℕ} {pieces : List (List ℕ)} → Ends may state n pieces → run may n state ≡ finished pieces
at-end {may} {state} {n} h =
    let e : h.steps + (n - h.steps) ≡ n = omega (arith, h.at_most) in
    ap (λ (k : ℕ). run may k state) (sym e) ∙ run_further may h.steps (n - h.steps) state ∙ ap (run may (n - h.steps)) h.ended ∙ h.stays (n - h.steps)

-- the steps end with one list of pieces and no other
pub end_unique : {may : JoinTest} {state : State} {n m : ℕ} {pieces others : List (List ℕ)} → Ends may state n pieces → Ends may state m others → pieces ≡ others
end_unique {may} {state} h k =
    let e : h.steps + k.steps ≡ k.steps + h.steps = omega arith in
    let one = run_further may h.steps k.steps state ∙ ap (run may k.steps) h.ended ∙ h.stays k.steps in
    let two = run_further may k.steps h.steps state ∙ ap (run may h.steps) k.ended ∙ k.stays h.steps in
    ap (λ (s : State). s.pieces) (sym one ∙ ap (λ (n : ℕ). run may n state) e ∙ two)

pub run-merge : (may : JoinTest) (pieces : List (List ℕ)) → run may (enough_steps pieces) (begin pieces) ≡ finished (merge may pieces)
run-merge may pieces = at-end (steps-merge may pieces)

-- one piece needs them all: with one step fewer A's corners are gone through, and A is still there
module _ (may : JoinTest) (a : List ℕ) where
  abbrev alone : ℕ → State
  alone i = record { pieces = a ∷ []; place = 0; corner = i }

  no_join : (ring : List ℕ) → join may [] ring ≡ none
  unfolding join join_with mate
  no_join [] = refl
  no_join (s ∷ []) = refl
  no_join (s ∷ e ∷ rest) = refl

  next_corner_lem : (i : ℕ) → i < length a → step may (alone i) ≡ alone (suc i)
  next_corner_lem i h = step-at may [] a [] i h ∙ go (corner-step may [] a [] i (begun_at i a)) (no_join (begun_at i a))
    where
      go : {o : Option Part} {state : State} → Went may [] a [] i o state → o ≡ none → state ≡ alone (suc i)
      go goes_on e = refl
      go (joins w) e = impossible (cc)

  corners_only : (k i : ℕ) → i + k ≤ length a → run may k (alone i) ≡ alone (i + k)
  unfolding run
  corners_only zero i h = let e : i ≡ i + 0 = omega arith in ap alone e
  corners_only (suc k) i h =
      let e : suc i + k ≡ i + suc k = omega arith in
      ap (run may k) (next_corner_lem i (omega arith)) ∙ corners_only k (suc i) (omega arith) ∙ ap alone e

  pub last_step_needed : run may (enough_steps (a ∷ []) - 1) (begin (a ∷ [])) ≢ finished (a ∷ [])
  last_step_needed h =
      let e : enough_steps (a ∷ []) - 1 ≡ length a = omega arith in
      let there : run may (enough_steps (a ∷ []) - 1) (begin (a ∷ [])) ≡ alone (0 + length a) = ap (λ (n : ℕ). run may n (begin (a ∷ []))) e ∙ corners_only (length a) 0 (omega arith) in
      impossible (ap (λ (s : State). s.place) (sym there ∙ h))

-- an accepted merge has written what the steps from the given triangles end with
pub written-steps :
    (cs : List Float) (triangles out lens : List ℕ) → (merger cs triangles out lens).number ≡ 0
    → Ends (may_join (points_of cs)) (begin (triples triangles)) (enough_steps (triples triangles)) (written_pieces (merger cs triangles out lens))
written-steps cs triangles out lens ok = rw (merger-written cs triangles out lens ok) (steps-merge (may_join (points_of cs)) (triples triangles))
