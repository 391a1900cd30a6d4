-- The merger's answer by the rooms alone, and its promise over the bytes.
use Prim.Native.Nat.{ℕ, zero, suc, ◌+◌, ◌*◌, ◌/◌, ◌≤◌, ◌<◌}
use mathlib.Core.Path.{◌≡◌, refl, sym, ◌∙◌, ap, subst}
use mathlib.Core.Logic.{◌≢◌}
use mathlib.Core.List.{List, [], ◌++◌, map, append_assoc}
use native.Mathlib.Omega.{arith}
use lib.Dec.{ltb}
use lib.ListN.{length, take, drop, length-map, length-append, length-drop}
use lib.Seq.{length-take-le, take-append_seam}
use lib.Ieee.{Float}
use Rattle.rules.specs.Limits.{most_points, most_indices}
use Rattle.rules.specs.Grid.{points_of}
use Rattle.rules.specs.Merge.{may_join, merge}
use Rattle.rules.specs.Layout.{flatten, split, triples, over}
use Rattle.rules.specs.Refusals.{first_refusal, count_checks, before_triangles, merger_checks}
use Rattle.rules.specs.Entries.{Merging, merger, written_pieces}
use Rattle.rules.proofs.Rows.{front_gives, front_none, others_decide}
use Rattle.rules.proofs.Fronts.{count-front, list_front, triangles-front}
use Rattle.rules.proofs.Layouts.{length_over}
use Rattle.rules.proofs.Answers.{merger-number, merger-answered, merger_none, merger-written}
use Rattle.rules.proofs.Accepted.{whole_list, in_range}
use Rattle.hertel_mehlhorn.specs.Promise.{Promise}
use Rattle.entries.specs.declared.Answer.{Answer}
use Rattle.words.specs.Bytes.{words_of, bytes_of}
use Rattle.words.proofs.Words.{words_length}
use Rattle.hasplight.specs.Promise.{corners_of, least_of, MergerGives}
use Rattle.hasplight.proofs.Least.{least_below, least-within, least-room}
use Rattle.hasplight.proofs.Sizes.{merged_corners, merged_count}

-- ---- what is reported, by the number of the refusal

module _ (cs : List Float) (tri : List ℕ) where
  abbrev pieces : List (List ℕ)
  pieces = merge (may_join (points_of cs)) (triples tri)

  reported : ℕ → List (List ℕ)
  reported zero = pieces
  reported (suc n) = []

  abbrev number : List ℕ → List ℕ → ℕ
  number out lens = first_refusal (merger_checks cs tri (length out) (length lens))

  -- everything that comes back, by the pieces
  record Says (r : Merging) (n : ℕ) (out lens : List ℕ) : Type 0 where
    pub the_number : r.number ≡ n
    pub the_count : r.count ≡ length (reported n)
    pub the_indices : r.indices ≡ over (flatten (reported n)) out
    pub the_lengths : r.lengths ≡ over (map length (reported n)) lens
    pub the_pieces : written_pieces r ≡ reported n

  says : (n : ℕ) (out lens : List ℕ) → number out lens ≡ n → Says (merger cs tri out lens) n out lens
  unfolding reported flatten split
  says zero out lens e =
      let ok = merger-number cs tri out lens ∙ e in
      let is = merger-answered cs tri out lens ok in
      record {
        the_number = ok;
        the_count = ap (λ (r : Merging). r.count) is;
        the_indices = ap (λ (r : Merging). r.indices) is;
        the_lengths = ap (λ (r : Merging). r.lengths) is;
        the_pieces = merger-written cs tri out lens ok;
      }
  says (suc n) out lens e =
      let is = merger-number cs tri out lens ∙ e in
      let none = merger_none cs tri out lens (λ z. absurd (omega (arith, is))) in
      record {
        the_number = is;
        the_count = none.0;
        the_indices = none.1;
        the_lengths = none.2;
        the_pieces = ap (λ (n : ℕ). split (take n (merger cs tri out lens).lengths) (merger cs tri out lens).indices) none.0;
      }

  merger_says : (out lens : List ℕ) → Says (merger cs tri out lens) (number out lens) out lens
  merger_says out lens = says (number out lens) out lens refl

  -- it fits, and its size
  record Fits (n : ℕ) (room places : ℕ) : Type 0 where
    pub corners_are : length (flatten (reported n)) ≡ corners_of n (length tri) (length (reported n))
    pub fits : length (flatten (reported n)) ≤ room
    pub fits_lengths : length (reported n) ≤ places

  fitting : (n room places : ℕ) → first_refusal (merger_checks cs tri room places) ≡ n → Fits n room places
  unfolding reported flatten
  fitting zero room places e =
      let g = in_range cs tri room places e in
      let k = merged_corners (may_join (points_of cs)) tri in
      let m = merged_count (may_join (points_of cs)) tri in
      record { corners_are = k; fits = omega (arith, k, m, g.fits, g.whole); fits_lengths = omega (arith, m, g.fits_lengths) }
  fitting (suc n) room places e = record { corners_are = refl; fits = omega arith; fits_lengths = omega arith }

-- ---- what was written over a front

front-back : (F old rest : List ℕ) → take (length F) (over F old ++ rest) ≡ F
front-back F old rest = ap (take (length F)) (append_assoc F (drop (length F) old) rest) ∙ take-append_seam F (drop (length F) old ++ rest)

-- ---- the tests of the code's steps

pub corners_none : (n t count : ℕ) → (n ≡ 0 → ⊥) → 0 ≡ corners_of n t count
corners_none zero t count h = absurd (h refl)
corners_none (suc n) t count h = refl

pub corners_some : (n t count : ℕ) → n ≡ 0 → t / 3 + 2 * count ≡ corners_of n t count
corners_some zero t count h = refl
corners_some (suc n) t count h = absurd (omega arith)

-- ---- the promise over the bytes

module _ (cs : List Float) (tri indices lengths : List ℕ) where
  abbrev given_number : ℕ
  given_number = number cs tri (words_of indices) (words_of lengths)

  -- the promise, by the pieces
  kept : (a : Answer) (indices' lengths' : List ℕ) → a.number ≡ given_number → a.count ≡ length (reported cs tri given_number) → indices' ≡ over (bytes_of (flatten (reported cs tri given_number))) indices
      → lengths' ≡ over (bytes_of (map length (reported cs tri given_number))) lengths → MergerGives cs tri indices lengths a indices' lengths'
  kept a indices' lengths' e f g h =
      let s = merger_says cs tri (words_of indices) (words_of lengths) in
      record {
        number = e ∙ sym s.the_number;
        count = f ∙ sym s.the_count;
        bytes = g ∙ ap (λ (ps : List (List ℕ)). over (bytes_of (flatten ps)) indices) (sym s.the_pieces);
        length-bytes = h ∙ ap (λ (ps : List (List ℕ)). over (bytes_of (map length ps)) lengths) (sym s.the_pieces);
      }

  none_reported : (n : ℕ) → n ≢ 0 → reported cs tri n ≡ []
  unfolding reported
  none_reported zero d = absurd (d refl)
  none_reported (suc n) d = refl

  refused : (n : ℕ) → n ≡ given_number → n ≢ 0 → MergerGives cs tri indices lengths (record { number = n; count = 0 }) indices lengths
  unfolding flatten bytes_of
  refused n e d =
      let none : reported cs tri given_number ≡ [] = ap (reported cs tri) (sym e) ∙ none_reported n d in
      kept (record { number = n; count = 0 }) indices lengths e (sym (ap length none)) (sym (ap (λ (ps : List (List ℕ)). over (bytes_of (flatten ps)) indices) none)) (sym (ap (λ (ps : List (List ℕ)). over (bytes_of (map length ps)) lengths) none))

  before_triangles_lem : {n : ℕ} → n ≡ first_refusal (before_triangles cs (length tri)) → n ≢ 0 → MergerGives cs tri indices lengths (record { number = n; count = 0 }) indices lengths
  before_triangles_lem {n} e d = refused n (front_gives (triangles-front cs tri (length (words_of indices)) (length (words_of lengths))) e d) d

  -- what the number of coordinates decides
  pub refused_count : (n : ℕ) → n ≡ first_refusal (count_checks 0 most_points (length cs)) → n ≢ 0 → MergerGives cs tri indices lengths (record { number = n; count = 0 }) indices lengths
  refused_count n e d = before_triangles_lem (front_gives (list_front cs (length tri)) (front_gives (count-front 0 most_points cs) e d) d) d

  -- more indices than the most triangles have
  module _ (fs : List Float) (t : ℕ) (same : fs ≡ cs) (m : t ≡ length tri) where
    pub too_long : most_indices < t → 0 ≡ first_refusal (before_triangles fs t) → ⊥
    too_long long z =
        let first = front_none (list_front fs t) (sym z) in
        let l = whole_list t (sym (others_decide (list_front fs t) first) ∙ sym z) in
        omega (arith, l.0, l.1, long)

    pub refused_long : {n : ℕ} → n ≡ first_refusal (before_triangles fs t) → n ≢ 0 → MergerGives cs tri indices lengths (record { number = n; count = 0 }) indices lengths
    refused_long {n = n} e d =
        let is : n ≡ first_refusal (before_triangles cs (length tri)) = rw (m, same) at e in
        before_triangles_lem is d

-- the merger is lent the first words of two rooms of the most indices
pub record Lent (cs : List Float) (tri indices lengths out sizes : List ℕ) (room places : ℕ) (a : Answer) (after after-lengths : List ℕ) : Type 0 where
  pub few : length tri ≤ most_indices
  pub room_is : room ≡ least_of (length indices / 4)
  pub places_is : places ≡ least_of (length lengths / 4)
  pub out_size : length out ≡ most_indices
  pub sizes_size : length sizes ≡ most_indices
  pub promise : Promise cs tri (take room out) (take places sizes) a after after-lengths

pub lent_to :
    {cs : List Float} {tri : List ℕ} (indices lengths : List ℕ) {out sizes : List ℕ} {room places : ℕ} {a b : Answer} {after after-lengths : List ℕ} → length tri ≤ most_indices
    → room ≡ least_of (length indices / 4) → places ≡ least_of (length lengths / 4) → length out ≡ most_indices → length sizes ≡ most_indices → a ≡ b
    → Promise cs tri (take room out) (take places sizes) b after after-lengths → Lent cs tri indices lengths out sizes room places a after after-lengths
lent_to indices lengths few r p o s e promise = record { few = few; room_is = r; places_is = p; out_size = o; sizes_size = s; promise = rw e promise }

module _ {cs : List Float} {tri indices lengths out sizes : List ℕ} {room places : ℕ} {a : Answer} {after after-lengths : List ℕ}
    (l : Lent cs tri indices lengths out sizes room places a after after-lengths) where
  open l use {few, room_is, places_is, out_size, sizes_size, promise}

  abbrev lent : List ℕ
  lent = take room out

  abbrev lent_lengths : List ℕ
  lent_lengths = take places sizes

  abbrev given : ℕ
  given = given_number cs tri indices lengths

  abbrev R : List (List ℕ)
  R = reported cs tri given

  lent_is : length lent ≡ room
  lent_is = length-take-le room out (omega (arith, least_below (length indices / 4)))

  places_are : length lent_lengths ≡ places
  places_are = length-take-le places sizes (omega (arith, least_below (length lengths / 4)))

  same_number : number cs tri lent lent_lengths ≡ given
  unfolding merger_checks
  same_number =
      let x : ltb (length lent) (length tri) ≡ ltb (length (words_of indices)) (length tri) =
      rw (lent_is, room_is, words_length indices) (least-room (length indices / 4) (length tri) (omega arith)) in
      let y : ltb (length lent_lengths) (length tri / 3) ≡ ltb (length (words_of lengths)) (length tri / 3) =
      rw (places_are, places_is, words_length lengths) (least-room (length lengths / 4) (length tri / 3) (omega arith)) in
      rw (x, y)

  inner : Says cs tri (merger cs tri lent lent_lengths) given lent lent_lengths
  inner = subst (λ (n : ℕ). Says cs tri (merger cs tri lent lent_lengths) n lent lent_lengths) same_number (merger_says cs tri lent lent_lengths)

  fit : Fits cs tri given (length lent) (length lent_lengths)
  fit = fitting cs tri given (length lent) (length lent_lengths) same_number

  number_is : a.number ≡ given
  number_is = promise.number ∙ inner.the_number

  count_is : a.count ≡ length R
  count_is = promise.count ∙ inner.the_count

  after_is : after ≡ over (flatten R) lent
  after_is = promise.indices_are ∙ inner.the_indices

  lengths_are : after-lengths ≡ over (map length R) lent_lengths
  lengths_are = promise.lengths_are ∙ inner.the_lengths

  corners_kept : (k : ℕ) → k ≡ corners_of a.number (length tri) a.count → k ≡ length (flatten R)
  corners_kept k e = e ∙ rw (number_is, count_is) (sym fit.corners_are)

  pub out_kept : most_indices ≡ length (after ++ drop room out)
  out_kept =
      sym (length-append after (drop room out) ∙ omega (arith, ap length after_is, length_over (flatten R) lent fit.fits, lent_is, length-drop room out, least_below (length indices / 4)))

  pub sizes_kept : most_indices ≡ length (after-lengths ++ drop places sizes)
  sizes_kept =
      sym (length-append after-lengths (drop places sizes)
      ∙ omega (arith, ap length lengths_are, length_over (map length R) lent_lengths (rw (length-map R length) fit.fits_lengths), places_are, length-drop places sizes, least_below (length lengths / 4)))

  pub corners_fit : (k : ℕ) → k ≡ corners_of a.number (length tri) a.count → (k ≤ length (after ++ drop room out)) × (k * 4 ≤ length indices)
  corners_fit k e =
      let c = corners_kept k e in
      (omega (arith, out_kept, c, fit.fits, lent_is, least_below (length indices / 4)), omega (arith, c, fit.fits, lent_is, least-within (length indices / 4)))

  pub lengths_fit : (n : ℕ) → n ≡ a.count → (n ≤ length (after-lengths ++ drop places sizes)) × (n * 4 ≤ length lengths)
  lengths_fit n e =
      (omega (arith, sizes_kept, count_is, fit.fits_lengths, places_are, least_below (length lengths / 4)), omega (arith, count_is, fit.fits_lengths, places_are, least-within (length lengths / 4)))

  pub merge_kept :
      (k n : ℕ) {indices' lengths' : List ℕ} → k ≡ corners_of a.number (length tri) a.count → n ≡ a.count → indices' ≡ over (bytes_of (take k (after ++ drop room out))) indices
      → lengths' ≡ over (bytes_of (take n (after-lengths ++ drop places sizes))) lengths → MergerGives cs tri indices lengths a indices' lengths'
  merge_kept k n e f b d =
      let front : take k (after ++ drop room out) ≡ flatten R = rw (corners_kept k e, after_is) (front-back (flatten R) lent (drop room out)) in
      let lens : take n (after-lengths ++ drop places sizes) ≡ map length R =
      rw (f ∙ count_is ∙ sym (length-map R length), lengths_are) (front-back (map length R) lent_lengths (drop places sizes)) in
      kept cs tri indices lengths a _ _ number_is count_is (b ∙ ap (λ (ws : List ℕ). over (bytes_of ws) indices) front) (d ∙ ap (λ (ws : List ℕ). over (bytes_of ws) lengths) lens)

pub merge_read :
    (cs fs : List Float) (tri ws indices lengths : List ℕ) (r : Answer) (indices' lengths' : List ℕ) → fs ≡ cs → ws ≡ tri → MergerGives fs ws indices lengths r indices' lengths'
    → MergerGives cs tri indices lengths r indices' lengths'
merge_read cs fs tri ws indices lengths r indices' lengths' e f g = rw (e, f) at g
