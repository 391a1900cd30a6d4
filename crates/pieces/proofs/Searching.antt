-- The search for the piece that holds an edge: which eights it may skip, what it has passed, and what it finds.
use Prim.Native.Nat.{ℕ, zero, suc, ◌+◌, ◌-◌, ◌*◌, ◌/◌, ◌%◌, ◌^◌, ◌≤◌, ◌<◌, min}
use native.Mathlib.Omega.{arith}
use native.Mathlib.Decide.{ℕ_discrete}
use mathlib.Core.Path.{◌≡◌, refl, sym, ◌∙◌, ap, subst}
use mathlib.Core.Logic.{◌≢◌}
use native.Mathlib.Nat.{lt_of_not-le}
use mathlib.Core.Bool.{Bool, true, false, cond}
use mathlib.Core.List.{List, [], ◌∷◌}
use mathlib.Core.Option.{none, some}
use Rattle.std.specs.Prelude.{None, Some}
use lib.Bits.{bit_and}
use lib.Pow.{shr_lt, shr-shr}
use lib.Count.{count_trailing_zeros}
use lib.Dec.{eqb}
use lib.ListN.{length, get_or}
use Rattle.algebra.specs.Lists.{Each, end, ◌&◌, first}
use Rattle.algebra.specs.Rings.{rotations}
use Rattle.algebra.proofs.Equal.{eqb_same, eqb-true, and_true_l, and_true_r}
use Rattle.rules.specs.Merge.{follows, mate}
use Rattle.rules.proofs.Queues.{Apart}
use Rattle.rules.proofs.QueueMates.{runs, in_triangle_lem, mate-nowhere, mate-at}
use Rattle.pieces.specs.Pieces.{edge_of, start_of, end_of, piece_at, later, swap_removed, Shown, Piece, Lie, Within, Mated}
use Rattle.algebra.specs.Bits.{Has}
use Rattle.algebra.proofs.Bits.{has_both, none_left, skipped_bit, trailing_below}
use Rattle.pieces.proofs.Later.{length_from, from_at}

-- of the edges of the later pieces, none before place n is the one that is looked for
pub record Passed (edges : List ℕ) (want from count n : ℕ) : Type 0 where
  pub not_at : (i : ℕ) → 3 * from ≤ i → i < 3 * count → i < n → get_or edges i 0 ≡ want → ⊥

module _ {edges : List ℕ} {want from count : ℕ} where
  pub passed_first : Passed edges want from count (24 * (from / 8))
  passed_first = record { not_at = λ i h l k e. absurd (omega arith) }

  passed_less : (n m : ℕ) → Passed edges want from count n → ((i : ℕ) → 3 * from ≤ i → i < 3 * count → i < m → i < n) → Passed edges want from count m
  passed_less n m p f = record { not_at = λ i h l k e. p.not_at i h l (f i h l k) e }

  -- up to where the edge stands in eight g
  passed_at : (g at : ℕ) → Passed edges want from count (24 * g) → Within edges want g from count (Some at) → Passed edges want from count at
  passed_at g at p w = record { not_at = λ i h l k e. go i h l k e (ℕ_discrete (min (24 * g) i) (24 * g)) }
    where
      go : (i : ℕ) → 3 * from ≤ i → i < 3 * count → i < at → get_or edges i 0 ≡ want → Dec (min (24 * g) i ≡ 24 * g) → ⊥
      go i h l k e (yes q) = w.5 i (omega arith) h k e
      go i h l k e (no q) = p.not_at i h l (omega arith) e

  -- and behind it, where it does not stand there
  passed_eight : (g : ℕ) → Passed edges want from count (24 * g) → Within edges want g from count None → Passed edges want from count (24 * (g + 1))
  passed_eight g p w = record { not_at = λ i h l k e. go i h l k e (ℕ_discrete (min (24 * g) i) (24 * g)) }
    where
      go : (i : ℕ) → 3 * from ≤ i → i < 3 * count → i < 24 * (g + 1) → get_or edges i 0 ≡ want → Dec (min (24 * g) i ≡ 24 * g) → ⊥
      go i h l k e (yes q) = w i (omega arith) (omega arith) h l e
      go i h l k e (no q) = p.not_at i h l (omega arith) e

-- from eight g on the search goes on: what is left of the points' words is shifted down to it
pub record Seeking (edges eights : List ℕ) (from count e s want g word : ℕ) : Type 0 where
  pub want_is : want ≡ edge_of e s
  pub word_is : word ≡ bit_and (get_or eights e 0) (get_or eights s 0) / 2 ^ g
  pub small : word < 2 ^ (64 - g)
  pub few : g ≤ 64
  pub passed : Passed edges (edge_of e s) from count (24 * g)

module _ {edges eights : List ℕ} {from count e s : ℕ} (known : Lie edges eights from count × (from ≤ count)) (low : (e < 512) × (s < 512)) where
  lie : Lie edges eights from count
  lie = known.0

  -- ---- an eight that holds the edge holds both its points

  abbrev both : ℕ
  both = bit_and (get_or eights e 0) (get_or eights s 0)

  both_shown : (k x y : ℕ) → Shown eights k x → Shown eights k y → (edge : ℕ) → start_of edge ≡ x → end_of edge ≡ y → edge ≡ edge_of e s → Has both (k / 8)
  both_shown k x y p q edge is_x is_y is =
      let a : x ≡ e = omega arith in
      let b : y ≡ s = omega arith in
      has_both (get_or eights e 0) (get_or eights s 0) (k / 8) (rw a at p) (rw b at q)

  edge_shown : (k r : ℕ) → Piece edges eights k → r < 3 → get_or edges (3 * k + r) 0 ≡ edge_of e s → Has both (k / 8)
  edge_shown k r p h is = go p.shown r h is
    where
      go : Each (Shown eights k) (piece_at edges k) → (r : ℕ) → r < 3 → get_or edges (3 * k + r) 0 ≡ edge_of e s → Has both (k / 8)
      go (x & y & z & end) zero h is = let w : 3 * k + 0 ≡ 3 * k = omega arith in both_shown k _ _ x y (get_or edges (3 * k) 0) refl p.first (rw w at is)
      go (x & y & z & end) (suc zero) h is = both_shown k _ _ y z (get_or edges (3 * k + 1) 0) refl p.second is
      go (x & y & z & end) (suc (suc zero)) h is = both_shown k _ _ z x (get_or edges (3 * k + 2) 0) refl p.third is
      go (x & y & z & end) (suc (suc (suc r))) h is = absurd (omega arith)

  eight_shown : (i : ℕ) → 3 * from ≤ i → i < 3 * count → get_or edges i 0 ≡ edge_of e s → Has both (i / 24)
  eight_shown i h l is =
      let w : 3 * (i / 3) + i % 3 ≡ i = omega arith in
      let v : i / 3 / 8 ≡ i / 24 = omega arith in
      rw v at (edge_shown (i / 3) (i % 3) (lie.each (i / 3) (omega arith) (omega arith)) (omega arith) (rw w is))

  passed_skip : (g : ℕ) → Passed edges (edge_of e s) from count (24 * g) → Passed edges (edge_of e s) from count (24 * (g + count_trailing_zeros 64 (both / 2 ^ g)))
  passed_skip g p = record { not_at = λ i h l k is. go i h l k is (ℕ_discrete (min g (i / 24)) g) }
    where
      go : (i : ℕ) → 3 * from ≤ i → i < 3 * count → i < 24 * (g + count_trailing_zeros 64 (both / 2 ^ g)) → get_or edges i 0 ≡ edge_of e s → Dec (min g (i / 24) ≡ g) → ⊥
      go i h l k is (yes q) = omega (arith, eight_shown i h l is, skipped_bit both g (i / 24) (omega arith) (omega arith))
      go i h l k is (no q) = p.not_at i h l (omega arith) is

  passed-all : (g : ℕ) → both / 2 ^ g ≡ 0 → Passed edges (edge_of e s) from count (24 * g) → (i : ℕ) → 3 * from ≤ i → i < 3 * count → get_or edges i 0 ≡ edge_of e s → ⊥
  passed-all g z p i h l is = past (ℕ_discrete (min g (i / 24)) g)
    where
      past : Dec (min g (i / 24) ≡ g) → ⊥
      past (yes q) = omega (arith, eight_shown i h l is, none_left both g (i / 24) z (omega arith))
      past (no q) = p.not_at i h l (omega arith) is

  -- ---- what the search finds

  -- whether an edge is the one that is looked for, by its two points
  runs_not : (edge x y : ℕ) → start_of edge ≡ x → end_of edge ≡ y → (edge ≡ edge_of e s → ⊥) → runs e s x y ≡ false
  runs_not edge x y is_x is_y not = go (runs e s x y) refl
    where
      go : (t : Bool) → runs e s x y ≡ t → t ≡ false
      go true h =
          let a = eqb-true x e (and_true_l (eqb x e) (eqb y s) h) in
          let b = eqb-true y s (and_true_r (eqb x e) (eqb y s) h) in
          absurd (not (omega arith))
      go false h = refl

  runs_is : (edge x y : ℕ) → start_of edge ≡ x → end_of edge ≡ y → edge ≡ edge_of e s → runs e s x y ≡ true
  runs_is edge x y is_x is_y is =
      let a : x ≡ e = omega arith in
      let b : y ≡ s = omega arith in
      rw (a, b, eqb_same e, eqb_same s)

  module _ (k : ℕ) (p : Piece edges eights k) where
    abbrev x : ℕ
    x = get_or edges (3 * k) 0

    abbrev y : ℕ
    y = get_or edges (3 * k + 1) 0

    abbrev z : ℕ
    z = get_or edges (3 * k + 2) 0

    piece_apart : ((r : ℕ) → r < 3 → get_or edges (3 * k + r) 0 ≡ edge_of e s → ⊥) → Apart e s (piece_at edges k)
    piece_apart not =
        let w : 3 * k + 0 ≡ 3 * k = omega arith in
        in_triangle_lem e s (start_of x) (start_of y) (start_of z)
        ∙ rw (runs_not x (start_of x) (start_of y) refl p.first (rw w at (not 0 (omega arith))), runs_not y (start_of y) (start_of z) refl p.second (not 1 (omega arith)), runs_not z (start_of z) (start_of x) refl p.third (not 2 (omega arith)))

    piece-holds : (j : ℕ) → j < 3 → ((r : ℕ) → r < j → get_or edges (3 * k + r) 0 ≡ edge_of e s → ⊥) → get_or edges (3 * k + j) 0 ≡ edge_of e s
        → first (follows e s) (rotations (piece_at edges k)) ≡ some (start_of (get_or edges (3 * k + (j + 2) % 3) 0) ∷ [])
    piece-holds j h not is = in_triangle_lem e s (start_of x) (start_of y) (start_of z) ∙ go j h not is
      where
        w : 3 * k + 0 ≡ 3 * k
        w = omega arith

        go : (j : ℕ) → j < 3 → ((r : ℕ) → r < j → get_or edges (3 * k + r) 0 ≡ edge_of e s → ⊥) → get_or edges (3 * k + j) 0 ≡ edge_of e s
            → cond (runs e s (start_of x) (start_of y)) (some (start_of z ∷ [])) (cond (runs e s (start_of y) (start_of z)) (some (start_of x ∷ [])) (cond (runs e s (start_of z) (start_of x)) (some (start_of y ∷ [])) none))
            ≡ some (start_of (get_or edges (3 * k + (j + 2) % 3) 0) ∷ [])
        go zero h not is = rw (runs_is x (start_of x) (start_of y) refl p.first (rw w at is))
        go (suc zero) h not is = rw (runs_not x (start_of x) (start_of y) refl p.first (rw w at (not 0 (omega arith))), runs_is y (start_of y) (start_of z) refl p.second is, w)
        go (suc (suc zero)) h not is = rw (runs_not x (start_of x) (start_of y) refl p.first (rw w at (not 0 (omega arith))), runs_not y (start_of y) (start_of z) refl p.second (not 1 (omega arith)), runs_is z (start_of z) (start_of x) refl p.third is)
        go (suc (suc (suc j))) h not is = absurd (omega arith)

  later_apart : (i n : ℕ) → Passed edges (edge_of e s) from count n → 3 * (from + i) + 3 ≤ n → from + i < count → Apart e s (get_or (later edges from count) i [])
  later_apart i n p h l =
      subst (Apart e s) (sym (from_at edges from (count - from) i (omega arith)))
      (piece_apart (from + i) (lie.each (from + i) (omega arith) l) (λ r q. p.not_at (3 * (from + i) + r) (omega arith) (omega arith) (omega arith)))

  abbrev pieces : List (List ℕ)
  pieces = later edges from count

  n : length pieces ≡ count - from
  n = length_from edges from (count - from)

  found_none : (g : ℕ) → both / 2 ^ g ≡ 0 → Passed edges (edge_of e s) from count (24 * g) → Mated pieces e s None
  unfolding Mated
  found_none g z p =
      let all : Passed edges (edge_of e s) from count (3 * count) = record { not_at = λ i h l k. passed-all g z p i h l } in
      mate-nowhere e s pieces (λ i h. later_apart i (3 * count) all (omega (arith, n)) (omega (arith, n)))

  found_at :
      (at : ℕ) → 3 * from ≤ at → at < 3 * count → Passed edges (edge_of e s) from count at → get_or edges at 0 ≡ edge_of e s
      → (third : ℕ) → third ≡ start_of (get_or edges (3 * (at / 3) + (at % 3 + 2) % 3) 0) → Mated pieces e s (Some (record { place = at / 3 - from; third = third }))
  unfolding Mated
  found_at at h l p is third third_is = (omega (arith, n), rw third_is found)
    where
      b : ℕ
      b = at / 3

      place : from + (b - from) ≡ b
      place = omega arith

      split : 3 * b + at % 3 ≡ at
      split = omega arith

      here : first (follows e s) (rotations (get_or pieces (b - from) [])) ≡ some (start_of (get_or edges (3 * b + (at % 3 + 2) % 3) 0) ∷ [])
      here =
          ap (λ (t : List ℕ). first (follows e s) (rotations t)) (from_at edges from (count - from) (b - from) (omega arith) ∙ ap (piece_at edges) place)
          ∙ piece-holds b (lie.each b (omega arith) (omega arith)) (at % 3) (omega arith) (λ r q. p.not_at (3 * b + r) (omega arith) (omega arith) (omega arith)) (rw split is)

      found : mate e s [] pieces ≡ some (record { piece = start_of (get_or edges (3 * b + (at % 3 + 2) % 3) 0) ∷ []; others = swap_removed (b - from) pieces })
      found =
          mate-at e s pieces (b - from) (length pieces - 1) (start_of (get_or edges (3 * b + (at % 3 + 2) % 3) 0) ∷ []) (omega (arith, n)) (omega (arith, n))
          (λ i q. later_apart i at p (omega arith) (omega arith)) here

  -- ---- the steps of the search

  module _ {want : ℕ} where
    pub seek_first : want ≡ edge_of e s → {word : ℕ} → (word ≡ both) × (word < 2 ^ 64) → Seeking edges eights from count e s want (from / 8) (word / 2 ^ (from / 8))
    seek_first is (word_is, fits) =
        let low : from / 8 ≤ 64 = omega (arith, lie.few) in
        record {
          want_is = is;
          word_is = ap (λ (w : ℕ). w / 2 ^ (from / 8)) word_is;
          small = let w : 64 - from / 8 + from / 8 ≡ 64 = omega arith in shr_lt (64 - from / 8) (from / 8) (rw w fits);
          few = low;
          passed = passed_first;
        }

    module _ {g word : ℕ} (at : Seeking edges eights from count e s want g word) where
      pub skip_low : word ≢ 0 → (skip : ℕ) → skip ≡ count_trailing_zeros 64 word → g + skip < 64
      skip_low h skip is = omega (arith, trailing_below 64 (64 - g) word (pos h) at.small (omega arith), at.few)
        where
          pos : word ≢ 0 → 0 < word
          pos h = lt_of_not-le λ q. h (omega arith)

      pub seek_skip : (skip : ℕ) → skip ≡ count_trailing_zeros 64 word → g + skip < 64 → Seeking edges eights from count e s want (g + skip) (word / 2 ^ skip)
      seek_skip skip is h = record {
        want_is = at.want_is;
        word_is = ap (λ (w : ℕ). w / 2 ^ skip) at.word_is ∙ shr-shr both g skip;
        small = let e : 64 - (g + skip) + skip ≡ 64 - g = omega arith in shr_lt (64 - (g + skip)) skip (rw e at.small);
        few = omega arith;
        passed = subst (λ (n : ℕ). Passed edges (edge_of e s) from count (24 * (g + n))) (sym (is ∙ ap (count_trailing_zeros 64) at.word_is)) (passed_skip g at.passed);
      }

      pub seek_next : Within edges want g from count None → g < 64 → Seeking edges eights from count e s want (g + 1) (word / 2)
      seek_next w h = record {
        want_is = at.want_is;
        word_is = ap (λ (w : ℕ). w / 2) at.word_is ∙ shr-shr both g 1;
        small = let e : 64 - (g + 1) + 1 ≡ 64 - g = omega arith in shr_lt (64 - (g + 1)) 1 (rw e at.small);
        few = omega arith;
        passed = passed_eight g at.passed (rw at.want_is at w);
      }

      pub seek_none : word ≡ 0 → Mated pieces e s None
      seek_none z = found_none g (sym at.word_is ∙ z) at.passed

      pub seek_found :
          (place : ℕ) → Within edges want g from count (Some place) → (third : ℕ) → third ≡ start_of (get_or edges (3 * (place / 3) + (place % 3 + 2) % 3) 0)
          → Mated pieces e s (Some (record { place = place / 3 - from; third = third }))
      seek_found place w third is =
          let v : Within edges (edge_of e s) g from count (Some place) = rw at.want_is at w in
          found_at place v.2 v.3 (passed_at g place at.passed v) v.4 third is

      -- by the piece, and which of its edges it is
      pub seek_found_side :
          (piece side : ℕ) → side < 3 → Within edges want g from count (Some (3 * piece + side)) → (third : ℕ) → third ≡ start_of (get_or edges (3 * piece + (side + 2) % 3) 0)
          → Mated pieces e s (Some (record { place = piece - from; third = third }))
      seek_found_side piece side low w third is =
          let whole : (3 * piece + side) / 3 ≡ piece = omega (arith, low) in
          let rest : (3 * piece + side) % 3 ≡ side = omega (arith, low) in
          rw whole at (seek_found (3 * piece + side) w third (rw (whole, rest) is))
