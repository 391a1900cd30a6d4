-- The walk: what stands in the array from round to round is the ring of the rounds, and at the end the hull.
use Prim.Native.Nat.{ℕ, suc, ◌+◌, ◌≤◌, ◌<◌}
use native.Mathlib.Omega.{arith}
use native.Mathlib.Nat.{le_trans, lt_of_lt_of_le}
use mathlib.Core.Path.{◌≡◌, refl, sym, ◌∙◌, ap, subst}
use mathlib.Core.Bool.{false}
use mathlib.Core.List.{List, [], ◌∷◌, ◌++◌, map, append-nil}
use borrow.Author.Tests.{lt-ltb, le-ltb}
use lib.ListN.{length, get_or, length-append, length-map}
use Rattle.std.specs.Prelude.{Option, Some, None, MatchOption}
use Rattle.std.specs.Option.{unwrap_or}
use Rattle.algebra.specs.Lists.{Each, end, ◌&◌, count_from}
use Rattle.algebra.proofs.Lists.{each_imp, each-front, each_back, each_tail}
use Rattle.algebra.specs.Rings.{begun_at}
use Rattle.algebra.proofs.Counting.{count-length}
use Rattle.algebra.proofs.Equal.{impossible}
use Rattle.rules.specs.Limits.{most_points}
use Rattle.rules.specs.Plane.{Pt, point}
use Rattle.rules.specs.Hull.{normal, farthest, support, rightward, leftward, hull}
use Rattle.rules.specs.Refusals.{on_one_line}
use Rattle.hulls.specs.Rounds.{Facet, from_of, begun, first_part, split_by, round, rounds, there, first_ring, last_ring}
use Rattle.hulls.proofs.Straight.{some_point}
use Rattle.hulls.proofs.Rounds.{Good, Ring, second-seen, seen_by, none_left, begun_rotated, ring_rotated, ring_round, rounds-last}
use Rattle.hulls.proofs.Ends.{back-seen, first_ring_lem, first_once}
use Rattle.hulls.proofs.Room.{flat, ring_fits}
use Rattle.hulls.proofs.Same.{hull_is}
use Rattle.seeing.specs.Seeing.{farthest_of}
use Rattle.facets.specs.Laid.{mark_of, corner_of, Marked, unmarked, laid, two, parts, sweep_of, Sound, Held}
use Rattle.facets.proofs.Facets.{Low, laid_cons, laid_nil, mark_back, mark_high}

-- ---- a sweep is a round

module _ (ps : List Pt) where
  parts-split : {k : ℕ} (f : Facet) → Good ps (suc k) f → (l : List ℕ) → f.seen ≡ l → parts ps l f.from f.to ≡ split_by ps f l
  unfolding parts farthest_of
  parts-split f g [] e = ap (λ (l : List ℕ). record { from = f.from; to = f.to; seen = l } ∷ []) (sym e)
  parts-split f g (i ∷ l) e =
      let w = farthest ps (normal (point ps f.from) (point ps f.to)) i l in
      ap (λ (s : List ℕ). two ps s f.from w f.to) (sym e)
      ∙ ap (λ (s : List ℕ). first_part ps f w ∷ record { from = w; to = f.to; seen = s } ∷ []) (second-seen ps f g i l e)

  sweep_round : {k : ℕ} {ring : List Facet} → Each (Good ps (suc k)) ring → sweep_of ps ring ≡ round ps ring
  unfolding sweep_of round
  sweep_round end = refl
  sweep_round (◌&◌ {a = f} g h) = λ i. parts-split f g f.seen refl i ++ sweep_round h i

-- ---- a ring in which no point sees a facet

-- all numbers are marked
list_nil : {s : List ℕ} → Each (λ i. i < most_points) s → Each (λ x. unmarked x ≡ false) s → s ≡ []
list_nil end end = refl
list_nil (◌&◌ {a = i} h hs) (e & es) = let q = lt-ltb i most_points h in impossible (cc)

none_unmarked : (l : List ℕ) → ((k : ℕ) → k < length l → most_points ≤ get_or l k 0) → Each (λ x. unmarked x ≡ false) l
none_unmarked [] h = end
none_unmarked (x ∷ l) h = le-ltb x most_points (h 0 (omega arith)) & none_unmarked l (λ k j. h (suc k) (omega arith))

settled_unseen : (facets : List Facet) → Low facets → Each (λ x. unmarked x ≡ false) (laid facets) → Each (λ f. f.seen ≡ []) facets
settled_unseen [] low h = end
settled_unseen (f ∷ l) (p & ps) h =
    let ms = each_tail (rw (laid_cons f l) at h) in
    list_nil p (each-front f.seen (laid l) ms) & settled_unseen l ps (each_back f.seen (laid l) ms)

-- what then stands in the array are the corners, marked
laid_marks : {facets : List Facet} → Each (λ f. f.seen ≡ []) facets → laid facets ≡ map (λ (f : Facet). mark_of f.from) facets
laid_marks end = laid_nil
laid_marks (◌&◌ {a = f} {l = l} e h) = laid_cons f l ∙ (λ i. mark_of f.from ∷ (e i ++ laid_marks h i))

all_marked : (facets : List Facet) → Each Marked (map (λ (f : Facet). mark_of f.from) facets)
all_marked [] = end
all_marked (f ∷ l) = mark_high f.from & all_marked l

corners-back : (facets : List Facet) → map corner_of (map (λ (f : Facet). mark_of f.from) facets) ≡ map from_of facets
corners-back [] = refl
corners-back (f ∷ l) = λ i. mark_back f.from i ∷ corners-back l i

-- ---- how much room a ring takes

laid-length : (l : List Facet) → length (laid l) ≡ length (flat l)
laid-length [] = ap length laid_nil
laid-length (f ∷ l) = ap length (laid_cons f l) ∙ ap suc (length-append f.seen (laid l) ∙ ap (λ (n : ℕ). length f.seen + n) (laid-length l) ∙ sym (length-append f.seen (flat l)))

-- ---- a ring begun at the facet that was found, or as it stands where none was

begun_is : (ring turned : List ℕ) (o : Option ℕ) → MatchOption o (turned ≡ ring) (λ p. turned ≡ begun_at p ring) → begun_at (unwrap_or o 0) ring ≡ turned
begun_is ring turned None found = append-nil ring ∙ sym found
begun_is ring turned (Some p) found = sym found

-- ---- from round to round

abbrev pub once : ℕ → ℕ
once i = 1

-- a ring is laid, and so many rounds from it is the last
pub record Going (ps : List Pt) (laid_ring : List ℕ) (left : ℕ) : Type 0 where
  pub facets : List Facet
  pub is : laid_ring ≡ laid facets
  pub kept : Ring ps once left facets
  pub ends : rounds left ps facets ≡ last_ring ps

module _ (ps : List Pt) (few : length ps ≤ most_points) where
  ring-sound : {k : ℕ} {ring : List Facet} → Ring ps once k ring → Sound (length ps) ring
  ring-sound r = record {
    corners = each_imp (λ f g. g.from_in) r.good;
    lists = each_imp (λ f g. each_imp (λ i p. p.0) g.sure) r.good;
    corner = r.corner;
    way = r.way;
  }

  ring_low : {k : ℕ} {ring : List Facet} → Ring ps once k ring → Low ring
  ring_low r = each_imp (λ f g. each_imp (λ i p. lt_of_lt_of_le p.0 few) g.sure) r.good

  one_each : (i : ℕ) → once i ≤ 1
  one_each i = omega arith

  ring-room : {k : ℕ} (ring : List Facet) → Ring ps once k ring → length (laid ring) ≤ most_points
  ring-room ring r = le_trans (subst (λ (n : ℕ). n ≤ length ps) (sym (laid-length ring)) (ring_fits ps one_each ring r)) few

  -- ---- at first

  module _ (off : on_one_line ps ≡ false) where
    first_kept : Ring ps once (length ps) (first_ring ps)
    first_kept = let r = first_ring_lem ps (some_point ps off) in record { good = r.good; corner = r.corner; way = r.way; holds = first_once ps off }

    abbrev facet_there : Facet
    facet_there = record { from = support ps rightward; to = support ps leftward; seen = there ps (support ps rightward) (support ps leftward) }

    two-first : (all : List ℕ) (a b : ℕ) → all ≡ count_from 0 (length ps) → a ≡ support ps rightward → b ≡ support ps leftward → two ps all a b a ≡ first_ring ps
    two-first all a b e f g =
        (λ i. two ps (e i) (f i) (g i) (f i))
        ∙ ap (λ (s : List ℕ). facet_there ∷ record { from = support ps leftward; to = support ps rightward; seen = s } ∷ []) (back-seen ps)

    pub first-room : (all : List ℕ) (a b : ℕ) → all ≡ count_from 0 (length ps) → a ≡ support ps rightward → b ≡ support ps leftward → length (laid (two ps all a b a)) ≤ most_points
    first-room all a b e f g = rw (two-first all a b e f g) (ring-room (first_ring ps) first_kept)

    pub going_first :
        {ring : List ℕ} (all : List ℕ) (a b : ℕ) → all ≡ count_from 0 (length ps) → a ≡ support ps rightward → b ≡ support ps leftward → ring ≡ laid (two ps all a b a)
        → Going ps ring (length all)
    unfolding last_ring
    going_first all a b e f g t =
        let n : length all ≡ length ps = ap length e ∙ count-length 0 (length ps) in
        rw n (record { facets = first_ring ps; is = t ∙ ap laid (two-first all a b e f g); kept = first_kept; ends = refl })

  -- ---- one round

  module _ {ring : List ℕ} {left : ℕ} (g : Going ps ring (suc left)) where
    going_low : Low g.facets
    going_low = ring_low g.kept

    abbrev turned : List Facet
    turned = begun [] g.facets

    turned_kept : Ring ps once (suc left) turned
    turned_kept = ring_rotated ps (begun_rotated [] g.facets) g.kept

    swept : sweep_of ps turned ≡ round ps turned
    swept = sweep_round ps turned_kept.good

    -- the ring, begun at its first facet that no point sees, is ready to be swept
    going_held : (part : List ℕ) → part ≡ laid turned → Held ps part turned
    going_held part e = record { is = e; sound = ring-sound turned_kept; fits = rw swept (ring-room (round ps turned) (ring_round ps turned_kept)) }

    -- what was found of the ring, and begun there
    pub going_begun :
        (o : Option ℕ) {start : ℕ} {looked read part : List ℕ} → looked ≡ ring → read ≡ ring → start ≡ unwrap_or o 0
        → ((facets : List Facet) → Low facets → looked ≡ laid facets → MatchOption o (laid (begun [] facets) ≡ looked) (λ p. laid (begun [] facets) ≡ begun_at p looked))
        → part ≡ begun_at start read → Held ps part turned
    going_begun o e f s found is =
        let at = rw e at (found g.facets going_low (e ∙ g.is)) in
        going_held _ (is ∙ rw (s, f) (begun_is ring (laid turned) o at))

    pub going_next : {next : List ℕ} → next ≡ laid (sweep_of ps turned) → Going ps next left
    unfolding rounds
    going_next e = record { facets = round ps turned; is = e ∙ ap laid swept; kept = ring_round ps turned_kept; ends = g.ends }

  -- ---- at the end

  module _ (off : on_one_line ps ≡ false) {ring : List ℕ} {left : ℕ} (g : Going ps ring left) (u : Each (λ f. f.seen ≡ []) g.facets) where
    last_is : last_ring ps ≡ g.facets
    last_is = sym g.ends ∙ rounds-last ps left (unseen_good g.kept.good u)
      where
        unseen_good : {k : ℕ} {l : List Facet} → Each (Good ps k) l → Each (λ f. f.seen ≡ []) l → Each (Good ps 0) l
        unseen_good end end = end
        unseen_good (h & hs) (e & es) = seen_by ps (subst (λ (s : List ℕ). length s ≤ 0) (sym e) (omega arith)) h & unseen_good hs es

    hull_here : hull ps ≡ map from_of g.facets
    hull_here = hull_is ps off ∙ ap (map from_of) last_is

    marks : ring ≡ map (λ (f : Facet). mark_of f.from) g.facets
    marks = g.is ∙ laid_marks u

    pub going_marked : Each Marked ring
    going_marked = rw marks (all_marked g.facets)

    pub going_hull : map corner_of ring ≡ hull ps
    going_hull = ap (map corner_of) marks ∙ corners-back g.facets ∙ sym hull_here

    pub going_count : length ring ≡ length (hull ps)
    going_count = ap length marks ∙ length-map g.facets (λ (f : Facet). mark_of f.from) ∙ sym (length-map g.facets from_of) ∙ ap length (sym hull_here)

  -- all are marked, or no round is left
  pub settled_none : {ring : List ℕ} {left : ℕ} (g : Going ps ring left) → ((k : ℕ) → k < length ring → most_points ≤ get_or ring k 0) → Each (λ f. f.seen ≡ []) g.facets
  settled_none {ring} g marked = settled_unseen g.facets (ring_low g.kept) (rw g.is at (none_unmarked ring marked))

  pub rounds_none : {ring : List ℕ} {left : ℕ} (g : Going ps ring left) → left ≡ 0 → Each (λ f. f.seen ≡ []) g.facets
  rounds_none g e = each_imp (λ f h. none_left ps (subst (λ (k : ℕ). Good ps k f) e h)) g.kept.good
