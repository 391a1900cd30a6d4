-- The crate's walk answers the corners of the last ring, the same indices in the same order, for every cloud that is not on one line.
use Prim.Native.Nat.{ℕ, zero, suc, ◌+◌, ◌≤◌, ◌<◌}
use mathlib.Core.Path.{◌≡◌, refl, sym, ◌∙◌, ap}
use mathlib.Core.Logic.{◌≢◌}
use mathlib.Core.Bool.{Bool, true, false, cond, not, ◌&&◌}
use mathlib.Core.List.{List, [], ◌∷◌, ◌++◌, map}
use native.Mathlib.Omega.{arith}
use borrow.Author.Tests.{eqb-false}
use lib.Dec.{eqb}
use lib.ListN.{length, length-map}
use Rattle.algebra.specs.Lists.{Each, end, ◌&◌, keep, count_from}
use Rattle.algebra.specs.Rings.{steps}
use Rattle.algebra.proofs.Lists.{each_imp, each_map, each_head, each_keep, keep-keep}
use Rattle.algebra.proofs.Counting.{count_below, count-distinct}
use Rattle.algebra.proofs.Occurrences.{distinct-length}
use Rattle.algebra.proofs.Equal.{impossible, eqb-true, eqb_same, eqb-other, and_true_l, and_true_r, not-true}
use Rattle.algebra.proofs.Order.{neg_zero}
use Rattle.rules.specs.Plane.{Pt, turn, point, turns_right}
use Rattle.rules.specs.Hull.{SegmentFacet, Walk, at, before, behind, differ, first_valid, follow, hull, indices, leftward, loop, polyline, rightward, second_end, support}
use Rattle.rules.specs.Refusals.{on_one_line}
use Rattle.rules.proofs.Turns.{turn-back}
use Rattle.hulls.specs.Rounds.{from_of, back, first_ring, last_ring, there}
use Rattle.hulls.proofs.Directions.{unseen-begin, unseen-end, turn-differ}
use Rattle.hulls.proofs.Straight.{some_point}
use Rattle.hulls.proofs.Rounds.{held, ring-rounds, none_left}
use Rattle.hulls.proofs.Ends.{first_ring_lem, held_none, one_off}
use Rattle.hulls.proofs.Room.{last-room}
use Rattle.hulls.proofs.Numbers.{Num, num_of, facet_of, over, due}
use Rattle.hulls.proofs.Links.{Shown, Linked, Shows}
use Rattle.hulls.proofs.Looks.{State}
use Rattle.hulls.proofs.Sweeps.{goes_loop}
use Rattle.hulls.proofs.Starts.{Last, last_walk}

-- ---- the last walk's indices

first_valid_lem : (segs : List SegmentFacet) (i : ℕ) → (at segs i).valid ≡ true → ((n : ℕ) → n < i → (at segs n).valid ≡ false) → first_valid segs ≡ i
unfolding first_valid
first_valid_lem [] i h k = impossible (cc)
first_valid_lem (s ∷ segs) zero h k = rw h
first_valid_lem (s ∷ segs) (suc i) h k = rw (k 0 (omega arith)) (ap suc (first_valid_lem segs i h (λ n l. k (suc n) (omega arith))))

module _ (segs : List SegmentFacet) (first : ℕ) where
  abbrev onward : ℕ → ℕ → List ℕ
  onward t n = cond (eqb n first) [] (follow t segs first n)

  pass :
      (t i : ℕ) {n a : ℕ} {rest : List ℕ} → (at segs i).valid ≡ true → (at segs i).from ≡ a → (at segs i).next ≡ n → onward t n ≡ rest
      → follow (suc t) segs first i ≡ a ∷ rest
  unfolding follow
  pass t i {a} v f e r = (λ k. cond (v k) (f k ∷ onward t (e k)) (onward t (e k))) ∙ ap (λ (l : List ℕ). a ∷ l) r

  follows :
      (y : Num) (z : List Num) (t : ℕ) → length z < t → Each (λ x. Shown (at segs x.num) x.facet) (y ∷ z)
      → Each (Linked segs) (steps y.num (map num_of z ++ first ∷ [])) → Each (λ n. n ≢ first) (map num_of z)
      → follow t segs first y.num ≡ map from_of (map facet_of (y ∷ z))
  follows y [] zero h ss ls ns = absurd (omega arith)
  follows y (x ∷ z) zero h ss ls ns = absurd (omega arith)
  follows y [] (suc t) h (s & ss) (l & ls) ns =
      let ends = ap (λ (b : Bool). cond b [] (follow t segs first first)) (eqb_same first) in
      pass t y.num s.valid s.from l.0 ends
  follows y (x ∷ z) (suc t) h (s & ss) (l & ls) (n & ns) =
      let goes = ap (λ (b : Bool). cond b [] (follow t segs first x.num)) (eqb-other x.num first n) in
      pass t y.num s.valid s.from l.0 (goes ∙ follows x z t (omega arith) ss ls ns)

-- the walk begins at the least number, as no lower facet is valid
indices_are : (segs : List SegmentFacet) (x : Num) (l : List Num) → Shows segs (x ∷ l) → Each (λ y. x.num < y.num) l → indices segs ≡ map from_of (map facet_of (x ∷ l))
indices_are segs x l h least =
    ap (λ (i : ℕ). follow (length segs) segs i i) (first_valid_lem segs x.num (each_head h.shown).valid dead)
    ∙ follows segs x.num x l (length segs) room h.shown h.linked (each_map num_of (each_imp (λ y k. differs y.num k) least))
  where
    differs : (m : ℕ) → x.num < m → m ≢ x.num
    differs m k e = omega arith

    room : length l < length segs
    room = omega (arith, distinct-length (length segs) h.distinct h.below, length-map l num_of)

    dead : (n : ℕ) → n < x.num → (at segs n).valid ≡ false
    dead n k = h.dead n (omega (arith, each_head h.below)) (here & each_map num_of (each_imp (λ y p. later y.num p) least))
      where
        here : n ≢ x.num
        here e = omega arith

        later : (m : ℕ) → x.num < m → n ≢ m
        later m p e = omega arith

-- ---- the first two facets

module _ (ps : List Pt) where
  abbrev a : ℕ
  a = support ps rightward

  abbrev b : ℕ
  b = support ps leftward

  abbrev A : Pt
  A = point ps a

  abbrev B : Pt
  B = point ps b

  abbrev first : List Num
  first = record { num = 0; facet = record { from = a; to = b; seen = there ps a b } } ∷ record { num = 1; facet = record { from = b; to = a; seen = back ps a b } } ∷ []

  abbrev others : ℕ → Bool
  others i = not (eqb i a) && not (eqb i b)

  -- the ends see neither facet
  ends : (i : ℕ) → others i ≡ false → (turns_right ps a b i ≡ false) × (turns_right ps b a i ≡ false)
  ends i e = go (eqb i a) refl (eqb i b) refl e
    where
      go : (p : Bool) → eqb i a ≡ p → (q : Bool) → eqb i b ≡ q → (not p && not q) ≡ false → (turns_right ps a b i ≡ false) × (turns_right ps b a i ≡ false)
      go true f q g e = let h : i ≡ a = eqb-true i a f in (rw h (unseen-begin A B), rw h (unseen-end B A))
      go false f true g e = let h : i ≡ b = eqb-true i b g in (rw h (unseen-end A B), rw h (unseen-begin B A))
      go false f false g e = impossible (cc)

  there_is : before ps a b (keep others (count_from 0 (length ps))) ≡ there ps a b
  there_is = keep-keep (turns_right ps a b) others (λ i e. (ends i e).0) (count_from 0 (length ps))

  back_is : behind ps a b a (keep others (count_from 0 (length ps))) ≡ back ps a b
  back_is = keep-keep (λ i. not (turns_right ps a b i) && turns_right ps b a i) others (λ i e. let (p, q) = ends i e in rw (p, q)) (count_from 0 (length ps))

  -- the points beside are not held
  abbrev neither : ℕ → Bool
  neither i = not (turns_right ps a b i) && not (turns_right ps b a i)

  beside : Each (λ i. (i < length ps) × (held i (first_ring ps) ≡ 0)) (polyline ps a b).undecidable
  beside = each_imp outside (each_keep neither (each_keep others (count_below (length ps))))
    where
      outside : (i : ℕ) → ((i < length ps) × (others i ≡ true)) × (neither i ≡ true) → (i < length ps) × (held i (first_ring ps) ≡ 0)
      outside i ((l, o), t) = (
        l,
        held_none ps i
            (eqb-false i a (not-true (eqb i a) (and_true_l (not (eqb i a)) (not (eqb i b)) o)))
            (eqb-false i b (not-true (eqb i b) (and_true_r (not (eqb i a)) (not (eqb i b)) o)))
            (not-true (turns_right ps a b i) (and_true_l (not (turns_right ps a b i)) (not (turns_right ps b a i)) t))
            (not-true (turns_right ps b a i) (and_true_r (not (turns_right ps a b i)) (not (turns_right ps b a i)) t)),
      )

  two_dead : (n : ℕ) → n < 2 → Each (λ m. n ≢ m) (0 ∷ 1 ∷ []) → (at (polyline ps a b).segments n).valid ≡ false
  two_dead zero l (d & ds) = absurd (d refl)
  two_dead (suc zero) l (d & (e & ds)) = absurd (e refl)
  two_dead (suc (suc n)) l ds = absurd (omega arith)

  -- ---- the walk from there

  module _ (off : on_one_line ps ≡ false) where
    differ-there : differ A B ≡ true
    differ-there = let (i, l, n) = one_off ps off in turn-differ A B (point ps i) n

    differ_back : differ B A ≡ true
    differ_back = let (i, l, n) = one_off ps off in turn-differ B A (point ps i) (λ e. n (neg_zero (turn A B (point ps i)) (sym (turn-back A B (point ps i)) ∙ e)))

    second_is : second_end ps ≡ b
    unfolding second_end
    second_is = rw differ-there

    two-shows : Shows (polyline ps a b).segments first
    two-shows = record {
      shown = record { valid = differ-there; from = refl; to = refl; visible = there_is } & record { valid = differ_back; from = refl; to = refl; visible = back_is } & end;
      linked = (refl, refl) & (refl, refl) & end;
      distinct = count-distinct 0 2;
      below = count_below 2;
      dead = two_dead;
    }

    abbrev once : ℕ → ℕ
    once i = held i (first_ring ps)

    first-state : State ps once (length ps) (polyline ps a b) first
    first-state = record { shows = two-shows; kept = first_ring_lem ps (some_point ps off); beside = beside; size = refl }

    last_of : Last ps once (length ps) 0 (polyline ps a b) (last_ring ps)
    unfolding last_ring
    last_of =
        let stay = each_imp (λ f g. none_left ps g) (ring-rounds ps (length ps) (first_ring ps) (first_ring_lem ps (some_point ps off))).good in
        last_walk ps once (length ps) (length ps) (first_ring ps) 0 (polyline ps a b) first first-state (due refl (due refl over)) (due refl (due refl over)) refl stay

    -- the same indices in the same order
    pub hull_is : hull ps ≡ map from_of (last_ring ps)
    unfolding hull
    hull_is =
        let l = last_of in
        let turns = length ps + length ps in
        let n : length l.walk.segments ≤ 0 + turns = omega (arith, l.state.size, length-map (l.first ∷ l.rest) facet_of, ap length l.same, last-room ps off) in
        ap (λ (e : ℕ). indices (loop turns ps 0 (polyline ps a e)).segments) second_is
        ∙ ap (λ (k : Walk). indices k.segments) (goes_loop ps turns l.goes refl n)
        ∙ indices_are l.walk.segments l.first l.rest l.state.shows l.least
        ∙ sym (ap (map from_of) l.same)
