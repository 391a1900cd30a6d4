-- The crate's look at one facet of the ring that its list shows: it is split, or, where no point sees it, passed over.
use Prim.Native.Nat.{ℕ, suc, ◌+◌, ◌<◌}
use mathlib.Core.Path.{◌≡◌, refl, sym, ◌∙◌, ap, subst}
use mathlib.Core.Bool.{true, false, cond, not, ◌&&◌}
use mathlib.Core.List.{List, [], ◌∷◌, ◌++◌, map, append_assoc}
use native.Mathlib.Omega.{arith}
use lib.Dec.{eqb}
use lib.ListN.{length, length-append}
use lib.IntN.{pos}
use lib.Signed.{◌<ℤ◌}
use Rattle.algebra.specs.Lists.{Each, ◌&◌, change}
use Rattle.algebra.specs.Rings.{last_of}
use Rattle.algebra.proofs.Lists.{each_imp, each_head, each_tail, keep-keep}
use Rattle.algebra.proofs.Equal.{eqb-true, not-false}
use Rattle.algebra.proofs.Rings.{Rotated, swapped, rotated_length, map_rotated}
use Rattle.algebra.proofs.Occurrences.{times}
use Rattle.rules.specs.Plane.{Pt, turn, point, turns_right}
use Rattle.rules.specs.Hull.{SegmentFacet, Sifted, Walk, at, attach, before, behind, farthest, look, new_facet, next_to, normal, prev_to, sift, split_of, taken, without}
use Rattle.hulls.specs.Rounds.{Facet, first_part, second_part, split_by}
use Rattle.hulls.proofs.Directions.{seen_lt, unseen-end, unseen-begin, differ-from, differ-to}
use Rattle.hulls.proofs.Farthest.{farthest-each}
use Rattle.hulls.proofs.Rounds.{not_listed, Ring, ring_one, ring_rotated}
use Rattle.hulls.specs.Rounds.{Way, stay, along}
use Rattle.hulls.proofs.Numbers.{Num, num_of, facet_of, Stays, far_of, parts}
use Rattle.hulls.proofs.Links.{Shown, Shows, shows_rotated, next_is, prev_is, base_length, attached}

-- ---- the points that stand beside, and w

-- points that see neither part stay beside
sift_none :
    (ps : List Pt) (a w b : ℕ) (f s passed l : List ℕ) → Each (λ i. (turns_right ps a w i ≡ false) × (turns_right ps w b i ≡ false)) l
    → sift (length l) ps a w b f s passed l ≡ record { first = f; second = s; rest = passed ++ l }
unfolding sift
sift_none ps a w b f s passed [] h = refl
sift_none ps a w b f s passed (i ∷ l) (h & hs) =
    rw (h.0, h.1) (sift_none ps a w b f s (passed ++ i ∷ []) l hs ∙ ap (λ (r : List ℕ). record { first = f; second = s; rest = r }) (append_assoc passed (i ∷ []) l))

module _ (ps : List Pt) where
  -- w itself sees neither part
  before-without : (a w : ℕ) (l : List ℕ) → before ps a w (without w l) ≡ before ps a w l
  before-without a w l = keep-keep (turns_right ps a w) (λ j. not (eqb j w)) drops l
    where
      drops : (j : ℕ) → not (eqb j w) ≡ false → turns_right ps a w j ≡ false
      drops j e = let q : j ≡ w = eqb-true j w (not-false (eqb j w) e) in rw q (unseen-end (point ps a) (point ps w))

  behind-without : (a w b : ℕ) (l : List ℕ) → behind ps a w b (without w l) ≡ behind ps a w b l
  behind-without a w b l = keep-keep (λ j. not (turns_right ps a w j) && turns_right ps w b j) (λ j. not (eqb j w)) drops l
    where
      drops : (j : ℕ) → not (eqb j w) ≡ false → (not (turns_right ps a w j) && turns_right ps w b j) ≡ false
      drops j e = let q : j ≡ w = eqb-true j w (not-false (eqb j w) e) in rw (q, unseen-end (point ps a) (point ps w), unseen-begin (point ps w) (point ps b))

  -- ---- `attach`, over what it reads

  abbrev attach_by : Walk → ℕ → ℕ → ℕ → ℕ → ℕ → ℕ → Sifted → Walk
  attach_by k i w p n a b r =
      let id = length k.segments in
      record {
        segments = change (prev_to (suc id)) n (change (next_to id) p (change taken i k.segments)) ++ new_facet ps a w p (suc id) r.first ∷ new_facet ps w b id n r.second ∷ [];
        undecidable = r.rest;
      }

  abbrev sifted : Walk → ℕ → ℕ → ℕ → List ℕ → Sifted
  sifted k w a b l = sift (length k.undecidable) ps a w b (before ps a w (without w l)) (behind ps a w b (without w l)) [] k.undecidable

  attach_is :
      (k : Walk) (i w : ℕ) {p n a b : ℕ} {l : List ℕ} → (at k.segments i).prev ≡ p → (at k.segments i).next ≡ n
      → (at k.segments (at k.segments i).prev).to ≡ a → (at k.segments (at k.segments i).next).from ≡ b → (at k.segments i).visible ≡ l
      → attach ps k i w ≡ attach_by k i w p n a b (sifted k w a b l)
  unfolding attach
  attach_is k i w ep en ea eb el = λ t. attach_by k i w (ep t) (en t) (ea t) (eb t) (sifted k w (ea t) (eb t) (el t))

  -- the last facet leads to where the way ends
  last-to :
      {a b : ℕ} (segs : List SegmentFacet) (y : Num) (z : List Num) → Each (λ x. Shown (at segs x.num) x.facet) (y ∷ z) → Way a (map facet_of (y ∷ z)) b
      → (at segs (last_of y.num (map num_of z))).to ≡ b
  last-to segs y [] (s & ss) (along e (stay f)) = s.to ∙ f
  last-to segs y (x ∷ z) (s & ss) (along e w) = last-to segs x z ss w

module _ (ps : List Pt) (c : ℕ → ℕ) (m : ℕ) where
  -- a walk that shows a ring of facets, as the rounds keep it
  pub record State (k : Walk) (ring : List Num) : Type 0 where
    pub shows : Shows k.segments ring
    pub kept : Ring ps c m (map facet_of ring)
    pub beside : Each (λ i. (i < length ps) × (c i ≡ 0)) k.undecidable
    pub size : length k.segments + 2 ≡ length ring + length ring

  pub state_rotated : {k : Walk} {l r : List Num} → Rotated l r → State k l → State k r
  state_rotated {k} t s = record {
    shows = shows_rotated t s.shows;
    kept = ring_rotated ps (map_rotated facet_of t) s.kept;
    beside = s.beside;
    size = omega (arith, s.size, rotated_length t);
  }

  -- ---- the facet in front is split

  module _ (k : Walk) (x y : Num) (z : List Num) (s : State k (x ∷ y ∷ z)) (j : ℕ) (l : List ℕ) (e : x.facet.seen ≡ j ∷ l) where
    abbrev f : Facet
    f = x.facet

    abbrev segs : List SegmentFacet
    segs = k.segments

    abbrev w : ℕ
    w = far_of ps f j l

    abbrev id : ℕ
    id = length segs

    abbrev last : ℕ
    last = last_of y.num (map num_of z)

    x-shown : Shown (at segs x.num) f
    x-shown = each_head s.shows.shown

    next-at : (at segs x.num).next ≡ y.num
    next-at = next_is segs x y z s.shows

    prev-at : (at segs x.num).prev ≡ last
    prev-at = prev_is segs x y z s.shows

    a_is : (at segs (at segs x.num).prev).to ≡ f.from
    a_is = go s.kept.way
      where
        go : {a : ℕ} → Way a (map facet_of (x ∷ y ∷ z)) a → (at segs (at segs x.num).prev).to ≡ f.from
        go (along q v) = ap (λ (n : ℕ). (at segs n).to) prev-at ∙ last-to ps segs y z (each_tail s.shows.shown) v ∙ sym q

    b_is : (at segs (at segs x.num).next).from ≡ f.to
    b_is = go s.kept.way
      where
        go : {a b : ℕ} → Way a (map facet_of (x ∷ y ∷ z)) b → (at segs (at segs x.num).next).from ≡ f.to
        go (along q (along r v)) = ap (λ (n : ℕ). (at segs n).from) next-at ∙ (each_head (each_tail s.shows.shown)).from ∙ r

    w_sees : (w < length ps) × (turns_right ps f.from f.to w ≡ true)
    w_sees = go (rw e at (each_head s.kept.good).sure)
      where
        go : Each (λ i. (i < length ps) × (turns_right ps f.from f.to i ≡ true)) (j ∷ l) → (w < length ps) × (turns_right ps f.from f.to w ≡ true)
        go (p & q) = farthest-each ps (normal (point ps f.from) (point ps f.to)) j p q

    saw : turn (point ps f.from) (point ps f.to) (point ps w) <ℤ pos 0
    saw = seen_lt (point ps f.from) (point ps f.to) (point ps w) w_sees.1

    kept_new : Ring ps c m (first_part ps f w ∷ second_part ps f w ∷ map facet_of (y ∷ z))
    kept_new = subst (λ (q : List ℕ). Ring ps c m (split_by ps f q ++ map facet_of (y ∷ z))) e (ring_one ps f s.kept)

    neither : (i : ℕ) → (i < length ps) × (c i ≡ 0) → (turns_right ps f.from w i ≡ false) × (turns_right ps w f.to i ≡ false)
    neither i (h, q) =
        let a : times i (first_part ps f w).seen ≡ 0 = omega (arith, kept_new.holds i) in
        let b : times i (second_part ps f w).seen ≡ 0 = omega (arith, kept_new.holds i) in
        (not_listed ps (each_head kept_new.good) i h a, not_listed ps (each_head (each_tail kept_new.good)) i h b)

    sifted_is : sifted ps k w f.from f.to f.seen ≡ record { first = (first_part ps f w).seen; second = (second_part ps f w).seen; rest = k.undecidable }
    sifted_is =
        let first = before ps f.from w (without w f.seen) in
        let second = behind ps f.from w f.to (without w f.seen) in
        sift_none ps f.from w f.to first second [] k.undecidable (each_imp neither s.beside)
        ∙ (λ t. record { first = before-without ps f.from w f.seen t; second = behind-without ps f.from w f.to f.seen t; rest = k.undecidable })

    abbrev s1 : SegmentFacet
    s1 = new_facet ps f.from w last (suc id) (first_part ps f w).seen

    abbrev s2 : SegmentFacet
    s2 = new_facet ps w f.to id y.num (second_part ps f w).seen

    abbrev next_walk : Walk
    next_walk = record {
      segments = change (prev_to (suc id)) y.num (change (next_to id) last (change taken x.num segs)) ++ s1 ∷ s2 ∷ [];
      undecidable = k.undecidable;
    }

    look_is : look ps k x.num ≡ next_walk
    unfolding look
    look_is =
        (λ t. cond (x-shown.valid t) (split_of ps k x.num ((x-shown.visible ∙ e) t)) k)
        ∙ (λ t. attach ps k x.num (farthest ps (normal (point ps (x-shown.from t)) (point ps (x-shown.to t))) j l))
        ∙ attach_is ps k x.num w prev-at next-at a_is b_is x-shown.visible
        ∙ ap (λ (r : Sifted). attach_by ps k x.num w last y.num f.from f.to r) sifted_is

    next-shows : Shows next_walk.segments (parts ps id f w ++ y ∷ z)
    next-shows =
        attached segs x y z s.shows (first_part ps f w) (second_part ps f w) s1 s2
        (record { valid = differ-from (point ps f.from) (point ps f.to) (point ps w) saw; from = refl; to = refl; visible = refl })
        (record { valid = differ-to (point ps f.from) (point ps f.to) (point ps w) saw; from = refl; to = refl; visible = refl })
        refl refl refl refl

    next-length : length next_walk.segments ≡ suc (suc id)
    next-length =
        omega (
          arith,
          length-append (change (prev_to (suc id)) y.num (change (next_to id) last (change taken x.num segs))) (s1 ∷ s2 ∷ []),
          base_length segs x y z s.shows,
        )

    next-state : State next_walk (parts ps id f w ++ y ∷ z)
    next-state = record { shows = next-shows; kept = kept_new; beside = s.beside; size = omega (arith, next-length, s.size) }

  -- ---- a facet anywhere in the ring, behind the facets l and in front of r

  -- k' shows the ring, and its list is longer by two
  pub record Split (k : Walk) (ring : List Num) (k' : Walk) : Type 0 where
    pub state : State k' ring
    pub longer : length k'.segments ≡ suc (suc (length k.segments))

  pub split-any :
      (k : Walk) (l : List Num) (x : Num) (r : List Num) → State k (l ++ x ∷ r) → (j : ℕ) (seen : List ℕ) → x.facet.seen ≡ j ∷ seen
      → Split k (l ++ (parts ps (length k.segments) x.facet (far_of ps x.facet j seen) ++ r)) (look ps k x.num)
  split-any k l x (y ∷ r) s j seen e =
      let t = state_rotated (swapped l (x ∷ y ∷ r)) s in
      let n = parts ps (length k.segments) x.facet (far_of ps x.facet j seen) ++ y ∷ r in
      subst (Split k (l ++ n)) (sym (look_is k x y (r ++ l) t j seen e))
      (record { state = state_rotated (swapped n l) (next-state k x y (r ++ l) t j seen e); longer = next-length k x y (r ++ l) t j seen e })
  split-any k (y ∷ l) x [] s j seen e =
      let t = state_rotated (swapped (y ∷ l) (x ∷ [])) s in
      let n = parts ps (length k.segments) x.facet (far_of ps x.facet j seen) in
      subst (Split k (y ∷ l ++ n)) (sym (look_is k x y l t j seen e))
      (record { state = state_rotated (swapped n (y ∷ l)) (next-state k x y l t j seen e); longer = next-length k x y l t j seen e })
  split-any k [] x [] s j seen e = absurd (omega (arith, s.size, each_head s.shows.below))

-- a facet that no point sees is passed over
pub look-unseen : (ps : List Pt) (k : Walk) (x : Num) → Shown (at k.segments x.num) x.facet → Stays x → look ps k x.num ≡ k
unfolding look
look-unseen ps k x s e = λ t. cond (s.valid t) (split_of ps k x.num ((s.visible ∙ e) t)) k
