-- What the rounds of the hull's walk keep. Each end of a facet has a direction in which no given point is farther; every given point
-- that sees the facet stands in its list; and no number is held twice.
use Prim.Native.Nat.{ℕ, zero, suc, ◌+◌, ◌≤◌, ◌<◌}
use mathlib.Core.Path.{◌≡◌, refl, sym, ◌∙◌, ap, subst}
use mathlib.Core.Bool.{Bool, true, false, cond, not, ◌&&◌}
use mathlib.Core.List.{List, [], ◌∷◌, ◌++◌, append-nil, append_assoc}
use native.Mathlib.Omega.{arith}
use lib.ListN.{length}
use lib.IntN.{pos}
use lib.Signed.{◌≤ℤ◌, ◌<ℤ◌}
use Rattle.algebra.specs.Lists.{Each, end, ◌&◌}
use Rattle.algebra.proofs.Lists.{each_++, each_imp, each_head, each_tail, each_keep, keep_same}
use Rattle.algebra.proofs.Equal.{and_true_r, and_only}
use Rattle.algebra.proofs.Order.{≤ℤ-trans, <ℤ→≤ℤ}
use Rattle.algebra.proofs.Rings.{Rotated, swapped, each_rotated}
use Rattle.algebra.proofs.Occurrences.{each-times, keep_shorter, one, shared, times, times-keep}
use Rattle.rules.specs.Plane.{Pt, turn, point, turns_right}
use Rattle.rules.specs.Hull.{before, behind, dot, farthest, normal}
use Rattle.hulls.specs.Rounds.{along, begun, Facet, first_part, round, rounds, second_part, split_at, split_by, stay, unseen, Way}
use Rattle.hulls.proofs.Directions.{sees_from, sees_to, sees_one, out_from, out_to, not_out_from, seen_lt, lt_seen, unseen_le, unseen-begin, unseen-end}
use Rattle.hulls.proofs.Farthest.{Top, Nearer, farthest-each, farthest-first, farthest-rest}

-- ---- the numbers that a ring holds, and the way that its facets go

-- how often i is a corner of the ring or stands in a list of it
abbrev pub held : ℕ → List Facet → ℕ
held i [] = 0
held i (f ∷ ring) = one i f.from + times i f.seen + held i ring

pub held_++ : (i : ℕ) (l m : List Facet) → held i (l ++ m) ≡ held i l + held i m
held_++ i [] m = omega arith
held_++ i (f ∷ l) m = omega (arith, held_++ i l m)

pub way_++ : {a b c : ℕ} {l m : List Facet} → Way a l b → Way b m c → Way a (l ++ m) c
way_++ {c} {m} (stay e) k = subst (λ (z : ℕ). Way z m c) (sym e) k
way_++ (along e h) k = along e (way_++ h k)

pub way_apart : {a c : ℕ} (l m : List Facet) → Way a (l ++ m) c → (b : ℕ) × Way a l b × Way b m c
way_apart {a} [] m h = (a, stay refl, h)
way_apart (f ∷ l) m (along e h) = let (b, p, q) = way_apart l m h in (b, along e p, q)

pub begun_rotated : (passed l : List Facet) → Rotated (passed ++ l) (begun passed l)
unfolding begun
begun_rotated passed [] = record { front = []; back = passed; was = append-nil passed; now = sym (append-nil passed) }
begun_rotated passed (f ∷ l) = go (unseen f.seen) (begun_rotated (passed ++ f ∷ []) l)
  where
    go : (t : Bool) → Rotated ((passed ++ f ∷ []) ++ l) (begun (passed ++ f ∷ []) l) → Rotated (passed ++ f ∷ l) (cond t ((f ∷ l) ++ passed) (begun (passed ++ f ∷ []) l))
    go true h = swapped passed (f ∷ l)
    go false h = rw (append_assoc passed (f ∷ []) l) at h

-- a ring that begins with a facet that no point sees
pub begun-same : (f : Facet) (l : List Facet) → f.seen ≡ [] → begun [] (f ∷ l) ≡ f ∷ l
unfolding begun
begun-same f l e = ap (λ (q : List ℕ). cond (unseen q) ((f ∷ l) ++ []) (begun (f ∷ []) l)) e ∙ append-nil (f ∷ l)

module _ (ps : List Pt) where
  abbrev pub Sees : Facet → ℕ → Type 0
  Sees f i = turns_right ps f.from f.to i ≡ true

  -- what follows where a point sees the facet: neither end is as far as the other in the other's direction, and the point is listed
  pub record Sight (n m : Pt) (f : Facet) (i : ℕ) : Type 0 where
    pub lower_to : dot n (point ps f.to) <ℤ dot n (point ps f.from)
    pub lower_from : dot m (point ps f.from) <ℤ dot m (point ps f.to)
    pub listed : 1 ≤ times i f.seen

  -- a facet that at most k points see, and what the rounds keep of it
  pub record Good (k : ℕ) (f : Facet) : Type 0 where
    pub from_in : f.from < length ps
    pub to_in : f.to < length ps
    -- the directions of its ends
    pub n : Pt
    pub m : Pt
    pub top_from : Top ps n f.from
    pub top_to : Top ps m f.to
    pub sights : (i : ℕ) → i < length ps → Sees f i → Sight n m f i
    -- and every point that is listed sees it
    pub sure : Each (λ i. (i < length ps) × Sees f i) f.seen
    pub short : length f.seen ≤ k

  -- a point that is not listed does not see the facet
  pub not_listed : {k : ℕ} {f : Facet} → Good k f → (i : ℕ) → i < length ps → times i f.seen ≡ 0 → turns_right ps f.from f.to i ≡ false
  not_listed {f} g i h z = go (turns_right ps f.from f.to i) refl
    where
      go : (t : Bool) → turns_right ps f.from f.to i ≡ t → t ≡ false
      go true e = absurd (omega (arith, (g.sights i h e).listed))
      go false e = refl

  -- w is the farthest of the points that see the facet
  record Far (f : Facet) (w : ℕ) : Type 0 where
    w_in : w < length ps
    w_sees : Sees f w
    top : Each (Nearer ps (normal (point ps f.from) (point ps f.to)) w) f.seen

  far : (f : Facet) (i : ℕ) (l : List ℕ) → f.seen ≡ i ∷ l → Each (λ i. (i < length ps) × Sees f i) f.seen → Far f (farthest ps (normal (point ps f.from) (point ps f.to)) i l)
  far f i l e h = go (rw e at h)
    where
      N : Pt
      N = normal (point ps f.from) (point ps f.to)

      go : Each (λ i. (i < length ps) × Sees f i) (i ∷ l) → Far f (farthest ps N i l)
      go (p & q) =
          let r = farthest-each ps N i p q in
          record { w_in = r.0; w_sees = r.1; top = rw e (farthest-first ps N i l & farthest-rest ps N i l) }

  -- ---- one facet split

  module _ {k : ℕ} {f : Facet} (g : Good (suc k) f) {w : ℕ} (h : Far f w) where
    abbrev a : Pt
    a = point ps f.from

    abbrev b : Pt
    b = point ps f.to

    abbrev c : Pt
    c = point ps w

    saw : turn a b c <ℤ pos 0
    saw = seen_lt a b c h.w_sees

    w_sight : Sight g.n g.m f w
    w_sight = g.sights w h.w_in h.w_sees

    top_w : Top ps (normal a b) w
    top_w i l = go (turns_right ps f.from f.to i) refl
      where
        go : (t : Bool) → turns_right ps f.from f.to i ≡ t → dot (normal a b) (point ps i) ≤ℤ dot (normal a b) c
        go true e = each-times i h.top (g.sights i l e).listed
        go false e = ≤ℤ-trans (not_out_from a b (point ps i) (unseen_le a b (point ps i) e)) (<ℤ→≤ℤ (out_from a b c saw))

    abbrev f1 : Facet
    f1 = first_part ps f w

    abbrev f2 : Facet
    f2 = second_part ps f w

    from_sees : (i : ℕ) → i < length ps → Sees f1 i → (dot g.n c <ℤ dot g.n a) × Sees f i
    from_sees i l s =
        let r = sees_from g.n a b c (point ps i) (g.top_from i l) (g.top_from w h.w_in) w_sight.lower_to saw (seen_lt a c (point ps i) s) in
        (r.0, lt_seen a b (point ps i) r.1)

    to_sees : (i : ℕ) → i < length ps → Sees f2 i → (dot g.m c <ℤ dot g.m b) × Sees f i
    to_sees i l s =
        let r = sees_to g.m a b c (point ps i) (g.top_to i l) (g.top_to w h.w_in) w_sight.lower_from saw (seen_lt c b (point ps i) s) in
        (r.0, lt_seen a b (point ps i) r.1)

    -- no point sees both parts
    only_to : (i : ℕ) → i < length ps → Sees f2 i → turns_right ps f.from w i ≡ false
    only_to i l s = go (turns_right ps f.from w i) refl
      where
        go : (t : Bool) → turns_right ps f.from w i ≡ t → t ≡ false
        go true e = absurd (sees_one a b c (point ps i) (top_w i l) (seen_lt a c (point ps i) e) (seen_lt c b (point ps i) s))
        go false e = refl

    good_from : Good k f1
    good_from = record {
      from_in = g.from_in;
      to_in = h.w_in;
      n = g.n;
      m = normal a b;
      top_from = g.top_from;
      top_to = top_w;
      sights = λ i l s. record {
        lower_to = (from_sees i l s).0;
        lower_from = out_from a b c saw;
        listed = subst (λ (z : ℕ). 1 ≤ z) (sym (times-keep (turns_right ps f.from w) i f.seen ∙ rw s)) (g.sights i l (from_sees i l s).1).listed;
      };
      sure = each_imp (λ i p. (p.0.0, p.1)) (each_keep (turns_right ps f.from w) g.sure);
      short = omega (arith, g.short, keep_shorter (turns_right ps f.from w) w f.seen (unseen-end a c) w_sight.listed);
    }

    abbrev only : ℕ → Bool
    only i = not (turns_right ps f.from w i) && turns_right ps w f.to i

    w_only : only w ≡ false
    w_only = rw (unseen-end a c, unseen-begin c b)

    good_to : Good k f2
    good_to = record {
      from_in = h.w_in;
      to_in = g.to_in;
      n = normal a b;
      m = g.m;
      top_from = top_w;
      top_to = g.top_to;
      sights = λ i l s. record {
        lower_to = out_to a b c saw;
        lower_from = (to_sees i l s).0;
        listed = subst (λ (z : ℕ). 1 ≤ z) (sym (times-keep only i f.seen ∙ rw (only_to i l s, s))) (g.sights i l (to_sees i l s).1).listed;
      };
      sure = each_imp (λ i p. (p.0.0, and_true_r (not (turns_right ps f.from w i)) (turns_right ps w f.to i) p.1)) (each_keep only g.sure);
      short = omega (arith, g.short, keep_shorter only w f.seen w_only w_sight.listed);
    }

    held-split : (i : ℕ) → held i (split_at ps f w) ≤ one i f.from + times i f.seen
    held-split i =
        omega (arith, times-keep (turns_right ps f.from w) i f.seen, times-keep only i f.seen, shared i w (times i f.seen) (turns_right ps f.from w i) (turns_right ps w f.to i) at_w)
      where
        at_w : i ≡ w → (turns_right ps f.from w i ≡ false) × (turns_right ps w f.to i ≡ false) × (1 ≤ times i f.seen)
        at_w e = rw e (unseen-end a c, unseen-begin c b, w_sight.listed)

  -- so the points that see the second part need not be asked about the first
  pub second-seen :
      {k : ℕ} (f : Facet) → Good (suc k) f → (i : ℕ) (l : List ℕ) → f.seen ≡ i ∷ l → let w = farthest ps (normal (point ps f.from) (point ps f.to)) i l in
      before ps w f.to f.seen ≡ behind ps f.from w f.to f.seen
  second-seen f g i l e =
      let w = farthest ps (normal (point ps f.from) (point ps f.to)) i l in
      keep_same (turns_right ps w f.to) (λ j. not (turns_right ps f.from w j) && turns_right ps w f.to j)
      (each_imp (λ j p. and_only (turns_right ps f.from w j) (turns_right ps w f.to j) (only_to g (far f i l e g.sure) j p.0)) g.sure)

  -- ---- the ring

  -- what the rounds keep of a ring whose facets are seen by at most k points each, and that holds number i at most c i times
  pub record Ring (c : ℕ → ℕ) (k : ℕ) (ring : List Facet) : Type 0 where
    pub good : Each (Good k) ring
    pub corner : ℕ
    pub way : Way corner ring corner
    pub holds : (i : ℕ) → held i ring ≤ c i

  -- what is kept of a facet, but for how many points see it
  pub seen_by : {k m : ℕ} {f : Facet} → length f.seen ≤ m → Good k f → Good m f
  seen_by h g = record {
    from_in = g.from_in;
    to_in = g.to_in;
    n = g.n;
    m = g.m;
    top_from = g.top_from;
    top_to = g.top_to;
    sights = g.sights;
    sure = g.sure;
    short = h;
  }

  fewer : {k : ℕ} {f : Facet} → f.seen ≡ [] → Good (suc k) f → Good k f
  fewer e g = seen_by (rw e (omega arith)) g

  more : {k : ℕ} {f : Facet} → Good k f → Good (suc k) f
  more g = seen_by (omega (arith, g.short)) g

  good_split : {k : ℕ} (f : Facet) → Good (suc k) f → (l : List ℕ) → f.seen ≡ l → Each (Good k) (split_by ps f l)
  good_split f g [] e = fewer e g & end
  good_split f g (i ∷ l) e = let h = far f i l e g.sure in good_from g h & good_to g h & end

  held_by : {k : ℕ} (f : Facet) → Good (suc k) f → (l : List ℕ) → f.seen ≡ l → (i : ℕ) → held i (split_by ps f l) ≤ one i f.from + times i f.seen
  held_by f g [] e i = omega arith
  held_by f g (j ∷ l) e i = held-split g (far f j l e g.sure) i

  pub way_by : (f : Facet) (l : List ℕ) → Way f.from (split_by ps f l) f.to
  way_by f [] = along refl (stay refl)
  way_by f (i ∷ l) = along refl (along refl (stay refl))

  pub good_round : {k : ℕ} {ring : List Facet} → Each (Good (suc k)) ring → Each (Good k) (round ps ring)
  unfolding round
  good_round end = end
  good_round (◌&◌ {a = f} g h) = each_++ (good_split f g f.seen refl) (good_round h)

  pub held_round : {k : ℕ} {ring : List Facet} → Each (Good (suc k)) ring → (i : ℕ) → held i (round ps ring) ≤ held i ring
  unfolding round
  held_round end i = omega arith
  held_round (◌&◌ {a = f} {l = ring} g h) i = omega (arith, held_++ i (split_by ps f f.seen) (round ps ring), held_by f g f.seen refl i, held_round h i)

  pub way_round : {a b : ℕ} {ring : List Facet} → Way a ring b → Way a (round ps ring) b
  unfolding round
  way_round (stay e) = stay e
  way_round {b} (along {f} {ring} e h) = subst (λ (z : ℕ). Way z (split_by ps f f.seen ++ round ps ring) b) e (way_++ (way_by f f.seen) (way_round h))

  module _ {c : ℕ → ℕ} where
    pub ring_round : {k : ℕ} {ring : List Facet} → Ring c (suc k) ring → Ring c k (round ps ring)
    ring_round {ring} r = record { good = good_round r.good; corner = r.corner; way = way_round r.way; holds = λ i. omega (arith, held_round r.good i, r.holds i) }

    pub ring_rotated : {k : ℕ} {l m : List Facet} → Rotated l m → Ring c k l → Ring c k m
    ring_rotated t r =
        let (b, p, q) = way_apart t.front t.back (rw t.was at r.way) in
        record {
          good = each_rotated t r.good;
          corner = b;
          way = rw t.now (way_++ q p);
          holds = λ i. let e = held_++ i t.front t.back in let f = held_++ i t.back t.front in rw t.now (omega (arith, e, f, rw t.was at (r.holds i)));
        }

    -- the first facet split
    pub ring_one : {k : ℕ} (f : Facet) {ring : List Facet} → Ring c k (f ∷ ring) → Ring c k (split_by ps f f.seen ++ ring)
    ring_one f {ring} r = record {
      good = each_++ (good_split f (more (each_head r.good)) f.seen refl) (each_tail r.good);
      corner = r.corner;
      way = first_way r.way;
      holds = λ i. omega (arith, held_++ i (split_by ps f f.seen) ring, held_by f (more (each_head r.good)) f.seen refl i, r.holds i);
    }
      where
        first_way : {a b : ℕ} → Way a (f ∷ ring) b → Way a (split_by ps f f.seen ++ ring) b
        first_way {a} {b} (along e h) = subst (λ (z : ℕ). Way z (split_by ps f f.seen ++ ring) b) e (way_++ (way_by f f.seen) h)

    -- after k rounds no point sees a facet
    pub ring-rounds : (k : ℕ) (ring : List Facet) → Ring c k ring → Ring c 0 (rounds k ps ring)
    unfolding rounds
    ring-rounds zero ring r = ring_rotated (begun_rotated [] ring) r
    ring-rounds (suc k) ring r = ring-rounds k (round ps (begun [] ring)) (ring_round (ring_rotated (begun_rotated [] ring) r))

    -- any number of rounds keeps the ring
    pub ring_more : {k : ℕ} {ring : List Facet} → Ring c k ring → Ring c (suc k) ring
    ring_more r = record { good = each_imp (λ f g. more g) r.good; corner = r.corner; way = r.way; holds = r.holds }

    pub ring_kept : (k : ℕ) {m : ℕ} (ring : List Facet) → Ring c m ring → Ring c m (rounds k ps ring)
    unfolding rounds
    ring_kept zero ring r = ring_rotated (begun_rotated [] ring) r
    ring_kept (suc k) ring r = ring_kept k (round ps (begun [] ring)) (ring_round (ring_more (ring_rotated (begun_rotated [] ring) r)))

  -- ---- more rounds than points change nothing

  pub none_left : {f : Facet} → Good 0 f → f.seen ≡ []
  none_left {f} g = go f.seen g.short
    where
      go : (l : List ℕ) → length l ≤ 0 → l ≡ []
      go [] h = refl
      go (i ∷ l) h = absurd (omega arith)

  pub round_last : {ring : List Facet} → Each (Good 0) ring → round ps ring ≡ ring
  unfolding round
  round_last end = refl
  round_last (◌&◌ {a = f} {l = ring} g h) = ap (λ (l : List ℕ). split_by ps f l ++ round ps ring) (none_left g) ∙ ap (λ (l : List Facet). f ∷ l) (round_last h)

  pub begun-last : {ring : List Facet} → Each (Good 0) ring → begun [] ring ≡ ring
  unfolding begun
  begun-last end = refl
  begun-last (◌&◌ {a = f} {l = ring} g h) = begun-same f ring (none_left g)

  pub rounds-last : (k : ℕ) {ring : List Facet} → Each (Good 0) ring → rounds k ps ring ≡ ring
  unfolding rounds
  rounds-last zero h = begun-last h
  rounds-last (suc k) h = ap (λ (l : List Facet). rounds k ps (round ps l)) (begun-last h) ∙ ap (rounds k ps) (round_last h) ∙ rounds-last k h

  pub rounds_enough : {c : ℕ → ℕ} (k : ℕ) (ring : List Facet) → Ring c k ring → rounds (suc k) ps ring ≡ rounds k ps ring
  unfolding rounds
  rounds_enough zero ring r = ap (λ (l : List Facet). begun [] (round ps l)) (begun-last r.good) ∙ ap (begun []) (round_last r.good)
  rounds_enough (suc k) ring r = rounds_enough k (round ps (begun [] ring)) (ring_round (ring_rotated (begun_rotated [] ring) r))
