-- The two ends of a cloud, its rightmost and its leftmost point, and the ring of two facets between them, with which the rounds begin.
use Prim.Native.Nat.{ℕ, ◌+◌, ◌≤◌, ◌<◌}
use mathlib.Core.Path.{◌≡◌, refl, sym, ◌∙◌, ap, subst}
use mathlib.Core.Logic.{◌≢◌, ◌⊎◌, inl, inr}
use mathlib.Core.Bool.{Bool, true, false, cond, not, ◌&&◌}
use mathlib.Core.List.{List, [], ◌∷◌}
use native.Mathlib.Omega.{arith}
use lib.Dec.{eqb}
use lib.ListN.{length}
use lib.IntN.{ℤ, pos, neg_ℤ}
use lib.Signed.{lt_z, ◌≤ℤ◌, ◌<ℤ◌}
use Rattle.algebra.specs.Reify.{reify}
use Rattle.algebra.specs.Lists.{Each, end, ◌&◌, count_from}
use Rattle.algebra.proofs.Lists.{each_all, each_imp, each_keep, keep_same, keep-length}
use Rattle.algebra.proofs.Counting.{count_below, count-length}
use Rattle.algebra.proofs.Occurrences.{one, one_other, shared, times, times-count, times_in, times-keep}
use Rattle.algebra.proofs.Equal.{impossible, eqb-true, and_true_r, and_only}
use Rattle.algebra.proofs.Solve.{ring}
use Rattle.algebra.proofs.Order.{lin, up_neg, dn_neg, ≤ℤ-trans, ≤ℤ-antisym, triℤ, lt_or_leℤ}
use Rattle.rules.specs.Plane.{Pt, turn, point, turns_right}
use Rattle.rules.specs.Hull.{before, dot, leftward, rightward, support}
use Rattle.rules.specs.Refusals.{on_one_line}
use Rattle.rules.proofs.Turns.{coordinates, turn-back}
use Rattle.hulls.specs.Rounds.{Facet, back, there, first_ring, unseen}
use Rattle.hulls.specs.Cover.{OneLine}
use Rattle.hulls.proofs.Directions.{seen_lt, lt_seen, unseen-begin, unseen-end}
use Rattle.hulls.proofs.Farthest.{support_in, support_top}
use Rattle.hulls.proofs.Straight.{straight, level, line_refused, some_point}
use Rattle.hulls.proofs.Rounds.{Sees, Good, held, Ring}
use Rattle.hulls.specs.Rounds.{stay, along}

-- ---- directions, and the turn back

dot-right : (p : Pt) → dot rightward p ≡ p.x
dot-right p = ring (coordinates (p ∷ [])) (search reify depth 12) (search reify depth 12) refl

dot-left : (p : Pt) → dot leftward p ≡ neg_ℤ p.x
dot-left p = ring (coordinates (p ∷ [])) (search reify depth 12) (search reify depth 12) refl

neg_le : (z w : ℤ) → neg_ℤ z ≤ℤ neg_ℤ w → w ≤ℤ z
neg_le z w h = omega (lin, up_neg z, dn_neg z, up_neg w, dn_neg w)

neg_lt : (z w : ℤ) → w <ℤ z → neg_ℤ z <ℤ neg_ℤ w
neg_lt z w h = omega (lin, up_neg z, dn_neg z, up_neg w, dn_neg w)

below_not_zero : (z : ℤ) → z <ℤ pos 0 → z ≢ pos 0
below_not_zero z h e = omega lin

-- a point that sees the way back stands left of the way there
back_above : (a b x : Pt) → turn b a x <ℤ pos 0 → pos 0 <ℤ turn a b x
back_above a b x h = go (turn a b x) (turn b a x) (turn-back a b x) h
  where
    go : (t u : ℤ) → u ≡ neg_ℤ t → u <ℤ pos 0 → pos 0 <ℤ t
    go t u e h = omega (lin, up_neg t, dn_neg t)

above-back : (a b x : Pt) → pos 0 <ℤ turn a b x → turn b a x <ℤ pos 0
above-back a b x h = go (turn a b x) (turn b a x) (turn-back a b x) h
  where
    go : (t u : ℤ) → u ≡ neg_ℤ t → pos 0 <ℤ t → u <ℤ pos 0
    go t u e h = omega (lin, up_neg t, dn_neg t)

above_not_zero : (z : ℤ) → pos 0 <ℤ z → z ≢ pos 0
above_not_zero z h e = omega lin

-- and does not see the way there
above-unseen : (z : ℤ) → pos 0 <ℤ z → lt_z z (pos 0) ≡ false
above-unseen z h = go (lt_z z (pos 0)) refl
  where
    go : (t : Bool) → lt_z z (pos 0) ≡ t → t ≡ false
    go true e = absurd (omega lin)
    go false e = refl

module _ (ps : List Pt) where
  abbrev a : ℕ
  a = support ps rightward

  abbrev b : ℕ
  b = support ps leftward

  abbrev A : Pt
  A = point ps a

  abbrev B : Pt
  B = point ps b

  -- ---- the greatest and the least x

  rightmost : (i : ℕ) → i < length ps → (point ps i).x ≤ℤ A.x
  rightmost i l = rw (dot-right (point ps i), dot-right A) at (support_top ps rightward i l)

  leftmost : (i : ℕ) → i < length ps → B.x ≤ℤ (point ps i).x
  leftmost i l = neg_le (point ps i).x B.x (rw (dot-left (point ps i), dot-left B) at (support_top ps leftward i l))

  -- where these are one, all points have it
  one_x : A.x ≤ℤ B.x → (i : ℕ) → i < length ps → (point ps i).x ≡ A.x
  one_x h i l = ≤ℤ-antisym (rightmost i l) (≤ℤ-trans h (leftmost i l))

  -- so a point off the line through both ends shows that they are not
  off-line : (i : ℕ) → i < length ps → turn A B (point ps i) ≢ pos 0 → B.x <ℤ A.x
  off-line i l n = go (lt_or_leℤ B.x A.x)
    where
      go : (B.x <ℤ A.x) ⊎ (A.x ≤ℤ B.x) → B.x <ℤ A.x
      go (inl h) = h
      go (inr h) = absurd (n (level A B (point ps i) (≤ℤ-antisym (≤ℤ-trans (leftmost i l) (rightmost i l)) h) (one_x h i l)))

  -- ---- the two facets

  abbrev all : List ℕ
  all = count_from 0 (length ps)

  abbrev f1 : Facet
  f1 = record { from = a; to = b; seen = there ps a b }

  abbrev f2 : Facet
  f2 = record { from = b; to = a; seen = back ps a b }

  abbrev only : ℕ → Bool
  only i = not (turns_right ps a b i) && turns_right ps b a i

  in_all : (i : ℕ) → i < length ps → 1 ≤ times i all
  in_all i l = times_in i 0 (length ps) (omega arith) (omega arith)

  not_there : (i : ℕ) → Sees ps f2 i → turns_right ps a b i ≡ false
  not_there i s = above-unseen (turn A B (point ps i)) (back_above A B (point ps i) (seen_lt B A (point ps i) s))

  -- so the points that see the way back need not be asked about the way there
  pub back-seen : before ps b a (count_from 0 (length ps)) ≡ back ps a b
  back-seen = keep_same (turns_right ps b a) only (each_all (λ i. and_only (turns_right ps a b i) (turns_right ps b a i) (not_there i)) (count_from 0 (length ps)))

  -- a point that sees one of them is off the line through both ends
  there-off : (i : ℕ) → Sees ps f1 i → turn A B (point ps i) ≢ pos 0
  there-off i s = below_not_zero (turn A B (point ps i)) (seen_lt A B (point ps i) s)

  back-off : (i : ℕ) → Sees ps f2 i → turn A B (point ps i) ≢ pos 0
  back-off i s = above_not_zero (turn A B (point ps i)) (back_above A B (point ps i) (seen_lt B A (point ps i) s))

  lower_right : B.x <ℤ A.x → dot rightward B <ℤ dot rightward A
  lower_right h = rw (dot-right A, dot-right B) h

  lower_left : B.x <ℤ A.x → dot leftward A <ℤ dot leftward B
  lower_left h = rw (dot-left A, dot-left B) (neg_lt A.x B.x h)

  -- a point that is neither end and sees neither facet is not held
  pub held_none : (i : ℕ) → i ≢ a → i ≢ b → turns_right ps a b i ≡ false → turns_right ps b a i ≡ false → held i (first_ring ps) ≡ 0
  held_none i d e h g =
      let x : times i (there ps a b) ≡ 0 = times-keep (turns_right ps a b) i all ∙ rw h in
      let y : times i (back ps a b) ≡ 0 = times-keep only i all ∙ rw (h, g) in
      omega (arith, x, y, one_other i a d, one_other i b e)

  module _ (s : 0 < length ps) where
    a_in : a < length ps
    a_in = support_in ps s rightward

    b_in : b < length ps
    b_in = support_in ps s leftward

    good_there : Good ps (length ps) f1
    good_there = record {
      from_in = a_in;
      to_in = b_in;
      n = rightward;
      m = leftward;
      top_from = support_top ps rightward;
      top_to = support_top ps leftward;
      sights = λ i l s. let h = off-line i l (there-off i s) in record {
        lower_to = lower_right h;
        lower_from = lower_left h;
        listed = subst (λ (z : ℕ). 1 ≤ z) (sym (times-keep (turns_right ps a b) i all ∙ rw s)) (in_all i l);
      };
      sure = each_keep (turns_right ps a b) (count_below (length ps));
      short = omega (arith, keep-length (turns_right ps a b) all, count-length 0 (length ps));
    }

    good_back : Good ps (length ps) f2
    good_back = record {
      from_in = b_in;
      to_in = a_in;
      n = leftward;
      m = rightward;
      top_from = support_top ps leftward;
      top_to = support_top ps rightward;
      sights = λ i l s. let h = off-line i l (back-off i s) in record {
        lower_to = lower_left h;
        lower_from = lower_right h;
        listed = subst (λ (z : ℕ). 1 ≤ z) (sym (times-keep only i all ∙ rw (not_there i s, s))) (in_all i l);
      };
      sure = each_imp (λ i p. (p.0, and_true_r (not (turns_right ps a b i)) (turns_right ps b a i) p.1)) (each_keep only (count_below (length ps)));
      short = omega (arith, keep-length only all, count-length 0 (length ps));
    }

    pub first_ring_lem : Ring ps (λ i. held i (first_ring ps)) (length ps) (first_ring ps)
    first_ring_lem = record { good = good_there & good_back & end; corner = a; way = along refl (along refl (stay refl)); holds = λ i. omega arith }

    -- nothing is held twice
    pub held_once : a ≢ b → (i : ℕ) → held i (first_ring ps) ≤ 1
    held_once d i = go (eqb i a) refl
      where
        at_b : i ≡ b → (turns_right ps a b i ≡ false) × (turns_right ps b a i ≡ false) × (1 ≤ times i all)
        at_b e = (rw e (unseen-end A B), rw e (unseen-begin B A), in_all i (rw e b_in))

        go : (t : Bool) → eqb i a ≡ t → cond t 1 0 + times i (there ps a b) + (one i b + times i (back ps a b) + 0) ≤ 1
        go true e =
            let q : i ≡ a = eqb-true i a e in
            let s : turns_right ps a b i ≡ false = rw q (unseen-begin A B) in
            let t : turns_right ps b a i ≡ false = rw q (unseen-end B A) in
            let x : times i (there ps a b) ≡ 0 = times-keep (turns_right ps a b) i all ∙ rw s in
            let y : times i (back ps a b) ≡ 0 = times-keep only i all ∙ rw (s, t) in
            let n : i ≢ b = (λ r. d (sym q ∙ r)) in
            omega (arith, x, y, one_other i b n)
        go false e =
            omega (
              arith,
              times-keep (turns_right ps a b) i all,
              times-keep only i all,
              times-count i 0 (length ps),
              shared i b (times i all) (turns_right ps a b i) (turns_right ps b a i) at_b,
            )

    -- ---- refusal 12 by the two ends

    -- where all points are on the line through both ends, they are on one line
    pub straight-all : ((i : ℕ) → i < length ps → turn A B (point ps i) ≡ pos 0) → on_one_line ps ≡ true
    straight-all h = line_refused ps every
      where
        every : OneLine ps
        every i j k p q r = go (lt_or_leℤ B.x A.x)
          where
            go : (B.x <ℤ A.x) ⊎ (A.x ≤ℤ B.x) → turn (point ps i) (point ps j) (point ps k) ≡ pos 0
            go (inl l) = straight A B (point ps i) (point ps j) (point ps k) l (h i p) (h j q) (h k r)
            go (inr l) = level (point ps i) (point ps j) (point ps k) (one_x l j q ∙ sym (one_x l i p)) (one_x l k r ∙ sym (one_x l i p))

    -- so they are where no point sees either facet
    on_it : there ps a b ≡ [] → back ps a b ≡ [] → (i : ℕ) → i < length ps → turn A B (point ps i) ≡ pos 0
    on_it e f i l = go (triℤ (turn A B (point ps i)) (pos 0))
      where
        nobody : (m : List ℕ) → m ≡ [] → 1 ≤ times i m → ⊥
        nobody m q h = let z : times i m ≡ 0 = ap (times i) q in omega arith

        go : (turn A B (point ps i) <ℤ pos 0) ⊎ ((turn A B (point ps i) ≡ pos 0) ⊎ (pos 0 <ℤ turn A B (point ps i))) → turn A B (point ps i) ≡ pos 0
        go (inl h) = absurd (nobody (there ps a b) e (good_there.sights i l (lt_seen A B (point ps i) h)).listed)
        go (inr (inl q)) = q
        go (inr (inr h)) = absurd (nobody (back ps a b) f (good_back.sights i l (lt_seen B A (point ps i) (above-back A B (point ps i) h))).listed)

  module _ (off : on_one_line ps ≡ false) where
    -- where they are not, a point sees one of the two facets
    pub first-seen : (unseen (there ps a b) && unseen (back ps a b)) ≡ false
    first-seen = go (there ps a b) refl (back ps a b) refl
      where
        go : (l : List ℕ) → there ps a b ≡ l → (m : List ℕ) → back ps a b ≡ m → (unseen l && unseen m) ≡ false
        go [] e [] f = let s = some_point ps off in impossible (cc (straight-all s (on_it s e f)))
        go [] e (i ∷ m) f = refl
        go (i ∷ l) e m f = refl

    -- so it is off the line through both ends
    pub one_off : (i : ℕ) × (i < length ps) × (turn A B (point ps i) ≢ pos 0)
    one_off = go (there ps a b) (back ps a b) first-seen (good_there s).sure (good_back s).sure
      where
        s : 0 < length ps
        s = some_point ps off

        go :
            (l m : List ℕ) → (unseen l && unseen m) ≡ false → Each (λ i. (i < length ps) × Sees ps f1 i) l → Each (λ i. (i < length ps) × Sees ps f2 i) m
            → (i : ℕ) × (i < length ps) × (turn A B (point ps i) ≢ pos 0)
        go [] [] h p q = impossible (cc)
        go [] (i ∷ m) h p ((l, q) & qs) = (i, l, back-off i q)
        go (i ∷ l) m h ((k, p) & hs) qs = (i, k, there-off i p)

    -- and the ends are two
    pub ends_apart : a ≢ b
    ends_apart e =
        let (i, l, n) = one_off in
        go A.x B.x (ap (λ (i : ℕ). (point ps i).x) e) (off-line i l n)
      where
        go : (z w : ℤ) → z ≡ w → w <ℤ z → ⊥
        go z w e h = omega lin

    pub first_once : (i : ℕ) → held i (first_ring ps) ≤ 1
    first_once = held_once (some_point ps off) ends_apart
