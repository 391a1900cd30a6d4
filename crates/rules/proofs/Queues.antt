-- A's places with their queue: where the search stands, one law for each thing that a look may find, and that the search finds A's next join.
use Prim.Native.Nat.{ℕ, suc, ◌-◌}
use mathlib.Core.Path.{◌≡◌, refl, sym, ◌∙◌, ap, subst}
use mathlib.Core.Bool.{Bool, true, false, cond}
use mathlib.Core.List.{List, [], ◌∷◌, ◌++◌, map-append, append_assoc, append-nil}
use mathlib.Core.Option.{Option, none, some}
use lib.ListN.{length}
use Rattle.algebra.specs.Lists.{Each, end, ◌&◌, first, or_else}
use Rattle.algebra.proofs.Lists.{each_++, each-front, each_back, each_tail, each_imp}
use Rattle.algebra.proofs.Equal.{impossible}
use Rattle.algebra.specs.Rings.{Edge, steps, edges, rotations, rotations_from}
use Rattle.algebra.proofs.Rings.{edges-two, edges_rotated, each_rotated, begun_rotated, swapped}
use Rattle.rules.specs.Merge.{follows, Part, mate, JoinTest, join_with, join, next_join}
use Rattle.rules.proofs.QueueSlots.{may_meet, Slot, corners_of, fresh, out, lone, refused, joins, judged, look, look_at, grown}
use Rattle.rules.proofs.Merges.{Picked, mated_in}

-- ---- no mate among pieces stays so when pieces vanish

-- s follows e nowhere in the piece
abbrev pub Apart : ℕ → ℕ → List ℕ → Type 0
Apart e s b = first (follows e s) (rotations b) ≡ none

pub mate_none : (e s : ℕ) (passed later : List (List ℕ)) → Each (Apart e s) later → mate e s passed later ≡ none
unfolding mate
mate_none e s passed [] h = refl
mate_none e s passed (b ∷ more) (h & hs) = rw (h, mate) (mate_none e s (passed ++ b ∷ []) more hs)

none_apart : (e s : ℕ) (passed later : List (List ℕ)) → mate e s passed later ≡ none → Each (Apart e s) later
unfolding mate
none_apart e s passed [] h = end
none_apart e s passed (b ∷ more) h = go (none_apart e s (passed ++ b ∷ []) more) (first (follows e s) (rotations b)) refl
  where
    go : (mate e s (passed ++ b ∷ []) more ≡ none → Each (Apart e s) more) → (o : Option (List ℕ)) → first (follows e s) (rotations b) ≡ o → Each (Apart e s) (b ∷ more)
    go rec none i = i & rec (rw (i, mate) at h)
    go rec (some rest) i = impossible (cc (rw (i, mate) at h))

pub picked_each : {P : List ℕ → Type 0} {b : List ℕ} {l m : List (List ℕ)} → Picked b l m → Each P l → Each P m
picked_each {b} p h =
    let parts = rw p.was at h in
    rw p.now (each_++ (each-front p.front (b ∷ p.back) parts) (each_rotated (begun_rotated p.back (length p.back - 1)) (each_tail (each_back p.front (b ∷ p.back) parts))))

none_still : {b : List ℕ} {l m : List (List ℕ)} (e s : ℕ) → Picked b l m → mate e s [] l ≡ none → mate e s [] m ≡ none
none_still {b} {l} {m} e s p h = mate_none e s [] m (picked_each p (none_apart e s [] l h))

-- ---- slots

corners_fresh : (n : ℕ) (l : List ℕ) → corners_of (fresh n l) ≡ l
corners_fresh n [] = refl
corners_fresh n (c ∷ l) = ap (λ (z : List ℕ). c ∷ z) (corners_fresh (suc n) l)

-- an edge of A whose place is out of the queue has no mate
unfoldable pub Known : List (List ℕ) → Edge Slot → Type 0
unfolding mate
Known later e = e.from.live ≡ false → mate e.to.corner e.from.corner [] later ≡ none

abbrev edge : Slot → Slot → Edge Slot
edge p q = record { from = p; to = q }

module _ (later : List (List ℕ)) where
  known_live : (p q : Slot) → p.live ≡ true → Known later (edge p q)
  unfolding Known
  known_live p q l d = impossible (cc)

  known_fresh : (p : Slot) (n : ℕ) (l : List ℕ) (e : Slot) → p.live ≡ true → Each (Known later) (steps p (fresh n l ++ e ∷ []))
  known_fresh p n [] e l = known_live p e l & end
  known_fresh p n (c ∷ cs) e l = known_live p _ l & known_fresh _ (suc n) cs e refl

  known-new : (n : ℕ) (l : List ℕ) → Each (Known later) (edges (fresh n l))
  known-new n [] = end
  known-new n (c ∷ l) = known_fresh _ (suc n) l _ refl

  -- to where an edge goes, only the corner matters
  known_out : (q : Slot) (l : List Slot) (p : Slot) → Each (Known later) (steps q (l ++ p ∷ [])) → Each (Known later) (steps q (l ++ out p ∷ []))
  unfolding Known
  known_out q [] p (h & end) = h & end
  known_out q (x ∷ l) p (h & hs) = h & known_out x l p hs

-- ---- a look at a place

module _ (may : JoinTest) (later : List (List ℕ)) (p : Slot) where
  -- a place that has no mate may leave the queue
  lone_mate : (e : Slot) (rest : List Slot) → Known later (edge p e) → look_at may later p (e ∷ rest) ≡ lone → mate e.corner p.corner [] later ≡ none
  unfolding look_at look Known
  lone_mate e rest k h = go p.live refl
    where
      judge : (o : Option Part) → mate e.corner p.corner [] later ≡ o → judged may p.corner e.corner (corners_of rest) o ≡ lone → o ≡ none
      judge none i h = refl
      judge (some b) i h = allowed (may_meet may p.corner e.corner (corners_of rest) b.piece) h
        where
          allowed : (t : Bool) → cond t (joins b) refused ≡ lone → some b ≡ none
          allowed true h = impossible (cc)
          allowed false h = impossible (cc)

      go : (t : Bool) → p.live ≡ t → mate e.corner p.corner [] later ≡ none
      go true l = judge (mate e.corner p.corner [] later) refl (rw l at h)
      go false l = k l

  lone_join : (rest : List Slot) → Each (Known later) (edges (p ∷ rest)) → look_at may later p rest ≡ lone → join may later (p.corner ∷ corners_of rest) ≡ none
  unfolding join join_with
  lone_join [] k h = refl
  lone_join (e ∷ rest) (k & _) h = rw (lone_mate e rest k h)

  lone_known : (rest : List Slot) → Each (Known later) (edges (p ∷ rest)) → look_at may later p rest ≡ lone → Each (Known later) (edges (out p ∷ rest))
  unfolding look_at look Known
  lone_known [] (k & end) h = (λ _. k (dead p.live h)) & end
    where
      dead : (t : Bool) → cond t refused lone ≡ lone → t ≡ false
      dead true h = impossible (cc)
      dead false h = refl
  lone_known (e ∷ rest) (k & ks) h = (λ _. lone_mate e rest k h) & known_out later e rest p ks

  refused_join : (rest : List Slot) → look_at may later p rest ≡ refused → join may later (p.corner ∷ corners_of rest) ≡ none
  unfolding look_at look join join_with
  refused_join [] h = refl
  refused_join (e ∷ rest) h = go p.live h
    where
      judge : (o : Option Part) → judged may p.corner e.corner (corners_of rest) o ≡ refused → join_with may p.corner e.corner (corners_of rest) o ≡ none
      judge none h = impossible (cc)
      judge (some b) h = allowed (may_meet may p.corner e.corner (corners_of rest) b.piece) h
        where
          allowed : (t : Bool) → cond t (joins b) refused ≡ refused → cond {A = Option Part} t (some (record { piece = (e.corner ∷ corners_of rest) ++ (p.corner ∷ b.piece); others = b.others })) none ≡ none
          allowed true h = impossible (cc)
          allowed false h = refl

      go : (t : Bool) → cond t (judged may p.corner e.corner (corners_of rest) (mate e.corner p.corner [] later)) lone ≡ refused → join_with may p.corner e.corner (corners_of rest) (mate e.corner p.corner [] later) ≡ none
      go true h = judge (mate e.corner p.corner [] later) h
      go false h = impossible (cc)

  -- a join at the place, which is in the queue
  pub record Joins (rest : List Slot) (b : Part) : Type 0 where
    pub next : Slot
    pub more : List Slot
    pub is : rest ≡ next ∷ more
    pub live : p.live ≡ true
    pub mates : mate next.corner p.corner [] later ≡ some b
    pub allowed : may_meet may p.corner next.corner (corners_of more) b.piece ≡ true

  joins_is : (rest : List Slot) (b : Part) → look_at may later p rest ≡ joins b → Joins rest b
  unfolding look_at look
  joins_is [] b h = go p.live h
    where
      go : (t : Bool) → cond t refused lone ≡ joins b → Joins [] b
      go true h = impossible (cc)
      go false h = impossible (cc)
  joins_is (e ∷ rest) b h = go p.live refl h
    where
      judge : p.live ≡ true → (o : Option Part) → mate e.corner p.corner [] later ≡ o → judged may p.corner e.corner (corners_of rest) o ≡ joins b → Joins (e ∷ rest) b
      judge l none i h = impossible (cc)
      judge l (some c) i h = allowed (may_meet may p.corner e.corner (corners_of rest) c.piece) refl h
        where
          allowed : (t : Bool) → may_meet may p.corner e.corner (corners_of rest) c.piece ≡ t → cond t (joins c) refused ≡ joins b → Joins (e ∷ rest) b
          allowed true m h =
              let q : c ≡ b = cc in
              record { next = e; more = rest; is = refl; live = l; mates = i ∙ ap some q; allowed = subst (λ (x : Part). may_meet may p.corner e.corner (corners_of rest) x.piece ≡ true) q m }
          allowed false m h = impossible (cc)

      go : (t : Bool) → p.live ≡ t → cond t (judged may p.corner e.corner (corners_of rest) (mate e.corner p.corner [] later)) lone ≡ joins b → Joins (e ∷ rest) b
      go true l h = judge l (mate e.corner p.corner [] later) refl h
      go false l h = impossible (cc)

  grown_join :
      (e : Slot) (more : List Slot) (n : ℕ) (b : Part) → mate e.corner p.corner [] later ≡ some b → may_meet may p.corner e.corner (corners_of more) b.piece ≡ true
      → join may later (p.corner ∷ e.corner ∷ corners_of more) ≡ some (record { piece = corners_of ((e ∷ more) ++ (p ∷ fresh n b.piece)); others = b.others })
  unfolding join join_with
  grown_join e more n b m allowed = rw (m, allowed, map-append (λ (x : Slot). x.corner) more (p ∷ fresh n b.piece), corners_fresh n b.piece)

  joins_join : (rest : List Slot) (b : Part) → Joins rest b → join may later (p.corner ∷ corners_of rest) ≡ some (record { piece = corners_of (grown p rest b.piece); others = b.others })
  joins_join rest b j =
      subst (λ (l : List Slot). join may later (p.corner ∷ corners_of l) ≡ some (record { piece = corners_of (grown p l b.piece); others = b.others })) (sym j.is)
      (grown_join j.next j.more (suc (length (j.next ∷ j.more))) b j.mates j.allowed)

  joins_picked : (rest : List Slot) (b : Part) → Joins rest b → (piece : List ℕ) × Picked piece later b.others
  joins_picked rest b j = let m = mated_in j.next.corner p.corner [] later b j.mates in (m.mated, m.picked)

  joins_known : (rest : List Slot) (b : Part) → Joins rest b → Each (Known later) (edges (p ∷ rest)) → Each (Known b.others) (edges (grown p rest b.piece))
  unfolding Known
  joins_known rest b j k =
      let (piece, picked) = joins_picked rest b j in
      let n = suc (length rest) in
      let old : Each (Known later) (steps j.next (j.more ++ p ∷ [])) = each_tail (subst (λ (l : List Slot). Each (Known later) (edges (p ∷ l))) j.is k) in
      let kept : Each (Known b.others) (steps j.next (j.more ++ p ∷ [])) = each_imp (λ e h d. none_still e.to.corner e.from.corner picked (h d)) old in
      subst (λ (l : List Slot). Each (Known b.others) (edges (l ++ (p ∷ fresh n b.piece)))) (sym j.is)
      (rw (edges-two j.next j.more p (fresh n b.piece)) (each_++ kept (known_fresh b.others p n b.piece j.next j.live)))

-- ---- where the search stands

-- no join begins at A's corners xs, behind which come ys
unfoldable pub Far : JoinTest → List (List ℕ) → List ℕ → List ℕ → Type 0
unfolding next_join first join rotations_from
Far may later xs ys = next_join may (xs ++ ys) later ≡ first (join may later) (rotations_from xs ys)

module _ (may : JoinTest) (later : List (List ℕ)) where
  far_begin : (l : List ℕ) → Far may later [] l
  unfolding Far next_join rotations
  far_begin l = refl

  far_on : (xs : List ℕ) (c : ℕ) (ys : List ℕ) → join may later (c ∷ ys ++ xs) ≡ none → Far may later xs (c ∷ ys) → Far may later (xs ++ c ∷ []) ys
  unfolding Far first rotations_from
  far_on xs c ys h f = ap (λ (l : List ℕ). next_join may l later) (append_assoc xs (c ∷ []) ys) ∙ f ∙ ap (λ (o : Option Part). or_else o (first (join may later) (rotations_from (xs ++ c ∷ []) ys))) h

  far_found : (xs : List ℕ) (c : ℕ) (ys : List ℕ) (j : Part) → join may later (c ∷ ys ++ xs) ≡ some j → Far may later xs (c ∷ ys) → next_join may (xs ++ c ∷ ys) later ≡ some j
  unfolding Far first rotations_from
  far_found xs c ys j h f = f ∙ ap (λ (o : Option Part). or_else o (first (join may later) (rotations_from (xs ++ c ∷ []) ys))) h

  far_end : (xs : List ℕ) → Far may later xs [] → next_join may xs later ≡ none
  unfolding Far first rotations_from
  far_end xs f = ap (λ (l : List ℕ). next_join may l later) (sym (append-nil xs)) ∙ f

-- A's places passed since its last join, from its corner 0 on, and those to come: none of those passed has a join, and none that is out of the queue a mate
pub record Stands (may : JoinTest) (later : List (List ℕ)) (passed coming : List Slot) : Type 0 where
  pub known : Each (Known later) (edges (coming ++ passed))
  pub far : Far may later (corners_of passed) (corners_of coming)

pub begins : (may : JoinTest) (later : List (List ℕ)) (a : List ℕ) → Stands may later [] (fresh 0 a)
begins may later a = record { known = rw (append-nil (fresh 0 a)) (known-new later 0 a); far = far_begin may later (corners_of (fresh 0 a)) }

module _ {may : JoinTest} {later : List (List ℕ)} {passed : List Slot} {p : Slot} {coming : List Slot} (at : Stands may later passed (p ∷ coming)) where
  known_on : (q : Slot) → Each (Known later) (edges (q ∷ coming ++ passed)) → Each (Known later) (edges (coming ++ (passed ++ q ∷ [])))
  known_on q h = rw (← append_assoc) (each_rotated (edges_rotated (swapped (q ∷ []) (coming ++ passed))) h)

  place-on : (q : Slot) → q.corner ≡ p.corner → join may later (p.corner ∷ corners_of (coming ++ passed)) ≡ none → Far may later (corners_of (passed ++ q ∷ [])) (corners_of coming)
  place-on q e h =
      rw (map-append (λ (x : Slot). x.corner) passed (q ∷ []), e)
      (far_on may later (corners_of passed) p.corner (corners_of coming) (rw (map-append (λ (x : Slot). x.corner) coming passed) at h) at.far)

  -- no mate: the place leaves the queue
  pub lone_stands : look_at may later p (coming ++ passed) ≡ lone → Stands may later (passed ++ out p ∷ []) coming
  lone_stands h = record {
    known = known_on (out p) (lone_known may later p (coming ++ passed) at.known h);
    far = place-on (out p) refl (lone_join may later p (coming ++ passed) at.known h);
  }

  -- a mate, refused
  pub refused_stands : look_at may later p (coming ++ passed) ≡ refused → Stands may later (passed ++ p ∷ []) coming
  refused_stands h = record { known = known_on p at.known; far = place-on p refl (refused_join may later p (coming ++ passed) h) }

  module _ (b : Part) (h : look_at may later p (coming ++ passed) ≡ joins b) where
    pub joined-next : next_join may (corners_of (passed ++ p ∷ coming)) later ≡ some (record { piece = corners_of (grown p (coming ++ passed) b.piece); others = b.others })
    joined-next =
        rw (map-append (λ (x : Slot). x.corner) passed (p ∷ coming))
        (far_found may later (corners_of passed) p.corner (corners_of coming) (record { piece = corners_of (grown p (coming ++ passed) b.piece); others = b.others })
        (subst (λ (l : List ℕ). join may later (p.corner ∷ l) ≡ some (record { piece = corners_of (grown p (coming ++ passed) b.piece); others = b.others })) (map-append (λ (x : Slot). x.corner) coming passed)
        (joins_join may later p (coming ++ passed) b (joins_is may later p (coming ++ passed) b h)))
        at.far)

    pub joined-stands : Stands may b.others [] (grown p (coming ++ passed) b.piece)
    joined-stands = record {
      known = rw append-nil (joins_known may later p (coming ++ passed) b (joins_is may later p (coming ++ passed) b h) at.known);
      far = far_begin may b.others (corners_of (grown p (coming ++ passed) b.piece));
    }

pub stands-end : {may : JoinTest} {later : List (List ℕ)} {passed : List Slot} → Stands may later passed [] → next_join may (corners_of passed) later ≡ none
stands-end {may} {later} {passed} at = far_end may later (corners_of passed) at.far
