-- A merge is a chain of joins. What a join of two pieces adds up, the merge keeps the sum of; what a join keeps, holds of every piece.
use Prim.Native.Nat.{ℕ, zero, suc, ◌-◌}
use mathlib.Core.Path.{◌≡◌, refl, sym, ◌∙◌, ap, subst}
use mathlib.Core.Bool.{Bool, true, false, cond, ◌&&◌}
use mathlib.Core.List.{List, [], ◌∷◌, ◌++◌, append_assoc}
use mathlib.Core.Option.{Option, none, some}
use lib.Dec.{eqb}
use lib.ListN.{length}
use Rattle.algebra.specs.Lists.{Each, end, ◌&◌, first}
use Rattle.algebra.proofs.Lists.{each_++, each-front, each_back, each_head, each_tail}
use Rattle.algebra.proofs.Equal.{impossible, eqb-true, and_true_l, and_true_r, not-true, or-false}
use Rattle.algebra.specs.Sums.{Sums, total}
use Rattle.algebra.proofs.Sums.{total_++, left_comm}
use Rattle.rules.specs.Plane.{Pt}
use Rattle.algebra.specs.Rings.{Corner, rotations}
use Rattle.rules.specs.Merge.{follows, Part, last_first, mate, JoinTest, joint, bent, may_join, join_with, join, next_join, go_on, merge_from, merge}
use Rattle.algebra.proofs.Rings.{Rotated, each_rotated, total_rotated, begun_rotated, rotations_are}

-- ---- what the searches find

first_some : {A B : Type 0} {Q : A → Type 0} (f : A → Option B) {l : List A} (b : B) → Each Q l → first f l ≡ some b → (a : A) × Q a × (f a ≡ some b)
unfolding first
first_some f b end h = impossible (cc)
first_some {A} {B} {Q} f b (◌&◌ {a} {l} q qs) h = go (first_some f b qs) (f a) refl
  where
    go : (first f l ≡ some b → (a : A) × Q a × (f a ≡ some b)) → (o : Option B) → f a ≡ o → (a : A) × Q a × (f a ≡ some b)
    go rec none e = rec (cc)
    go rec (some c) e = (a, q, cc)

follows_some : (e s : ℕ) (t rest : List ℕ) → follows e s t ≡ some rest → t ≡ e ∷ s ∷ rest
unfolding follows
follows_some e s [] rest h = impossible (cc)
follows_some e s (a ∷ []) rest h = impossible (cc)
follows_some e s (a ∷ b ∷ l) rest h = go (eqb a e && eqb b s) refl
  where
    go : (t : Bool) → (eqb a e && eqb b s) ≡ t → a ∷ b ∷ l ≡ e ∷ s ∷ rest
    go true i = cc (eqb-true a e (and_true_l (eqb a e) (eqb b s) i), eqb-true b s (and_true_r (eqb a e) (eqb b s) i))
    go false i = impossible (cc)

-- m is l without its piece b, the last piece moved into b's place
pub record Picked (b : List ℕ) (l m : List (List ℕ)) : Type 0 where
  pub front : List (List ℕ)
  pub back : List (List ℕ)
  pub was : l ≡ front ++ b ∷ back
  pub now : m ≡ front ++ last_first back

-- m's piece follows e, s in a piece of l
pub record Mated (e s : ℕ) (l : List (List ℕ)) (m : Part) : Type 0 where
  pub mated : List ℕ
  pub rotated : Rotated mated (e ∷ s ∷ m.piece)
  pub picked : Picked mated l m.others

pub mated_in : (e s : ℕ) (passed l : List (List ℕ)) (m : Part) → mate e s passed l ≡ some m → Mated e s (passed ++ l) m
unfolding mate
mated_in e s passed [] m h = impossible (cc)
mated_in e s passed (b ∷ more) m h = go (mated_in e s (passed ++ b ∷ []) more m) (first (follows e s) (rotations b)) refl
  where
    go : (mate e s (passed ++ b ∷ []) more ≡ some m → Mated e s ((passed ++ b ∷ []) ++ more) m) → (o : Option (List ℕ)) → first (follows e s) (rotations b) ≡ o → Mated e s (passed ++ b ∷ more) m
    go rec none i = rw append_assoc at (rec (rw (i, mate) at h))
    go rec (some rest) i =
        let (t, rotated, f) = first_some (follows e s) rest (rotations_are b) i in
        let q : record { piece = rest; others = passed ++ last_first more } ≡ m = cc (rw (i, mate) at h) in
        subst (Mated e s (passed ++ b ∷ more)) q (record {
          mated = b;
          rotated = subst (Rotated b) (follows_some e s t rest f) rotated;
          picked = record { front = passed; back = more; was = refl; now = refl };
        })

-- a's next join: with which piece, at which edge, and that it may be
pub record Join (may : JoinTest) (a : List ℕ) (later : List (List ℕ)) (j : Part) : Type 0 where
  pub s : ℕ
  pub e : ℕ
  pub rest_a : List ℕ
  pub rest_b : List ℕ
  pub b : List ℕ
  pub rotated_a : Rotated a (s ∷ e ∷ rest_a)
  pub rotated_b : Rotated b (e ∷ s ∷ rest_b)
  pub picked : Picked b later j.others
  pub allowed : may (joint s e rest_a rest_b) (joint e s rest_b rest_a) ≡ true
  pub piece : j.piece ≡ (e ∷ rest_a) ++ (s ∷ rest_b)

join_is : (may : JoinTest) (a : List ℕ) (later : List (List ℕ)) (t : List ℕ) (j : Part) → Rotated a t → join may later t ≡ some j → Join may a later j
unfolding join join_with
join_is may a later [] j rotated h = impossible (cc)
join_is may a later (s ∷ []) j rotated h = impossible (cc)
join_is may a later (s ∷ e ∷ rest) j rotated h = go (mate e s [] later) refl h
  where
    go : (o : Option Part) → mate e s [] later ≡ o → join_with may s e rest o ≡ some j → Join may a later j
    go none i h = impossible (cc)
    go (some m) i h = next (may (joint s e rest m.piece) (joint e s m.piece rest)) refl h
      where
        next : (t : Bool) → may (joint s e rest m.piece) (joint e s m.piece rest) ≡ t → cond t (some (record { piece = (e ∷ rest) ++ (s ∷ m.piece); others = m.others })) none ≡ some j → Join may a later j
        next true k h =
            let r = mated_in e s [] later m i in
            let q : record { piece = (e ∷ rest) ++ (s ∷ m.piece); others = m.others } ≡ j = cc in
            subst (Join may a later) q (record { s = s; e = e; rest_a = rest; rest_b = m.piece; b = r.mated; rotated_a = rotated; rotated_b = r.rotated; picked = r.picked; allowed = k; piece = refl })
        next false k h = impossible (cc)

pub next_join_lem : (may : JoinTest) (a : List ℕ) (later : List (List ℕ)) (j : Part) → next_join may a later ≡ some j → Join may a later j
unfolding next_join
next_join_lem may a later j i = let (t, rotated, h) = first_some (join may later) j (rotations_are a) i in join_is may a later t j rotated h

-- where two pieces may be joined, neither corner of the join turns right
pub may_join_turns : (ps : List Pt) (s e : Corner ℕ) → may_join ps s e ≡ true → (bent ps s ≡ false) × (bent ps e ≡ false)
unfolding may_join
may_join_turns ps s e h = or-false _ _ (not-true _ h)

-- ---- the chain

data Merges (may : JoinTest) : List ℕ → List (List ℕ) → List (List ℕ) → Type 0 where
  rest_as_is : {a : List ℕ} {later : List (List ℕ)} → Merges may a later (a ∷ later)
  next_piece_lem : {a b : List ℕ} {more r : List (List ℕ)} → Merges may b more r → Merges may a (b ∷ more) (a ∷ r)
  joined : {a : List ℕ} {later r : List (List ℕ)} {j : Part} → Join may a later j → Merges may j.piece j.others r → Merges may a later r

merges : (k : ℕ) (may : JoinTest) (a : List ℕ) (later : List (List ℕ)) → Merges may a later (merge_from k may a later)
unfolding merge_from
merges zero may a later = rest_as_is
merges (suc k) may a later = go (merges k may) later (next_join may a later) refl
  where
    go : ((a : List ℕ) (later : List (List ℕ)) → Merges may a later (merge_from k may a later)) → (later : List (List ℕ)) (o : Option Part) → next_join may a later ≡ o → Merges may a later (go_on (merge_from k may) a later o)
    go rec [] none i = rest_as_is
    go rec (b ∷ more) none i = next_piece_lem (rec b more)
    go rec later (some j) i = joined (next_join_lem may a later j i) (rec j.piece j.others)

-- ---- two laws for piece A at the head of the list: A without a join is finished; a join takes A's place

pub merge-next : (may : JoinTest) (a : List ℕ) (later : List (List ℕ)) → next_join may a later ≡ none → merge may (a ∷ later) ≡ a ∷ merge may later
unfolding merge merge_from
merge-next may a [] e = refl
merge-next may a (b ∷ more) e = rw e

pub merge-join :
    (may : JoinTest) (a : List ℕ) (later : List (List ℕ)) (j : Part) → next_join may a later ≡ some j → suc (length j.others) ≡ length later
    → merge may (a ∷ later) ≡ merge may (j.piece ∷ j.others)
unfolding merge merge_from
merge-join may a later j e l = rw (← l, e)

-- ---- sums: what a join adds up, the merge keeps

module _ {G : Type 0} (S : Sums G) where
  open S use {◌⊕◌, assoc}

  module _ (f : List ℕ → G) where
    last_first-sum : (l : List (List ℕ)) → total S f (last_first l) ≡ total S f l
    last_first-sum l = sym (total_rotated S f (begun_rotated l (length l - 1)))

    pub picked_sum : {b : List ℕ} {l m : List (List ℕ)} → Picked b l m → total S f l ≡ f b ⊕ total S f m
    picked_sum {b} p =
        rw (p.was, p.now, total_++ S f p.front (b ∷ p.back), total_++ S f p.front (last_first p.back), last_first-sum p.back)
        (left_comm S (total S f p.front) (f b) (total S f p.back))

    module _ (rotated : (l m : List ℕ) → Rotated l m → f l ≡ f m)
        (adds : (s e : ℕ) (rest_a rest_b : List ℕ) → f ((e ∷ rest_a) ++ (s ∷ rest_b)) ≡ f (s ∷ e ∷ rest_a) ⊕ f (e ∷ s ∷ rest_b)) where
      join-sum : {may : JoinTest} {a : List ℕ} {later : List (List ℕ)} {j : Part} → Join may a later j → f a ⊕ total S f later ≡ f j.piece ⊕ total S f j.others
      join-sum {j} h =
          rw (h.piece, adds h.s h.e h.rest_a h.rest_b, picked_sum h.picked, rotated _ _ h.rotated_a, rotated _ _ h.rotated_b)
          (sym (assoc (f (h.s ∷ h.e ∷ h.rest_a)) (f (h.e ∷ h.s ∷ h.rest_b)) (total S f j.others)))

      merges-sum : {may : JoinTest} {a : List ℕ} {later r : List (List ℕ)} → Merges may a later r → total S f r ≡ f a ⊕ total S f later
      merges-sum rest_as_is = refl
      merges-sum (next_piece_lem {a} m) = ap (λ (x : G). f a ⊕ x) (merges-sum m)
      merges-sum (joined h m) = merges-sum m ∙ sym (join-sum h)

      pub merge-sum : (may : JoinTest) (pieces : List (List ℕ)) → total S f (merge may pieces) ≡ total S f pieces
      unfolding merge
      merge-sum may [] = refl
      merge-sum may (a ∷ later) = merges-sum (merges (length later) may a later)

-- ---- what a join keeps, holds of every piece

module _ (may : JoinTest) (P : List ℕ → Type 0) (rotated : (l m : List ℕ) → Rotated l m → P l → P m)
    (keeps : (s e : ℕ) (rest_a rest_b : List ℕ) → may (joint s e rest_a rest_b) (joint e s rest_b rest_a) ≡ true → P (s ∷ e ∷ rest_a) → P (e ∷ s ∷ rest_b) → P ((e ∷ rest_a) ++ (s ∷ rest_b))) where
  merges-each : {a : List ℕ} {later r : List (List ℕ)} → Merges may a later r → P a → Each P later → Each P r
  merges-each rest_as_is p h = p & h
  merges-each (next_piece_lem m) p (q & h) = p & merges-each m q h
  merges-each (joined {j} i m) p h = merges-each m piece others
    where
      parts : Each P (i.picked.front ++ i.b ∷ i.picked.back)
      parts = rw i.picked.was at h

      piece : P j.piece
      piece = rw i.piece (keeps i.s i.e i.rest_a i.rest_b i.allowed (rotated _ _ i.rotated_a p) (rotated _ _ i.rotated_b (each_head (each_back i.picked.front (i.b ∷ i.picked.back) parts))))

      others : Each P j.others
      others = rw i.picked.now (each_++ (each-front i.picked.front (i.b ∷ i.picked.back) parts) (each_rotated (begun_rotated i.picked.back (length i.picked.back - 1)) (each_tail (each_back i.picked.front (i.b ∷ i.picked.back) parts))))

  pub merge-each : (pieces : List (List ℕ)) → Each P pieces → Each P (merge may pieces)
  unfolding merge
  merge-each [] h = end
  merge-each (a ∷ later) (p & h) = merges-each (merges (length later) may a later) p h
