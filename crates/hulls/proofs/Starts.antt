-- Where the crate's answer begins: its first facet that stays is, of the first round that has one, the first in ring order.
use Prim.Native.Nat.{ℕ, zero, suc, ◌<◌}
use mathlib.Core.Path.{◌≡◌, refl, sym, ◌∙◌, ap, subst}
use mathlib.Core.Logic.{◌⊎◌, inl, inr}
use mathlib.Core.Bool.{Bool, true, false, cond}
use mathlib.Core.List.{List, [], ◌∷◌, ◌++◌, map, map-append, append_assoc, append-nil}
use native.Mathlib.Omega.{arith}
use lib.ListN.{length}
use Rattle.algebra.specs.Lists.{Each, end, ◌&◌}
use Rattle.algebra.proofs.Lists.{each_imp, each_head, each_tail, each_back, each_++, each_swap, each_unmap}
use Rattle.algebra.proofs.Equal.{impossible}
use Rattle.algebra.proofs.Rings.{swapped}
use Rattle.rules.specs.Plane.{Pt}
use Rattle.rules.specs.Hull.{Walk}
use Rattle.hulls.specs.Rounds.{Facet, begun, round, rounds, split_by, unseen}
use Rattle.hulls.proofs.Rounds.{begun-same}
use Rattle.hulls.proofs.Numbers.{Num, num_of, facet_of, Stays, Run, over, old, due, next_from, end_from, end_from_le, end_from_last, split_from, round_from, round_from_as, round_from_++, round_from_last, round_from_facets, run_as, run-next}
use Rattle.hulls.proofs.Looks.{State, state_rotated}
use Rattle.hulls.proofs.Sweeps.{Goes, there, goes_++, sweep}

-- ---- facets that stay, and facets that will be split

abbrev Seen : Num → Type 0
Seen x = unseen x.facet.seen ≡ false

seen-nil : (l : List ℕ) → unseen l ≡ true → l ≡ []
seen-nil [] e = refl
seen-nil (i ∷ l) e = impossible (cc)

nil-seen : {X : Type 0} (l : List ℕ) → l ≡ [] → unseen l ≡ false → X
nil-seen l e h = let q : unseen l ≡ true = ap unseen e in impossible (cc)

-- y is made after x, or will be split
abbrev Later : Num → Num → Type 0
Later x y = (x.num < y.num) ⊎ Seen y

run-later : (x : Num) {lo hi : ℕ} {l : List Num} → x.num < lo → Run 0 lo l hi → Each (Later x) l
run-later x h over = end
run-later x h (old p e r) = absurd (omega arith)
run-later x h (due {x = y} q r) = let k : x.num < y.num = omega arith in inl k & run-later x (omega arith) r

least_of_lem : (x : Num) {l : List Num} → Each (Later x) l → Each Stays l → Each (λ y. x.num < y.num) l
least_of_lem x end end = end
least_of_lem x (inl p & h) (e & k) = p & least_of_lem x h k
least_of_lem x (inr q & h) (◌&◌ {a = y} e k) = nil-seen y.facet.seen e q & least_of_lem x h k

-- ---- the ring of a round, and the ring with the numbers

-- the ring is begun at the first facet that stays: the one that has the least number of those that stay
record Begun (s : List Facet) (ring : List Num) : Type 0 where
  front : List Num
  start : Num
  back : List Num
  whole : ring ≡ front ++ start ∷ back
  stays : Stays start
  front-later : Each (Later start) front
  back-later : Each (Later start) back
  same : s ≡ map facet_of ((start ∷ back) ++ front)

-- before it is looked where to begin: all facets are new, or the ring was begun before
data Before (s : List Facet) (ring : List Num) : Type 0 where
  fresh : {lo hi : ℕ} → Run 0 lo ring hi → s ≡ map facet_of ring → Before s ring
  going : Begun s ring → Before s ring

-- and afterwards: all facets are new and will be split, or the ring is begun
data Start (s : List Facet) (ring : List Num) : Type 0 where
  none_yet : {lo hi : ℕ} → Each Seen ring → Run 0 lo ring hi → s ≡ map facet_of ring → Start s ring
  found : Begun s ring → Start s ring

begin-from : {lo hi lo' hi' : ℕ} (l r : List Num) → Each Seen l → Run 0 lo r hi → Run 0 lo' (l ++ r) hi' → Start (begun (map facet_of l) (map facet_of r)) (l ++ r)
unfolding begun
begin-from l [] h over t = rw (append-nil l) (none_yet h (rw (append-nil l) at t) refl)
begin-from l (x ∷ r) h (old p e t) u = absurd (omega arith)
begin-from {hi} {lo'} {hi'} l (x ∷ r) h (due {lo} q t) u =
    go (unseen x.facet.seen) refl (λ e. begin-from (l ++ x ∷ []) r (each_++ h (e & end)) t (subst (λ (m : List Num). Run 0 lo' m hi') (sym (append_assoc l (x ∷ []) r)) u))
  where
    go :
        (b : Bool) → unseen x.facet.seen ≡ b → (Seen x → Start (begun (map facet_of (l ++ x ∷ [])) (map facet_of r)) ((l ++ x ∷ []) ++ r))
        → Start (cond b (map facet_of (x ∷ r) ++ map facet_of l) (begun (map facet_of l ++ x.facet ∷ []) (map facet_of r))) (l ++ x ∷ r)
    go true e rec = found (record {
      front = l;
      start = x;
      back = r;
      whole = refl;
      stays = seen-nil x.facet.seen e;
      front-later = each_imp (λ y k. inr k) h;
      back-later = run-later x (omega arith) t;
      same = sym (map-append facet_of (x ∷ r) l);
    })
    go false e rec =
        subst (Start (begun (map facet_of l ++ x.facet ∷ []) (map facet_of r))) (append_assoc l (x ∷ []) r)
        (subst (λ (m : List Facet). Start (begun m (map facet_of r)) ((l ++ x ∷ []) ++ r)) (map-append facet_of l (x ∷ [])) (rec e))

begin : (s : List Facet) (ring : List Num) → Before s ring → Start (begun [] s) ring
begin s ring (fresh r e) = subst (λ (l : List Facet). Start (begun [] l) ring) (sym e) (begin-from [] ring end r r)
begin s ring (going b) = found (record {
  front = b.front;
  start = b.start;
  back = b.back;
  whole = b.whole;
  stays = b.stays;
  front-later = b.front-later;
  back-later = b.back-later;
  same = ap (begun []) b.same ∙ begun-same b.start.facet (map facet_of (b.back ++ b.front)) b.stays;
})

-- ---- a round keeps where the ring is begun

module _ (ps : List Pt) where
  round_++ : (l r : List Facet) → round ps (l ++ r) ≡ round ps l ++ round ps r
  unfolding round
  round_++ [] r = refl
  round_++ (f ∷ l) r = ap (λ (q : List Facet). split_by ps f f.seen ++ q) (round_++ l r) ∙ sym (append_assoc (split_by ps f f.seen) (round ps l) (round ps r))

  due_next : {lo hi : ℕ} {l : List Num} → Each Seen l → Run 0 lo l hi → (id : ℕ) → Run 0 id (round_from ps id l) (end_from id l)
  due_next end over id = over
  due_next (k & ks) (old p e r) id = absurd (omega arith)
  due_next (◌&◌ {a = x} {l = l} k ks) (due q r) id = go x.facet.seen refl k (λ n. due_next ks r n)
    where
      go :
          (seen : List ℕ) → x.facet.seen ≡ seen → unseen seen ≡ false → ((n : ℕ) → Run 0 n (round_from ps n l) (end_from n l))
          → Run 0 id (round_from ps id (x ∷ l)) (end_from id (x ∷ l))
      go [] e k rec = impossible (cc)
      go (j ∷ seen) e k rec = run_as ps id x l e (due refl (due refl (rec (suc (suc id)))))

  later-next : (x : Num) (id : ℕ) → x.num < id → {l : List Num} → Each (Later x) l → Each (Later x) (round_from ps id l)
  later-next x id h end = end
  later-next x id h (◌&◌ {a = y} {l = l} k ks) = go y.facet.seen refl k (λ n p. later-next x n p ks)
    where
      go :
          (seen : List ℕ) → y.facet.seen ≡ seen → Later x y → ((n : ℕ) → x.num < n → Each (Later x) (round_from ps n l))
          → Each (Later x) (split_from ps id y seen ++ round_from ps (next_from id seen) l)
      go [] e k rec = k & rec id h
      go (j ∷ seen) e k rec = let n : x.num < suc id = omega arith in inl h & inl n & rec (suc (suc id)) (omega arith)

  next : (s : List Facet) (ring : List Num) (id : ℕ) → Each (λ n. n < id) (map num_of ring) → Start s ring → Before (round ps s) (round_from ps id ring)
  next s ring id h (none_yet k r e) = fresh (due_next k r id) (ap (round ps) e ∙ sym (round_from_facets ps id ring))
  next s ring id h (found b) =
      let x = b.start in
      let mid = end_from id b.front in
      let front = round_from ps id b.front in
      let back = round_from ps mid b.back in
      let tail : round_from ps mid (x ∷ b.back) ≡ x ∷ back = round_from_as ps mid x b.back b.stays in
      let l : x.num < id = below_start (subst (λ (r : List Num). Each (λ n. n < id) (map num_of r)) b.whole h) in
      going (record {
        front = front;
        start = x;
        back = back;
        whole = ap (round_from ps id) b.whole ∙ round_from_++ ps id b.front (x ∷ b.back) ∙ ap (λ (r : List Num). front ++ r) tail;
        stays = b.stays;
        front-later = later-next x id l b.front-later;
        back-later = later-next x mid (omega (arith, end_from_le id b.front)) b.back-later;
        same =
            ap (round ps) (b.same ∙ map-append facet_of (x ∷ b.back) b.front)
            ∙ round_++ (map facet_of (x ∷ b.back)) (map facet_of b.front)
            ∙ (λ t. (sym (round_from_facets ps mid (x ∷ b.back)) ∙ ap (map facet_of) tail) t ++ sym (round_from_facets ps id b.front) t)
            ∙ sym (map-append facet_of (x ∷ back) front);
      })
    where
      below_start : Each (λ n. n < id) (map num_of (b.front ++ b.start ∷ b.back)) → b.start.num < id
      below_start k = each_head (each_back (map num_of b.front) (map num_of (b.start ∷ b.back)) (rw (map-append num_of b.front (b.start ∷ b.back)) at k))

module _ (ps : List Pt) (c : ℕ → ℕ) (m : ℕ) where
  -- ---- all rounds

  -- n rounds on from the ring s, at facet i of the walk k
  record Done (n : ℕ) (s : List Facet) (i : ℕ) (k : Walk) : Type 0 where
    walk : Walk
    ring : List Num
    at-end : ℕ
    goes : Goes ps i k at-end walk
    state : State ps c m walk ring
    run : Run at-end at-end ring (length walk.segments)
    start : Start (rounds n ps s) ring

  all-rounds : (n : ℕ) (s : List Facet) (i : ℕ) (k : Walk) (ring : List Num) → State ps c m k ring → Run i i ring (length k.segments) → Before s ring → Done n s i k
  unfolding rounds
  all-rounds zero s i k ring st r b = record { walk = k; ring = ring; at-end = i; goes = there; state = st; run = r; start = begin s ring b }
  all-rounds (suc n) s i k ring st r b =
      let id = length k.segments in
      let w = sweep ps c m [] ring k r st in
      let ring' = round_from ps id ring in
      let r' : Run id id ring' (length w.walk.segments) = subst (Run id id ring') (sym w.long) (run-next ps r (omega arith) id (omega arith) id) in
      let d = all-rounds n (round ps (begun [] s)) id w.walk ring' w.state r' (next ps (begun [] s) ring id st.shows.below (begin s ring b)) in
      record { walk = d.walk; ring = d.ring; at-end = d.at-end; goes = goes_++ ps w.goes d.goes; state = d.state; run = d.run; start = d.start }

  -- ---- once no point sees a facet, the loop ends

  -- the last walk, which shows the ring s begun where the answer is
  pub record Last (i : ℕ) (k : Walk) (s : List Facet) : Type 0 where
    pub walk : Walk
    pub first : Num
    pub rest : List Num
    pub goes : Goes ps i k (length walk.segments) walk
    pub state : State ps c m walk (first ∷ rest)
    pub least : Each (λ y. first.num < y.num) rest
    pub same : s ≡ map facet_of (first ∷ rest)

  abbrev AllStay : List Facet → Type 0
  AllStay = Each (λ f. f.seen ≡ [])

  -- all facets are to be split and stay: there are none, but the ring of a walk has one at least
  nobody : {X : Type 0} (k : Walk) (l : List Num) → State ps c m k l → Each Seen l → Each Stays l → X
  nobody k [] st h u = absurd (omega (arith, st.size))
  nobody k (x ∷ l) st (h & hs) (u & us) = nil-seen x.facet.seen u h

  finish : (n : ℕ) (s : List Facet) (i : ℕ) (k : Walk) → AllStay (rounds n ps s) → Done n s i k → Last i k (rounds n ps s)
  finish n s i k u d = go d.start
    where
      go : Start (rounds n ps s) d.ring → Last i k (rounds n ps s)
      go (none_yet h t f) = nobody d.walk d.ring d.state h (each_unmap facet_of d.ring (subst AllStay f u))
      go (found b) =
          let x = b.start in
          let v : Each Stays ((x ∷ b.back) ++ b.front) = each_unmap facet_of ((x ∷ b.back) ++ b.front) (subst AllStay b.same u) in
          let v' : Each Stays d.ring = rw b.whole (each_swap (x ∷ b.back) b.front v) in
          let id = length d.walk.segments in
          let w = sweep ps c m [] d.ring d.walk d.run d.state in
          let long : length w.walk.segments ≡ id = w.long ∙ end_from_last id v' in
          let st : State ps c m w.walk d.ring = subst (State ps c m w.walk) (round_from_last ps id v') w.state in
          record {
            walk = w.walk;
            first = x;
            rest = b.back ++ b.front;
            goes = subst (λ (j : ℕ). Goes ps i k j w.walk) (sym long) (goes_++ ps d.goes w.goes);
            state = state_rotated ps c m (swapped b.front (x ∷ b.back)) (subst (State ps c m w.walk) b.whole st);
            least = least_of_lem x (each_++ b.back-later b.front-later) (each_tail v);
            same = b.same;
          }

  pub last_walk :
      (n : ℕ) (s : List Facet) (i : ℕ) (k : Walk) (ring : List Num) → State ps c m k ring → Run i i ring (length k.segments) → {lo hi : ℕ} → Run 0 lo ring hi
      → s ≡ map facet_of ring → AllStay (rounds n ps s) → Last i k (rounds n ps s)
  last_walk n s i k ring st r q e u = finish n s i k u (all-rounds n s i k ring st r (fresh q e))
