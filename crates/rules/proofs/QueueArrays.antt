-- The merger's steps with a queue on arrays: vert has the corner at each place of A, succ and pred its neighbours, start is the place of
-- A's corner 0, len the number of places. One law for each way that a look may go.
use Prim.Native.Nat.{ℕ, zero, suc, ◌≤◌, ◌<◌}
use native.Mathlib.Omega.{arith}
use mathlib.Core.Path.{◌≡◌, refl, sym, ◌∙◌, ap, ap₂, subst, subst₂}
use mathlib.Core.Bool.{Bool, true, false}
use mathlib.Core.List.{List, [], ◌∷◌, ◌++◌, map}
use mathlib.Core.Option.{none, some}
use lib.ListN.{length, length-append, get_or, set}
use lib.Seq.{get_or-set_same, get_or-set_other}
use Rattle.algebra.specs.Lists.{Each, end, ◌&◌}
use Rattle.algebra.proofs.Lists.{each-front, each_imp}
use Rattle.algebra.specs.Rings.{steps, last_of, first_of}
use Rattle.algebra.proofs.Rings.{Rotated, rotated_length, steps-last, each_rotated}
use Rattle.rules.specs.Merge.{mate, JoinTest, merge}
use Rattle.rules.specs.MergeQueue.{places_from, ring_at, joint_at_start, joint_at_end}
use Rattle.rules.proofs.QueueSlots.{may_meet}
use Rattle.rules.proofs.QueueSteps.{places_of, Queue, queue_begins, queue_ends, queue_short, Opened, opened, begun_at_lem, lone_step, refused_step, joined_step, joined-merge}
use Rattle.rules.proofs.QueueLinks.{Numbered, numbered_begins, numbered_joined, Link, Linked, Here, linked_at, linked_joined, may_corners}

pub record State (may : JoinTest) (later : List (List ℕ)) (vert succ pred : List ℕ) (start len : ℕ) (queue : List ℕ) (count : ℕ) : Type 0 where
  pub queues : Queue may later (λ i. get_or vert i 0) (places_from succ start len) queue count
  pub numbered : Numbered (places_from succ start len)
  pub linked : Linked succ pred (places_from succ start len)
  pub three : 3 ≤ len

pub length_from : (succ : List ℕ) (v n : ℕ) → length (places_from succ v n) ≡ n
length_from succ v zero = refl
length_from succ v (suc n) = ap suc (length_from succ (get_or succ v 0) n)

-- links lead along the places
from-links : {succ pred : List ℕ} (a : ℕ) (l : List ℕ) → Each (Link succ pred) (steps a l) → places_from succ a (suc (length l)) ≡ a ∷ l
from-links a [] end = refl
from-links a (b ∷ l) (h & hs) = ap (λ (z : List ℕ). a ∷ z) (rw h.on (from-links b l hs))

from_linked : {succ pred : List ℕ} (a : ℕ) (l : List ℕ) → Linked succ pred (a ∷ l) → places_from succ a (suc (length l)) ≡ a ∷ l
from_linked a l h = from-links a l (each-front (steps a l) (record { from = last_of a l; to = a } ∷ []) (rw (steps-last a l a) at h))

-- ---- A begins as a triangle

pub state_begins :
    (may : JoinTest) (later : List (List ℕ)) (vert succ pred : List ℕ) → get_or succ 0 0 ≡ 1 → get_or succ 1 0 ≡ 2 → get_or succ 2 0 ≡ 0 → get_or pred 0 0 ≡ 2 → get_or pred 1 0 ≡ 0 → get_or pred 2 0 ≡ 1
    → State may later vert succ pred 0 3 (0 ∷ 1 ∷ 2 ∷ []) 0
state_begins may later vert succ pred s0 s1 s2 p0 p1 p2 = record {
  queues = subst (λ (l : List ℕ). Queue may later (λ i. get_or vert i 0) l (0 ∷ 1 ∷ 2 ∷ []) 0) (sym places) (queue_begins may later (λ i. get_or vert i 0));
  numbered = subst Numbered (sym places) numbered_begins;
  linked = subst (Linked succ pred) (sym places) links;
  three = omega arith;
}
  where
    links : Linked succ pred (0 ∷ 1 ∷ 2 ∷ [])
    links = record { on = s0; back = p1 } & record { on = s1; back = p2 } & record { on = s2; back = p0 } & end

    places : places_from succ 0 3 ≡ 0 ∷ 1 ∷ 2 ∷ []
    places = from_linked 0 (1 ∷ 2 ∷ []) links

module _ {may : JoinTest} {later : List (List ℕ)} {vert succ pred : List ℕ} {start len : ℕ} where
  -- A is finished
  pub state_ends :
      {queue : List ℕ} {count : ℕ} → State may later vert succ pred start len queue count → length queue ≤ count
      → merge may (ring_at vert succ start len ∷ later) ≡ ring_at vert succ start len ∷ merge may later
  state_ends {queue} {count} s h = queue_ends may later (λ i. get_or vert i 0) (places_from succ start len) queue count s.queues h

  pub state-short : {queue : List ℕ} {count : ℕ} → State may later vert succ pred start len queue count → (length queue ≤ len) × (count ≤ length queue)
  state-short {queue} {count} s =
      let (a, b) = queue_short may later (λ i. get_or vert i 0) (places_from succ start len) queue count s.queues in
      let c : length queue ≤ len = omega (arith, a, length_from succ start len) in
      (c, b)

-- ---- a look at the head of the queue

each_last : {P : ℕ → Type 0} (a : ℕ) (l : List ℕ) → Each P (a ∷ l) → P (last_of a l)
each_last a [] (h & _) = h
each_last a (b ∷ l) (_ & hs) = each_last b l hs

each_first : {P : ℕ → Type 0} (a : ℕ) (l : List ℕ) → P a → Each P l → P (first_of a l)
each_first a [] h hs = h
each_first a (b ∷ l) h (k & _) = k

module _ {may : JoinTest} {later : List (List ℕ)} {vert succ pred : List ℕ} {start len n : ℕ} {rest : List ℕ} {count : ℕ}
    (s : State may later vert succ pred start len (n ∷ rest) count) (h : count < length (n ∷ rest)) where
  abbrev corner : ℕ → ℕ
  corner = λ i. get_or vert i 0

  abbrev places : List ℕ
  places = places_from succ start len

  head : Opened may later corner places n rest count
  head = opened s.queues h

  size : length places ≡ len
  size = length_from succ start len

  -- A from n on, whose next place is e
  record Begun (e : ℕ) : Type 0 where
    more : List ℕ
    is : places_of head.coming ++ places_of head.passed ≡ e ∷ more
    rotated : Rotated places (n ∷ e ∷ more)
    here : Here succ pred n e more

  begun : (e : ℕ) → e ≡ get_or succ n 0 → Begun e
  begun e i = go (begun_at_lem head (omega (arith, size, s.three)))
    where
      go : (e : ℕ) × (more : List ℕ) × (places_of head.coming ++ places_of head.passed ≡ e ∷ more) × Rotated places (n ∷ e ∷ more) → Begun e
      go (e', more, is, rotated) =
          let here = linked_at rotated s.linked in
          subst Begun (sym (i ∙ here.next)) (record { more = more; is = is; rotated = rotated; here = here })

  -- the places that a look reads
  pub record InRange (e : ℕ) : Type 0 where
    pub at_s : n < len
    pub at_e : e < len
    pub at_before : get_or pred n 0 < len
    pub at_after : get_or succ e 0 < len

  pub in_range : (e : ℕ) → e ≡ get_or succ n 0 → InRange e
  in_range e i = go (begun e i)
    where
      go : Begun e → InRange e
      go b = low (each_rotated b.rotated (subst (λ (k : ℕ). Each (λ j. j < k) places) size s.numbered.below))
        where
          low : Each (λ j. j < len) (n ∷ e ∷ b.more) → InRange e
          low (at_n & at_e & rest) = record {
            at_s = at_n;
            at_e = at_e;
            at_before = subst (λ (j : ℕ). j < len) (sym b.here.before) (each_last e b.more (at_e & rest));
            at_after = subst (λ (j : ℕ). j < len) (sym b.here.after) (each_first n b.more at_n rest);
          }

  module _ (e : ℕ) (i : e ≡ get_or succ n 0) where
    -- no mate: the place leaves the queue
    pub state_lone : mate (get_or vert e 0) (get_or vert n 0) [] later ≡ none → State may later vert succ pred start len rest count
    state_lone m = let b = begun e i in record { queues = lone_step head e b.more b.is m; numbered = s.numbered; linked = s.linked; three = s.three }

    -- a mate, the triangle e, s, t
    module _ (t : ℕ) (others : List (List ℕ)) (m : mate (get_or vert e 0) (get_or vert n 0) [] later ≡ some (record { piece = t ∷ []; others = others })) where
      allowed : (b : Begun e) (r : Bool) → may (joint_at_start vert pred n t) (joint_at_end vert succ e t) ≡ r → may_meet may (corner n) (corner e) (map corner b.more) (t ∷ []) ≡ r
      allowed b r k =
          may_corners may corner n e b.more t
          ∙ ap₂ (λ (x : ℕ) (y : ℕ). may (record { before = corner x; at = corner n; after = t }) (record { before = t; at = corner e; after = corner y })) (sym b.here.before) (sym b.here.after)
          ∙ k

      -- the join is refused: the place goes to the back
      pub state_refused :
          may (joint_at_start vert pred n t) (joint_at_end vert succ e t) ≡ false
          → State may later vert succ pred start len (rest ++ n ∷ []) (suc count)
      state_refused k = let b = begun e i in record { queues = refused_step head e b.more b.is (record { piece = t ∷ []; others = others }) m (allowed b false k); numbered = s.numbered; linked = s.linked; three = s.three }

      -- the join: place len, where t stands, goes between n and e; both n and len go to the back
      module _
          (k : may (joint_at_start vert pred n t) (joint_at_end vert succ e t) ≡ true)
          (room : len < length vert) (room-s : len < length succ) (room-p : len < length pred) where
        abbrev vert' : List ℕ
        vert' = set vert len t

        abbrev succ' : List ℕ
        succ' = set (set succ n len) len e

        abbrev pred' : List ℕ
        pred' = set (set pred len n) e len

        same : Each (λ j. get_or vert' j 0 ≡ get_or vert j 0) places
        same = each_imp (λ j b. get_or-set_other vert len j t 0 (λ q. omega (arith, b, q, size))) s.numbered.below

        added : get_or vert' (length places) 0 ≡ t
        added = subst (λ (j : ℕ). get_or vert' j 0 ≡ t) (sym size) (get_or-set_same vert len t 0 room)

        joined-links : (b : Begun e) → Linked succ' pred' ((e ∷ b.more) ++ (n ∷ len ∷ []))
        joined-links b =
            subst (λ (l : ℕ). Linked (set (set succ n l) l e) (set (set pred l n) e l) ((e ∷ b.more) ++ (n ∷ l ∷ []))) size
            (linked_joined b.rotated s.numbered s.linked (subst (λ (l : ℕ). l < length succ) (sym size) room-s) (subst (λ (l : ℕ). l < length pred) (sym size) room-p))

        joined-places : (b : Begun e) → places_from succ' e (suc len) ≡ (e ∷ b.more) ++ (n ∷ len ∷ [])
        joined-places b =
            let l : length (b.more ++ (n ∷ len ∷ [])) ≡ len = omega (arith, rotated_length b.rotated, size, length-append b.more (n ∷ len ∷ [])) in
            ap (λ (j : ℕ). places_from succ' e (suc j)) (sym l) ∙ from_linked e (b.more ++ (n ∷ len ∷ [])) (joined-links b)

        moved : (b : Begun e) → (e ∷ b.more) ++ (n ∷ length places ∷ []) ≡ places_from succ' e (suc len)
        moved b = ap (λ (j : ℕ). (e ∷ b.more) ++ (n ∷ j ∷ [])) size ∙ sym (joined-places b)

        pub state-joined : State may others vert' succ' pred' e (suc len) (rest ++ (n ∷ len ∷ [])) 0
        state-joined =
            let b = begun e i in
            record {
              queues =
                  subst₂ (λ (l : List ℕ) (j : ℕ). Queue may others (λ x. get_or vert' x 0) l (rest ++ (n ∷ j ∷ [])) 0) (moved b) size
                  (joined_step head e b.more b.is t others m (allowed b true k) (λ x. get_or vert' x 0) same added);
              numbered = subst Numbered (moved b) (numbered_joined b.rotated s.numbered);
              linked = subst (Linked succ' pred') (sym (joined-places b)) (joined-links b);
              three = omega (arith, s.three);
            }

        pub merge-joined : merge may (ring_at vert succ start len ∷ later) ≡ merge may (ring_at vert' succ' e (suc len) ∷ others)
        merge-joined =
            let b = begun e i in
            joined-merge head e b.more b.is t others m (allowed b true k) (λ x. get_or vert' x 0) same added
            ∙ ap (λ (l : List ℕ). merge may (map (λ x. get_or vert' x 0) l ∷ others)) (moved b)
