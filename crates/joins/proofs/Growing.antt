-- The loop that joins piece A: its state at each turn, and one step for each thing that a look may find.
use Prim.Native.Nat.{ℕ, zero, suc, ◌+◌, ◌-◌, ◌*◌, ◌≤◌, ◌<◌}
use native.Mathlib.Omega.{arith}
use native.Mathlib.Decide.{ℕ_discrete}
use native.Mathlib.Numerals.{add-one}
use mathlib.Core.Path.{◌≡◌, sym, ◌∙◌, ap, subst}
use mathlib.Core.Bool.{Bool, true, false}
use mathlib.Core.List.{List, [], ◌∷◌, ◌++◌, append_assoc}
use mathlib.Core.Option.{some}
use Rattle.std.specs.Prelude.{None, Some}
use lib.ListN.{length, get_or, set}
use lib.Seq.{get_or-set_same, get_or-set_other}
use Rattle.algebra.specs.Lists.{Each, end, ◌&◌}
use Rattle.algebra.proofs.Lists.{each_head, each_imp}
use Rattle.rules.specs.Merge.{JoinTest, merge}
use Rattle.rules.specs.Merge as Rules
use Rattle.rules.specs.MergeQueue.{joint_at_start, joint_at_end}
use Rattle.rules.proofs.QueueArrays.{State, state_begins, state_ends, state-short, length_from, in_range, state_lone, state_refused, state-joined, merge-joined}
use Rattle.rules.proofs.QueueMates.{mate-each}
use Rattle.pieces.specs.declared.Mate.{Mate}
use Rattle.pieces.specs.Pieces.{swap_removed, Mated}
use Rattle.pieces.proofs.Later.{length_swap_removed}
use Rattle.joins.specs.declared.ring.Ring.{Ring}
use Rattle.joins.specs.Ring.{corners, Three, Sizes, Begun, Placed, Readable}
use Rattle.joins.specs.Growing.{Finished}

pub record Growing (may : JoinTest) (n : ℕ) (first : List ℕ) (given later : List (List ℕ)) (ring : Ring) (queue : List ℕ) (refused : ℕ) : Type 0 where
  pub merges : merge may (first ∷ given) ≡ merge may (corners ring ∷ later)
  pub state : State may later ring.corners ring.next ring.before ring.start ring.len queue refused
  pub known : Each (Each (λ v. v < n)) later
  pub own : (i : ℕ) → i < ring.len → get_or ring.corners i 0 < n
  pub total : ring.len + length later ≡ 3 + length given
  pub few : length given < 510

-- A begins as a triangle
pub grow_first :
    (may : JoinTest) (n : ℕ) (first : List ℕ) (given : List (List ℕ)) (ring : Ring) → length first ≡ 3 → Each (Each (λ v. v < n)) (first ∷ given) → length given < 510 → Begun first ring
    → Growing may n first given given ring (0 ∷ 1 ∷ 2 ∷ []) 0
grow_first may n [] given ring size known few begun = absurd (omega arith)
grow_first may n (x ∷ []) given ring size known few begun = absurd (omega arith)
grow_first may n (x ∷ y ∷ []) given ring size known few begun = absurd (omega arith)
grow_first may n (x ∷ y ∷ z ∷ w ∷ more) given ring size known few begun = absurd (omega arith)
grow_first may n (x ∷ y ∷ z ∷ []) given ring size ((x-low & y-low & z-low & end) & known) few begun = record {
  merges = ap (λ (l : List ℕ). merge may (l ∷ given)) (sym ring_is);
  state = rw (begun.start, begun.len) (state_begins may given ring.corners ring.next ring.before s.first s.second s.third p.first p.second p.third);
  known = known;
  own = λ i h. own i (omega (arith, begun.len));
  total = omega (arith, begun.len);
  few = few;
}
  where
    s : Three ring.next 1 2 0
    s = begun.next

    p : Three ring.before 2 0 1
    p = begun.before

    v : Three ring.corners x y z
    v = begun.corners_are

    ring_is : corners ring ≡ x ∷ y ∷ z ∷ []
    ring_is = rw (begun.start, begun.len, s.first, s.second, v.first, v.second, v.third)

    own : (i : ℕ) → i < 3 → get_or ring.corners i 0 < n
    own zero h = rw v.first x-low
    own (suc zero) h = rw v.second y-low
    own (suc (suc zero)) h = rw v.third z-low
    own (suc (suc (suc i))) h = absurd (omega arith)

module _ {may : JoinTest} {n : ℕ} {first : List ℕ} {given later : List (List ℕ)} {ring : Ring} {queue : List ℕ} {refused : ℕ}
    (at : Growing may n first given later ring queue refused) where
  pub len_low : ring.len ≤ 512
  len_low = omega (arith, at.total, at.few)

  pub queue_short : length queue ≤ ring.len
  queue_short = (state-short at.state).0

module _ {may : JoinTest} {n : ℕ} {first : List ℕ} {given later : List (List ℕ)} {ring : Ring} {queue : List ℕ} {refused : ℕ}
    (at : Growing may n first given later ring queue refused) where
  -- A is finished
  pub finished : length queue ≤ refused → Finished may n first given ring later
  finished stop = record {
    merges = at.merges ∙ state_ends at.state stop;
    known = at.known;
    three = at.state.three;
    total = at.total;
    places_low = each_imp (λ i h. omega (arith, len_low at, h, length_from ring.next ring.start ring.len)) at.state.numbered.below;
  }

  -- one turn: place s is the queue's first, and e comes behind it
  module _ {live : ℕ} (size : live ≡ length queue) (more : refused < live) {s : ℕ} {rest : List ℕ} (is : queue ≡ s ∷ rest) where
    module _ {e : ℕ} (is_e : e ≡ get_or ring.next s 0) where
      state : State may later ring.corners ring.next ring.before ring.start ring.len (s ∷ rest) refused
      state = subst (λ (q : List ℕ). State may later ring.corners ring.next ring.before ring.start ring.len q refused) is at.state

      waits : refused < length (s ∷ rest)
      waits = omega (arith, ap length is)

      pub readable : Readable n ring s e
      readable =
          let r = in_range state waits e is_e in
          record { at_s = placed s r.at_s; at_e = placed e r.at_e; at_before = placed (get_or ring.before s 0) r.at_before; at_after = placed (get_or ring.next e 0) r.at_after }
        where
          placed : (i : ℕ) → i < ring.len → Placed n ring i
          placed i h = record { place = omega (arith, len_low at); corner = at.own i h }

      -- a look at the corners at both places
      module _ {at_s at_e : ℕ} (is_at_s : at_s ≡ get_or ring.corners s 0) (is_at_e : at_e ≡ get_or ring.corners e 0) where
        pub grow_lone : Mated later at_e at_s None → Growing may n first given later ring rest refused
        unfolding Mated
        grow_lone found = record { merges = at.merges; state = state_lone state waits e is_e (rw (is_at_s, is_at_e) at found); known = at.known; own = at.own; total = at.total; few = at.few }

        module _ (mate : Mate) (found : Mated later at_e at_s (Some mate)) where
          abbrev t : ℕ
          t = mate.third

          abbrev others : List (List ℕ)
          others = swap_removed mate.place later

          pub there : mate.place < length later
          unfolding Mated
          there = found.0

          fewer : length others + 1 ≡ length later
          fewer = omega (arith, there, length_swap_removed mate.place later)

          mates : Rules.mate (get_or ring.corners e 0) (get_or ring.corners s 0) [] later ≡ some (record { piece = t ∷ []; others = others })
          unfolding Mated
          mates = rw (is_at_s, is_at_e) at found.1

          pub third_low : t < n
          third_low = each_head (mate-each _ _ later _ mates at.known).0

          module _ {r : Bool} (test : r ≡ may (joint_at_start ring.corners ring.before s t) (joint_at_end ring.corners ring.next e t)) where
            pub grow_refused : r ≡ false → Growing may n first given later ring (rest ++ s ∷ []) (refused + 1)
            grow_refused k = record {
              merges = at.merges;
              state = rw (add-one refused) (state_refused state waits e is_e t others mates (sym test ∙ k));
              known = at.known;
              own = at.own;
              total = at.total;
              few = at.few;
            }

            -- the join: the third corner comes to a new place, and both places of the new edges go to the back
            module _ (k : r ≡ true) where
              pub room : ring.len < 512
              room = omega (arith, at.total, at.few, fewer)

              module _ (sizes : Sizes ring) {joined : Ring} (p : joined.corners ≡ set ring.corners ring.len t) (q : joined.next ≡ set (set ring.next s ring.len) ring.len e)
                  (u : joined.before ≡ set (set ring.before ring.len s) e ring.len) (v : joined.start ≡ e) (w : joined.len ≡ ring.len + 1) where
                allowed : may (joint_at_start ring.corners ring.before s t) (joint_at_end ring.corners ring.next e t) ≡ true
                allowed = sym test ∙ k

                own : (i : ℕ) → i < ring.len + 1 → Dec (i ≡ ring.len) → get_or joined.corners i 0 < n
                own i h (yes same) = rw (p, same, get_or-set_same ring.corners ring.len t 0 (omega (arith, sizes.corners, room))) third_low
                own i h (no other) = rw (p, get_or-set_other ring.corners ring.len i t 0 other) (at.own i (omega arith))

                pub grow_joined : Growing may n first given others joined ((rest ++ s ∷ []) ++ ring.len ∷ []) 0
                grow_joined = record {
                  merges =
                      at.merges
                      ∙ rw (p, q, v, w, add-one ring.len)
                      (merge-joined state waits e is_e t others mates allowed (omega (arith, sizes.corners, room)) (omega (arith, sizes.next, room)) (omega (arith, sizes.before, room)));
                  state =
                      rw (p, q, u, v, w, add-one ring.len, append_assoc)
                      (state-joined state waits e is_e t others mates allowed (omega (arith, sizes.corners, room)) (omega (arith, sizes.next, room)) (omega (arith, sizes.before, room)));
                  known = (mate-each _ _ later _ mates at.known).1;
                  own = λ i h. own i (omega (arith, w)) (ℕ_discrete i ring.len);
                  total = omega (arith, at.total, w, fewer);
                  few = at.few;
                }

                pub nearer : length others * 1024 + (length ((rest ++ s ∷ []) ++ ring.len ∷ []) - 0) < length later * 1024 + (length queue - refused)
                nearer = omega (arith, fewer, queue_short grow_joined, len_low grow_joined)
