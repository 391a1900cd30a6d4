-- One turn of the loop with the queue in its store: h is its head's place, suc live its length, n its head.
use Prim.Native.Nat.{ℕ, suc, ◌+◌, ◌<◌, ◌%◌}
use native.Mathlib.Omega.{arith}
use mathlib.Core.Path.{◌≡◌, sym, ◌∙◌, ap, subst}
use mathlib.Core.Bool.{true, false}
use mathlib.Core.List.{List, [], ◌∷◌, ◌++◌, append_assoc}
use mathlib.Core.Option.{none, some}
use lib.ListN.{length, length-set, get_or, set}
use Rattle.rules.specs.Merge.{JoinTest, mate, merge}
use Rattle.rules.specs.MergeQueue.{ring_at, joint_at_start, joint_at_end, window}
use Rattle.rules.proofs.QueueArrays.{State, in_range, state-short, state_lone, state_refused, state-joined, merge-joined}
use Rattle.rules.proofs.QueueWindow.{length-window, window_put}

module _
    {may : JoinTest} {later : List (List ℕ)} {vert succ pred : List ℕ} {start len count : ℕ} (store : List ℕ) (h live n e : ℕ)
    (s : State may later vert succ pred start len (window store h (suc live)) count) (low : count < suc live)
    (is-n : n ≡ get_or store (h % 1024) 0) (is_e : e ≡ get_or succ n 0) where
  here : State may later vert succ pred start len (n ∷ window store (suc h) live) count
  here = subst (λ (i : ℕ). State may later vert succ pred start len (i ∷ window store (suc h) live) count) (sym is-n) s

  more : count < length (n ∷ window store (suc h) live)
  more = omega (arith, low, length-window store (suc h) live)

  -- the places that a look reads
  pub turn_range : (n < len) × (e < len) × (get_or pred n 0 < len) × (get_or succ e 0 < len)
  turn_range = let r = in_range here more e is_e in (r.at_s, r.at_e, r.at_before, r.at_after)

  pub turn_lone : mate (get_or vert e 0) (get_or vert n 0) [] later ≡ none → State may later vert succ pred start len (window store (suc h) live) count
  turn_lone m = state_lone here more e is_e m

  module _
      (size : length store ≡ 1024) (room-q : len < 1024) (t : ℕ) (others : List (List ℕ))
      (m : mate (get_or vert e 0) (get_or vert n 0) [] later ≡ some (record { piece = t ∷ []; others = others })) where
    small : suc live < 1024
    small = let (a, _) = state-short s in omega (arith, a, length-window store h (suc live))

    abbrev store' : List ℕ
    store' = set store ((suc h + live) % 1024) n

    put : window store (suc h) live ++ n ∷ [] ≡ window store' (suc h) (suc live)
    put = sym (window_put store n (suc h) live size (omega (arith, small)))

    pub turn_refused :
        may (joint_at_start vert pred n t) (joint_at_end vert succ e t) ≡ false
        → State may later vert succ pred start len (window (set store ((suc h + live) % 1024) n) (suc h) (suc live)) (suc count)
    turn_refused k = subst (λ (q : List ℕ). State may later vert succ pred start len q (suc count)) put (state_refused here more e is_e t others m k)

    module _
        (k : may (joint_at_start vert pred n t) (joint_at_end vert succ e t) ≡ true)
        (room : len < length vert) (room-s : len < length succ) (room-p : len < length pred) where
      put_two : window store (suc h) live ++ (n ∷ len ∷ []) ≡ window (set store' ((suc h + suc live) % 1024) len) (suc h) (suc (suc live))
      put_two =
          sym (append_assoc (window store (suc h) live) (n ∷ []) (len ∷ []))
          ∙ ap (λ (q : List ℕ). q ++ len ∷ []) put
          ∙ sym (window_put store' len (suc h) (suc live) (length-set store ((suc h + live) % 1024) n ∙ size) small)

      pub turn-joined :
          State may others (set vert len t) (set (set succ n len) len e) (set (set pred len n) e len) e (suc len)
          (window (set (set store ((suc h + live) % 1024) n) ((suc h + suc live) % 1024) len) (suc h) (suc (suc live))) 0
      turn-joined =
          subst (λ (q : List ℕ). State may others (set vert len t) (set (set succ n len) len e) (set (set pred len n) e len) e (suc len) q 0) put_two
          (state-joined here more e is_e t others m k room room-s room-p)

      pub turn-merge : merge may (ring_at vert succ start len ∷ later) ≡ merge may (ring_at (set vert len t) (set (set succ n len) len e) e (suc len) ∷ others)
      turn-merge = merge-joined here more e is_e t others m k room room-s room-p
