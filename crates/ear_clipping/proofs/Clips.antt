-- One turn of the cutter, on the state and on the ring; what has been written; and what comes back.
use Prim.Native.Nat.{ℕ, suc, ◌+◌, ◌-◌, ◌*◌, ◌≤◌, ◌<◌}
use native.Mathlib.Omega.{arith}
use mathlib.Core.Path.{◌≡◌, refl, ap, sym, ◌∙◌}
use mathlib.Core.Bool.{true}
use mathlib.Core.List.{List, [], ◌∷◌, ◌++◌, map}
use lib.ListN.{length, take, length-set, replicate, length-replicate}
use lib.Ieee.{Float}
use Rattle.std.specs.Prelude.{None, Some, Ok, Err}
use Rattle.algebra.specs.Lists.{Each, count_from}
use Rattle.algebra.proofs.Lists.{each_map}
use Rattle.algebra.specs.Rings.{Corner, corners, ring_of}
use Rattle.algebra.proofs.Counting.{count-length}
use Rattle.rules.specs.Limits.{most_points, most_indices}
use Rattle.rules.specs.Plane.{Pt}
use Rattle.rules.specs.Cut.{Choice, nothing, best, choose, without, Cut, stuck, done, write, lowest, cut_ring, cut}
use Rattle.rules.specs.Layout.{flatten, over}
use Rattle.rules.specs.Entries.{triangles_of, triangles_for}
use Rattle.rules.proofs.Cuts.{chosen_in}
use Rattle.rules.proofs.Outline.{cut-count}
use Rattle.entries.specs.declared.Refusal.TheVariants.{NoEar}
use Rattle.grid.specs.Listed.{listed}
use Rattle.blocking.specs.declared.outline.Outline.{Outline}
use Rattle.winners.specs.Keys.{Proper, root_of}
use Rattle.winners.specs.declared.Winners.{Winners}
use Rattle.vertices.specs.Ears.{ear_of}
use Rattle.vertices.specs.declared.Vertex.{Vertex}
use Rattle.vertices.specs.declared.Vertices.{Vertices}
use Rattle.vertices.specs.Vertices.{points_in, count_in, prev_of, next_of, active_of, corner_at, linked_corner, ring_in, Ringed, Eared, Stands, lowest_from}
use Rattle.ear_clipping.specs.Store.{put3}
use Rattle.ear_clipping.specs.Promise.{Written}
use Rattle.vertices.proofs.Links.{corners-map, without-length}
use Rattle.vertices.proofs.Picks.{each_of_ring, agree_nothing, agree_some, chosen}
use Rattle.vertices.proofs.Actives.{once, Lowest, none, some, lowest as lowest-on}
use Rattle.ear_clipping.proofs.Writes.{take_put}

-- ---- one turn

-- what a choice makes of the cut of the rest
abbrev gone_on : ℕ → List Pt → List ℕ → Choice (Corner ℕ) → Cut
gone_on k ps ring nothing = stuck
gone_on k ps ring (best c f) = write c (cut_ring k ps (without c.at ring))

module _ (ps : List Pt) (proper : (c : Corner ℕ) → Proper (ear_of ps c)) (n : ℕ) (r : List Vertex) (w : Winners) (h : Ringed ps n r) (e : Eared ps n r w) where
  cut_more : (k : ℕ) (b : Choice (Corner ℕ)) → choose ps nothing (corners (ring_in n r)) ≡ b → cut_ring (suc k) ps (ring_in n r) ≡ gone_on k ps (ring_in n r) b
  unfolding cut_ring
  cut_more k nothing e = rw (e, cut_ring)
  cut_more k (best c f) e = rw (e, cut_ring)

  pub cut_none : (left : ℕ) → 3 < left → None ≡ root_of w → cut_ring (left - 3) ps (ring_in n r) ≡ stuck
  cut_none left l is =
      let q : left - 3 ≡ suc (left - 4) = omega arith in
      rw q (cut_more (left - 4) nothing (agree_nothing (chosen ps proper n r w h e None is)))

  module _ (i : ℕ) (is : Some i ≡ root_of w) where
    taken : (f : Float) × (choose ps nothing (corners (ring_in n r)) ≡ best (corner_at r i) f)
    taken = agree_some (chosen ps proper n r w h e (Some i) is)

    pub picked : (i < n) × (active_of r i ≡ true)
    picked =
        let in-ring : Each (λ j. (j < n) × (active_of r j ≡ true)) (ring_in n r) = each_of_ring (λ j. (j < n) × (active_of r j ≡ true)) (active_of r) n (λ j l o. (l, o)) 0 n (omega arith) in
        let at : Each (λ c. (c.at < n) × (active_of r c.at ≡ true)) (corners (ring_in n r)) = rw (corners-map (prev_of r) (next_of r) (ring_in n r) h.links) (each_map (corner_at r) in-ring) in
        (chosen_in ps (λ c. (c.at < n) × (active_of r c.at ≡ true)) at taken.1).0

    module _ (r' : List Vertex) (ring : ring_in n r' ≡ without i (ring_in n r)) where
      cut_some : (left : ℕ) → 3 < left → cut_ring (left - 3) ps (ring_in n r) ≡ write (corner_at r i) (cut_ring (left - 1 - 3) ps (ring_in n r'))
      cut_some left l =
          let q : left - 3 ≡ suc (left - 1 - 3) = omega arith in
          rw (q, ring) (cut_more (left - 1 - 3) (best (corner_at r i) taken.0) taken.1)

      ring_less : length (ring_in n r) ≡ suc (length (ring_in n r'))
      ring_less = rw ring (without-length i (once (active_of r) i 0 n (omega arith) (omega (arith, picked.0)) picked.1))

  -- the last three: the lowest active number
  pub last_some :
      length (ring_in n r) ≡ 3
      → (lowest_from (active_of r) 0 n < n) × (active_of r (lowest_from (active_of r) 0 n) ≡ true) × (cut_ring 0 ps (ring_in n r) ≡ done (corner_at r (lowest_from (active_of r) 0 n) ∷ []))
  unfolding cut_ring
  last_some three = go (lowest-on (active_of r) 0 n)
    where
      go :
          Lowest (active_of r) 0 n
          → (lowest_from (active_of r) 0 n < n) × (active_of r (lowest_from (active_of r) 0 n) ≡ true) × (cut_ring 0 ps (ring_in n r) ≡ done (corner_at r (lowest_from (active_of r) 0 n) ∷ []))
      go (none a b) = absurd (omega (arith, ap length b))
      go (some l a b d) = (omega arith, d, ap lowest (corners-map (prev_of r) (next_of r) (ring_in n r) h.links ∙ ap (map (linked_corner (prev_of r) (next_of r))) a))

-- ---- what has been written

-- the triangles w before those of a cut
unfoldable pub write_all : List (Corner ℕ) → Cut → Cut
write_all [] x = x
write_all (c ∷ w) x = write c (write_all w x)

all_more : (w : List (Corner ℕ)) (c : Corner ℕ) (x : Cut) → write_all w (write c x) ≡ write_all (w ++ c ∷ []) x
unfolding write_all
all_more [] c x = refl
all_more (d ∷ w) c x = ap (write d) (all_more w c x)

all-stuck : (w : List (Corner ℕ)) → write_all w stuck ≡ stuck
unfolding write_all
all-stuck [] = refl
all-stuck (d ∷ w) = ap (write d) (all-stuck w)

all_done : (w cs : List (Corner ℕ)) → write_all w (done cs) ≡ done (w ++ cs)
unfolding write_all
all_done [] cs = refl
all_done (d ∷ w) cs = ap (write d) (all_done w cs)

flat_more : (w : List (Corner ℕ)) (c : Corner ℕ) → flatten (map ring_of (w ++ c ∷ [])) ≡ flatten (map ring_of w) ++ ring_of c
unfolding flatten
flat_more [] c = refl
flat_more (d ∷ w) c = simp (flat_more w c)

-- the loop's invariant after k triangles: the cut is what is written, and the cut of the ring that is left
pub record Inv (ps : List Pt) (k : ℕ) (triangles : List ℕ) (s : Vertices) : Type 0 where
  pub points : points_in s ≡ ps
  pub left : k + 3 ≤ length ps
  pub size : length triangles ≡ most_indices
  pub ringed : Ringed ps (length ps) s.ring
  pub eared : Eared ps (length ps) s.ring s.winners
  pub ring_size : k + length (ring_in (length ps) s.ring) ≡ length ps
  pub written : List (Corner ℕ)
  pub store : take (3 * k) triangles ≡ flatten (map ring_of written)
  pub work : cut ps ≡ write_all written (cut_ring (length ps - k - 3) ps (ring_in (length ps) s.ring))

pub inv_first :
    (ps : List Pt) (s : Vertices) → 3 ≤ length ps → points_in s ≡ ps → Stands s → ring_in (length ps) s.ring ≡ count_from 0 (length ps) → Inv ps 0 (replicate {A = ℕ} most_indices 0) s
unfolding cut write_all flatten
inv_first ps s big p h ring =
    let f : length ps - 0 - 3 ≡ length ps - 3 = omega arith in
    record {
      points = p;
      left = big;
      size = length-replicate {A = ℕ} most_indices 0;
      ringed = rw p at h.ringed;
      eared = rw p at h.eared;
      ring_size = rw ring (omega (arith, count-length 0 (length ps)));
      written = [];
      store = refl;
      work = ap (cut_ring (length ps - 3) ps) (sym ring) ∙ ap (λ (x : ℕ). cut_ring x ps (ring_in (length ps) s.ring)) (sym f);
    }

module _ (ps : List Pt) (proper : (c : Corner ℕ) → Proper (ear_of ps c)) (k : ℕ) (triangles : List ℕ) (s : Vertices) (h : Inv ps k triangles s) (small : length ps ≤ most_points) where
  abbrev n : ℕ
  n = length ps

  put_size : (a b c : ℕ) → length (put3 triangles (3 * k) a b c) ≡ most_indices
  put_size a b c = simp length-set h.size

  pub put_fits : 3 * k + 2 < most_indices
  put_fits = omega (arith, h.left)

  put_store : (i : ℕ) → take (3 * k + 3) (put3 triangles (3 * k) (prev_of s.ring i) i (next_of s.ring i)) ≡ flatten (map ring_of (h.written ++ corner_at s.ring i ∷ []))
  put_store i =
      take_put triangles (3 * k) (prev_of s.ring i) i (next_of s.ring i) (omega (arith, put_fits, h.size))
      ∙ ap (λ (x : List ℕ). x ++ ring_of (corner_at s.ring i)) h.store
      ∙ sym (flat_more h.written (corner_at s.ring i))

  -- there are still more than three
  module _ (more : k < n - 3) where
    more_left : 3 < n - k
    more_left = omega arith

    -- no corner is picked
    pub stuck_here : None ≡ root_of s.winners → (out : List ℕ) → Written ps out (Err NoEar) out
    unfolding triangles_for flatten
    stuck_here e out =
        let is : cut ps ≡ stuck = h.work ∙ ap (write_all h.written) (cut_none ps proper n s.ring s.winners h.ringed h.eared (n - k) more_left e) ∙ all-stuck h.written in
        let q : triangles_for ps ≡ [] = ap (λ c. map ring_of (triangles_of c)) is in
        record { outcome = rw is; indices = rw q }

    module _ (i : ℕ) (is : Some i ≡ root_of s.winners) where
      at : (i < n) × (active_of s.ring i ≡ true)
      at = picked ps proper n s.ring s.winners h.ringed h.eared i is

      pub put_here : (3 * k + 2 < most_indices) × (i < most_points)
      put_here = (put_fits, omega (arith, at.0, small))

      pub clip_active : (i < count_in s) × (active_of s.ring i ≡ true)
      clip_active = (rw h.points at.0, at.1)

      pub clip_two : 2 ≤ length (ring_in (count_in s) s.ring)
      clip_two = rw h.points (omega (arith, h.ring_size, more_left))

      pub inv_more :
          (triangles' : List ℕ) (s' : Vertices) → triangles' ≡ put3 triangles (3 * k) (prev_of s.ring i) i (next_of s.ring i) → Stands s' → s'.outline.now ≡ s.outline.now
          → ring_in (count_in s) s'.ring ≡ without i (ring_in (count_in s) s.ring) → Inv ps (k + 1) triangles' s'
      inv_more triangles' s' put stands outline clipped =
          let p : points_in s' ≡ ps = ap (λ (o : Outline). listed o.points.now) outline ∙ h.points in
          let ring : ring_in n s'.ring ≡ without i (ring_in n s.ring) = rw h.points at clipped in
          let e : 3 * (k + 1) ≡ 3 * k + 3 = omega arith in
          let f : n - (k + 1) - 3 ≡ n - k - 1 - 3 = omega arith in
          record {
            points = p;
            left = omega arith;
            size = ap length put ∙ put_size (prev_of s.ring i) i (next_of s.ring i);
            ringed = rw p at stands.ringed;
            eared = rw p at stands.eared;
            ring_size = omega (arith, h.ring_size, ring_less ps proper n s.ring s.winners h.ringed h.eared i is s'.ring ring);
            written = h.written ++ corner_at s.ring i ∷ [];
            store = rw (e, put) (put_store i);
            work =
                h.work
                ∙ ap (write_all h.written) (cut_some ps proper n s.ring s.winners h.ringed h.eared i is s'.ring ring (n - k) more_left)
                ∙ all_more h.written (corner_at s.ring i) (cut_ring (n - k - 1 - 3) ps (ring_in n s'.ring))
                ∙ ap (λ (x : ℕ). write_all (h.written ++ corner_at s.ring i ∷ []) (cut_ring x ps (ring_in n s'.ring))) (sym f);
          }

  pub stands_in : Stands s
  stands_in =
      let ringed : Ringed (points_in s) (count_in s) s.ring = rw h.points h.ringed in
      let eared : Eared (points_in s) (count_in s) s.ring s.winners = rw h.points h.eared in
      record { ringed = ringed; eared = eared }

  -- three are left, and i is the lowest of them
  module _ (end : n - 3 ≤ k) (i : ℕ) (e : i ≡ lowest_from (active_of s.ring) 0 (count_in s)) where
    three : n - k ≡ 3
    three = omega (arith, h.left)

    last : (i < n) × (active_of s.ring i ≡ true) × (cut_ring 0 ps (ring_in n s.ring) ≡ done (corner_at s.ring i ∷ []))
    last = rw (e, h.points) (last_some ps proper n s.ring s.winners h.ringed h.eared (omega (arith, h.ring_size, three)))

    pub put_last : (3 * (n - 3) + 2 < most_indices) × (i < most_points)
    put_last = (omega arith, omega (arith, last.0, small))

    -- what comes back
    pub answer :
        (triangles' out out' : List ℕ) → triangles' ≡ put3 triangles (3 * (n - 3)) (prev_of s.ring i) i (next_of s.ring i) → out' ≡ over (take (3 * (n - 2)) triangles') out → Written ps out (Ok (n - 2)) out'
    unfolding triangles_for
    answer triangles' out out' put copied =
        let w = h.written ++ corner_at s.ring i ∷ [] in
        let zero_left : n - k - 3 ≡ 0 = omega (arith, three) in
        let cuts : cut ps ≡ done w = h.work ∙ ap (write_all h.written) (ap (λ (x : ℕ). cut_ring x ps (ring_in n s.ring)) zero_left ∙ last.2) ∙ all_done h.written (corner_at s.ring i ∷ []) in
        let q : triangles_for ps ≡ map ring_of w = ap (λ c. map ring_of (triangles_of c)) cuts in
        let count : length w ≡ n - 2 = cut-count ps w (omega (arith, h.left)) cuts in
        let is : n - 3 ≡ k = omega (arith, three) in
        let e₁ : 3 * (n - 2) ≡ 3 * k + 3 = omega (arith, three, h.left) in
        let f₁ : take (3 * (n - 2)) triangles' ≡ flatten (map ring_of w) = rw (e₁, put, is) (put_store i) in
        record { outcome = rw (cuts, count); indices = rw q (copied ∙ ap (λ (x : List ℕ). over x out) f₁) }
