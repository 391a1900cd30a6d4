-- A corner that is cut leaves vertices that stand for the ring without it.
use Prim.Native.Nat.{ℕ, ◌+◌, ◌≤◌, ◌<◌}
use native.Mathlib.Omega.{arith}
use native.Mathlib.Decide.{ℕ_discrete}
use mathlib.Core.Path.{◌≡◌, refl, ap, ap₂, sym, ◌∙◌}
use mathlib.Core.Logic.{◌⊎◌, inl, inr}
use mathlib.Core.Bool.{Bool, true, false}
use mathlib.Core.List.{List}
use lib.ListN.{length, set, length-set}
use lib.Ieee.{Float}
use lib.Seq.{get_or-set_same, get_or-set_other}
use Rattle.std.specs.Prelude.{Option, None}
use Rattle.rules.specs.Plane.{Pt}
use Rattle.rules.specs.Cut.{nothing, without}
use Rattle.winners.specs.Keys.{ear_entry, node, winner_in, decode, Tree, LeafSet}
use Rattle.winners.specs.declared.Winners.{Winners}
use Rattle.winners.proofs.Roots.{decode-lowest}
use Rattle.vertices.specs.Ears.{ear_of}
use Rattle.grid.specs.Listed.{listed}
use Rattle.blocking.specs.declared.outline.Outline.{Outline}
use Rattle.vertices.specs.declared.Vertex.{Vertex}
use Rattle.vertices.specs.declared.Vertices.{Vertices}
use Rattle.vertices.specs.Vertices.{points_in, count_in, vertex, prev_of, next_of, active_of, reciprocal_of, corner_at, edge_of, Links, ring_in, Ringed, Eared, AtCorner, Stands, Clipped, TakenOut, with_reciprocal}
use Rattle.vertices.proofs.Links.{Once, Unlinked, unlinks, not_own}
use Rattle.vertices.proofs.Actives.{once, those-without}
use Rattle.vertices.proofs.Corners.{neighbours_on, linked_back, at_corner_lem}

-- ---- one vertex set

module _ {A : Type 0} (field : Vertex → A) (r : List Vertex) (k : ℕ) (v : Vertex) where
  pub field_other : (j : ℕ) → (j ≡ k → ⊥) → field (vertex (set r k v) j) ≡ field (vertex r j)
  field_other j n = ap field (get_or-set_other r k j v _ n)

  pub field_same : k < length r → field (vertex (set r k v) k) ≡ field v
  field_same h = ap field (get_or-set_same r k v _ h)

  -- a field that is not changed
  pub field_kept : k < length r → field v ≡ field (vertex r k) → (j : ℕ) → field (vertex (set r k v) j) ≡ field (vertex r j)
  field_kept h e j = go (ℕ_discrete j k)
    where
      go : Dec (j ≡ k) → field (vertex (set r k v) j) ≡ field (vertex r j)
      go (yes q) = ap (λ (i : ℕ). field (vertex (set r k v) i)) q ∙ field_same h ∙ e ∙ ap (λ (i : ℕ). field (vertex r i)) (sym q)
      go (no q) = field_other j q

-- ---- corner i is taken out, and the new edge is measured

abbrev with_next : List Vertex → ℕ → ℕ → List Vertex
with_next r k x = set r k (record { prev = prev_of r k; next = x; active = active_of r k; reciprocal = reciprocal_of r k })

abbrev with_prev : List Vertex → ℕ → ℕ → List Vertex
with_prev r k x = set r k (record { prev = x; next = next_of r k; active = active_of r k; reciprocal = reciprocal_of r k })

abbrev switched_off : List Vertex → ℕ → List Vertex
switched_off r k = set r k (record { prev = prev_of r k; next = next_of r k; active = false; reciprocal = reciprocal_of r k })

abbrev next_field : Vertex → ℕ
next_field v = v.next

abbrev prev_field : Vertex → ℕ
prev_field v = v.prev

abbrev active_field : Vertex → Bool
active_field v = v.active

abbrev reciprocal_field : Vertex → Float
reciprocal_field v = v.reciprocal

module _ (r : List Vertex) (i : ℕ) (long : length r ≡ 512) (low : i < 512) (before_low : prev_of r i < 512) (after_low : next_of r i < 512) where
  abbrev r₁ : List Vertex
  r₁ = with_next r (prev_of r i) (next_of r i)

  abbrev r₂ : List Vertex
  r₂ = with_prev r₁ (next_of r i) (prev_of r i)

  abbrev r₃ : List Vertex
  r₃ = switched_off r₂ i

  long₁ : length r₁ ≡ 512
  long₁ = length-set r (prev_of r i) _ ∙ long

  long₂ : length r₂ ≡ 512
  long₂ = length-set r₁ (next_of r i) _ ∙ long₁

  out : TakenOut r i r₃
  out = record {
    long = length-set r₂ i _ ∙ long₂;
    next = field_kept next_field r₂ i _ (omega (arith, long₂)) refl (prev_of r i) ∙ field_kept next_field r₁ (next_of r i) _ (omega (arith, long₁)) refl (prev_of r i) ∙ field_same next_field r (prev_of r i) _ (omega arith);
    prev = field_kept prev_field r₂ i _ (omega (arith, long₂)) refl (next_of r i) ∙ field_same prev_field r₁ (next_of r i) _ (omega (arith, long₁));
    nexts = λ j q. field_kept next_field r₂ i _ (omega (arith, long₂)) refl j ∙ field_kept next_field r₁ (next_of r i) _ (omega (arith, long₁)) refl j ∙ field_other next_field r (prev_of r i) _ j q;
    prevs = λ j q. field_kept prev_field r₂ i _ (omega (arith, long₂)) refl j ∙ field_other prev_field r₁ (next_of r i) _ j q ∙ field_kept prev_field r (prev_of r i) _ (omega arith) refl j;
    off = field_same active_field r₂ i _ (omega (arith, long₂));
    others = λ j q. field_other active_field r₂ i _ j q ∙ field_kept active_field r₁ (next_of r i) _ (omega (arith, long₁)) refl j ∙ field_kept active_field r (prev_of r i) _ (omega arith) refl j;
    reciprocals = λ j. field_kept reciprocal_field r₂ i _ (omega (arith, long₂)) refl j ∙ field_kept reciprocal_field r₁ (next_of r i) _ (omega (arith, long₁)) refl j ∙ field_kept reciprocal_field r (prev_of r i) _ (omega arith) refl j;
  }

  -- by the places that the code writes to
  pub taken_out : (b f : ℕ) → b ≡ prev_of r i → f ≡ next_of r i → TakenOut r i (switched_off (with_prev (with_next r b (next_of r i)) f (prev_of r i)) i)
  taken_out b f eb ef = rw (eb, ef) out

-- what both steps leave
pub record CutOut (ps : List Pt) (r : List Vertex) (i : ℕ) (r' : List Vertex) : Type 0 where
  pub long : length r' ≡ 512
  pub links : Unlinked (prev_of r) (next_of r) (prev_of r') (next_of r') i
  pub off : active_of r' i ≡ false
  pub others : (j : ℕ) → (j ≡ i → ⊥) → active_of r' j ≡ active_of r j
  pub here : reciprocal_of r' (prev_of r i) ≡ edge_of ps (prev_of r i) (next_of r i)
  pub lengths : (j : ℕ) → (j ≡ prev_of r i → ⊥) → reciprocal_of r' j ≡ reciprocal_of r j

module _ (ps : List Pt) (r : List Vertex) (i : ℕ) (r' : List Vertex) (t : TakenOut r i r') (low : prev_of r i < 512) where
  abbrev measured : List Vertex
  measured = with_reciprocal r' (prev_of r i) (edge_of ps (prev_of r i) (next_of r i))

  kept : {A : Type 0} (field : Vertex → A)
      → field (record { prev = prev_of r' (prev_of r i); next = next_of r' (prev_of r i); active = active_of r' (prev_of r i); reciprocal = edge_of ps (prev_of r i) (next_of r i) }) ≡ field (vertex r' (prev_of r i))
      → (j : ℕ) → field (vertex measured j) ≡ field (vertex r' j)
  kept field e j = field_kept field r' (prev_of r i) _ (omega (arith, t.long)) e j

  out_measured : CutOut ps r i measured
  out_measured = record {
    long = length-set r' (prev_of r i) _ ∙ t.long;
    links = record {
      next = kept next_field refl (prev_of r i) ∙ t.next;
      prev = kept prev_field refl (next_of r i) ∙ t.prev;
      nexts = λ j q. kept next_field refl j ∙ t.nexts j q;
      prevs = λ j q. kept prev_field refl j ∙ t.prevs j q;
    };
    off = kept active_field refl i ∙ t.off;
    others = λ j q. kept active_field refl j ∙ t.others j q;
    here = field_same reciprocal_field r' (prev_of r i) _ (omega (arith, t.long));
    lengths = λ j q. field_other reciprocal_field r' (prev_of r i) _ j q ∙ t.reciprocals j;
  }

  pub cut_out : (b f : ℕ) → b ≡ prev_of r i → f ≡ next_of r i → CutOut ps r i (with_reciprocal r' b (edge_of ps b f))
  cut_out b f eb ef = rw (eb, ef) out_measured

-- ---- what that makes of the ring

module _ (ps : List Pt) (n : ℕ) (r : List Vertex) (h : Ringed ps n r) (small : n ≤ 512) (i : ℕ) (low : i < n) (oi : active_of r i ≡ true) (r' : List Vertex) (c : CutOut ps r i r') where
  cut_ring_lem : ring_in n r' ≡ without i (ring_in n r)
  cut_ring_lem = those-without (active_of r) (active_of r') i c.off c.others 0 n (omega arith) (omega arith) oi

  is_once : Once i (ring_in n r)
  is_once = once (active_of r) i 0 n (omega arith) (omega arith) oi

  cut-links : Links (prev_of r') (next_of r') (ring_in n r')
  cut-links = let both = linked_back ps n r h i low oi in rw cut_ring_lem (unlinks (prev_of r) (next_of r) (prev_of r') (next_of r') i c.links both.0 both.1 is_once h.links)

  stays : (j : ℕ) → active_of r' j ≡ true → (j ≡ i → ⊥) × (active_of r j ≡ true)
  stays j e = go (ℕ_discrete j i)
    where
      go : Dec (j ≡ i) → (j ≡ i → ⊥) × (active_of r j ≡ true)
      go (yes q) = let z : true ≡ false = sym e ∙ ap (active_of r') q ∙ c.off in
          let y : ◌≡◌ {A = ℕ} 0 1 = cc in absurd (omega arith)
      go (no q) = (q, sym (c.others j q) ∙ e)

  cut-within : (j : ℕ) → j < n → (prev_of r' j < n) × (next_of r' j < n)
  cut-within j l = (prevs (ℕ_discrete j (next_of r i)), nexts (ℕ_discrete j (prev_of r i)))
    where
      prevs : Dec (j ≡ next_of r i) → prev_of r' j < n
      prevs (yes q) = rw (ap (prev_of r') q ∙ c.links.prev) (h.within i low).0
      prevs (no q) = rw (c.links.prevs j q) (h.within j l).0

      nexts : Dec (j ≡ prev_of r i) → next_of r' j < n
      nexts (yes q) = rw (ap (next_of r') q ∙ c.links.next) (h.within i low).1
      nexts (no q) = rw (c.links.nexts j q) (h.within j l).1

  cut-lengths : (j : ℕ) → j < n → active_of r' j ≡ true → reciprocal_of r' j ≡ edge_of ps j (next_of r' j)
  cut-lengths j l e = go (ℕ_discrete j (prev_of r i))
    where
      go : Dec (j ≡ prev_of r i) → reciprocal_of r' j ≡ edge_of ps j (next_of r' j)
      go (yes q) =
          ap (reciprocal_of r') q ∙ c.here ∙ ap (edge_of ps (prev_of r i)) (sym c.links.next) ∙ ap (λ (k : ℕ). edge_of ps k (next_of r' k)) (sym q)
      go (no q) = c.lengths j q ∙ h.lengths j l (stays j e).1 ∙ ap (edge_of ps j) (sym (c.links.nexts j q))

  pub cut-ringed : Ringed ps n r'
  cut-ringed = record { long = c.long; links = cut-links; within = cut-within; lengths = cut-lengths }

  -- where the ring has another corner, both neighbours are left
  module _ (two : 2 ≤ length (ring_in n r)) where
    before-left : active_of r' (prev_of r i) ≡ true
    before-left = c.others (prev_of r i) (not_own (prev_of r) (next_of r) i is_once two h.links) ∙ (neighbours_on ps n r h i low oi).0

    own : next_of r i ≡ i → prev_of r i ≡ i
    own q = ap (prev_of r) (sym q) ∙ (linked_back ps n r h i low oi).1

    after-left : active_of r' (next_of r i) ≡ true
    after-left = c.others (next_of r i) (λ q. not_own (prev_of r) (next_of r) i is_once two h.links (own q)) ∙ (neighbours_on ps n r h i low oi).1

    -- what the ears of both are worked out from, by the code's names for them
    pub at_before : n ≡ length ps → (b : ℕ) → b ≡ prev_of r i → AtCorner ps r' b
    at_before is b e = rw e (at_corner_lem ps n r' cut-ringed (prev_of r i) (h.within i low).0 before-left small is)

    pub at_after : n ≡ length ps → (f : ℕ) → f ≡ next_of r i → AtCorner ps r' f
    at_after is f e = rw e (at_corner_lem ps n r' cut-ringed (next_of r i) (h.within i low).1 after-left small is)

  -- ---- the tree: the ears of the two neighbours are set, and corner i is nobody

  module _ (w : Winners) (old : Eared ps n r w) (w₁ w₂ w₃ : Winners) (tree : Tree w₃)
      (set_before : LeafSet w (prev_of r i) (ear_of ps (corner_at r' (prev_of r i))) w₁)
      (set_after : LeafSet w₁ (next_of r i) (ear_of ps (corner_at r' (next_of r i))) w₂) (set-none : LeafSet w₂ i None w₃) where
    abbrev m : ℕ
    m = w.leaves

    same₁ : w₁.leaves ≡ m
    same₁ = set_before.leaves

    same₂ : w₂.leaves ≡ m
    same₂ = set_after.leaves ∙ same₁

    same₃ : w₃.leaves ≡ m
    same₃ = set-none.leaves ∙ same₂

    -- a leaf that a step does not set
    kept₁ : (j : ℕ) → (j ≡ prev_of r i → ⊥) → node w₁ (m + j) ≡ node w (m + j)
    kept₁ j q = set_before.others (m + j) (omega arith) (λ x. q (omega arith))

    kept₂ : (j : ℕ) → (j ≡ next_of r i → ⊥) → node w₂ (m + j) ≡ node w₁ (m + j)
    kept₂ j q = set_after.others (m + j) (omega (arith, same₁)) (λ x. q (omega (arith, same₁)))

    kept₃ : (j : ℕ) → (j ≡ i → ⊥) → node w₃ (m + j) ≡ node w₂ (m + j)
    kept₃ j q = set-none.others (m + j) (omega (arith, same₂)) (λ x. q (omega (arith, same₂)))

    cut-ears : (j : ℕ) → j < n → active_of r' j ≡ true → node w₃ (m + j) ≡ ear_entry j (ear_of ps (corner_at r' j))
    cut-ears j l e = kept₃ j (stays j e).0 ∙ go (ℕ_discrete j (next_of r i)) (ℕ_discrete j (prev_of r i))
      where
        go : Dec (j ≡ next_of r i) → Dec (j ≡ prev_of r i) → node w₂ (m + j) ≡ ear_entry j (ear_of ps (corner_at r' j))
        go (yes q) d =
            ap (λ (k : ℕ). node w₂ (m + k)) q ∙ ap (λ (k : ℕ). node w₂ (k + next_of r i)) (sym same₁) ∙ set_after.there
            ∙ ap (λ (k : ℕ). ear_entry k (ear_of ps (corner_at r' k))) (sym q)
        go (no q) (yes p) =
            kept₂ j q ∙ ap (λ (k : ℕ). node w₁ (m + k)) p ∙ set_before.there ∙ ap (λ (k : ℕ). ear_entry k (ear_of ps (corner_at r' k))) (sym p)
        go (no q) (no p) =
            kept₂ j q ∙ kept₁ j p ∙ old.ears j l (stays j e).1
            ∙ ap₂ (λ (a b : ℕ). ear_entry j (ear_of ps (record { before = a; at = j; after = b }))) (sym (c.links.prevs j q)) (sym (c.links.nexts j p))

    -- a corner that is not on is neither neighbour
    cut-nobody : (j : ℕ) → j < m → (n ≤ j) ⊎ (active_of r' j ≡ false) → winner_in w₃ (m + j) ≡ nothing
    cut-nobody j l e = go (ℕ_discrete j i)
      where
        not_on : (k : ℕ) → k < n → active_of r k ≡ true → (n ≤ j) ⊎ (active_of r j ≡ false) → j ≡ k → ⊥
        not_on k a b (inl q) x = omega arith
        not_on k a b (inr q) x =
            let z : true ≡ false = sym b ∙ ap (active_of r) (sym x) ∙ q in
            let y : ◌≡◌ {A = ℕ} 0 1 = cc in omega arith

        before : (j ≡ i → ⊥) → (n ≤ j) ⊎ (active_of r' j ≡ false) → (n ≤ j) ⊎ (active_of r j ≡ false)
        before q (inl x) = inl x
        before q (inr x) = inr (sym (c.others j q) ∙ x)

        go : Dec (j ≡ i) → winner_in w₃ (m + j) ≡ nothing
        go (yes q) = ap (λ (k : ℕ). winner_in w₃ (m + k)) q ∙ ap (λ (k : ℕ). winner_in w₃ (k + i)) (sym same₂) ∙ ap decode set-none.there ∙ decode-lowest i
        go (no q) =
            let f = before q e in
            let on = neighbours_on ps n r h i low oi in
            let in-ring = h.within i low in
            ap decode (kept₃ j q ∙ kept₂ j (not_on (next_of r i) in-ring.1 on.1 f) ∙ kept₁ j (not_on (prev_of r i) in-ring.0 on.0 f)) ∙ old.nobody j l f

    cut-eared : Eared ps n r' w₃
    cut-eared = record {
      power = rw same₃ old.power;
      room = rw same₃ old.room;
      tree = tree;
      ears = rw same₃ cut-ears;
      nobody = rw same₃ cut-nobody;
    }

    pub clipped : (Ringed ps n r' × Eared ps n r' w₃) × (ring_in n r' ≡ without i (ring_in n r))
    clipped = ((cut-ringed, cut-eared), cut_ring_lem)

-- ---- the code's steps: b and f are the corners before and after i, u the vertices without i, and m those with the new edge measured

module _
    (s : Vertices) (i : ℕ) (low : i < count_in s) (oi : active_of s.ring i ≡ true) (two : 2 ≤ length (ring_in (count_in s) s.ring)) (h : Stands s)
    (b f : ℕ) (eb : b ≡ prev_of s.ring i) (ef : f ≡ next_of s.ring i) (u : Vertices) (t : TakenOut s.ring i u.ring) (uo : u.outline.now ≡ s.outline.now) (uw : u.winners ≡ s.winners)
    (m : Vertices) (em : m ≡ record { outline = u.outline; ring = with_reciprocal u.ring b (edge_of (points_in u) b f); winners = u.winners }) where
  outline_is : m.outline.now ≡ s.outline.now
  outline_is = ap (λ (x : Vertices). x.outline.now) em ∙ uo

  points_are : points_in m ≡ points_in s
  points_are = ap (λ (x : Outline). listed x.points.now) outline_is

  winners_are : m.winners ≡ s.winners
  winners_are = ap (λ (x : Vertices). x.winners) em ∙ uw

  small : count_in s ≤ 512
  small = s.outline.now.outlined.small

  cut_here : CutOut (points_in s) s.ring i m.ring
  cut_here =
      let e : m.ring ≡ with_reciprocal u.ring b (edge_of (points_in s) b f)
      = ap (λ (x : Vertices). x.ring) em ∙ ap (λ (x : Outline). with_reciprocal u.ring b (edge_of (listed x.points.now) b f)) uo in
      rw e (cut_out (points_in s) s.ring i u.ring t (omega (arith, (h.ringed.within i low).0, small)) b f eb ef)

  -- what the ears of both are worked out from
  pub corner_before : AtCorner (points_in m) m.ring b
  corner_before = rw points_are (at_before (points_in s) (count_in s) s.ring h.ringed small i low oi m.ring cut_here two refl b eb)

  pub corner_after : AtCorner (points_in m) m.ring f
  corner_after = rw points_are (at_after (points_in s) (count_in s) s.ring h.ringed small i low oi m.ring cut_here two refl f ef)

  -- and what comes out
  pub clip_is :
      (e g : Option Float) → e ≡ ear_of (points_in m) (corner_at m.ring b) → g ≡ ear_of (points_in m) (corner_at m.ring f)
      → (w₁ w₂ w₃ : Winners) → LeafSet m.winners b e w₁ → LeafSet w₁ f g w₂ → LeafSet w₂ i None w₃ → Tree w₃
      → Clipped s i (record { outline = m.outline; ring = m.ring; winners = w₃ })
  clip_is e g ee eg w₁ w₂ w₃ l₁ l₂ l₃ tree =
      let c = clipped (points_in s) (count_in s) s.ring h.ringed small i low oi m.ring cut_here s.winners h.eared w₁ w₂ w₃ tree (rw (winners_are, ee, points_are, eb) at l₁) (rw (eg, points_are, ef) at l₂) l₃ in
      let ringed : Ringed (points_in m) (count_in m) m.ring = rw points_are c.0.0 in
      let eared : Eared (points_in m) (count_in m) m.ring w₃ = rw points_are c.0.1 in
      record { stands = record { ringed = ringed; eared = eared }; outline = outline_is; leaves = l₃.leaves ∙ l₂.leaves ∙ l₁.leaves ∙ ap (λ (x : Winners). x.leaves) winners_are; ring = c.1 }
