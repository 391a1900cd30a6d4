-- What the vertices say of the ring: the active numbers, ascending, each linked to its neighbours, with the length of its edge and its ear.
use Rattle.std.specs.Prelude.{ℕ, zero, suc, ◌+◌, ◌-◌, ◌≤◌, ◌<◌, ◌≡◌, ◌⊎◌, Bool, true, false, cond, eqb, ltb, Option, None, List, [], ◌∷◌, Float, length, get_or, set}
use Rattle.std.specs.Float.{nan}
use Rattle.algebra.specs.Rings.{Corner}
use Rattle.rules.specs.Cut.{nothing, without}
use Rattle.rules.specs.Plane.{Pt, minus, point}
use Rattle.rules.specs.Root.{reciprocal}
use Rattle.grid.specs.Listed.{listed}
use Rattle.winners.specs.Keys.{ear_entry, node, winner_in, Power, Tree}
use Rattle.winners.specs.declared.Winners.{Winners}
use Rattle.vertices.specs.declared.Vertex.{Vertex}
use Rattle.vertices.specs.declared.Vertices.{Vertices}
use Rattle.vertices.specs.Ears.{ear_of}

abbrev pub points_in : Vertices → List Pt
points_in s = listed s.outline.now.points.now

abbrev pub count_in : Vertices → ℕ
count_in s = length (points_in s)

abbrev pub vertex : List Vertex → ℕ → Vertex
vertex r i = get_or r i (record { prev = 0; next = 0; active = false; reciprocal = nan })

abbrev pub prev_of : List Vertex → ℕ → ℕ
prev_of r i = (vertex r i).prev

abbrev pub next_of : List Vertex → ℕ → ℕ
next_of r i = (vertex r i).next

abbrev pub active_of : List Vertex → ℕ → Bool
active_of r i = (vertex r i).active

abbrev pub reciprocal_of : List Vertex → ℕ → Float
reciprocal_of r i = (vertex r i).reciprocal

-- the corner at i, by the links
abbrev pub linked_corner : (ℕ → ℕ) → (ℕ → ℕ) → ℕ → Corner ℕ
linked_corner p n i = record { before = p i; at = i; after = n i }

abbrev pub corner_at : List Vertex → ℕ → Corner ℕ
corner_at r i = linked_corner (prev_of r) (next_of r) i

-- the reciprocal of the length of the edge from i to j
abbrev pub edge_of : List Pt → ℕ → ℕ → Float
edge_of ps i j = reciprocal (minus (point ps j) (point ps i))

-- those of the m numbers from k that are on
unfoldable pub those : (ℕ → Bool) → ℕ → ℕ → List ℕ
those o k zero = []
those o k (suc m) = cond (o k) (k ∷ those o (suc k) m) (those o (suc k) m)

-- y follows x
abbrev pub Follows : (ℕ → ℕ) → (ℕ → ℕ) → ℕ → ℕ → Type 0
Follows p n x y = (n x ≡ y) × (p y ≡ x)

abbrev pub Way : (ℕ → ℕ) → (ℕ → ℕ) → ℕ → ℕ → List ℕ → Type 0
Way p n close prev [] = Follows p n prev close
Way p n close prev (b ∷ bs) = Follows p n prev b × Way p n close b bs

abbrev pub Links : (ℕ → ℕ) → (ℕ → ℕ) → List ℕ → Type 0
Links p n [] = Unit
Links p n (a ∷ rest) = Way p n a a rest

-- the ring of n vertices
abbrev pub ring_in : ℕ → List Vertex → List ℕ
ring_in n r = those (active_of r) 0 n

-- the links are those of the ring, and the lengths those of its edges
pub record Ringed (ps : List Pt) (n : ℕ) (r : List Vertex) : Type 0 where
  pub long : length r ≡ 512
  pub links : Links (prev_of r) (next_of r) (ring_in n r)
  pub within : (i : ℕ) → i < n → (prev_of r i < n) × (next_of r i < n)
  pub lengths : (i : ℕ) → i < n → active_of r i ≡ true → reciprocal_of r i ≡ edge_of ps i (next_of r i)

-- the tree holds the ears of the ring's corners, and nobody else
pub record Eared (ps : List Pt) (n : ℕ) (r : List Vertex) (w : Winners) : Type 0 where
  pub power : Power w.leaves
  pub room : n ≤ w.leaves
  pub tree : Tree w
  pub ears : (i : ℕ) → i < n → active_of r i ≡ true → node w (w.leaves + i) ≡ ear_entry i (ear_of ps (corner_at r i))
  pub nobody : (i : ℕ) → i < w.leaves → (n ≤ i) ⊎ (active_of r i ≡ false) → winner_in w (w.leaves + i) ≡ nothing

-- the vertices stand for their ring
pub record Stands (s : Vertices) : Type 0 where
  pub ringed : Ringed (points_in s) (count_in s) s.ring
  pub eared : Eared (points_in s) (count_in s) s.ring s.winners

-- what is known of a corner whose ear is worked out
pub record AtCorner (ps : List Pt) (r : List Vertex) (i : ℕ) : Type 0 where
  pub small : length ps ≤ 512
  pub low : i < length ps
  pub before_low : prev_of r i < length ps
  pub after_low : next_of r i < length ps
  pub before : reciprocal_of r (prev_of r i) ≡ edge_of ps i (prev_of r i)
  pub after : reciprocal_of r i ≡ edge_of ps i (next_of r i)

-- corner i is taken out
pub record TakenOut (r : List Vertex) (i : ℕ) (r' : List Vertex) : Type 0 where
  pub long : length r' ≡ 512
  pub next : next_of r' (prev_of r i) ≡ next_of r i
  pub prev : prev_of r' (next_of r i) ≡ prev_of r i
  pub nexts : (j : ℕ) → (j ≡ prev_of r i → ⊥) → next_of r' j ≡ next_of r j
  pub prevs : (j : ℕ) → (j ≡ next_of r i → ⊥) → prev_of r' j ≡ prev_of r j
  pub off : active_of r' i ≡ false
  pub others : (j : ℕ) → (j ≡ i → ⊥) → active_of r' j ≡ active_of r j
  pub reciprocals : (j : ℕ) → reciprocal_of r' j ≡ reciprocal_of r j

-- the length from corner i is another
abbrev pub with_reciprocal : List Vertex → ℕ → Float → List Vertex
with_reciprocal r i x = set r i (record { prev = prev_of r i; next = next_of r i; active = active_of r i; reciprocal = x })

-- corner i is cut
pub record Clipped (s : Vertices) (i : ℕ) (s' : Vertices) : Type 0 where
  pub stands : Stands s'
  pub outline : s'.outline.now ≡ s.outline.now
  pub leaves : s'.winners.leaves ≡ s.winners.leaves
  pub ring : ring_in (count_in s) s'.ring ≡ without i (ring_in (count_in s) s.ring)

unfoldable pub lowest_from : (ℕ → Bool) → ℕ → ℕ → ℕ
lowest_from o k zero = k
lowest_from o k (suc m) = cond (o k) k (lowest_from o (suc k) m)

-- ---- how the first ring comes about

-- the corners before and after i in a ring of n
abbrev pub before_first : ℕ → ℕ → ℕ
before_first n i = cond (eqb i 0) (n - 1) (i - 1)

abbrev pub after_first : ℕ → ℕ → ℕ
after_first n i = cond (eqb (i + 1) n) 0 (i + 1)

abbrev pub first_vertex : List Pt → ℕ → Vertex
first_vertex ps i =
    let next = after_first (length ps) i in
    record { prev = before_first (length ps) i; next = next; active = true; reciprocal = edge_of ps i next }

-- the first k vertices are those of the whole ring
pub record Begun (ps : List Pt) (k : ℕ) (r : List Vertex) : Type 0 where
  pub long : length r ≡ 512
  pub each : (j : ℕ) → j < k → vertex r j ≡ first_vertex ps j

-- there is room for the ring, and for a tree of its ears
pub record Room (s : Vertices) : Type 0 where
  pub ring : length s.ring ≡ 512
  pub nodes : length s.winners.nodes ≡ 1024
  pub power : Power s.winners.leaves
  pub leaves : count_in s ≤ s.winners.leaves

-- what leaf i holds first: the ear at corner i, and none where there is no such corner
abbrev pub first_ear : List Pt → ℕ → Option Float
first_ear ps i = cond (ltb i (length ps)) (ear_of ps (linked_corner (before_first (length ps)) (after_first (length ps)) i)) None

-- the first k leaves hold that
pub record Updated (ps : List Pt) (k : ℕ) (w : Winners) : Type 0 where
  pub long : length w.nodes ≡ 1024
  pub ears : (j : ℕ) → j < k → node w (w.leaves + j) ≡ ear_entry j (first_ear ps j)
