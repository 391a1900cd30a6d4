-- A program's arrays for a merge: A as a ring of places linked both ways, and the queue of its places in a store.
use Rattle.std.specs.Prelude.{ℕ, zero, suc, ◌%◌, List, [], ◌∷◌, map, get_or}
use Rattle.algebra.specs.Rings.{Corner}

-- n places from v on, along links
abbrev pub places_from : List ℕ → ℕ → ℕ → List ℕ
places_from succ v zero = []
places_from succ v (suc n) = v ∷ places_from succ (get_or succ v 0) n

-- A in arrays: the corner at each place and the links on
abbrev pub ring_at : List ℕ → List ℕ → ℕ → ℕ → List ℕ
ring_at vert succ start len = map (λ i. get_or vert i 0) (places_from succ start len)

-- the corners that a join along A's edge from place n to place e makes, where t comes between them
abbrev pub joint_at_start : List ℕ → List ℕ → ℕ → ℕ → Corner ℕ
joint_at_start vert pred n t = record { before = get_or vert (get_or pred n 0) 0; at = get_or vert n 0; after = t }

abbrev pub joint_at_end : List ℕ → List ℕ → ℕ → ℕ → Corner ℕ
joint_at_end vert succ e t = record { before = t; at = get_or vert e 0; after = get_or vert (get_or succ e 0) 0 }

-- n numbers of a store that is written round and round, from place h on
abbrev pub window : List ℕ → ℕ → ℕ → List ℕ
window store h zero = []
window store h (suc n) = get_or store (h % 1024) 0 ∷ window store (suc h) n
