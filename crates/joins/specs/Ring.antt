-- Piece A's ring: what it is, how it begins, and what a look at a place reads.
use Rattle.std.specs.Prelude.{ℕ, ◌<◌, ◌≡◌, List, length, get_or}
use Rattle.rules.specs.MergeQueue.{places_from, ring_at}
use Rattle.joins.specs.declared.ring.Ring.{Ring}

-- the places in their order, from corner 0's on
abbrev pub places : Ring → List ℕ
places ring = places_from ring.next ring.start ring.len

abbrev pub corners : Ring → List ℕ
corners ring = ring_at ring.corners ring.next ring.start ring.len

-- room for the most places
pub record Sizes (ring : Ring) : Type 0 where
  pub corners : length ring.corners ≡ 512
  pub next : length ring.next ≡ 512
  pub before : length ring.before ≡ 512

-- the first three numbers of an array
pub record Three (l : List ℕ) (x y z : ℕ) : Type 0 where
  pub first : get_or l 0 0 ≡ x
  pub second : get_or l 1 0 ≡ y
  pub third : get_or l 2 0 ≡ z

-- a triangle
pub record Begun (triangle : List ℕ) (ring : Ring) : Type 0 where
  pub corners_are : Three ring.corners (get_or triangle 0 0) (get_or triangle 1 0) (get_or triangle 2 0)
  pub next : Three ring.next 1 2 0
  pub before : Three ring.before 2 0 1
  pub start : ring.start ≡ 0
  pub len : ring.len ≡ 3

-- a place's corner is one of n points
pub record Placed (n : ℕ) (ring : Ring) (i : ℕ) : Type 0 where
  pub place : i < 512
  pub corner : get_or ring.corners i 0 < n

-- the four places that a look reads
pub record Readable (n : ℕ) (ring : Ring) (s e : ℕ) : Type 0 where
  pub at_s : Placed n ring s
  pub at_e : Placed n ring e
  pub at_before : Placed n ring (get_or ring.before s 0)
  pub at_after : Placed n ring (get_or ring.next e 0)
