-- Document 01, "The cutter's steps": the choice of the ear, and the cut. A ring that is cut is the ascending list of the corners that are left.
use Rattle.std.specs.Prelude.{ℕ, zero, suc, ◌-◌, cond, List, [], ◌∷◌, eqb, length, Float}
use Rattle.std.specs.Float.Ieee.{le}
use Rattle.algebra.specs.Lists.{count_from}
use Rattle.algebra.specs.Rings.{Corner, corners}
use Rattle.rules.specs.Plane.{Pt}
use Rattle.rules.specs.Ear.{Ear, none, pointed, ear}

-- among corners, or what stands for them
pub data Choice (A : Type 0) : Type 0 where
  nothing : Choice A
  best : A → Float → Choice A

-- the better of what was found so far and one corner more: of equals the later
unfoldable pub better : {A : Type 0} → Choice A → A → Ear → Choice A
unfolding le
better b c none = b
better nothing c (pointed f) = best c f
better (best d g) c (pointed f) = cond (le g f) (best c f) (best d g)

-- the ear of greatest pointiness, of equals the highest index, as the corners stand in ascending order
unfoldable pub choose : List Pt → Choice (Corner ℕ) → List (Corner ℕ) → Choice (Corner ℕ)
unfolding better ear
choose ps b [] = b
choose ps b (c ∷ cs) = choose ps (better b c (ear ps c)) cs

-- the ring with corner i removed
unfoldable pub without : ℕ → List ℕ → List ℕ
without i [] = []
without i (j ∷ js) = cond (eqb j i) js (j ∷ without i js)

-- the triangles in the order in which they are written, or that a ring had no ear
pub data Cut : Type 0 where
  stuck : Cut
  done : List (Corner ℕ) → Cut

abbrev pub write : Corner ℕ → Cut → Cut
write c stuck = stuck
write c (done cs) = done (c ∷ cs)

-- three remain: the lowest index with its neighbours, with no ear test
abbrev pub lowest : List (Corner ℕ) → Cut
lowest [] = stuck
lowest (c ∷ cs) = done (c ∷ [])

-- k corners are cut from the ring one after the other, and then three are left
unfoldable pub cut_ring : ℕ → List Pt → List ℕ → Cut
unfolding choose without
cut_ring zero ps ring = lowest (corners ring)
cut_ring (suc k) ps ring = elim (choose ps nothing (corners ring)) [ nothing ↦ stuck | best c f ↦ write c (cut_ring k ps (without c.at ring)) ]

-- the ring starts as corners 0 to n - 1, of which there are three or more
unfoldable pub cut : List Pt → Cut
unfolding cut_ring
cut ps = cut_ring (length ps - 3) ps (count_from 0 (length ps))
