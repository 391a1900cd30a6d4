-- What the tree's root says is the choice among the ring's corners.
use Prim.Native.Nat.{ℕ, zero, suc, ◌+◌, ◌≤◌, ◌<◌}
use native.Mathlib.Omega.{arith}
use mathlib.Core.Path.{◌≡◌, refl, ap, ◌∙◌}
use mathlib.Core.Bool.{Bool, true, false, cond}
use mathlib.Core.Logic.{◌⊎◌, inl, inr}
use mathlib.Core.List.{List, [], ◌∷◌}
use lib.Ieee.{Float}
use Rattle.std.specs.Prelude.{Option, None, Some}
use Rattle.algebra.specs.Lists.{Each, end, ◌&◌}
use Rattle.algebra.specs.Rings.{Corner, corners}
use Rattle.rules.specs.Plane.{Pt}
use Rattle.rules.specs.Ear as rules
use Rattle.rules.specs.Cut.{Choice, nothing, best, better, choose}
use Rattle.winners.specs.Winners as W
use Rattle.winners.specs.Winners.{choice_of, Kept, kept, left_out}
use Rattle.winners.specs.Keys.{Proper, ear_entry, ear_in, decode, node, winner_in, corner_if, root_of}
use Rattle.winners.specs.declared.Winners.{Winners}
use Rattle.winners.proofs.Roots.{root_of_tree}
use Rattle.vertices.specs.Ears.{ear_of}
use Rattle.vertices.specs.declared.Vertex.{Vertex}
use Rattle.vertices.specs.Vertices.{prev_of, next_of, active_of, corner_at, those, ring_in, Ringed, Eared}
use Rattle.vertices.proofs.Links.{corners-map}

module _ (t : ℕ → Choice ℕ) (o : ℕ → Bool) (n top : ℕ) (off : (i : ℕ) → i < top → (n ≤ i) ⊎ (o i ≡ false) → t i ≡ nothing) where
  beyond : (k m : ℕ) → k + m ≡ top → n ≤ k → Kept t k m []
  beyond k zero e h = W.end
  beyond k (suc m) e h = left_out (off k (omega arith) (inl h)) (beyond (suc k) m (omega arith) (omega arith))

  -- the ring is the numbers that are on
  ring_kept : (k l m : ℕ) → k + l ≡ n → k + m ≡ top → l ≤ m → Kept t k m (those o k l)
  unfolding those
  ring_kept k zero m e f h = beyond k m f (omega arith)
  ring_kept k (suc l) zero e f h = absurd (omega arith)
  ring_kept k (suc l) (suc m) e f h = go (o k) refl (ring_kept (suc k) l m (omega arith) (omega arith) (omega arith))
    where
      go : (b : Bool) → o k ≡ b → Kept t (suc k) m (those o (suc k) l) → Kept t k (suc m) (cond b (k ∷ those o (suc k) l) (those o (suc k) l))
      go true q r = kept r
      go false q r = left_out (off k (omega arith) (inr q)) r

module _ (P : ℕ → Type 0) (o : ℕ → Bool) (n : ℕ) (is : (i : ℕ) → i < n → o i ≡ true → P i) where
  pub each_of_ring : (k l : ℕ) → k + l ≡ n → Each P (those o k l)
  unfolding those
  each_of_ring k zero e = end
  each_of_ring k (suc l) e = go (o k) refl (each_of_ring (suc k) l (omega arith))
    where
      go : (b : Bool) → o k ≡ b → Each P (those o (suc k) l) → Each P (cond b (k ∷ those o (suc k) l) (those o (suc k) l))
      go true q r = is k (omega arith) q & r
      go false q r = r

-- how a corner that is picked and a choice go together: nothing of either, or the corner by its number
pub data Agree (corner : ℕ → Corner ℕ) : Option ℕ → Choice (Corner ℕ) → Type 0 where
  neither : Agree corner None nothing
  same : (i : ℕ) (f : Float) → Agree corner (Some i) (best (corner i) f)

pub agree_nothing : {corner : ℕ → Corner ℕ} {c : Choice (Corner ℕ)} → Agree corner None c → c ≡ nothing
agree_nothing neither = refl

pub agree_some : {corner : ℕ → Corner ℕ} {i : ℕ} {c : Choice (Corner ℕ)} → Agree corner (Some i) c → (f : Float) × (c ≡ best (corner i) f)
agree_some (same i f) = (f, refl)

module _ (ps : List Pt) (proper : (c : Corner ℕ) → Proper (ear_of ps c)) (n : ℕ) (r : List Vertex) (w : Winners) (h : Ringed ps n r) (e : Eared ps n r w) where
  root_chosen : choose ps nothing (corners (ring_in n r)) ≡ choice_of (corner_at r) (winner_in w 1)
  unfolding ear_of
  root_chosen =
      ap (choose ps nothing) (corners-map (prev_of r) (next_of r) (ring_in n r) h.links)
      ∙ root_of_tree ps proper (corner_at r) w e.power.exponent e.power.is e.tree (ring_in n r)
      (ring_kept (λ i. winner_in w (w.leaves + i)) (active_of r) n w.leaves e.nobody 0 n w.leaves (omega arith) (omega arith) e.room)
      (each_of_ring (λ i. node w (w.leaves + i) ≡ ear_entry i (ear_of ps (corner_at r i))) (active_of r) n e.ears 0 n (omega arith))

  agree : Agree (corner_at r) (root_of w) (choice_of (corner_at r) (winner_in w 1))
  unfolding root_of decode better
  agree = go (ear_in (node w 1).key)
    where
      go : (e : rules.Ear) → Agree (corner_at r) (corner_if e (node w 1).corner) (choice_of (corner_at r) (better nothing (node w 1).corner e))
      go rules.none = neither
      go (rules.pointed f) = same (node w 1).corner f

  pub chosen : (b : Option ℕ) → b ≡ root_of w → Agree (corner_at r) b (choose ps nothing (corners (ring_in n r)))
  chosen b e = rw (e, root_chosen) agree
