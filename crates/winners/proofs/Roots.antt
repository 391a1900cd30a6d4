-- What the tree holds at the root is the choice of the rules, where the leaves hold the ears.
use Prim.Native.Nat.{ℕ, ◌+◌, ◌^◌}
use native.Mathlib.Omega.{arith}
use mathlib.Core.Path.{◌≡◌, refl, ap, ◌∙◌}
use mathlib.Core.Bool.{Bool, true, false, cond}
use mathlib.Core.List.{List, map}
use lib.Ieee.{eq, is_nan}
use Rattle.winners.proofs.Nodes.{fair_number, ear_none, ear_some}
use Rattle.algebra.specs.Lists.{Each}
use Rattle.algebra.specs.Rings.{Corner}
use Rattle.algebra.proofs.Lists.{each_imp}
use Rattle.rules.specs.Plane.{Pt}
use Rattle.rules.specs.Ear as rules
use Rattle.rules.specs.Ear.{none, pointed, ear}
use Rattle.rules.specs.Cut.{nothing, better, choose}
use Rattle.winners.specs.Winners.{leaf, Number, no_one, number, choice_of, Kept}
use Rattle.winners.specs.Keys.{lowest, from_ear, key_of, ear_in, Proper, ear_entry, decode, node, winner_in, Tree}
use Rattle.winners.specs.Keys as keys
use Rattle.winners.specs.declared.Entry.{Entry}
use Rattle.winners.specs.declared.Winners.{Winners}
use Rattle.winners.proofs.Winning.{root_chosen}

decode-number : (e : Entry) → is_nan e.key ≡ false → Number (decode e)
unfolding decode ear_in better
decode-number e h = go (eq e.key lowest)
  where
    go : (t : Bool) → Number (better nothing e.corner (cond t none (pointed e.key)))
    go true = no_one
    go false = number h

-- the lowest key is nobody's
pub decode-lowest : (i : ℕ) → decode (record { key = lowest; corner = i }) ≡ nothing
unfolding decode ear_in better eq
decode-lowest i = refl

-- an ear's key stands for it
key_stands : (x : rules.Ear) → Proper (from_ear x) → ear_in (key_of (from_ear x)) ≡ x
key_stands none p = ear_none
key_stands (pointed f) (keys.pointed n h) = ear_some f h

decode-ear : (i : ℕ) (x : rules.Ear) → Proper (from_ear x) → decode (ear_entry i (from_ear x)) ≡ leaf i x
unfolding decode
decode-ear i x p = rw (key_stands x p)

module _ (ps : List Pt) (proper : (c : Corner ℕ) → Proper (from_ear (ear ps c))) (corner : ℕ → Corner ℕ) (w : Winners) (h : ℕ) (power : w.leaves ≡ 2 ^ h) (t : Tree w) where
  -- the corners of the ring hold their ears, and all others nobody
  pub root_of_tree :
      (ring : List ℕ) → Kept (λ i. winner_in w (w.leaves + i)) 0 w.leaves ring → Each (λ i. node w (w.leaves + i) ≡ ear_entry i (from_ear (ear ps (corner i)))) ring
      → choose ps nothing (map corner ring) ≡ choice_of corner (decode (node w 1))
  root_of_tree ring r ears =
      root_chosen ps corner (winner_in w) w.leaves h power t.stands (λ k p q. decode-number (node w k) (fair_number (t.numbers.numbers k (omega (arith, t.numbers.least)) q))) ring r
      (each_imp (λ i e. ap decode e ∙ decode-ear i (ear ps (corner i)) (proper (corner i))) ears)
