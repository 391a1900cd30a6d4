-- Neighbours never become equal while a ring is cut: an ear's two neighbours differ, its turn being left.
use Prim.Native.Nat.{ℕ}
use mathlib.Core.Path.{◌≡◌, refl}
use mathlib.Core.Logic.{◌≢◌}
use mathlib.Core.Bool.{true}
use mathlib.Core.List.{List, ◌∷◌, ◌++◌}
use lib.IntN.{pos}
use lib.Ieee.{Float}
use Rattle.algebra.specs.Lists.{Distinct}
use Rattle.algebra.proofs.Order.{lin}
use Rattle.rules.specs.Plane.{Pt, turn, left, point, turns_left}
use Rattle.algebra.specs.Rings.{Corner, corners}
use Rattle.rules.specs.Cut.{nothing, best, choose, without}
use Rattle.rules.specs.Measure.{Apart}
use Rattle.algebra.proofs.Rings.{Place, places, Rotated, swapped, edges_rotated, each_rotated, edges-without}
use Rattle.rules.proofs.Turns.{turn_none}
use Rattle.rules.proofs.Ears.{ear-left}
use Rattle.rules.proofs.Cuts.{chosen_in, rest_is, rest-distinct}

left_apart : (a b c : Pt) → left a b c ≡ true → a ≢ c
left_apart a b c h e =
    let z : turn a b c ≡ pos 0 = rw (← e) (turn_none a b) in
    omega lin

-- the rings that are met while a ring is cut
pub data Met (ps : List Pt) (ring : List ℕ) : List ℕ → Type 0 where
  at_first : Met ps ring ring
  one_less : {r : List ℕ} {c : Corner ℕ} {f : Float} → Met ps ring r → choose ps nothing (corners r) ≡ best c f → Met ps ring (without c.at r)

module _ (ps : List Pt) where
  rest_apart : {ring : List ℕ} {c : Corner ℕ} → Distinct ring → Place ring c → turns_left ps c.before c.at c.after ≡ true → Apart ps ring → Apart ps (without c.at ring)
  rest_apart {ring} {c} d at l h =
      let rotated : Rotated ring (c.at ∷ at.back ++ at.front) = record { front = at.front; back = c.at ∷ at.back; was = at.whole; now = refl } in
      let differ : point ps c.before ≢ point ps c.after = left_apart (point ps c.before) (point ps c.at) (point ps c.after) l in
      rw (rest_is d at) (each_rotated (edges_rotated (swapped at.back at.front)) (edges-without c.at (at.back ++ at.front) (each_rotated (edges_rotated rotated) h) (rw (at.before, at.after) at differ)))

  pub met_distinct : {ring r : List ℕ} → Distinct ring → Met ps ring r → Distinct r
  met_distinct d at_first = d
  met_distinct d (one_less {r} m e) = rest-distinct (met_distinct d m) (chosen_in ps (Place r) (places r) e).0

  pub met_apart : {ring r : List ℕ} → Distinct ring → Apart ps ring → Met ps ring r → Apart ps r
  met_apart d h at_first = h
  met_apart d h (one_less {r} {c} {f} m e) =
      let (at, i) = chosen_in ps (Place r) (places r) e in
      rest_apart (met_distinct d m) at (ear-left ps c f i) (met_apart d h m)
