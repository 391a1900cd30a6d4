-- Ears turn left. So every triangle of a cut does but the last, which is not tested.
use Prim.Native.Nat.{ℕ}
use mathlib.Core.Path.{◌≡◌, refl}
use mathlib.Core.Bool.{Bool, true, false, cond, not}
use mathlib.Core.List.{List, ◌∷◌}
use lib.Dec.{leb-suc-zero}
use lib.IntN.{ℤ, pos, negsuc}
use lib.Ieee.{Float}
use lib.Signed.{lt_z}
use Rattle.algebra.specs.Lists.{Each, end, ◌&◌}
use Rattle.algebra.proofs.Equal.{impossible, and_true_l}
use Rattle.rules.specs.Plane.{Pt, turn, point, turns_left}
use Rattle.algebra.specs.Rings.{Corner, corners, last_of}
use Rattle.rules.specs.Ear.{blocked, is_ear, pointiness_at, none, pointed, ear}
use Rattle.rules.specs.Cut.{nothing, best, choose, without, done, cut_ring}
use Rattle.rules.specs.Measure.{NotRight}
use Rattle.algebra.proofs.Rings.{Place, places}
use Rattle.rules.proofs.Cuts.{Cuts, three, one_more, cuts, chosen_in}

passed : (t : Bool) (x f : Float) → cond t (pointed x) none ≡ pointed f → t ≡ true
passed true x f e = refl
passed false x f e = impossible (cc)

pub ear-left : (ps : List Pt) (c : Corner ℕ) (f : Float) → ear ps c ≡ pointed f → turns_left ps c.before c.at c.after ≡ true
unfolding ear
ear-left ps c f e = and_true_l (turns_left ps c.before c.at c.after) (not (blocked ps c)) (passed (is_ear ps c) (pointiness_at ps c) f e)

above_not_below : (z : ℤ) → lt_z (pos 0) z ≡ true → lt_z z (pos 0) ≡ false
above_not_below (pos n) h = leb-suc-zero n
above_not_below (negsuc n) h = impossible (cc)

module _ (ps : List Pt) where
  chosen_not_right : (ring : List ℕ) {c : Corner ℕ} {f : Float} → choose ps nothing (corners ring) ≡ best c f → NotRight ps c
  chosen_not_right ring {c} {f} e = above_not_below (turn (point ps c.before) (point ps c.at) (point ps c.after)) (ear-left ps c f (chosen_in ps (Place ring) (places ring) e).1)

  cuts_not_right : {k : ℕ} {ring : List ℕ} {c : Corner ℕ} {ts : List (Corner ℕ)} → Cuts ps k ring (c ∷ ts) → NotRight ps (last_of c ts) → Each (NotRight ps) (c ∷ ts)
  cuts_not_right (three e) h = h & end
  cuts_not_right (one_more {ring} e (three i)) h = chosen_not_right ring e & h & end
  cuts_not_right (one_more {ring} {c} e (one_more i r)) h = chosen_not_right ring e & cuts_not_right {ring = without c.at ring} (one_more i r) h

  -- where the last triangle of a cut does not turn right, none does
  pub cut-not-right : (k : ℕ) (ring : List ℕ) (c : Corner ℕ) (ts : List (Corner ℕ)) → cut_ring k ps ring ≡ done (c ∷ ts) → NotRight ps (last_of c ts) → Each (NotRight ps) (c ∷ ts)
  cut-not-right k ring c ts e = cuts_not_right (cuts k ps ring (c ∷ ts) e)
