-- What the code's tests say of an ear.
use Prim.Native.Nat.{ℕ}
use mathlib.Core.Path.{◌≡◌, refl, sym, ◌∙◌, ap}
use mathlib.Core.Bool.{Bool, true, false, cond, not, ◌&&◌}
use mathlib.Core.List.{List}
use lib.Ieee.{Float}
use Rattle.std.specs.Prelude.{None, Some}
use Rattle.algebra.specs.Lists.{any}
use Rattle.algebra.specs.Rings.{Corner}
use Rattle.rules.specs.Plane.{Pt, minus, turn, left, point, turns_left}
use Rattle.rules.specs.Root.{pointiness}
use Rattle.rules.specs.Ear as rules
use Rattle.grid.specs.declared.point_in_triangle.Orientation.{Orientation}
use Rattle.grid.specs.Points.{orientation, is_ccw}
use Rattle.grid.proofs.Turn.{ccw_left}
use Rattle.winners.specs.Keys.{from_ear}
use Rattle.vertices.specs.Ears.{ear_of}

-- the three points turn left
pub left_so : (a b c : Pt) (d : Orientation) → d ≡ orientation (turn a b c) → (s : Bool) → s ≡ is_ccw d → s ≡ true → left a b c ≡ true
left_so a b c d i s j e = sym (ccw_left (turn a b c)) ∙ ap is_ccw (sym i) ∙ sym j ∙ e

module _ (ps : List Pt) (t : Corner ℕ) where
  pub blocked_is :
      (a b c : Pt) → a ≡ point ps t.before → b ≡ point ps t.at → c ≡ point ps t.after → (s : Bool) → s ≡ any (rules.blocks a b c) ps → rules.blocked ps t ≡ s
  unfolding rules.blocked
  blocked_is a b c e f g s i = sym (i ∙ rw (e, f, g))

  pub left_is :
      (a b c : Pt) → a ≡ point ps t.before → b ≡ point ps t.at → c ≡ point ps t.after → (d : Orientation) → d ≡ orientation (turn a b c)
      → (s : Bool) → s ≡ is_ccw d → turns_left ps t.before t.at t.after ≡ s
  left_is a b c e f g d i s j = sym (j ∙ ap is_ccw i ∙ ccw_left (turn a b c) ∙ rw (e, f, g))

  ear_is : (l s : Bool) → turns_left ps t.before t.at t.after ≡ l → rules.blocked ps t ≡ s → ear_of ps t ≡ from_ear (cond (l && not s) (rules.pointed (rules.pointiness_at ps t)) rules.none)
  unfolding ear_of
  ear_is l s e f = ap from_ear (opened ∙ ap (λ (x : Bool). cond x (rules.pointed (rules.pointiness_at ps t)) rules.none) (flags e f))
    where
      opened : rules.ear ps t ≡ cond (rules.is_ear ps t) (rules.pointed (rules.pointiness_at ps t)) rules.none
      opened = unfold rules.ear in refl

      flags : {x y : Bool} → x ≡ l → y ≡ s → (x && not y) ≡ (l && not s)
      flags p q = cc

  pub no-left : turns_left ps t.before t.at t.after ≡ false → None ≡ ear_of ps t
  no-left e = sym (ear_is false (rules.blocked ps t) e refl)

  pub is_blocked : turns_left ps t.before t.at t.after ≡ true → rules.blocked ps t ≡ true → None ≡ ear_of ps t
  is_blocked e f = sym (ear_is true true e f)

  pub is_pointed :
      turns_left ps t.before t.at t.after ≡ true → rules.blocked ps t ≡ false → (q p s : Pt) → q ≡ point ps t.before → p ≡ point ps t.at → s ≡ point ps t.after
      → {v : Float} → v ≡ pointiness (minus q p) (minus s p) → Some v ≡ ear_of ps t
  is_pointed e f q p s eq ep es i = ap Some (i ∙ rw (eq, ep, es) opened) ∙ sym (ear_is true false e f)
    where
      opened : pointiness (minus (point ps t.before) (point ps t.at)) (minus (point ps t.after) (point ps t.at)) ≡ rules.pointiness_at ps t
      opened = unfold rules.pointiness_at in refl
