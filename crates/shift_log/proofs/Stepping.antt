-- One step, by what became of the line: all stays as it was, or an outline is put in force.
use Prim.Native.Nat.{ℕ, zero, suc, ◌/◌, ◌≤◌, ◌<◌}
use mathlib.Core.Path.{◌≡◌, refl, sym, ap, subst, ◌∙◌}
use mathlib.Core.Bool.{Bool, true, false, cond}
use mathlib.Core.List.{List, [], ◌∷◌}
use mathlib.Core.Option.{Option, none, some}
use lib.ListN.{length}
use lib.Ieee.{Float}
use borrow.Author.Tests.{lt-ltb, le-ltb}
use Rattle.rules.specs.Limits.{most_points}
use Rattle.rules.specs.Plane.{Pt}
use Rattle.rules.specs.Layout.{over}
use Rattle.rules.specs.Refusals.{◌gives◌}
use Rattle.rules.specs.Entries.{Asking, asking, point_in_poly2d, point_in_convex_poly2d}
use Rattle.rules.specs.Lines.{coordinates, off_corners}
use Rattle.rules.specs.Playback.{InForce as RulesInForce, Reply as RulesReply, number, corner_checks, outline_refusal, putting, told}
use Rattle.rules.proofs.Rows.{row_on, row_off, no_rows}
use Rattle.std.specs.Prelude.{Result, Ok, Err}
use Rattle.rules.specs.Entries.{unless}
use Rattle.rules.specs.Playback.{place}
use Rattle.rules.proofs.Layouts.{length_over}
use Rattle.entries.specs.declared.Refusal.{Refusal}
use Rattle.entries.specs.Refusals.{number_of}
use Rattle.entries.proofs.Refusals.{number_above}
use Rattle.point_in_poly2d.specs.declared.Position.{Position}
use Rattle.point_in_poly2d.specs.Positions.{Answered, test_of}
use Rattle.shift_log.specs.declared.InForce.{InForce}
use Rattle.shift_log.specs.declared.Reply.{Reply}
use Rattle.shift_log.specs.Promise.{reply_of, point_reply, Stepped}

-- ---- a point

pub point_told : (a : Asking) (r : Result Position Refusal) → Answered a r → point_reply r ≡ told a
point_told a (Ok p) h = rw (← h.number, ← h.answer)
point_told a (Err r) h = rw (← h.number) (go (number_of r) refl)
  where
    go : (n : ℕ) → number_of r ≡ n → number n ≡ unless n number (place a.answer)
    go zero e = absurd (number_above r e)
    go (suc n) e = refl

pub asked_by : (convex : Bool) (x y : Float) (cs : List Float) → cond convex point_in_convex_poly2d point_in_poly2d x y cs ≡ asking (test_of convex) x y cs
asked_by true x y cs = refl
asked_by false x y cs = refl

-- ---- the refusals of an outline

module _ (corners : List Pt) where
  pub refusal_three : most_points < length corners → outline_refusal corners ≡ 3
  unfolding outline_refusal corner_checks
  refusal_three h = row_on 3 (off_corners corners gives 4 ∷ []) (lt-ltb most_points (length corners) h)

  module _ (few : length corners ≤ most_points) where
    pub refusal_four : off_corners corners ≡ true → outline_refusal corners ≡ 4
    unfolding outline_refusal corner_checks
    refusal_four h = row_off 3 (off_corners corners gives 4 ∷ []) (le-ltb most_points (length corners) few) ∙ row_on 4 [] h

    pub refusal_none : off_corners corners ≡ false → outline_refusal corners ≡ 0
    unfolding outline_refusal corner_checks
    refusal_none h = row_off 3 (off_corners corners gives 4 ∷ []) (le-ltb most_points (length corners) few) ∙ row_off 4 [] h ∙ no_rows

  pub is_put : (convex : Bool) → outline_refusal corners ≡ 0 → putting convex corners ≡ some (record { coords = coordinates corners; convex = convex })
  unfolding putting
  is_put convex h = rw h refl

-- ---- what is in force then

module _ {given : RulesReply} {set : Option RulesInForce} {f : InForce} {r : Result Reply Refusal} where
  pub stayed : set ≡ none → reply_of r ≡ given → Stepped given set f r f
  stayed e a = subst (λ (s : Option RulesInForce). Stepped given s f r f) (sym e) (record { replied = a; stands = (refl, refl); same_coords = refl; coords_len = refl })

  pub too_little_lem : (s : RulesInForce) → set ≡ some s → length f.coords.now < length s.coords → reply_of r ≡ number 6 → Stepped given set f r f
  too_little_lem s e h a =
      let t = lt-ltb (length f.coords.now) (length s.coords) h in
      subst (λ (o : Option RulesInForce). Stepped given o f r f) (sym e) (record { replied = rw t a; stands = rw t (refl, refl); same_coords = refl; coords_len = refl })

  pub was_put : {g : InForce} (s : RulesInForce) → set ≡ some s → length s.coords ≤ length f.coords.now → reply_of r ≡ given
      → g.coords.now ≡ over s.coords f.coords.now → g.force ≡ record { corners = length s.coords / 2; convex = s.convex } → g.coords.ghost_name ≡ f.coords.ghost_name → Stepped given set f r g
  was_put {g} s e h a b c same =
      let t = le-ltb (length f.coords.now) (length s.coords) h in
      subst (λ (o : Option RulesInForce). Stepped given o f r g) (sym e)
      (record { replied = rw t a; stands = rw t (b, c); same_coords = same; coords_len = ap length b ∙ length_over s.coords f.coords.now h })
