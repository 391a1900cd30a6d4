-- What a step gives back, by what was read.
use borrow.Rule.Slice.PartMut.{put_mid}
use lib.ListN.{drop}
use lib.Seq.{take_all}
use native.Mathlib.Nat.{zero-add}
use mathlib.Core.List.{◌++◌}
use Rattle.std.proofs.lemmas.Slice.{put_mid-paste}
use Prim.Native.Nat.{ℕ, ◌-◌, ◌*◌, ◌/◌, ◌≤◌, ◌<◌}
use native.Mathlib.Omega.{arith}
use mathlib.Core.Path.{◌≡◌, refl, sym, ap, ap₂, subst, ◌∙◌}
use mathlib.Core.Bool.{Bool, true, false}
use mathlib.Core.List.{List, ◌∷◌}
use mathlib.Core.Option.{none, some}
use lib.ListN.{length, take}
use lib.Ieee.{Float}
use Rattle.rules.specs.Limits.{most_points}
use Rattle.rules.specs.Plane.{Pt}
use Rattle.rules.specs.Layout.{over}
use Rattle.rules.specs.Refusals.{off_grid}
use Rattle.rules.specs.Entries.{asking}
use Rattle.rules.specs.Text.{bytes}
use Rattle.rules.specs.Lines.{coordinates}
use Rattle.rules.specs.Playback.{polygon, triangle, point, number, told, outline_refusal, reply, sets}
use Rattle.rules.proofs.Replies.{not_put}
use Rattle.std.specs.Prelude.{Result, Ok, Err}
use Rattle.entries.specs.declared.Refusal.{Refusal}
use Rattle.entries.specs.declared.Refusal.TheVariants.{OffGrid, TooLittleRoom, TooManyPoints, NotInForm}
use Rattle.point_in_poly2d.specs.Positions.{test_of}
use Rattle.wkt.specs.Reads.{NoOutline, OutlineRead, NoPointLine, PointRead}
use Rattle.wkt.proofs.Corners.{off_grid_read}
use Rattle.shift_log.specs.declared.InForce.{InForce}
use Rattle.shift_log.specs.declared.Reply.{Reply}
use Rattle.shift_log.specs.declared.Reply.TheVariants.{Set}
use Rattle.shift_log.specs.Promise.{reply_of, StepPromise, PutPromise}
use Rattle.shift_log.proofs.Meanings.{NoTriangle, point-means, polygon-means, triangle-means, nothing-means}
use Rattle.shift_log.proofs.Stepping.{asked_by, refusal_three, refusal_four, refusal_none, is_put, stayed, too_little_lem, was_put}

-- what is copied to the front stands over what was there
pub copied_over : (old own : List Float) {front : List Float} → front ≡ own → put_mid 0 (length own - 0) old front ≡ over own old
copied_over old own {front} e =
    let n : length own ≡ length own - 0 = omega arith in
    put_mid-paste 0 (length own - 0) old front own (length own) e n refl
    ∙ ap₂ (λ (l : List Float) (k : ℕ). l ++ drop k old) (take_all (length own) own (omega arith)) (zero-add (length own))

module _ (own : List Float) (convex : Bool) (f : InForce) where
  pub put_off : off_grid own ≡ true → PutPromise own convex f (Err OffGrid) f
  put_off h corners few e =
      let q = refusal_four corners few (sym (off_grid_read corners) ∙ ap off_grid (sym e) ∙ h) in
      stayed (not_put corners convex 3 q) (ap number (sym q))

  module _ (on : off_grid own ≡ false) where
    accepted : (corners : List Pt) → length corners ≤ most_points → own ≡ coordinates corners → outline_refusal corners ≡ 0
    accepted corners few e = refusal_none corners few (sym (off_grid_read corners) ∙ ap off_grid (sym e) ∙ on)

    pub put_little : length f.coords.now < length own → PutPromise own convex f (Err TooLittleRoom) f
    put_little h corners few e =
        too_little_lem (record { coords = coordinates corners; convex = convex }) (is_put corners convex (accepted corners few e))
        (subst (λ (l : List Float). length f.coords.now < length l) e h) refl

    pub put_done : {now : List Float} → length own ≤ length f.coords.now → now ≡ over own f.coords.now
        → PutPromise own convex f (Ok Set) (record { coords = record { ref_ptr = f.coords.ref_ptr; ghost_name = f.coords.ghost_name; now = now }; force = record { corners = length own / 2; convex = convex } })
    put_done h d corners few e =
        let q = accepted corners few e in
        was_put (record { coords = coordinates corners; convex = convex }) (is_put corners convex q) (subst (λ (l : List Float). length l ≤ length f.coords.now) e h)
        (ap number (sym q)) (d ∙ ap (λ (l : List Float). over l f.coords.now) e) (ap (λ (l : List Float). record { corners = length l / 2; convex = convex }) e) refl

module _ {line : List ℕ} {f : InForce} where
  pub step-point : {r : Result Reply Refusal} {x y : Float} → PointRead line x y → reply_of r ≡ told (asking (test_of f.force.convex) x y (take (2 * f.force.corners) f.coords.now)) → StepPromise line f r f
  unfolding reply sets
  step-point {x = x} {y = y} p e = record {
    event = some (point p.p);
    meant = point-means p;
    stepped = stayed refl
        (e ∙ ap₂ (λ (a b : Float). told (asking (test_of f.force.convex) a b (take (2 * f.force.corners) f.coords.now))) p.worth-x p.worth-y ∙ ap told (sym (asked_by f.force.convex _ _ _)));
  }

  module _ {n : ℕ} {own : List Float} (p : OutlineRead (bytes "POLYGON ((") line n own) where
    pub step_many : most_points < n → StepPromise line f (Err TooManyPoints) f
    unfolding reply sets
    step_many h =
        let q = refusal_three (p.c ∷ p.cs) (omega (arith, h, p.known.counted)) in
        record { event = some (polygon (p.c ∷ p.cs)); meant = polygon-means p; stepped = stayed (not_put (p.c ∷ p.cs) false 2 q) (ap number (sym q)) }

    pub step-polygon : {r : Result Reply Refusal} {g : InForce} → n ≤ most_points → PutPromise (take (2 * n) own) false f r g → StepPromise line f r g
    unfolding reply sets
    step-polygon few s = record { event = some (polygon (p.c ∷ p.cs)); meant = polygon-means p; stepped = s (p.c ∷ p.cs) (omega (arith, few, p.known.counted)) (p.known.held few) }

  pub step-triangle : {n : ℕ} {own : List Float} {r : Result Reply Refusal} {g : InForce} → OutlineRead (bytes "TRIANGLE ((") line n own → n ≡ 3 → PutPromise (take (2 * n) own) true f r g
      → StepPromise line f r g
  unfolding reply sets
  step-triangle {n = n} p three s =
      let few : n ≤ most_points = omega arith in
      record { event = some (triangle (p.c ∷ p.cs)); meant = triangle-means p three; stepped = s (p.c ∷ p.cs) (omega (arith, p.known.counted)) (p.known.held few) }

  pub step_eleven : NoPointLine line → NoOutline (bytes "POLYGON ((") line → NoTriangle line → StepPromise line f (Err NotInForm) f
  unfolding reply sets
  step_eleven a b c = record { event = none; meant = nothing-means a b c; stepped = stayed refl refl }
