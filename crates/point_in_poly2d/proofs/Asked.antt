-- What comes back of an entry, for either test: its refusal, or what the test says. And that two results allowed by a promise are equal.
use Prim.Native.Nat.{ℕ}
use mathlib.Core.Path.{◌≡◌, refl, sym, ◌∙◌, ap}
use mathlib.Core.List.{List, [], ◌∷◌}
use lib.Ieee.{Float}
use Rattle.std.specs.Prelude.{Result, Ok, Err}
use Rattle.rules.specs.Limits.{most_points}
use Rattle.rules.specs.Plane.{Pt}
use Rattle.rules.specs.Grid.{point_of, points_of}
use Rattle.rules.specs.Refusals.{◌gives◌, off_grid, first_refusal, outline_checks, point_test_checks}
use Rattle.rules.specs.Border as Rules
use Rattle.rules.specs.Border.{outside, inside, border}
use Rattle.rules.specs.Entries.{Asking, asking, point_in_poly2d, point_in_convex_poly2d}
use Rattle.rules.proofs.Rows.{others_decide, front_gives}
use Rattle.rules.proofs.Fronts.{asked-front}
use Rattle.rules.proofs.Answers.{asking-number, asking-answered, asking_none}
use Rattle.entries.specs.declared.Refusal.{Refusal}
use Rattle.entries.specs.Refusals.{number_of, refused}
use Rattle.entries.proofs.Refusals.{number_one, number_above}
use Rattle.point_in_poly2d.specs.declared.Position.{Position}
use Rattle.point_in_poly2d.specs.declared.Position.TheVariants.{Outside, Inside, Border}
use Rattle.point_in_poly2d.specs.Positions.{position_of, answer_of, Answered}

module _ (test : Pt → List Pt → Rules.Position) (x y : Float) (cs : List Float) where
  abbrev asked : Asking
  asked = asking test x y cs

  checks_refuse : (r : Refusal) → number_of r ≡ first_refusal (point_test_checks x y cs) → Answered asked (Err r)
  checks_refuse r h =
      let e : number_of r ≡ asked.number = h ∙ sym (asking-number test x y cs) in
      record { number = e; answer = sym (asking_none test x y cs (λ z. number_above r (e ∙ z))) }

  -- the outline is refused
  pub outline_refused : (r : Refusal) → number_of r ≡ first_refusal (outline_checks 0 most_points cs) → Answered asked (Err r)
  outline_refused r h = checks_refuse r (front_gives (asked-front x y cs) h (number_above r))

  module _ (passes : 0 ≡ first_refusal (outline_checks 0 most_points cs)) where
    spot_decides : {n : ℕ} → n ≡ first_refusal (off_grid (x ∷ y ∷ []) gives 4 ∷ []) → n ≡ first_refusal (point_test_checks x y cs)
    spot_decides h = h ∙ sym (others_decide (asked-front x y cs) (sym passes))

    -- the asked point is refused
    pub spot_refused : (r : Refusal) → number_of r ≡ first_refusal (off_grid (x ∷ y ∷ []) gives 4 ∷ []) → Answered asked (Err r)
    spot_refused r h = checks_refuse r (spot_decides h)

    -- nothing is refused
    pub test_tells : 0 ≡ first_refusal (off_grid (x ∷ y ∷ []) gives 4 ∷ []) → (v : Position) → position_of v ≡ test (point_of x y) (points_of cs) → Answered asked (Ok v)
    test_tells on v h =
        let a = asking-answered test x y cs (asking-number test x y cs ∙ sym (spot_decides on)) in
        record { number = sym (ap (λ (r : Asking). r.number) a); answer = h ∙ sym (ap (λ (r : Asking). r.answer) a) }

-- ---- the number and the answer are those that the rules give, refused or not

pub verdict-number : (a : Asking) (r : Result Position Refusal) → Answered a r → refused r ≡ a.number
verdict-number a r h = h.number

pub verdict-answer : (a : Asking) (r : Result Position Refusal) → Answered a r → answer_of r ≡ a.answer
verdict-answer a r h = h.answer

-- ---- two results that a promise allows are equal

position_one : (p q : Position) → position_of p ≡ position_of q → p ≡ q
position_one p q e = sym (back p) ∙ ap declared e ∙ back q
  where
    declared : Rules.Position → Position
    declared outside = Outside
    declared inside = Inside
    declared border = Border

    back : (p : Position) → declared (position_of p) ≡ p
    back Outside = refl
    back Inside = refl
    back Border = refl

answered_one : (a : Asking) (r s : Result Position Refusal) → Answered a r → Answered a s → r ≡ s
answered_one a (Ok p) (Ok q) h k = ap Ok (position_one p q (h.answer ∙ sym k.answer))
answered_one a (Ok p) (Err r) h k = absurd (number_above r (k.number ∙ sym h.number))
answered_one a (Err r) (Ok p) h k = absurd (number_above r (h.number ∙ sym k.number))
answered_one a (Err r) (Err s) h k = ap Err (number_one r s (h.number ∙ sym k.number))

pub poly2d_unique :
    (x y : Float) (cs : List Float) (r s : Result Position Refusal) → Answered (point_in_poly2d x y cs) r → Answered (point_in_poly2d x y cs) s → r ≡ s
poly2d_unique x y cs r s h k = answered_one _ r s h k

pub convex_unique :
    (x y : Float) (cs : List Float) (r s : Result Position Refusal) → Answered (point_in_convex_poly2d x y cs) r → Answered (point_in_convex_poly2d x y cs) s → r ≡ s
convex_unique x y cs r s h k = answered_one _ r s h k
