-- What the entry gives back, by its refusal and by what the cut has written; and that two results which the promise allows are equal.
use Prim.Native.Nat.{ℕ}
use mathlib.Core.Path.{◌≡◌, refl, sym, ◌∙◌, ap}
use mathlib.Core.Logic.{◌≢◌}
use mathlib.Core.List.{List, [], ◌∷◌, map}
use native.Mathlib.Omega.{arith}
use lib.ListN.{length, length-map}
use lib.Ieee.{Float}
use Rattle.algebra.specs.Rings.{Corner, ring_of}
use Rattle.rules.specs.Plane.{Pt}
use Rattle.rules.specs.Grid.{points_of}
use Rattle.rules.specs.Cut.{Cut, stuck, done, cut}
use Rattle.rules.specs.Layout.{flatten, over}
use Rattle.rules.specs.Refusals.{◌gives◌, is_stuck, no_ear, first_refusal, before_cutting}
use Rattle.rules.specs.Entries.{triangles_of, triangles_for, cutter}
use Rattle.rules.proofs.Rows.{row_on, row_off, no_rows, front_gives, others_decide}
use Rattle.rules.proofs.Fronts.{seven_front}
use Rattle.rules.proofs.Answers.{cutter-number, cutter-answered, cutter_refused}
use Rattle.std.specs.Prelude.{Result, Ok, Err}
use Rattle.entries.specs.declared.Answer.{Answer}
use Rattle.entries.specs.declared.Refusal.{Refusal}
use Rattle.entries.specs.declared.Refusal.TheVariants.{NoEar}
use Rattle.entries.specs.Refusals.{number_of, answer_of}
use Rattle.entries.proofs.Refusals.{number_above}
use Rattle.entries.proofs.Answers.{answers_equal}
use Rattle.ear_clipping.specs.Promise.{Promise, Written, outcome_of}

promised : (cs : List Float) (out : List ℕ) (r : Answer) (after : List ℕ) → cutter cs out ≡ record { number = r.number; count = r.count; indices = after } → Promise cs out r after
promised cs out r after e = record { number = rw e; count = rw e; indices = rw e }

-- a number that is not 0 is refused with nothing written
refusing : (cs : List Float) (out : List ℕ) (n : ℕ) → (cutter cs out).number ≡ n → n ≢ 0 → Promise cs out (record { number = n; count = 0 }) out
refusing cs out n e d = promised cs out (record { number = n; count = 0 }) out (cutter_refused cs out (λ z. d (sym e ∙ z)) ∙ ap (λ m. record { number = m; count = 0; indices = out }) e)

-- ---- the three ways out

nothing_over : {out : List ℕ} → over (flatten []) out ≡ out
unfolding flatten
nothing_over = refl

module _ (cs : List Float) (out : List ℕ) where
  abbrev ps : List Pt
  ps = points_of cs

  -- refused before it is cut
  pub refused_early : (r : Refusal) → number_of r ≡ first_refusal (before_cutting cs (length out)) → Promise cs out (answer_of (Err r)) out
  refused_early r is =
      let d : number_of r ≢ 0 = number_above r in
      refusing cs out (number_of r) (cutter-number cs out ∙ sym (front_gives (seven_front cs (length out)) is d)) d

  module _ (none : 0 ≡ first_refusal (before_cutting cs (length out))) where
    seven_left : (cutter cs out).number ≡ first_refusal (no_ear ps gives 7 ∷ [])
    seven_left = cutter-number cs out ∙ others_decide (seven_front cs (length out)) (sym none)

    stuck-number : cut ps ≡ stuck → (cutter cs out).number ≡ 7
    unfolding no_ear
    stuck-number e = seven_left ∙ row_on 7 [] (ap is_stuck e)

    done-number : (ts : List (Corner ℕ)) → cut ps ≡ done ts → (cutter cs out).number ≡ 0
    unfolding no_ear
    done-number ts e = seven_left ∙ row_off 7 [] (ap is_stuck e) ∙ no_rows

    triangles_are : (r : Cut) → cut ps ≡ r → triangles_for ps ≡ map ring_of (triangles_of r)
    unfolding triangles_for
    triangles_are r e = ap (λ c. map ring_of (triangles_of c)) e

    pub cut_promised : (r : Result ℕ Refusal) (after : List ℕ) → Written ps out r after → Promise cs out (answer_of r) after
    cut_promised r after w = go (cut ps) refl
      where
        go : (c : Cut) → cut ps ≡ c → Promise cs out (answer_of r) after
        go stuck e =
            let o : r ≡ Err NoEar = w.outcome ∙ ap outcome_of e in
            let i : after ≡ out = w.indices ∙ rw (triangles_are stuck e) nothing_over in
            rw (o, i) (refusing cs out 7 (stuck-number e) (λ z. absurd (omega arith)))
        go (done ts) e =
            let o : r ≡ Ok (length (triangles_for ps)) = w.outcome ∙ ap outcome_of e ∙ ap Ok (sym (ap length (triangles_are (done ts) e) ∙ length-map ts ring_of)) in
            rw (o, w.indices) (promised cs out (record { number = 0; count = length (triangles_for ps) }) (over (flatten (triangles_for ps)) out) (cutter-answered cs out (done-number ts e)))

-- ---- two results that the promise allows are equal

pub unique : (cs : List Float) (before : List ℕ) (r s : Answer) (after after' : List ℕ) → Promise cs before r after → Promise cs before s after' → (r ≡ s) × (after ≡ after')
unique cs before r s after after' p q = (answers_equal r s (p.number ∙ sym q.number) (p.count ∙ sym q.count), p.indices ∙ sym q.indices)
