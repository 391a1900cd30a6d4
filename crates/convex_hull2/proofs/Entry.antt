-- What the entry gives back, by its refusal and by what the walk has written; and that two results which the promise allows are equal.
use Prim.Native.Nat.{ℕ, ◌≤◌, ◌<◌}
use mathlib.Core.Path.{◌≡◌, sym, ◌∙◌, ap}
use mathlib.Core.Bool.{true, false}
use mathlib.Core.List.{List, []}
use borrow.Author.Tests.{lt-ltb, le-ltb}
use lib.ListN.{length}
use lib.Ieee.{Float}
use Rattle.std.specs.Prelude.{Ok, Err}
use Rattle.rules.specs.Limits.{most_points}
use Rattle.rules.specs.Plane.{Pt}
use Rattle.rules.specs.Grid.{points_of}
use Rattle.rules.specs.Hull.{hull}
use Rattle.rules.specs.Layout.{over}
use Rattle.rules.specs.Refusals.{first_refusal, on_one_line, outline_checks, cloud_checks}
use Rattle.rules.specs.Entries.{huller}
use Rattle.rules.proofs.Rows.{row_on, row_off, no_rows, front_gives, others_decide}
use Rattle.rules.proofs.Fronts.{cloud_front}
use Rattle.rules.proofs.Answers.{huller-number, huller-answered, huller_refused}
use Rattle.entries.specs.declared.Answer.{Answer}
use Rattle.entries.specs.declared.Refusal.{Refusal}
use Rattle.entries.specs.declared.Refusal.TheVariants.{OnOneLine, TooLittleRoom}
use Rattle.entries.specs.Refusals.{number_of, answer_of}
use Rattle.entries.proofs.Refusals.{number_above}
use Rattle.entries.proofs.Answers.{answers_equal}
use Rattle.convex_hull2.specs.Promise.{Promise, Written}

promised : (cs : List Float) (out : List ℕ) (r : Answer) (new : List ℕ) → huller cs out ≡ record { number = r.number; count = r.count; indices = new } → Promise cs out r new
promised cs out r new e = record { number = rw e; count = rw e; indices = rw e }

-- what is refused is refused with nothing written
refusing : (cs : List Float) (out : List ℕ) (r : Refusal) → (huller cs out).number ≡ number_of r → Promise cs out (answer_of (Err r)) out
refusing cs out r e =
    promised cs out (answer_of (Err r)) out
    (huller_refused cs out (λ z. number_above r (sym e ∙ z)) ∙ ap (λ m. record { number = m; count = 0; indices = out }) e)

-- ---- the four ways out

module _ (cs : List Float) (out : List ℕ) where
  abbrev ps : List Pt
  ps = points_of cs

  pub refused : (r : Refusal) → number_of r ≡ first_refusal (outline_checks 2 most_points cs) → Promise cs out (answer_of (Err r)) out
  refused r is = refusing cs out r (huller-number cs out ∙ sym (front_gives (cloud_front cs (length out)) is (number_above r)))

  module _ (none : 0 ≡ first_refusal (outline_checks 2 most_points cs)) where
    rows_left : (huller cs out).number ≡ first_refusal (cloud_checks ps (length out))
    rows_left = huller-number cs out ∙ others_decide (cloud_front cs (length out)) (sym none)

    pub on_line : on_one_line ps ≡ true → Promise cs out (answer_of (Err OnOneLine)) out
    on_line e = refusing cs out OnOneLine (rows_left ∙ row_on 12 _ e)

    module _ (off : on_one_line ps ≡ false) where
      pub short : length out < length ps → Promise cs out (answer_of (Err TooLittleRoom)) out
      short h = refusing cs out TooLittleRoom (rows_left ∙ row_off 12 _ off ∙ row_on 6 [] (lt-ltb (length out) (length ps) h))

      pub answered : length ps ≤ length out → (n : ℕ) (new : List ℕ) → Written ps out n new → Promise cs out (answer_of (Ok n)) new
      answered h n new w =
          let done : (huller cs out).number ≡ 0 = rows_left ∙ row_off 12 _ off ∙ row_off 6 [] (le-ltb (length out) (length ps) h) ∙ no_rows in
          rw (w.count, w.indices) (promised cs out (record { number = 0; count = length (hull ps) }) (over (hull ps) out) (huller-answered cs out done))

-- ---- two results that the promise allows are equal

pub unique : (cs : List Float) (old : List ℕ) (r s : Answer) (new new' : List ℕ) → Promise cs old r new → Promise cs old s new' → (r ≡ s) × (new ≡ new')
unique cs old r s new new' p q = (answers_equal r s (p.number ∙ sym q.number) (p.count ∙ sym q.count), p.indices ∙ sym q.indices)
