-- `check_count` meets its contract, row by row.
use Prim.Native.Nat.{ℕ, ◌/◌, ◌%◌, ◌≤◌, ◌<◌}
use mathlib.Core.Path.{◌≡◌, sym, ◌∙◌}
use borrow.Author.Tests.{eq-eqb, ne_eqb, lt-ltb, le-ltb}
use lib.ListN.{drop}
use Rattle.rules.specs.Refusals.{first_refusal, count_checks}
use Rattle.rules.proofs.Rows.{row_on, row_off, no_rows}
use Rattle.grid.proofs.outline.check_count.Goals as goal

module _ (least most n : ℕ) where
  abbrev number : ℕ
  number = first_refusal (count_checks least most n)

  odd : n % 2 ≡ 1 → 1 ≡ number
  unfolding count_checks
  odd h = sym (row_on 1 _ (eq-eqb (n % 2) 1 h))

  module _ (even : n % 2 ≡ 1 → ⊥) where
    few : n / 2 < least → 2 ≡ number
    unfolding count_checks
    few h = sym (row_off 1 _ (ne_eqb (n % 2) 1 even) ∙ row_on 2 _ (lt-ltb (n / 2) least h))

    module _ (enough : least ≤ n / 2) where
      past_two : number ≡ first_refusal (drop 2 (count_checks least most n))
      unfolding count_checks
      past_two = row_off 1 _ (ne_eqb (n % 2) 1 even) ∙ row_off 2 _ (le-ltb (n / 2) least enough)

      many : most < n / 2 → 3 ≡ number
      unfolding count_checks
      many h = sym (past_two ∙ row_on 3 _ (lt-ltb most (n / 2) h))

      none : n / 2 ≤ most → 0 ≡ number
      unfolding count_checks
      none h = sym (past_two ∙ row_off 3 _ (le-ltb most (n / 2) h) ∙ no_rows)

pub returns-then-coordinates-eq1 : goal.returns-then-coordinates-eq1
returns-then-coordinates-eq1 c = odd _ _ _ c.if-coordinates-eq1.true

pub returns-then-n-least : goal.returns-then-n-least
returns-then-n-least c = few _ _ _ c.if-coordinates-eq1.false c.if-n-least.true

pub returns-then-most-n : goal.returns-then-most-n
returns-then-most-n c = many _ _ _ c.if-coordinates-eq1.false c.if-n-least.false c.if-most-n.true

pub returns : goal.returns
returns c = none _ _ _ c.if-coordinates-eq1.false c.if-n-least.false c.if-most-n.false
