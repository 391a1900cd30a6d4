use Rattle.std.proofs.Common.{rules}
use Rattle.rules.specs.Text.{bytes}
use Rattle.decimals.specs.Reads.{NoNumber}
use Rattle.decimals.proofs.Prefixes.{stripped, not_stripped}
use Rattle.decimals.proofs.Numbers.{number_plain, no_number_plain, number_minus, no_minus_zero, no_number_minus}
use Rattle.decimals.proofs.read.read_number.Goals as goal

pub returns-in_err-size-clause-no_number : goal.returns-in_err-size-clause-no_number
returns-in_err-size-clause-no_number c = rw c.from_residual.ensures (no_number_minus (stripped _ (bytes "-") c.in-Some.ensures.cases) c.in_err-size.ensures.no_natural)

pub returns-then-size-eq0-clause-no_number : goal.returns-then-size-eq0-clause-no_number
returns-then-size-eq0-clause-no_number c =
    let none : NoNumber c.args.text.now = no_minus_zero (stripped _ (bytes "-") c.in-Some.ensures.cases) c.in_ok-size.ensures.natural c.if-size-eq0.true in
    search rules

pub returns-in-Some-clause-number : goal.returns-in-Some-clause-number
returns-in-Some-clause-number c = number_minus (stripped _ (bytes "-") c.in-Some.ensures.cases) c.in_ok-size.ensures.natural c.if-size-eq0.false

pub returns-in_err-size-2-clause-no_number : goal.returns-in_err-size-2-clause-no_number
returns-in_err-size-2-clause-no_number c = rw c.from_residual-in_err-size-2.ensures (no_number_plain (not_stripped _ (bytes "-") c.in_default.ensures.cases) c.in_err-size-2.ensures.no_natural)

pub returns-clause-number : goal.returns-clause-number
returns-clause-number c = number_plain c.in_ok-size-2.ensures.natural
