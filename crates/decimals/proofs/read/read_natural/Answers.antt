use Rattle.std.proofs.Common.{rules}
use Rattle.decimals.specs.Reads.{NoNatural}
use Rattle.decimals.proofs.Digits.{begun, further, natural-done, zero_alone, zero_before}
use Rattle.decimals.proofs.read.read_natural.Goals as goal

pub returns-in-Some-clause-no_natural : goal.returns-in-Some-clause-no_natural
returns-in-Some-clause-no_natural c =
    let none : NoNatural c.args.text.now = zero_before (rw c.if-first-eq0.true at c.in_ok-first.ensures.digit) c.in-Some.ensures.digit in
    search rules

pub returns-in-None-clause-natural : goal.returns-in-None-clause-natural
returns-in-None-clause-natural c = zero_alone (rw c.if-first-eq0.true at c.in_ok-first.ensures.digit) c.in-None.ensures.no_digit

pub loop-digit-init : goal.loop-digit-init
loop-digit-init c = begun c.in_ok-first.ensures.digit c.if-first-eq0.false

pub loop-digit-preserved : goal.loop-digit-preserved
loop-digit-preserved c = rw c.min-value.ensures (further c.loop-digit.invariant c.in-Some-read_digit.ensures.digit)

pub returns-clause-natural : goal.returns-clause-natural
returns-clause-natural c = natural-done c.loop-digit.invariant c.in_default.ensures.no_digit
