use Rattle.std.proofs.Common.{arith, lit≤}
use Rattle.root.proofs.Digits.{set, clear, small, squared, last-small, last-squared, up, stay}
use Rattle.root.proofs.radicand.Radicand.by_digits.Goals as goal

pub loop-b-init : goal.loop-b-init
loop-b-init c = record { low = omega arith; high = c.args.self.high; room = lit≤ tt; places = lit≤ tt }

pub overflow_shl-t : goal.overflow_shl-t
overflow_shl-t c = omega (arith, c.loop-b.invariant.places)

pub overflow_add-t : goal.overflow_add-t
overflow_add-t c = omega (arith, small _ _ _ c.loop-b.invariant (omega arith))

pub overflow_mul-t : goal.overflow_mul-t
overflow_mul-t c = omega (arith, squared _ _ _ c.loop-b.invariant (omega arith))

pub loop-b-preserved-then-t-self : goal.loop-b-preserved-then-t-self
loop-b-preserved-then-t-self c = set _ _ _ c.loop-b.invariant (omega arith) c.if-t-self.true

pub loop-b-preserved : goal.loop-b-preserved
loop-b-preserved c = clear _ _ _ c.loop-b.invariant (omega arith) c.if-t-self.false

pub overflow_mul-k : goal.overflow_mul-k
overflow_mul-k c = omega (arith, last-squared _ _ _ c.loop-b.invariant (omega arith))

pub overflow_add-k : goal.overflow_add-k
overflow_add-k c = omega (arith, last-squared _ _ _ c.loop-b.invariant (omega arith), last-small _ _ _ c.loop-b.invariant (omega arith))

pub overflow_add-result : goal.overflow_add-result
overflow_add-result c = omega (arith, last-small _ _ _ c.loop-b.invariant (omega arith))

pub returns-then-k-self : goal.returns-then-k-self
returns-then-k-self c = up _ _ _ c.loop-b.invariant (omega arith) c.if-k-self.true

pub returns-else-k-self : goal.returns-else-k-self
returns-else-k-self c = stay _ _ _ c.loop-b.invariant (omega arith) c.args.self.low c.if-k-self.false
