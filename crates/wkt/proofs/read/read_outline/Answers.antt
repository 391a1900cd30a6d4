-- `read_outline` meets its contract: too long, another word, or what the reading of the ring says.
use Rattle.std.proofs.Common.{arith}
use Rattle.std.proofs.lemmas.Option.{IfSome_then}
use Rattle.decimals.proofs.Prefixes.{stripped, not_stripped}
use Rattle.wkt.proofs.WholeLines.{if_none_then, long_outline, not_started, no_ring, outline_read}
use Rattle.wkt.proofs.read.read_outline.Goals as goal

pub returns-then-line-gt-MOST_BYTES-clause-no_outline : goal.returns-then-line-gt-MOST_BYTES-clause-no_outline
returns-then-line-gt-MOST_BYTES-clause-no_outline c = long_outline _ _ c.if-line-gt-MOST_BYTES.true

pub returns-in_err-strip_prefix-clause-no_outline : goal.returns-in_err-strip_prefix-clause-no_outline
returns-in_err-strip_prefix-clause-no_outline c = rw c.from_residual.ensures (not_started _ _ (not_stripped _ _ c.in_err-strip_prefix.ensures.cases))

pub returns-clause-outline : goal.returns-clause-outline
returns-clause-outline c =
    IfSome_then _ c.read_ring.ensures.ring (λ corners ring. outline_read _ _ _ (stripped _ _ c.in_ok-strip_prefix.ensures.cases) (omega (arith, c.if-line-gt-MOST_BYTES.false)) ring)

pub returns-clause-no_outline : goal.returns-clause-no_outline
returns-clause-no_outline c = if_none_then _ c.read_ring.ensures.no_ring (no_ring _ _ _ (stripped _ _ c.in_ok-strip_prefix.ensures.cases))
