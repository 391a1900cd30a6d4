-- `read_point_line` meets its contract: too long, another word, no point behind it, something behind the point, or a POINT line.
use Rattle.std.proofs.Common.{◌≡◌, ◌≢◌, rules, arith}
use Rattle.rules.specs.Text.{bytes}
use Rattle.decimals.proofs.Prefixes.{stripped, not_stripped}
use Rattle.wkt.proofs.WholeLines.{long_point, no_point_word, no_spot, not_ended, point_read}
use Rattle.wkt.proofs.read.read_point_line.Goals as goal

pub returns-then-line-gt-MOST_BYTES-clause-no_point : goal.returns-then-line-gt-MOST_BYTES-clause-no_point
returns-then-line-gt-MOST_BYTES-clause-no_point c = long_point _ c.if-line-gt-MOST_BYTES.true

pub returns-in_err-strip_prefix-clause-no_point : goal.returns-in_err-strip_prefix-clause-no_point
returns-in_err-strip_prefix-clause-no_point c = rw c.from_residual.ensures (no_point_word _ (not_stripped _ (bytes "POINT (") c.in_err-strip_prefix.ensures.cases))

pub returns-in_err-point-clause-no_point : goal.returns-in_err-point-clause-no_point
returns-in_err-point-clause-no_point c = rw c.from_residual-in_err-point.ensures (no_spot _ _ (stripped _ (bytes "POINT (") c.in_ok-strip_prefix.ensures.cases) c.in_err-point.ensures.no_point)

pub returns-then-ne-clause-no_point : goal.returns-then-ne-clause-no_point
returns-then-ne-clause-no_point c =
    let more : c.in_ok-point.point.rest.now ≢ bytes ")" = search rules in
    not_ended _ _ (stripped _ (bytes "POINT (") c.in_ok-strip_prefix.ensures.cases) c.in_ok-point.ensures.point more

pub returns-clause-point : goal.returns-clause-point
returns-clause-point c =
    let ended : c.in_ok-point.point.rest.now ≡ bytes ")" = search rules in
    point_read _ _ (stripped _ (bytes "POINT (") c.in_ok-strip_prefix.ensures.cases) c.in_ok-point.ensures.point (omega (arith, c.if-line-gt-MOST_BYTES.false)) ended
