-- `read_point` meets its contract: two numbers with a space between them, or the first place where something else stands.
use Rattle.rules.specs.Text.{bytes}
use Rattle.decimals.proofs.Prefixes.{stripped, not_stripped}
use Rattle.wkt.proofs.Spots.{no_first, no_space, no_second, spot_read}
use Rattle.wkt.proofs.read.read_point.Goals as goal

pub returns-in_err-x-clause-no_point : goal.returns-in_err-x-clause-no_point
returns-in_err-x-clause-no_point c = rw c.from_residual.ensures (no_first _ c.in_err-x.ensures.no_number)

pub returns-in_err-strip_prefix-clause-no_point : goal.returns-in_err-strip_prefix-clause-no_point
returns-in_err-strip_prefix-clause-no_point c =
    rw c.from_residual-in_err-strip_prefix.ensures (no_space c.in_ok-x.ensures.number (not_stripped _ (bytes " ") c.in_err-strip_prefix.ensures.cases))

pub returns-in_err-y-clause-no_point : goal.returns-in_err-y-clause-no_point
returns-in_err-y-clause-no_point c =
    rw c.from_residual-in_err-y.ensures (no_second c.in_ok-x.ensures.number (stripped _ (bytes " ") c.in_ok-strip_prefix.ensures.cases) c.in_err-y.ensures.no_number)

pub returns-clause-point : goal.returns-clause-point
returns-clause-point c = spot_read c.in_ok-x.ensures.number (stripped _ (bytes " ") c.in_ok-strip_prefix.ensures.cases) c.in_ok-y.ensures.number
