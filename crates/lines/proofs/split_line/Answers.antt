use Rattle.std.proofs.Common.{arith}
use Rattle.lines.proofs.FirstLine.{none_there, around, parted_at}
use Rattle.lines.proofs.split_line.Goals as goal

pub returns-in_err-n-clause-no_newline : goal.returns-in_err-n-clause-no_newline
returns-in_err-n-clause-no_newline c = rw c.from_residual.ensures (none_there c.args.bytes.now c.in_err-n.ensures)

pub returns-clause-line : goal.returns-clause-line
returns-clause-line c = (around c.args.bytes.now c.in_ok-n.ensures).line

pub returns-clause-parts : goal.returns-clause-parts
returns-clause-parts c = parted_at c.args.bytes.now (omega arith) (around c.args.bytes.now c.in_ok-n.ensures)
