use Rattle.lines.proofs.FirstLine.{line_taken}
use Rattle.lines.proofs.line_end.Goals as goal

pub returns-clause-line : goal.returns-clause-line
returns-clause-line c = rw c.unwrap_or.ensures (line_taken c.args.bytes.now c.newline.ensures)
