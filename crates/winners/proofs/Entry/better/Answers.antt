-- `Entry::better` meets its contract.
use Rattle.winners.proofs.Nodes.{better_entry}
use Rattle.winners.proofs.Entry.better.Goals as goal

pub returns-then-self-later : goal.returns-then-self-later
returns-then-self-later c = better_entry c.args.self c.args.later _ c.requires.0 c.requires.1 c.if-self-later.true

pub returns-else-self-later : goal.returns-else-self-later
returns-else-self-later c = better_entry c.args.self c.args.later _ c.requires.0 c.requires.1 c.if-self-later.false
