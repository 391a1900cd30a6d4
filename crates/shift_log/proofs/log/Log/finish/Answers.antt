use Rattle.std.proofs.Common.{rules}
use Rattle.decimals.proofs.Texts.{wrote_at_last}
use Rattle.shift_log.proofs.Played.{none_left, finish_none, finish_some, finish_leaves}
use Rattle.shift_log.proofs.log.Log.finish.Goals as goal

pub returns-then-self-eq0-clause-finish : goal.returns-then-self-eq0-clause-finish
returns-then-self-eq0-clause-finish c = finish_none c.args.self.now.carried _ c.if-self-eq0.true

pub returns-then-self-eq0-clause-in_force : goal.returns-then-self-eq0-clause-in_force
returns-then-self-eq0-clause-in_force c = none_left c.args.self.now.carried _ c.if-self-eq0.true

pub returns-clause-finish : goal.returns-clause-finish
returns-clause-finish c =
    finish_some c.args.self.now.carried c.requires.coords_len c.if-self-eq0.false (rw c.line-line.ensures at c.step-reply.ensures)
    (wrote_at_last c.write_reply.ensures.grew.wrote (search rules))

pub returns-clause-in_force : goal.returns-clause-in_force
returns-clause-in_force c =
    finish_leaves c.args.self.now.carried c.requires.coords_len c.if-self-eq0.false (rw c.line-line.ensures at c.step-reply.ensures)
    (wrote_at_last c.write_reply.ensures.grew.wrote (search rules))
