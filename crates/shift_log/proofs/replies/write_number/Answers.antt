use Rattle.std.proofs.Common.{arith}
use Rattle.decimals.proofs.Texts.{grew_as, grew_then}
use Rattle.shift_log.proofs.ReplyTexts.{natural-text, number_short, newline_fits}
use Rattle.shift_log.proofs.replies.write_number.Goals as goal

pub push-requires : goal.push-requires
push-requires c = newline_fits c.push_natural.ensures (number_short _ (omega arith)) c.requires

pub returns-clause-grew : goal.returns-clause-grew
returns-clause-grew c = grew_then (grew_as (natural-text c.args.n) c.push_natural.ensures) c.push.ensures
