use Rattle.std.proofs.Common.{◌≡◌, rules, arith}
use Rattle.decimals.proofs.Texts.{grew_then, wrote-length}
use Rattle.shift_log.specs.declared.Reply.TheVariants.{At}
use Rattle.shift_log.proofs.replies.write_reply.Goals as goal

pub returns-in-Err-clause-grew : goal.returns-in-Err-clause-grew
returns-in-Err-clause-grew c = rw c.in-Err.is (rw c.into.ensures at c.write_number.ensures.grew)

pub push-requires : goal.push-requires
push-requires c = omega (arith, c.requires, c.write_place.ensures.at_most, wrote-length c.write_place.ensures.grew.wrote)

pub returns-in-Ok-At-clause-grew : goal.returns-in-Ok-At-clause-grew
returns-in-Ok-At-clause-grew c =
    let e : c.in-Ok-At.field-0 ≡ At c.in-Ok-At.position = search rules in
    rw (c.in-Ok-At.is, e) (grew_then c.write_place.ensures.grew c.push.ensures)
