use Rattle.std.proofs.Common.{refl, rules, arith}
use Rattle.lines.proofs.Keeping.{kept_up_to}
use Rattle.lines.proofs.carried.Carried.keep.Goals as goal

pub returns : goal.returns
returns c = record {
  line = kept_up_to _ _ c.args.more.now c.args.self.now.held_in_bounds c.min-n.ensures c.copy_from_slice.ensures.after (grind arith);
  len = search rules;
  same_bytes = refl;
}
