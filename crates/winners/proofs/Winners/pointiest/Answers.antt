-- `Winners::pointiest` meets its contract.
use mathlib.Core.Path.{sym, ap, ◌∙◌}
use mathlib.Core.Bool.{Bool, cond}
use lib.Ieee.{neg, of_bits}
use Rattle.std.specs.Prelude.{Some}
use Rattle.rules.specs.Ear.{none, pointed}
use Rattle.winners.specs.Keys.{ear_in, node, corner_if, root_of}
use Rattle.winners.proofs.Winners.pointiest.Goals as goal

pub returns-then-root : goal.returns-then-root
unfolding neg of_bits root_of ear_in
returns-then-root c = sym (ap (λ (t : Bool). corner_if (cond t none (pointed (node c.args.self.now 1).key)) (node c.args.self.now 1).corner) c.if-root.true)

pub returns-else-root : goal.returns-else-root
unfolding neg of_bits root_of ear_in
returns-else-root c =
    ap Some c.from.ensures ∙ sym (ap (λ (t : Bool). corner_if (cond t none (pointed (node c.args.self.now 1).key)) (node c.args.self.now 1).corner) c.if-root.false)
