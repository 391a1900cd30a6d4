use mathlib.Core.Path.{◌∙◌}
use Rattle.seeing.proofs.Scans.{all_there, support-all}
use Rattle.seeing.proofs.farthest_of_all.Goals as goal

pub invariant_of-chosen : goal.invariant_of-chosen
invariant_of-chosen c = record { within = all_there _ _ c.requires.all }

pub returns : goal.returns
returns c = c.farthest.ensures ∙ support-all _ _ _ c.requires.all c.requires.some
