use Rattle.std.proofs.Common.{rules}
use Rattle.shift_log.proofs.Played.{step_at, step_kept}
use Rattle.shift_log.proofs.log.Log.play_line.Goals as goal

pub returns-clause-step : goal.returns-clause-step
returns-clause-step c = step_kept c.requires c.keep.ensures (step_at (search rules) c.step.ensures)
