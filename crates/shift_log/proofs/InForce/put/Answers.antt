use Rattle.std.proofs.Common.{sym}
use Rattle.shift_log.proofs.Steps.{put_off, put_little, put_done, copied_over}
use Rattle.shift_log.proofs.InForce.put.Goals as goal

pub returns-then-off_grid : goal.returns-then-off_grid
returns-then-off_grid c = put_off _ _ _ (sym c.if-off_grid.ensures)

pub returns-then-self-own : goal.returns-then-self-own
returns-then-self-own c = put_little _ _ _ (sym c.if-off_grid.ensures) c.if-self-own.true

pub returns : goal.returns
returns c = put_done _ _ _ (sym c.if-off_grid.ensures) c.if-self-own.false (copied_over _ _ c.copy_from_slice.ensures.after)
