-- `step` meets its contract: a POINT line, or what the setting of an outline says.
use Rattle.std.proofs.lemmas.Result.{err_from_is_err_and}
use Rattle.shift_log.proofs.Steps.{step-point}
use Rattle.shift_log.proofs.InForce.step.Goals as goal

pub returns-in_err-tell : goal.returns-in_err-tell
returns-in_err-tell c =
    let p = err_from_is_err_and c.from_residual.result c.from_residual.ensures.1 in
    rw (p.1, p.2) (step-point c.in-Some.ensures.point c.in_err-tell.ensures)

pub returns : goal.returns
returns c = step-point c.in-Some.ensures.point c.in_ok-tell.ensures
