-- `sheets::run::laid::laid` meets its contract. Assumes nothing.
use Rattle.std.proofs.lemmas.Result.{err_from_is_err_and}
use Rattle.sheets.proofs.run.LaidSteps.{laid-value, laid-unapplied}
use Rattle.sheets.proofs.run.laid.laid.Goals as goal

pub returns-in_err-x : goal.returns-in_err-x
returns-in_err-x g c =
    let p = err_from_is_err_and c.from_residual.result c.from_residual.ensures.1 in rw (p.1, c.in_err-x.was) (laid-unapplied _ _ _ _ p.2)

pub returns : goal.returns
returns g c = rw c.in_ok-x.was (laid-value _ _ _ _ _ c.lay-kind.ensures _ c.tested.ensures)
