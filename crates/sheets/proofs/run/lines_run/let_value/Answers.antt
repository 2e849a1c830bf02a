-- `sheets::run::lines_run::let_value` meets its contract. Assumes nothing.
use mathlib.Core.Path.{ap, ◌∙◌}
use Rattle.std.specs.Prelude.{Err}
use Rattle.std.proofs.lemmas.Result.{err_from_is_err_and}
use Rattle.sheets.proofs.run.RunParts.{or-stuck, or-place, let-not, let-is, let-unended}
use Rattle.sheets.proofs.run.lines_run.let_value.Goals as goal

pub returns-in_err-kind : goal.returns-in_err-kind
returns-in_err-kind c =
    let p = err_from_is_err_and c.from_residual.result c.from_residual.ensures.1 in rw (p.1 ∙ ap Err p.2) (let-not _ _ _ _ _ _ _ _ _ c.eval.ensures _ c.in_err-kind.was _)

pub returns-in_err-after : goal.returns-in_err-after
returns-in_err-after c = let-unended _ _ _ _ _ _ _ _ _ c.eval.ensures _ c.in_ok-kind.was _ c.closing.ensures (or-stuck _ _ c.ok_or.ensures.value _ c.in_err-after.was) _ _

pub returns : goal.returns
returns c = let-is _ _ _ _ _ _ _ _ _ c.eval.ensures _ c.in_ok-kind.was _ c.closing.ensures _ (or-place _ _ c.ok_or.ensures.value _ c.in_ok-after.was)
