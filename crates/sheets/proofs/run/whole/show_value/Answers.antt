-- `sheets::run::whole::show_value` meets its contract. Assumes nothing.
use mathlib.Core.Path.{ap, ◌∙◌}
use Rattle.std.specs.Prelude.{Err}
use Rattle.std.proofs.lemmas.Result.{err_from_is_err_and}
use Rattle.sheets.proofs.run.WholeParts.{show-out, show-in}
use Rattle.sheets.proofs.run.whole.show_value.Goals as goal

pub returns-in_err-n : goal.returns-in_err-n
returns-in_err-n c =
    let p = err_from_is_err_and c.from_residual.result c.from_residual.ensures.1 in rw (p.1 ∙ ap Err p.2) (show-out _ _ _ _ _ _ _ _ _ c.tested_line.ensures _ c.in_err-n.was)

pub returns : goal.returns
returns c = show-in _ _ _ _ _ _ _ _ _ c.tested_line.ensures _ c.in_ok-n.was _ c.keep.ensures.places c.keep.ensures.sum
