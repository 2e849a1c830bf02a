-- `sheets::reader::lines::line_end` meets its contract. Assumes nothing.
use mathlib.Core.Path.{ap, ◌∙◌}
use Rattle.std.specs.Prelude.{Some}
use Rattle.sheets.proofs.reader.LineSteps.{end-bad, end_whole, end-no-expr, end-no-end, end-let}
use Rattle.sheets.proofs.reader.lines.line_end.Goals as goal

pub returns-in_err-n-in-Let : goal.returns-in_err-n-in-Let
returns-in_err-n-in-Let c = rw c.from_residual-in_err-n-in-Let.ensures (end-no-expr _ _ _ c.line_head.ensures _ _ (c.in_ok-h.was ∙ ap Some c.in-Let.is) _ c.expr.ensures c.in_err-n-in-Let.was)

pub returns-in_err-next-in-Let : goal.returns-in_err-next-in-Let
returns-in_err-next-in-Let c = rw c.from_residual-in_err-next-in-Let.ensures (end-no-end _ _ _ c.line_head.ensures _ _ (c.in_ok-h.was ∙ ap Some c.in-Let.is) _ c.expr.ensures _ c.in_ok-n-in-Let.was _ c.closing.ensures c.in_err-next-in-Let.was)

pub returns-in_err-h : goal.returns-in_err-h
returns-in_err-h c = rw c.from_residual.ensures (end-bad _ _ _ c.line_head.ensures c.in_err-h.was)

pub returns-in-Whole : goal.returns-in-Whole
returns-in-Whole c = end_whole _ _ _ c.line_head.ensures _ _ (c.in_ok-h.was ∙ ap Some c.in-Whole.is) _ c.short_end.ensures

pub returns-in_ok-next-in-Let : goal.returns-in_ok-next-in-Let
returns-in_ok-next-in-Let c = end-let _ _ _ c.line_head.ensures _ _ (c.in_ok-h.was ∙ ap Some c.in-Let.is) _ c.expr.ensures _ c.in_ok-n-in-Let.was _ c.closing.ensures _ c.in_ok-next-in-Let.was _ c.short_end-in-Let.ensures
