-- `sheets::check::admit::line_kind` meets its contract. Assumes nothing.
use mathlib.Core.Path.{ap, ◌∙◌}
use Rattle.std.specs.Prelude.{Err, Some}
use Rattle.std.proofs.lemmas.Result.{err_from_is_err_and}
use Rattle.sheets.proofs.check.LineKindSteps.{short-err, short-ok, line-nothing, line_word_lem, line-whole}
use Rattle.sheets.proofs.reader.LineSteps.{head-says}
use Rattle.sheets.proofs.check.admit.line_kind.Goals as goal

pub returns-in-None : goal.returns-in-None
returns-in-None c = record { is = λ i d st. line-nothing _ (head-says _ _ _ c.line_head.ensures _ c.in-None.is) i d _ }

pub returns-in_err-r-in-Some-Let : goal.returns-in_err-r-in-Some-Let
returns-in_err-r-in-Some-Let c =
    let p = err_from_is_err_and c.from_residual.result c.from_residual.ensures.1 in rw (p.1 ∙ ap Err p.2) (record { is = λ i d st. line_word_lem _ _ i d _ _ (head-says _ _ _ c.line_head.ensures _ (c.in-Some-Let.is ∙ ap Some c.in-Some-Let.field-0-is)) _ (c.let_kind.ensures.is i d st) _ (short-err _ _ _ c.in_err-r-in-Some-Let.was) })

pub returns-in_ok-r-in-Some-Let : goal.returns-in_ok-r-in-Some-Let
returns-in_ok-r-in-Some-Let c = record { is = λ i d st. line_word_lem _ _ i d _ _ (head-says _ _ _ c.line_head.ensures _ (c.in-Some-Let.is ∙ ap Some c.in-Some-Let.field-0-is)) _ (c.let_kind.ensures.is i d st) _ (short-ok _ _ _ c.in_ok-r-in-Some-Let.was _ c.short_kind.ensures) }

pub returns-in_err-r-in-Some-Whole : goal.returns-in_err-r-in-Some-Whole
returns-in_err-r-in-Some-Whole c =
    let p = err_from_is_err_and c.from_residual-in_err-r-in-Some-Whole.result c.from_residual-in_err-r-in-Some-Whole.ensures.1 in rw (p.1 ∙ ap Err p.2) (record { is = λ i d st. line-whole _ _ i d _ _ (head-says _ _ _ c.line_head.ensures _ (c.in-Some-Whole.is ∙ ap Some c.in-Some-Whole.field-0-is)) _ (c.whole_kind.ensures.is i d st) _ (short-err _ _ _ c.in_err-r-in-Some-Whole.was) })

pub returns-in_ok-r-in-Some-Whole : goal.returns-in_ok-r-in-Some-Whole
returns-in_ok-r-in-Some-Whole c = record { is = λ i d st. line-whole _ _ i d _ _ (head-says _ _ _ c.line_head.ensures _ (c.in-Some-Whole.is ∙ ap Some c.in-Some-Whole.field-0-is)) _ (c.whole_kind.ensures.is i d st) _ (short-ok _ _ _ c.in_ok-r-in-Some-Whole.was _ c.short_kind-in-Some-Whole.ensures) }
