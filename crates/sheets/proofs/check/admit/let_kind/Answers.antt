-- `sheets::check::admit::let_kind` meets its contract. Assumes nothing.
use mathlib.Core.Path.{ap, ◌∙◌}
use Rattle.std.specs.Prelude.{Err}
use Rattle.std.proofs.lemmas.Result.{err_from_is_err_and}
use Rattle.sheets.proofs.check.LineKindSteps.{let-refused, let-barred, let-no-end, let-given}
use Rattle.sheets.proofs.check.admit.let_kind.Goals as goal

pub returns-then-is_barred : goal.returns-then-is_barred
returns-then-is_barred c = record { is = λ i d st. let-barred _ _ _ i d _ (c.kind_at.ensures.is d.known st) _ _ c.in_ok-kind.was _ (c.is_barred.ensures.is d.known st) c.if-is_barred.true }

pub returns-in_err-kind : goal.returns-in_err-kind
returns-in_err-kind c =
    let p = err_from_is_err_and c.from_residual.result c.from_residual.ensures.1 in rw (p.1 ∙ ap Err p.2) (record { is = λ i d st. let-refused _ _ _ i d _ (c.kind_at.ensures.is d.known st) _ c.in_err-kind.was })

pub returns-in_default : goal.returns-in_default
returns-in_default c = record { is = λ i d st. let-no-end _ _ _ i d _ (c.kind_at.ensures.is d.known st) _ _ c.in_ok-kind.was _ (c.is_barred.ensures.is d.known st) c.if-is_barred.false _ c.closing.ensures _ c.in_default.is }

pub returns : goal.returns
returns c = record { is = λ i d st. let-given _ _ _ i d _ (c.kind_at.ensures.is d.known st) _ _ c.in_ok-kind.was _ (c.is_barred.ensures.is d.known st) c.if-is_barred.false _ c.closing.ensures _ c.in-Some.is }
