-- `sheets::check::admit::short_kind` meets its contract. Assumes nothing.
use Rattle.sheets.proofs.check.LineKindSteps.{short-is, short-not}
use Rattle.sheets.proofs.check.admit.short_kind.Goals as goal

pub returns-then-is_short : goal.returns-then-is_short
returns-then-is_short c = short-is _ _ _ c.is_short.ensures c.if-is_short.true

pub returns : goal.returns
returns c = short-not _ _ _ c.is_short.ensures c.if-is_short.false
