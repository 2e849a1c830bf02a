-- `sheets::check::admit::known_kind` meets its contract. Assumes nothing.
use Rattle.sheets.proofs.check.LineKindSteps.{known-not, known_is}
use Rattle.sheets.proofs.check.admit.known_kind.Goals as goal

pub returns-in_default : goal.returns-in_default
returns-in_default c = record { is = λ i d st. known-not _ i d st _ _ _ c.kind.ensures c.in_default.is }

pub returns : goal.returns
returns c = record { is = λ i d st. known_is _ i d st _ _ _ c.kind.ensures _ c.in-Some.is }
