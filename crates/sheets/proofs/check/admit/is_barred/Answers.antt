-- `sheets::check::admit::is_barred` meets its contract. Assumes nothing.
use mathlib.Core.Path.{subst, sym}
use Rattle.sheets.specs.code.check.Walking.{BarredWord}
use Rattle.sheets.proofs.check.LineKindSteps.{barred-operator, barred-looked}
use Rattle.sheets.proofs.check.admit.is_barred.Goals as goal

pub returns-then-opens : goal.returns-then-opens
returns-then-opens c = record { is = λ ps st. barred-operator _ _ _ c.opens.ensures c.if-opens.true }

pub returns : goal.returns
returns c = record { is = λ ps st. subst (BarredWord _ ps) (sym c.is_some.ensures) (barred-looked _ _ _ c.opens.ensures c.if-opens.false _ st _ c.kind.ensures) }
