-- `sheets::run::laid::tested` meets its contract. Assumes nothing.
use mathlib.Core.Path.{refl, sym, ◌∙◌}
use Rattle.sheets.proofs.run.laid.tested.Goals as goal

pub returns-then-in_limit_at : goal.returns-then-in_limit_at
returns-then-in_limit_at c = rw (sym c.in_limit_at.ensures ∙ c.if-in_limit_at.true) refl

pub returns : goal.returns
returns c = rw (sym c.in_limit_at.ensures ∙ c.if-in_limit_at.false) refl
