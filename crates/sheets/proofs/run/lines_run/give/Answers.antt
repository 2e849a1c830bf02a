-- `sheets::run::lines_run::give` meets its contract. Assumes nothing.
use mathlib.Core.Path.{refl}
use Rattle.sheets.proofs.run.lines_run.give.Goals as goal

pub returns : goal.returns
returns c = record { slot_is = rw c.value_at-value.ensures refl; names_are = c.give.ensures }
