-- `sheets::reader::form::form` meets its contract. Assumes nothing.
use mathlib.Core.Path.{◌∙◌}
use Rattle.sheets.proofs.reader.Told.{headed-none, headed-got}
use Rattle.sheets.proofs.reader.LineNumbers.{number-two}
use Rattle.sheets.proofs.reader.FormSteps.{form-no-head, form-whole}
use Rattle.sheets.proofs.reader.form.form.Goals as goal

pub form_from-requires : goal.form_from-requires
form_from-requires c = number-two _ _ _ (headed-got _ _ c.head.ensures _ _ c.in-Some.is).1

pub returns-in_default : goal.returns-in_default
returns-in_default c = form-no-head _ (headed-none _ _ c.head.ensures c.in_default.is)

pub returns : goal.returns
returns c = c.form_from.ensures 0 ∙ form-whole _ _ _ (headed-got _ _ c.head.ensures _ _ c.in-Some.is).1
