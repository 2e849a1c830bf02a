-- `sheets::run::oriented_rows::axis_in` meets its contract. Assumes nothing.
use mathlib.Core.Path.{refl}
use Rattle.sheets.specs.Text.{ascii}
use Rattle.sheets.specs.code.reader.Codes.{word_char, code_from, code_of}
use Rattle.sheets.specs.code.run.Evaluating.{axis_in}
use Rattle.sheets.proofs.run.ArmSteps.{third}
use Rattle.sheets.proofs.run.oriented_rows.axis_in.Goals as goal

pub returns-in-692 : goal.returns-in-692
unfolding axis_in word_char code_from
returns-in-692 c = rw c.in-692.is refl

pub returns-in-691 : goal.returns-in-691
unfolding axis_in word_char code_from
returns-in-691 c = rw c.in-691.is refl

pub returns-in_default : goal.returns-in_default
unfolding axis_in word_char code_from
returns-in_default c = third (code_of (ascii "rz")) (code_of (ascii "ry")) _ _ _ _ c.in_default.in_default-own.rest.0.1 c.in_default.in_default-own.rest.1
