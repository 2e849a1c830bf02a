-- `sheets::reader::bytes::digit` meets its contract. Assumes nothing.
use native.Mathlib.Omega.{arith}
use mathlib.Core.Path.{◌∙◌}
use Rattle.sheets.proofs.reader.CharSteps.{digit-in, digit-below, digit-above, some-digit, no_digit}
use Rattle.sheets.proofs.reader.bytes.digit.Goals as goal

pub returns-in-48-to-57 : goal.returns-in-48-to-57
returns-in-48-to-57 c = some-digit _ _ (digit-in c.args.b (omega arith) (omega arith) ∙ omega arith) (omega arith) (omega arith)

pub returns-in_default : goal.returns-in_default
returns-in_default c = no_digit _ (digit-below c.args.b (omega arith))

pub returns-in_default-2 : goal.returns-in_default-2
returns-in_default-2 c = no_digit _ (digit-above c.args.b (omega arith))
