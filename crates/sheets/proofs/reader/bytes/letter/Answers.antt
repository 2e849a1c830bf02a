-- `sheets::reader::bytes::letter` meets its contract. Assumes nothing.
use native.Mathlib.Omega.{arith}
use Rattle.sheets.proofs.reader.CharSteps.{letter-in, letter-below, letter-above, some-char, no_char}
use Rattle.sheets.proofs.reader.bytes.letter.Goals as goal

pub returns-in-97-to-122 : goal.returns-in-97-to-122
returns-in-97-to-122 c = let e = letter-in c.args.b (omega arith) (omega arith) in some-char _ _ _ _ (omega (arith, e)) (omega arith) (omega (arith, e)) (omega (arith, e))

pub returns-in_default : goal.returns-in_default
returns-in_default c = no_char _ _ _ (letter-below c.args.b (omega arith))

pub returns-in_default-2 : goal.returns-in_default-2
returns-in_default-2 c = no_char _ _ _ (letter-above c.args.b (omega arith))
