-- `sheets::reader::bytes::word_char` meets its contract. Assumes nothing.
use native.Mathlib.Omega.{arith}
use Rattle.sheets.proofs.reader.CharSteps.{char-letter, char-digit, char-below, char-between, char-above, some-char, no_char}
use Rattle.sheets.proofs.reader.bytes.word_char.Goals as goal

pub returns-then-b-lt48 : goal.returns-then-b-lt48
returns-then-b-lt48 c = no_char _ _ _ (char-below c.args.b (omega arith))

pub returns-in-48-to-57 : goal.returns-in-48-to-57
returns-in-48-to-57 c = let e = char-digit c.args.b (omega arith) (omega arith) in some-char _ _ _ _ (omega (arith, e)) (omega arith) (omega (arith, e)) (omega (arith, e))

pub returns-in-97-to-122 : goal.returns-in-97-to-122
returns-in-97-to-122 c = let e = char-letter c.args.b (omega arith) (omega arith) in some-char _ _ _ _ (omega (arith, e)) (omega arith) (omega (arith, e)) (omega (arith, e))

pub returns-in_default-2 : goal.returns-in_default-2
returns-in_default-2 c = no_char _ _ _ (char-between c.args.b (omega arith) (omega arith))

pub returns-in_default-3 : goal.returns-in_default-3
returns-in_default-3 c = no_char _ _ _ (char-above c.args.b (omega arith))
