-- `sheets::reader::lines::first_word` meets its contract. Assumes nothing.
use native.Mathlib.Omega.{arith}
use Rattle.sheets.proofs.reader.ReaderLaws.{spaced-is}
use Rattle.sheets.proofs.reader.PieceSteps.{spaced-none}
use Rattle.sheets.proofs.reader.LineSteps.{no_name, lost-name, name-read, slot-inside}
use Rattle.sheets.proofs.reader.lines.first_word.Goals as goal

pub returns-in_err-code : goal.returns-in_err-code
returns-in_err-code c = rw c.from_residual.ensures (no_name _ _ _ c.word_slot.ensures _ c.in_err-code.was)

pub overflow_add-name : goal.overflow_add-name
overflow_add-name c = omega (arith, slot-inside _ _ _ c.word_slot.ensures _ _ c.in_ok-code.was)

pub returns-then-b-eq32 : goal.returns-then-b-eq32
returns-then-b-eq32 c = name-read _ _ _ c.word_slot.ensures _ _ _ c.in_ok-code.was _ (λ w. spaced-is _ _ _ c.byte-b.ensures.is _ c.if-b-eq32.true)

pub returns : goal.returns
returns c = lost-name _ _ _ c.word_slot.ensures _ _ _ c.in_ok-code.was (λ w. spaced-none _ _ _ c.byte-b.ensures.is _ c.if-b-eq32.false)
