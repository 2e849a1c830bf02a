-- `sheets::reader::lines::one_word` meets its contract. Assumes nothing.
use native.Mathlib.Omega.{arith}
use Rattle.sheets.proofs.reader.PieceSteps.{closing-none, closing-got}
use Rattle.sheets.proofs.reader.LineSteps.{no_name, lost-name, name-read, slot-inside}
use Rattle.sheets.proofs.reader.lines.one_word.Goals as goal

pub returns-in_err-code : goal.returns-in_err-code
returns-in_err-code c = rw c.from_residual.ensures (no_name _ _ _ c.word_slot.ensures _ c.in_err-code.was)

pub returns-in_err-next : goal.returns-in_err-next
returns-in_err-next c = rw c.from_residual-in_err-next.ensures (lost-name _ _ _ c.word_slot.ensures _ _ _ c.in_ok-code.was (λ w. closing-none w _ _ _ c.closing.ensures c.in_err-next.was))

pub overflow_add-name : goal.overflow_add-name
overflow_add-name c = omega (arith, slot-inside _ _ _ c.word_slot.ensures _ _ c.in_ok-code.was)

pub returns : goal.returns
returns c = name-read _ _ _ c.word_slot.ensures _ _ _ c.in_ok-code.was _ (λ w. closing-got w _ _ _ c.closing.ensures _ c.in_ok-next.was)
