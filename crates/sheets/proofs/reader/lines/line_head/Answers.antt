-- `sheets::reader::lines::line_head` meets its contract. Assumes nothing.
use Rattle.std.specs.Prelude.{Some}
use mathlib.Core.Path.{◌∙◌}
use Rattle.sheets.specs.declared.reader.lines.LineHead.{LineHead}
use Rattle.sheets.proofs.reader.LineSteps.{head-no-word, head_opened_lem, opens-let, opens-whole, unnamed, name-told}
use Rattle.sheets.specs.code.reader.Codes.{word_char, code_from}
use Rattle.sheets.proofs.reader.lines.line_head.Goals as goal

pub returns-in_err-code : goal.returns-in_err-code
returns-in_err-code c = rw c.from_residual.ensures (head-no-word _ _ _ c.line_word.ensures c.in_err-code.was)

pub returns-in_ok-name-in-16633 : goal.returns-in_ok-name-in-16633
unfolding word_char code_from
returns-in_ok-name-in-16633 c = name-told _ _ (λ y m. Some (LineHead.Let y m)) _ (opens-let _ _ _ c.in-16633.is) _ c.first_word.ensures _ _ c.in_ok-name-in-16633.was ∙ head_opened_lem _ _ _ c.line_word.ensures _ _ c.in_ok-code.was

pub returns-in_err-name-in-16633 : goal.returns-in_err-name-in-16633
unfolding word_char code_from
returns-in_err-name-in-16633 c = rw c.from_residual-in_err-name-in-16633.ensures (unnamed _ _ (λ y m. Some (LineHead.Let y m)) _ (opens-let _ _ _ c.in-16633.is) _ c.first_word.ensures c.in_err-name-in-16633.was ∙ head_opened_lem _ _ _ c.line_word.ensures _ _ c.in_ok-code.was)

pub returns-in_default : goal.returns-in_default
unfolding word_char code_from
returns-in_default c = c.whole_head.ensures ∙ opens-whole _ _ _ c.in_default.in_default-own.rest.1 ∙ head_opened_lem _ _ _ c.line_word.ensures _ _ c.in_ok-code.was
