-- `sheets::reader::lines::whole_head` meets its contract. Assumes nothing.
use Rattle.std.specs.Prelude.{Some}
use mathlib.Core.Path.{◌∙◌}
use Rattle.sheets.specs.declared.reader.lines.WholeLine.{WholeLine}
use Rattle.sheets.specs.declared.reader.lines.LineHead.{LineHead}
use Rattle.sheets.proofs.reader.LineSteps.{opens-show, opens-total, opens-apart, opens-none, unnamed, name-told, no-double, double-told}
use Rattle.sheets.specs.code.reader.Codes.{word_char, code_from}
use Rattle.sheets.specs.code.reader.Reader.{whole_rows}
use Rattle.sheets.proofs.reader.lines.whole_head.Goals as goal

pub returns-in_ok-name-in-973937 : goal.returns-in_ok-name-in-973937
unfolding word_char code_from
returns-in_ok-name-in-973937 c = name-told _ _ (λ y m. Some (LineHead.Whole (WholeLine.Show y) m)) _ (opens-show _ _ _ c.in-973937.is) _ c.one_word.ensures _ _ c.in_ok-name-in-973937.was

pub returns-in_err-name-in-973937 : goal.returns-in_err-name-in-973937
unfolding word_char code_from
returns-in_err-name-in-973937 c = rw c.from_residual.ensures (unnamed _ _ (λ y m. Some (LineHead.Whole (WholeLine.Show y) m)) _ (opens-show _ _ _ c.in-973937.is) _ c.one_word.ensures c.in_err-name-in-973937.was)

pub returns-in-38270444 : goal.returns-in-38270444
unfolding word_char code_from
returns-in-38270444 c = c.bare.ensures ∙ opens-total _ _ _ c.in-38270444.is

pub returns-in_ok-least-in-2686664 : goal.returns-in_ok-least-in-2686664
unfolding word_char code_from
returns-in_ok-least-in-2686664 c = double-told _ (λ y m. Some (LineHead.Whole (WholeLine.Apart y) m)) _ (opens-apart _ _ _ c.in-2686664.is) _ c.one_unsigned.ensures _ _ c.in_ok-least-in-2686664.was

pub returns-in_err-least-in-2686664 : goal.returns-in_err-least-in-2686664
unfolding word_char code_from
returns-in_err-least-in-2686664 c = rw c.from_residual-in_err-least-in-2686664.ensures (no-double _ (λ y m. Some (LineHead.Whole (WholeLine.Apart y) m)) _ (opens-apart _ _ _ c.in-2686664.is) _ c.one_unsigned.ensures c.in_err-least-in-2686664.was)

pub returns-in_default : goal.returns-in_default
unfolding word_char code_from whole_rows
returns-in_default c = opens-none _ _ _ (c.in_default.in_default-own.rest.0.0.1, (c.in_default.in_default-own.rest.0.1, (c.in_default.in_default-own.rest.1, tt)))
