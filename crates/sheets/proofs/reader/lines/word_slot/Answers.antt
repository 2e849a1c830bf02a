-- `sheets::reader::lines::word_slot` meets its contract. Assumes nothing.
use Rattle.sheets.proofs.reader.PieceSteps.{spaced-none}
use Rattle.sheets.proofs.reader.ReaderLaws.{spaced-is}
use mathlib.Core.Path.{ap, sym, ◌∙◌}
use Rattle.sheets.specs.code.reader.Views.{coded}
use Rattle.sheets.proofs.reader.lines.word_slot.Goals as goal

pub returns-then-b-eq32 : goal.returns-then-b-eq32
returns-then-b-eq32 c = c.word.ensures ∙ ap coded (sym (spaced-is _ _ _ c.byte-b.ensures.is _ c.if-b-eq32.true))

pub returns : goal.returns
unfolding coded
returns c = ap coded (sym (spaced-none _ _ _ c.byte-b.ensures.is _ c.if-b-eq32.false))
