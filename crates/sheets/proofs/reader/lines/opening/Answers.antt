-- `sheets::reader::lines::opening` meets its contract. Assumes nothing.
use Rattle.sheets.proofs.reader.PieceSteps.{open_none}
use Rattle.sheets.proofs.reader.ReaderLaws.{open_is}
use mathlib.Core.Path.{ap, sym, ◌∙◌}
use Rattle.sheets.specs.code.reader.Views.{coded}
use Rattle.sheets.proofs.reader.lines.opening.Goals as goal

pub returns-then-b-eq40 : goal.returns-then-b-eq40
returns-then-b-eq40 c = c.word.ensures ∙ ap coded (sym (open_is _ _ _ c.byte-b.ensures.is c.if-b-eq40.true))

pub returns : goal.returns
unfolding coded
returns c = ap coded (sym (open_none _ _ _ c.byte-b.ensures.is c.if-b-eq40.false))
