-- `sheets::reader::head::double_slot` meets its contract. Assumes nothing.
use mathlib.Core.Path.{sym, ap, ◌∙◌}
use Rattle.sheets.specs.code.reader.Views.{doubled_by, doubled}
use Rattle.sheets.proofs.reader.ReaderLaws.{spaced-is}
use Rattle.sheets.proofs.reader.PieceSteps.{spaced-none}
use Rattle.sheets.proofs.reader.head.double_slot.Goals as goal

pub returns-then-b-eq32 : goal.returns-then-b-eq32
returns-then-b-eq32 c = c.double.ensures ∙ ap doubled (sym (spaced-is _ _ _ c.byte-b.ensures.is _ c.if-b-eq32.true))

pub returns : goal.returns
unfolding doubled_by
returns c = ap doubled (sym (spaced-none _ _ _ c.byte-b.ensures.is _ c.if-b-eq32.false))
