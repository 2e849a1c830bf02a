-- `sheets::reader::head::wgs_end` meets its contract. Assumes nothing.
use Rattle.sheets.proofs.reader.HeadSteps.{wgs-no-word, wgs-word, wgs-other}
use Rattle.sheets.specs.code.reader.Codes.{word_char, code_from}
use Rattle.sheets.proofs.reader.head.wgs_end.Goals as goal

pub returns-in_err-name : goal.returns-in_err-name
returns-in_err-name c = rw c.from_residual.ensures (wgs-no-word _ _ _ c.one_word.ensures c.in_err-name.was)

pub returns-then-name-eq-WGS84 : goal.returns-then-name-eq-WGS84
unfolding word_char code_from
returns-then-name-eq-WGS84 c = wgs-word _ _ _ c.one_word.ensures _ _ c.in_ok-name.was c.if-name-eq-WGS84.true

pub returns : goal.returns
unfolding word_char code_from
returns c = wgs-other _ _ _ c.one_word.ensures _ _ c.in_ok-name.was c.if-name-eq-WGS84.false
