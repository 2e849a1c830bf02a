-- `sheets::reader::head::head` meets its contract. Assumes nothing.
use Rattle.sheets.proofs.reader.HeadSteps.{head-no-word, head-other, head-wgs, head-custom}
use Rattle.sheets.specs.code.reader.Codes.{word_char, code_from}
use Rattle.sheets.proofs.reader.head.head.Goals as goal

pub returns-in_err-code : goal.returns-in_err-code
returns-in_err-code c = rw c.from_residual.ensures (head-no-word _ _ c.opening.ensures c.in_err-code.was)

pub returns-in-Some : goal.returns-in-Some
unfolding word_char code_from
returns-in-Some c = head-wgs _ _ c.opening.ensures _ _ c.in_ok-code.was c.if-code-eq-ELLIPSOID.true _ c.wgs_end.ensures _ c.in-Some.is

pub returns-in-None : goal.returns-in-None
unfolding word_char code_from
returns-in-None c = head-custom _ _ c.opening.ensures _ _ c.in_ok-code.was c.if-code-eq-ELLIPSOID.true _ c.wgs_end.ensures c.in-None.is _ c.custom.ensures

pub returns : goal.returns
unfolding word_char code_from
returns c = head-other _ _ c.opening.ensures _ _ c.in_ok-code.was c.if-code-eq-ELLIPSOID.false
