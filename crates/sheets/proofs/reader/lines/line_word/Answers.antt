-- `sheets::reader::lines::line_word` meets its contract. Assumes nothing.
use native.Mathlib.Omega.{arith}
use mathlib.Core.Path.{sym, ◌∙◌}
use Rattle.sheets.specs.code.reader.Codes.{word_char, code_from}
use Rattle.sheets.proofs.reader.StandSteps.{stands-begun, opened-show, opened-let, opened-total}
use Rattle.sheets.proofs.reader.lines.line_word.Goals as goal

pub overflow_add-result : goal.overflow_add-result
overflow_add-result c = omega (arith, (stands-begun _ _ _ (sym c.stands.ensures ∙ c.if-stands.true)).2)

pub returns-then-stands : goal.returns-then-stands
unfolding word_char code_from
returns-then-stands c = opened-show _ _ _ (stands-begun _ _ _ (sym c.stands.ensures ∙ c.if-stands.true)).1

pub overflow_add-result-then-stands-2 : goal.overflow_add-result-then-stands-2
overflow_add-result-then-stands-2 c = omega (arith, (stands-begun _ _ _ (sym c.stands-2.ensures ∙ c.if-stands-2.true)).2)

pub returns-then-stands-2 : goal.returns-then-stands-2
unfolding word_char code_from
returns-then-stands-2 c = opened-let _ _ _ (stands-begun _ _ _ (sym c.stands-2.ensures ∙ c.if-stands-2.true)).1

pub overflow_add-result-then-stands-3 : goal.overflow_add-result-then-stands-3
overflow_add-result-then-stands-3 c = omega (arith, (stands-begun _ _ _ (sym c.stands-3.ensures ∙ c.if-stands-3.true)).2)

pub returns-then-stands-3 : goal.returns-then-stands-3
unfolding word_char code_from
returns-then-stands-3 c = opened-total _ _ _ (stands-begun _ _ _ (sym c.stands-3.ensures ∙ c.if-stands-3.true)).1

pub returns : goal.returns
returns c = c.opening.ensures
