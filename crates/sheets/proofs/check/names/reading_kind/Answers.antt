-- `sheets::check::names::reading_kind` meets its contract. Assumes nothing.
use Rattle.sheets.specs.code.reader.Codes.{word_char, code_from}
use Rattle.sheets.proofs.check.PassedLaws.{reading-before, reading-low, reading-between, reading-high, reading-behind}
use Rattle.sheets.proofs.check.names.reading_kind.Goals as goal

pub returns-then-code-lt-R0 : goal.returns-then-code-lt-R0
unfolding word_char code_from
returns-then-code-lt-R0 c = reading-before _ c.if-code-lt-R0.true

pub returns-then-code-le-R9 : goal.returns-then-code-le-R9
unfolding word_char code_from
returns-then-code-le-R9 c = reading-low _ c.if-code-lt-R0.false c.if-code-le-R9.true

pub returns-then-code-lt-R10 : goal.returns-then-code-lt-R10
unfolding word_char code_from
returns-then-code-lt-R10 c = reading-between _ c.if-code-le-R9.false c.if-code-lt-R10.true

pub returns-then-code-le-R15 : goal.returns-then-code-le-R15
unfolding word_char code_from
returns-then-code-le-R15 c = reading-high _ c.if-code-lt-R10.false c.if-code-le-R15.true

pub returns : goal.returns
unfolding word_char code_from
returns c = reading-behind _ c.if-code-le-R15.false
