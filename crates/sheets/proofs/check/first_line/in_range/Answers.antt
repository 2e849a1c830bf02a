-- `sheets::check::first_line::in_range` meets its contract. Assumes nothing.
use mathlib.Core.Path.{sym, ◌∙◌}
use lib.Ieee.{of_bits}
use Rattle.numbers.specs.Ops.{decimal}
use Rattle.sheets.proofs.check.first_line.in_range.Goals as goal

pub returns-then-is_between : goal.returns-then-is_between
unfolding of_bits decimal
returns-then-is_between c = rw (sym c.is_between.ensures ∙ c.if-is_between.true) c.is_between-then-is_between.ensures

pub returns-else-is_between : goal.returns-else-is_between
unfolding of_bits decimal
returns-else-is_between c = rw (sym c.is_between.ensures ∙ c.if-is_between.false) c.if-is_between.false
