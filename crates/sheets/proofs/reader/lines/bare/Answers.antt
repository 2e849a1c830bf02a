-- `sheets::reader::lines::bare` meets its contract. Assumes nothing.
use mathlib.Core.Path.{ap, sym, ◌∙◌}
use Rattle.sheets.specs.code.reader.Views.{bare_head}
use Rattle.sheets.proofs.reader.lines.bare.Goals as goal

pub returns : goal.returns
unfolding bare_head
returns c = ap (bare_head _) (sym c.in_ok-next.was ∙ c.closing.ensures)

pub returns-in_err-next : goal.returns-in_err-next
unfolding bare_head
returns-in_err-next c = rw c.from_residual.ensures (ap (bare_head _) (sym c.in_err-next.was ∙ c.closing.ensures))
