-- `sheets::check::first_line::first_line` meets its contract. Assumes nothing.
use Rattle.std.specs.Prelude.{Some}
use mathlib.Core.Path.{ap, ◌∙◌}
use Rattle.sheets.proofs.check.FirstLineSteps.{first-none, first-wgs, first-custom}
use Rattle.sheets.proofs.check.first_line.first_line.Goals as goal

pub returns-in_err-line : goal.returns-in_err-line
returns-in_err-line c = rw c.from_residual.ensures (first-none _ _ c.head.ensures c.in_err-line.was)

pub returns-in-Wgs84 : goal.returns-in-Wgs84
returns-in-Wgs84 c = first-wgs _ _ c.head.ensures _ _ (c.in_ok-line.was ∙ ap (λ z. Some (z, c.in_ok-line.next)) c.in-Wgs84.is) (ap (λ z. Some z) c.wgs84.ensures)

pub returns-in-Custom : goal.returns-in-Custom
returns-in-Custom c = first-custom _ _ c.head.ensures _ _ _ _ (c.in_ok-line.was ∙ ap (λ z. Some (z, c.in_ok-line.next)) c.in-Custom.is) c.by_numbers-ellipsoid.ensures
