-- `sheets::check::admit::admit` meets its contract. Assumes nothing.
use mathlib.Core.Path.{ap, ◌∙◌}
use Rattle.std.specs.Prelude.{Err}
use Rattle.sheets.specs.code.check.Walking.{unless_bad}
use Rattle.sheets.proofs.check.SecondLine.{behind-first}
use Rattle.sheets.proofs.check.AdmitSteps.{admit-no-head, admit-out-of-range, admit-in-range}
use Rattle.sheets.proofs.check.admit.admit.Goals as goal

pub returns-in_default : goal.returns-in_default
returns-in_default c = admit-no-head _ _ c.first_line.ensures _ c.in_default.is (ap Err c.at.ensures)

pub unless_bad-requires : goal.unless_bad-requires
unless_bad-requires c = behind-first _ _ c.first_line.ensures _ c.in-Some.is

pub walk_lines-requires : goal.walk_lines-requires
walk_lines-requires c = behind-first _ _ c.first_line.ensures _ c.in-Some.is

pub returns-in-None : goal.returns-in-None
returns-in-None c = admit-out-of-range _ _ c.first_line.ensures _ _ c.in-Some.is c.in-None.is (ap Err (c.unless_bad.ensures 0 ∙ ap (unless_bad _) c.at-in-None.ensures))

pub returns-in-Some-ellipsoid : goal.returns-in-Some-ellipsoid
returns-in-Some-ellipsoid c = admit-in-range _ _ c.first_line.ensures _ _ c.in-Some.is _ c.in-Some-ellipsoid.is c.walk_lines.ensures
