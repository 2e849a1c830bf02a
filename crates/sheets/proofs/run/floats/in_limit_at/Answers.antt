-- `sheets::run::floats::in_limit_at` meets its contract. Assumes nothing.
use mathlib.Core.Path.{sym, ◌∙◌}
use mathlib.Core.Logic.{⊎_elim}
use lib.Ieee.{of_bits}
use Rattle.numbers.specs.Ops.{decimal}
use Rattle.sheets.specs.Limits.{in_limit}
use Rattle.sheets.specs.code.run.Floats.{value_at}
use Rattle.sheets.proofs.run.FloatLays.{three-limit}
use Rattle.sheets.proofs.run.floats.in_limit_at.Goals as goal

pub returns-in-0 : goal.returns-in-0
unfolding in_limit value_at
returns-in-0 c = ⊎_elim (λ e. rw e c.is_near.ensures) (λ e. rw e c.is_near.ensures) c.in-0.is

pub returns-in-1 : goal.returns-in-1
unfolding in_limit value_at of_bits decimal
returns-in-1 c = rw c.in-1.is c.is_within.ensures

pub returns-in-4 : goal.returns-in-4
unfolding in_limit value_at
returns-in-4 c = rw c.in-4.is c.is_near-in-4.ensures

pub returns-in_default : goal.returns-in_default
returns-in_default c = c.are_near.ensures ∙ sym (three-limit _ c.in_default.in_default-own.rest.0.0.1 c.in_default.in_default-own.rest.0.1 c.in_default.in_default-own.rest.1 _ _)
