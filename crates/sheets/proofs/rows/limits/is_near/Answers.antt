-- `sheets::rows::limits::is_near` meets its contract. Assumes nothing.
use lib.Ieee.{of_bits}
use Rattle.numbers.specs.Ops.{decimal}
use Rattle.sheets.proofs.rows.limits.is_near.Goals as goal

pub returns : goal.returns
unfolding of_bits decimal
returns c = c.is_within.ensures
