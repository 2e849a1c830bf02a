-- `sheets::rows::limits::is_far` meets its contract. Assumes nothing.
use mathlib.Core.Path.{refl}
use lib.Ieee.{of_bits}
use Rattle.numbers.specs.Ops.{decimal}
use Rattle.sheets.specs.Table.{far}
use Rattle.sheets.proofs.rows.limits.is_far.Goals as goal

pub returns : goal.returns
unfolding far of_bits decimal
returns c = rw (c.q_of.ensures, c.p_of.ensures, c.as_metres-v.ensures) refl
