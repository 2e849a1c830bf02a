-- `sheets::rows::value::empty_slot` meets its contract. Assumes nothing.
use mathlib.Core.Path.{refl}
use lib.Ieee.{of_bits}
use Rattle.numbers.specs.Ops.{decimal}
use Rattle.sheets.proofs.rows.value.empty_slot.Goals as goal

pub returns : goal.returns
unfolding of_bits decimal
returns c = refl
