-- `sheets::run::shown::Shown::new` meets its contract. Assumes nothing.
use mathlib.Core.Path.{ap}
use mathlib.Core.Bool.{false}
use lib.ListN.{replicate}
use lib.Ieee.{of_bits}
use Rattle.numbers.specs.Ops.{decimal}
use Rattle.numbers.specs.declared.Length.{Length}
use Rattle.sheets.proofs.run.shown.Shown.new.Goals as goal

pub returns : goal.returns
unfolding of_bits decimal
returns c = ap (λ (t : Length). record { places = replicate 96 false; sum = t }) c.from_metres.ensures
