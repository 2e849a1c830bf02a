-- `numbers::sine::quarters` meets its contract: of `candidate` only the test counts, by `tested` of `proofs/CeilLaw.antt`. Assumes nothing.
use lib.Ieee.{of_bits, of_int}
use Rattle.numbers.proofs.CeilLaw.{tested}
use Rattle.numbers.proofs.sine.quarters.Goals as goal

pub returns-then-f-y : goal.returns-then-f-y
unfolding of_bits of_int
returns-then-f-y c =
    tested c.candidate-k.result c.candidate-k.ensures c.args.y _ c.requires c.if-y-n.true c.if-f-y.true
