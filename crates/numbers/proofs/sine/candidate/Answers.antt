-- `numbers::sine::candidate` meets its contract, which says only that the result is at most 128. Assumes nothing.
use Rattle.numbers.proofs.NoNan.{no_nan}
use Rattle.numbers.proofs.sine.candidate.Goals as goal

pub float_to_bits-result : goal.float_to_bits-result
float_to_bits-result c = no_nan _ c.if-s.false
