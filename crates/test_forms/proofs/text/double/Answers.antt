-- `test_forms::text::double`: what is not different from itself has bits. Assumes nothing.
use Rattle.numbers.proofs.NoNan.{no_nan}
use Rattle.test_forms.proofs.text.double.Goals as goal

pub float_to_bits-bits : goal.float_to_bits-bits
float_to_bits-bits g c = no_nan c.args.x c.if-x.false
