-- `numbers::root::sqrt` meets its contract: by what `is_root` confirms, and else by `beside` or `plain`. Assumes nothing.
use Rattle.std.proofs.lemmas.Float.{T_from_true}
use Rattle.std.proofs.Common.{ap, ◌∙◌}
use lib.Ieee.{binary64}
use lib.Ieee.Bits.{of_bits-to_bits}
use Rattle.numbers.specs.Root.{sqrt}
use Rattle.numbers.proofs.NoNan.{no_nan}
use Rattle.numbers.proofs.root.sqrt.Goals as goal

pub float_to_bits-b : goal.float_to_bits-b
float_to_bits-b c = no_nan c.args.x c.if-x.false

pub returns-then-is_root : goal.returns-then-is_root
returns-then-is_root c = c.is_root.ensures c.if-is_root.true ∙ ap sqrt (of_bits-to_bits binary64 c.args.x (T_from_true _ c.well_formed.0.1))

pub beside-requires : goal.beside-requires
beside-requires c = of_bits-to_bits binary64 c.args.x (T_from_true _ c.well_formed.0.1)
