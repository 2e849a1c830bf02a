-- `numbers::arctangent::signed_one` meets its contract. Assumes nothing.
use Rattle.numbers.proofs.TurnLaws.{signed-one-is, one-no-nan}
use Rattle.numbers.proofs.arctangent.signed_one.Goals as goal

pub float_from_bits-result : goal.float_from_bits-result
float_from_bits-result c = one-no-nan c.args.s c.requires

pub returns : goal.returns
returns c = signed-one-is c.args.s c.requires
