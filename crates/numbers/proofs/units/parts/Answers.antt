-- `numbers::units::parts` meets its contract. Assumes nothing.
use Rattle.std.proofs.Common.{sym, ◌∙◌, mul-one, arith}
use Rattle.numbers.proofs.Values.{subnormal, normal}
use Rattle.numbers.proofs.units.parts.Goals as goal

pub returns-then-b-lt-TWO_52 : goal.returns-then-b-lt-TWO_52
returns-then-b-lt-TWO_52 c = record { is = subnormal _ c.if-b-lt-TWO_52.true ∙ sym (mul-one _); short = omega arith; some = λ h. h; field = omega arith }

pub returns : goal.returns
returns c = record { is = normal _ c.if-b-lt-TWO_52.false; short = omega arith; some = λ h. omega arith; field = omega arith }
