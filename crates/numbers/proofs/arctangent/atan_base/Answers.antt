-- `numbers::arctangent::atan_base` meets its contract. Assumes nothing.
use Rattle.std.proofs.Common.{◌≡◌, Bool, true, false, ◌&&◌, refl, ap}
use lib.Ieee.{of_bits}
use Rattle.numbers.specs.Ops.{decimal}
use Rattle.numbers.specs.Arctangent.{atan_base, zero?}
use Rattle.numbers.proofs.arctangent.atan_base.Goals as goal
use Rattle.numbers.proofs.arctangent.atan_base.Goals.{Joined-else-a, else-a-via-then-a+else-b, else-a-via-else-a}

one-not : (a b : Bool) → b ≡ false → (a && b) ≡ false
one-not true b h = h
one-not false b h = refl

-- not both are zero, which each way past the first test says
not-both : (c : Joined-else-a) → (zero? c.args.a && zero? c.args.b) ≡ false
unfolding decimal of_bits
not-both c = elim c.else-a.branch [
  | else-a-via-then-a+else-b w ↦ one-not (zero? c.args.a) (zero? c.args.b) w.if-b.false
  | else-a-via-else-a w ↦ ap (λ (t : Bool). t && zero? c.args.b) w.if-a.false
]

pub returns-then-b : goal.returns-then-b
unfolding atan_base decimal of_bits
returns-then-b c = simp (c.if-a.true, c.if-b.true)

pub returns-then-a-b : goal.returns-then-a-b
unfolding atan_base decimal of_bits
returns-then-a-b c = simp (c.atan_unit.ensures, not-both (goal.at.returns-then-a-b c).Joined-else-a, c.if-a-b.true)

pub returns : goal.returns
unfolding atan_base decimal of_bits
returns c = simp (c.atan_unit-2.ensures, not-both (goal.at.returns c).Joined-else-a, c.if-a-b.false)
