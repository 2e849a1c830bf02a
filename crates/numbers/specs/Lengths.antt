-- Lengths: a wrapped number, in metres. length.rs.
use Rattle.std.specs.Float.Ieee as Ieee
use Rattle.std.specs.Prelude.{Float}
use Rattle.numbers.specs.Ops.{◌⊕◌, ◌⊗◌, ◌⊘◌, num, pick}
use Rattle.numbers.specs.declared.Length.{Length}

abbrev pub metres : Float → Length
metres x = record { 0 = x }

-- an operator not spelled out in length.rs is that operation on the number held
abbrev pub length_neg : Length → Length
length_neg a = metres (Ieee.neg a.0)

abbrev pub length_add : Length → Length → Length
length_add a b = metres (a.0 ⊕ b.0)

-- a length times a number, and a number times a length
abbrev pub length_mul : Length → Float → Length
length_mul a k = metres (a.0 ⊗ k)

-- a length by a length
abbrev pub length_div : Length → Length → Float
length_div a b = a.0 ⊘ b.0

-- a length by a number
abbrev pub length_over : Length → Float → Length
length_over a k = metres (a.0 ⊘ k)

-- `abs`, which negates whatever is not at least zero
unfoldable pub length_abs : Length → Length
length_abs a = pick (Ieee.le (num 0) a.0) a (metres (Ieee.neg a.0))
