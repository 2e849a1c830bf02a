-- Double arithmetic as the definitions write it.
-- Every step is one operation of IEEE 754 at binary64, rounded to the nearest double, ties to even. The operators bind as Rust's do.
use Rattle.std.specs.Prelude.{ℕ, ◌^◌, Bool, true, false, Float}
use Rattle.std.specs.Float.Ieee as Ieee
use Rattle.std.specs.Float.{binary64}

infixl 6 ◌⊕◌ ◌⊖◌
infixl 7 ◌⊗◌ ◌⊘◌
abbrev pub ◌⊕◌ : Float → Float → Float
x ⊕ y = Ieee.add binary64 x y

abbrev pub ◌⊖◌ : Float → Float → Float
x ⊖ y = Ieee.sub binary64 x y

abbrev pub ◌⊗◌ : Float → Float → Float
x ⊗ y = Ieee.mul binary64 x y

abbrev pub ◌⊘◌ : Float → Float → Float
x ⊘ y = Ieee.div binary64 x y

-- The double nearest to n / 10 ^ k, ties to even: 0.41421356 is `decimal 41421356 8`.
unfoldable pub decimal : ℕ → ℕ → Float
unfolding Ieee.round
decimal n k = Ieee.round binary64 false n (10 ^ k)

-- a whole number
abbrev pub num : ℕ → Float
num n = decimal n 0

-- the first where the test holds, and otherwise the second
abbrev pub pick : {A : Type 0} → Bool → A → A → A
pick true a b = a
pick false a b = b
