-- The smaller methods of `f64` that the Rust uses, and its `numbers.rs`.
use Rattle.std.specs.Prelude.{ℕ, Bool, false, cond, ◌||◌, Float}
use Rattle.std.specs.Float.Ieee as Ieee
use Rattle.std.specs.Float.{nan, inf, fin, binary64}
use Rattle.numbers.specs.Ops.{◌⊖◌, ◌⊗◌, ◌⊘◌, decimal, num, pick}

-- PI as a double
abbrev pub pi : Float
pi = decimal 3141592653589793 15

-- whether the sign bit is set; a NaN's is open, and counts as clear
unfoldable pub sign_bit : Float → Bool
sign_bit nan = false
sign_bit (inf s) = s
sign_bit (fin s m e) = s

-- the same as a digit
unfoldable pub sign_digit : Float → ℕ
sign_digit x = cond (sign_bit x) 1 0

-- `abs`
unfoldable pub abs : Float → Float
abs nan = nan
abs (inf s) = inf false
abs (fin s m e) = fin false m e

-- `clamp(-1.0, 1.0)`; a NaN stays
unfoldable pub clamp_unit : Float → Float
clamp_unit x = pick (Ieee.lt x (Ieee.neg (num 1))) (Ieee.neg (num 1)) (pick (Ieee.lt (num 1) x) (num 1) x)

-- `to_radians`, `to_degrees`: one product with the double PI / 180, or 180 / PI
unfoldable pub to_radians : Float → Float
to_radians x = x ⊗ (pi ⊘ num 180)

unfoldable pub to_degrees : Float → Float
to_degrees x = x ⊗ (num 180 ⊘ pi)

-- Rust's `%`: exact, with the sign of x
abbrev pub remainder : Float → Float → Float
remainder x y = Ieee.rem binary64 x y

-- The double nearest to n / d with the sign s, ties to even: what a NUM of a sheet is, minus zero kept.
abbrev pub nearest : Bool → ℕ → ℕ → Float
nearest s n d = Ieee.round binary64 s n d

-- n and d, each as the double nearest to it, divided, and negated where s: n / 0 is an infinity, and 0 / 0 a NaN. Where both are at most 2 ^ 53 and d is not 0, it is `nearest s n d`.
unfoldable pub divided : Bool → ℕ → ℕ → Float
divided s n d = pick s (Ieee.neg (num n ⊘ num d)) (num n ⊘ num d)

-- ---- numbers.rs

-- `f64::EPSILON`, 2^-52
abbrev pub epsilon : Float
epsilon = decimal 2220446049250313 31

-- `eq`, `eq_zero`, `lte`, `gte`: as numbers, up to epsilon
unfoldable pub near : Float → Float → Bool
near left right = Ieee.le (abs (right ⊖ left)) epsilon

unfoldable pub near_zero : Float → Bool
near_zero f = near f (num 0)

unfoldable pub near_or_below : Float → Float → Bool
near_or_below left right = Ieee.le left right || near left right

unfoldable pub near_or_above : Float → Float → Bool
near_or_above left right = Ieee.le right left || near left right
