-- Angles: a wrapped number, in radians. angle.rs.
use Rattle.std.specs.Prelude.{Bool, ◌&&◌, List, [], ◌∷◌, Float}
use Rattle.std.specs.Float.Ieee as Ieee
use Rattle.numbers.specs.Ops.{◌⊕◌, ◌⊗◌, ◌⊘◌, num, pick}
use Rattle.numbers.specs.Floats.{pi, epsilon, abs, to_radians, to_degrees, remainder}
use Rattle.numbers.specs.declared.Angle.{Angle}

abbrev pub angle : Float → Angle
angle x = record { 0 = x }

-- `FULL_CIRCLE`, `HALF_CIRCLE`, `QUARTER_CIRCLE` and the negatives
abbrev pub full_circle : Angle
full_circle = angle (num 2 ⊗ pi)

abbrev pub half_circle : Angle
half_circle = angle pi

abbrev pub neg_half_circle : Angle
neg_half_circle = angle (Ieee.neg pi)

abbrev pub quarter_circle : Angle
quarter_circle = angle (pi ⊘ num 2)

abbrev pub neg_quarter_circle : Angle
neg_quarter_circle = angle (Ieee.neg pi ⊘ num 2)

-- `ZERO`, the circles and `DBL_EPSILON`
abbrev pub constants : List Angle
constants = angle (num 0) ∷ quarter_circle ∷ neg_quarter_circle ∷ half_circle ∷ neg_half_circle ∷ full_circle ∷ angle epsilon ∷ []

-- `from_degrees`, `as_degrees`
abbrev pub from_degrees : Float → Angle
from_degrees x = angle (to_radians x)

abbrev pub as_degrees : Angle → Float
as_degrees a = to_degrees a.0

abbrev pub angle_abs : Angle → Angle
angle_abs a = angle (abs a.0)

-- an operator not spelled out in angle.rs is that operation on the number held
abbrev pub angle_neg : Angle → Angle
angle_neg a = angle (Ieee.neg a.0)

abbrev pub angle_eq : Angle → Angle → Bool
angle_eq a b = Ieee.eq a.0 b.0

-- A remainder r below zero is moved up by max. For a max above zero, where the sum rounds to max itself, the answer is 0; the Rust's is max.
unfoldable pub raised : Float → Float → Float
raised r max = pick (Ieee.lt (num 0) max && Ieee.eq (r ⊕ max) max) (num 0) (r ⊕ max)

-- the remainder of a by max, moved up where it is below zero
unfoldable pub wrapped : Float → Float → Angle
wrapped a max = pick (Ieee.lt (remainder a max) (num 0)) (angle (raised (remainder a max) max)) (angle (remainder a max))

-- `normalised_to`
unfoldable pub normalised_to : Angle → Angle → Angle
normalised_to a max = pick (Ieee.le (num 0) a.0 && Ieee.lt a.0 max.0) a (wrapped a.0 max.0)

-- `normalised`
unfoldable pub normalised : Angle → Angle
normalised a = normalised_to a full_circle
