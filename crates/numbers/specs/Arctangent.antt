-- Arctangent and arcsine as document 01 gives them for `std`'s.
use Rattle.std.specs.Prelude.{◌+◌, ◌*◌, Bool, ◌&&◌, Float}
use Rattle.std.specs.Float.Ieee as Ieee
use Rattle.numbers.specs.Ops.{◌⊕◌, ◌⊖◌, ◌⊗◌, ◌⊘◌, decimal, num, pick}
use Rattle.numbers.specs.Floats.{pi, sign_bit, abs}
use Rattle.numbers.specs.Sine.{alternating, polynomial}
use Rattle.numbers.specs.Root.{sqrt}

-- T(u)
unfoldable pub atan_poly : Float → Float
atan_poly u = u ⊗ polynomial (λ k. alternating k (2 * k + 1)) 22 (u ⊗ u)

-- A(t)
unfoldable pub atan_unit : Float → Float
atan_unit t = pick (Ieee.le t (decimal 41421356 8)) (atan_poly t) (pi ⊘ num 4 ⊕ atan_poly ((t ⊖ num 1) ⊘ (t ⊕ num 1)))

abbrev pub zero? : Float → Bool
zero? x = Ieee.eq x (num 0)

-- the base, from the magnitudes a of y and b of x
unfoldable pub atan_base : Float → Float → Float
atan_base a b = pick (zero? a && zero? b) (num 0) (pick (Ieee.le a b) (atan_unit (a ⊘ b)) (pi ⊘ num 2 ⊖ atan_unit (b ⊘ a)))

-- PI - v where x's sign bit is set
unfoldable pub turned_by : Bool → Float → Float
turned_by s v = pick s (pi ⊖ v) v

-- negated where y's sign bit is set
unfoldable pub negated_by : Bool → Float → Float
negated_by s v = pick s (Ieee.neg v) v

unfoldable pub atan2 : Float → Float → Float
atan2 y x = negated_by (sign_bit y) (turned_by (sign_bit x) (atan_base (abs y) (abs x)))

unfoldable pub asin : Float → Float
asin x = atan2 x (sqrt ((num 1 ⊖ x) ⊗ (num 1 ⊕ x)))
