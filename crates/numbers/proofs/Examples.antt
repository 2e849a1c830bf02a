-- Some values of the definitions, by computation. Assumes nothing.
use Rattle.std.proofs.Common.{◌≡◌, ℕ, true, refl}
use lib.Ieee.{Float, nan, binary64, of_bits, to_bits, neg}
use Rattle.numbers.specs.Ops.{decimal, num}
use Rattle.numbers.specs.Root.{sqrt}
use Rattle.numbers.specs.Sine.{sin, cos}
use Rattle.numbers.specs.Floats.{pi, nearest}
use Rattle.numbers.specs.Arctangent.{atan2, asin}
use Rattle.numbers.specs.Powers.{powf_third, powf_three_halves}
use Rattle.numbers.specs.Angles.{angle, normalised}
use Rattle.numbers.specs.Vec.{raw, vec_div}
use Rattle.numbers.proofs.Computed.{computed}

abbrev bits : Float → ℕ
bits x = to_bits binary64 x

root-two : bits (sqrt (num 2)) ≡ 0x3ff6_a09e_667f_3bcd
unfolding computed
root-two = refl

-- the root of the smallest double, 2 ^ -1074, is 2 ^ -537
least-root : bits (sqrt (of_bits binary64 1)) ≡ 0x1e60_0000_0000_0000
unfolding computed
least-root = refl

root-below-zero : sqrt (neg (num 1)) ≡ nan
unfolding computed
root-below-zero = refl

-- the sine keeps minus zero, and has no value beyond 64
sine-minus-zero : bits (sin (neg (num 0))) ≡ 0x8000_0000_0000_0000
unfolding computed
sine-minus-zero = refl

sine-beyond : sin (of_bits binary64 0x4050_0000_0000_0001) ≡ nan
unfolding computed
sine-beyond = refl

cosine-half-turn : bits (cos pi) ≡ 0xbff0_0000_0000_0000
unfolding computed
cosine-half-turn = refl

-- a zero's sign bit is read: PI and minus PI
west : bits (atan2 (num 0) (neg (num 0))) ≡ 0x4009_21fb_5444_2d18
unfolding computed
west = refl

west-below : bits (atan2 (neg (num 0)) (neg (num 1))) ≡ 0xc009_21fb_5444_2d18
unfolding computed
west-below = refl

arcsine-one : bits (asin (num 1)) ≡ 0x3ff9_21fb_5444_2d18
unfolding computed
arcsine-one = refl

third-of-one : bits (powf_third (num 1)) ≡ 0x3ff0_0000_0000_0000
unfolding computed
third-of-one = refl

three-halves-of-four : bits (powf_three_halves (num 4)) ≡ 0x4020_0000_0000_0000
unfolding computed
three-halves-of-four = refl

-- a quotient of vectors has no minus zero: -0 / 3 is 0
quotient-minus-zero : bits (vec_div (raw (neg (num 0)) (num 1) (num 2)) (num 3)).x ≡ 0
unfolding computed
quotient-minus-zero = refl

-- `-0` is minus zero
minus-nothing : bits (nearest true 0 1) ≡ 0x8000_0000_0000_0000
unfolding computed
minus-nothing = refl

-- an angle a hair below zero comes to 0 where the sum would round to 2 PI, and to the number before 2 PI where it does not
hair-below : bits (normalised (angle (neg (decimal 1 17)))).0 ≡ 0
unfolding computed
hair-below = refl

two-hairs-below : bits (normalised (angle (neg (decimal 5 16)))).0 ≡ 0x4019_21fb_5444_2d17
unfolding computed
two-hairs-below = refl
