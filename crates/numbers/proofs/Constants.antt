-- The bit patterns that the code holds are the decimals that the definitions write. Assumes nothing.
use Rattle.std.proofs.Common.{◌≡◌, refl}
use lib.Ieee.{nan, binary64, of_bits, div, mul, neg}
use Rattle.numbers.specs.Ops.{◌⊗◌, ◌⊘◌, decimal, num}
use Rattle.numbers.specs.Floats.{pi, epsilon}

-- ---- document 01's decimals

two-over-pi : of_bits binary64 0x3fe4_5f30_6dc9_c883 ≡ decimal 6366197723675814 16
unfolding of_bits decimal
two-over-pi = refl

-- the quarter turn in two parts
quarter-high : of_bits binary64 0x3ff9_21fb_5440_0000 ≡ decimal 15707963267341256 16
unfolding of_bits decimal
quarter-high = refl

quarter-low : of_bits binary64 0x3dd0_b461_1a62_6331 ≡ decimal 6077100506506192 26
unfolding of_bits decimal
quarter-low = refl

eighth : of_bits binary64 0x3fda_8279_9770_9f7a ≡ decimal 41421356 8
unfolding of_bits decimal
eighth = refl

pub pi-is : of_bits binary64 0x4009_21fb_5444_2d18 ≡ pi
unfolding of_bits decimal
pi-is = refl

pub epsilon-is : of_bits binary64 0x3cb0_0000_0000_0000 ≡ epsilon
unfolding of_bits decimal
epsilon-is = refl

-- the factors of `to_radians` and `to_degrees`
radians : of_bits binary64 0x3f91_df46_a252_9d39 ≡ pi ⊘ num 180
unfolding of_bits decimal div
radians = refl

degrees : of_bits binary64 0x404c_a5dc_1a63_c1f8 ≡ num 180 ⊘ pi
unfolding of_bits decimal div
degrees = refl

-- ---- what the code evaluates beforehand

-- 0.0 / 0.0 is how the code writes a NaN
pub zero_by_zero : of_bits binary64 0 ⊘ of_bits binary64 0 ≡ nan
unfolding div of_bits
zero_by_zero = refl

-- `Angle::FULL_CIRCLE`, `QUARTER_CIRCLE`, `NEG_QUARTER_CIRCLE`
pub full-circle : of_bits binary64 0x4019_21fb_5444_2d18 ≡ num 2 ⊗ pi
unfolding of_bits decimal mul
full-circle = refl

pub quarter-circle : of_bits binary64 0x3ff9_21fb_5444_2d18 ≡ pi ⊘ num 2
unfolding of_bits decimal div
quarter-circle = refl

pub neg-quarter-circle : of_bits binary64 0xbff9_21fb_5444_2d18 ≡ neg pi ⊘ num 2
unfolding of_bits decimal div neg
neg-quarter-circle = refl
