-- `unfolding computed` under a theorem's signature has every definition here computed.
use Rattle.std.proofs.Common.{Bool, true}
use lib.Ieee as Ieee
use Rattle.numbers.specs.Ops.{decimal}
use Rattle.numbers.specs.Root.{heron, isqrt, halves, sqrt}
use Rattle.numbers.specs.Sine.{horner, alternating, factorial, sin_poly, cos_poly, ceil, mod4, turns, rest, sin_by, cos_by, reduced, sin, cos}
use Rattle.numbers.specs.Arctangent.{atan_poly, atan_unit, atan_base, turned_by, negated_by, atan2, asin}
use Rattle.numbers.specs.Powers.{cube_step, powf_third, powf_three_halves}
use Rattle.numbers.specs.Floats.{sign_bit, sign_digit, abs, clamp_unit, to_radians, to_degrees, near, near_zero, near_or_below, near_or_above}
use Rattle.numbers.specs.Angles.{raised, wrapped, normalised_to, normalised}
use Rattle.numbers.specs.Lengths.{length_abs}
use Rattle.numbers.specs.Vec.{unit_by, new_unit, cross_prod, cross_prod_unit, stable_cross_prod, stable_cross_prod_unit, orthogonal, orthogonal_to, unit}
use Rattle.numbers.specs.Mat.{transpose, vec_mul_mat, mat_mul}

unfoldable pub computed : Bool
unfolding Ieee.of_bits Ieee.to_bits Ieee.round Ieee.add Ieee.sub Ieee.mul Ieee.div Ieee.rem Ieee.neg Ieee.le Ieee.lt Ieee.eq Ieee.ne Ieee.of_int decimal heron isqrt halves sqrt horner alternating factorial sin_poly cos_poly ceil mod4 turns rest sin_by cos_by reduced sin cos atan_poly atan_unit atan_base turned_by negated_by atan2 asin cube_step powf_third powf_three_halves sign_bit sign_digit abs clamp_unit to_radians to_degrees near near_zero near_or_below near_or_above raised wrapped normalised_to normalised length_abs unit_by new_unit cross_prod cross_prod_unit stable_cross_prod stable_cross_prod_unit orthogonal orthogonal_to unit transpose vec_mul_mat mat_mul
computed = true
