-- The orientation of a frame's axes. orientation.rs.
use Rattle.std.specs.Prelude.{Bool, true, false}
use Rattle.std.specs.Float.Ieee as Ieee
use Rattle.numbers.specs.Ops.{num}
use Rattle.numbers.specs.Vec.{vec}
use Rattle.numbers.specs.Mat.{mat}
use Rattle.numbers.specs.declared.Mat33.{Mat33}
use Rattle.frames.specs.declared.Orientation.{Orientation}
use Rattle.frames.specs.declared.Orientation.TheVariants.{Enu, Ned, Body, Wan}

-- `is_z_up`
abbrev pub is_z_up : Orientation → Bool
is_z_up Enu = true
is_z_up Ned = false
is_z_up Body = false
is_z_up Wan = false

-- `align_to_z_down_matrix`: x and y change places, z its sign
unfoldable pub align_to_z_down : Mat33
align_to_z_down = mat (vec (num 0) (num 1) (num 0)) (vec (num 1) (num 0) (num 0)) (vec (num 0) (num 0) (Ieee.neg (num 1)))
