-- The two powers that the Rust takes by `powf`, as document 01 gives them.
use Rattle.std.specs.Prelude.{Float}
use Rattle.numbers.specs.Ops.{◌⊖◌, ◌⊗◌, ◌⊘◌, num}
use Rattle.numbers.specs.Root.{sqrt}

-- one step towards the cube root of a: y - (y×y×y - a) / (3×y×y)
unfoldable pub cube_step : Float → Float → Float
cube_step a y = y ⊖ (y ⊗ y ⊗ y ⊖ a) ⊘ (num 3 ⊗ y ⊗ y)

-- powf(1/3): six steps from 1
unfoldable pub powf_third : Float → Float
powf_third a = cube_step a (cube_step a (cube_step a (cube_step a (cube_step a (cube_step a (num 1))))))

-- powf(3/2)
unfoldable pub powf_three_halves : Float → Float
powf_three_halves v = v ⊗ sqrt v
