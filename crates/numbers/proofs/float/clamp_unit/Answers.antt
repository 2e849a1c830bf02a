-- `numbers::float::clamp_unit` meets its contract. Assumes nothing.
use Rattle.std.proofs.Common.{◌≡◌, Bool, true, false, cond, refl, ◌∙◌}
use lib.Ieee as Ieee
use lib.Ieee.{Float, of_bits}
use Rattle.numbers.specs.Ops.{decimal, num, pick}
use Rattle.numbers.specs.Floats.{clamp_unit}
use Rattle.numbers.proofs.float.clamp_unit.Goals as goal

-- the library's choice is that of the definitions
chosen : (b d : Bool) (x y z : Float) → cond b x (cond d y z) ≡ pick b x (pick d y z)
chosen true d x y z = refl
chosen false true x y z = refl
chosen false false x y z = refl

pub returns : goal.returns
unfolding of_bits decimal clamp_unit
returns c =
    let x = c.args.x in
    c.clamp.ensures.value ∙ chosen (Ieee.lt x (Ieee.neg (num 1))) (Ieee.lt (num 1) x) (Ieee.neg (num 1)) (num 1) x
