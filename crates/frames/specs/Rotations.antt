-- Rotation matrices and their angles: the functions at the end of frame.rs.
use Rattle.std.specs.Float.Ieee as Ieee
use Rattle.numbers.specs.Ops.{◌⊕◌, ◌⊗◌, ◌⊘◌, num}
use Rattle.numbers.specs.Root.{sqrt}
use Rattle.numbers.specs.Sine.{sin, cos}
use Rattle.numbers.specs.Arctangent.{atan2}
use Rattle.numbers.specs.Angles.{angle, angle_neg}
use Rattle.numbers.specs.Vec.{vec}
use Rattle.numbers.specs.Mat.{mat, transpose}
use Rattle.numbers.specs.declared.Angle.{Angle}
use Rattle.numbers.specs.declared.Mat33.{Mat33}
use Rattle.frames.specs.declared.Xyz.{Xyz}
use Rattle.frames.specs.declared.Zyx.{Zyx}

-- the angles of a rotation matrix, about the x, the new y and the newest z axis
unfoldable pub r2xyz : Mat33 → Xyz
r2xyz m =
    let v00 = m.r0.x in
    let v01 = m.r0.y in
    let v12 = m.r1.z in
    let v22 = m.r2.z in
    let sy = m.r0.z in
    let cy = sqrt ((v00 ⊗ v00 ⊕ v01 ⊗ v01 ⊕ v12 ⊗ v12 ⊕ v22 ⊗ v22) ⊘ num 2) in
    record { x = angle (Ieee.neg (atan2 v12 v22)); y = angle (atan2 sy cy); z = angle (Ieee.neg (atan2 v01 v00)) }

-- about the z, the new y and the newest x axis
unfoldable pub r2zyx : Mat33 → Zyx
r2zyx m =
    let a = r2xyz (transpose m) in
    record { z = angle_neg a.z; y = angle_neg a.y; x = angle_neg a.x }

-- the rotation matrix of such angles
unfoldable pub zyx2r : Angle → Angle → Angle → Mat33
zyx2r z y x =
    let cx = cos x.0 in
    let sx = sin x.0 in
    let cy = cos y.0 in
    let sy = sin y.0 in
    let cz = cos z.0 in
    let sz = sin z.0 in
    mat
    (vec (cz ⊗ cy) (Ieee.neg sz ⊗ cx ⊕ cz ⊗ sy ⊗ sx) (sz ⊗ sx ⊕ cz ⊗ sy ⊗ cx))
    (vec (sz ⊗ cy) (cz ⊗ cx ⊕ sz ⊗ sy ⊗ sx) (Ieee.neg cz ⊗ sx ⊕ sz ⊗ sy ⊗ cx))
    (vec (Ieee.neg sy) (cy ⊗ sx) (cy ⊗ cx))

unfoldable pub xyz2r : Angle → Angle → Angle → Mat33
xyz2r x y z =
    let cx = cos x.0 in
    let sx = sin x.0 in
    let cy = cos y.0 in
    let sy = sin y.0 in
    let cz = cos z.0 in
    let sz = sin z.0 in
    mat
    (vec (cy ⊗ cz) (Ieee.neg cy ⊗ sz) sy)
    (vec (sy ⊗ sx ⊗ cz ⊕ cx ⊗ sz) (Ieee.neg sy ⊗ sx ⊗ sz ⊕ cx ⊗ cz) (Ieee.neg cy ⊗ sx))
    (vec (Ieee.neg sy ⊗ cx ⊗ cz ⊕ sx ⊗ sz) (sy ⊗ cx ⊗ sz ⊕ sx ⊗ cz) (cy ⊗ cx))
