-- Every bearing of a vector within its limits is at least 0 and below 2 PI. Assumes nothing.
use mathlib.Core.Path.{◌≡◌, sym, subst}
use mathlib.Core.Bool.{true, false, ◌&&◌}
use lib.Dec.{T}
use lib.Ieee.{Float, inf, fin, le, neg}
use lib.Ieee.Fits.{and_l, and_r}
use lib.Ieee.Scale.{finite}
use Rattle.numbers.specs.Ops.{decimal}
use Rattle.frames.specs.Vectors.{bearing}
use Rattle.frames.specs.declared.LocalVector.{LocalVector}
use Rattle.frames.proofs.BearingLaws.{InTurn, bearing-below}
use Rattle.sheets.specs.Limits.{near, in_limit}
use Rattle.sheets.specs.declared.Value.TheVariants.{Vector}

near-finite : (x : Float) → T (near x) → T (finite x)
unfolding le neg decimal
near-finite (inf true) h = h
near-finite (inf false) h = h
near-finite (fin s m e) h = tt
near-finite lib.Ieee.nan h = elim h [ ]

pub bearing-within : (v : LocalVector) → in_limit (Vector v) ≡ true → InTurn (bearing v)
unfolding in_limit
bearing-within v h =
    let x = near v.x.0 in
    let y = near v.y.0 in
    let z = near v.z.0 in
    let t : T (x && (y && z)) = subst T (sym h) tt in
    bearing-below v (near-finite v.x.0 (and_l x (y && z) t)) (near-finite v.y.0 (and_l y z (and_r x (y && z) t)))
