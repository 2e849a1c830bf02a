-- `sheets::rows::apply_angle` meets its contract. Assumes nothing.
use mathlib.Core.Path.{refl}
use Rattle.sheets.specs.Letters.{hold, 𝐟}
use Rattle.sheets.specs.Table.{table}
use Rattle.sheets.specs.Lookup.{find}
use Rattle.sheets.proofs.rows.HeldLaws.{taken, refused}
use Rattle.sheets.proofs.rows.FamilyLaws.{no-angle}
use Rattle.sheets.proofs.rows.apply_angle.Goals as goal

pub returns-in_err-f : goal.returns-in_err-f
returns-in_err-f c =
    let h = refused 𝐟 _ c.in_err-f.ensures c.from_residual.ensures.1 in
    rw h.0 (no-angle c.args.e c.args.axis _ h.1)

pub returns-in-Z : goal.returns-in-Z
unfolding table find hold
returns-in-Z c = rw (c.in-Z.is, taken 𝐟 _ c.in_ok-f.ensures, c.r2zyx-angles.ensures) refl

pub returns-in-Y : goal.returns-in-Y
unfolding table find hold
returns-in-Y c = rw (c.in-Y.is, taken 𝐟 _ c.in_ok-f.ensures, c.r2zyx-angles.ensures) refl

pub returns-in-X : goal.returns-in-X
unfolding table find hold
returns-in-X c = rw (c.in-X.is, taken 𝐟 _ c.in_ok-f.ensures, c.r2zyx-angles.ensures) refl
