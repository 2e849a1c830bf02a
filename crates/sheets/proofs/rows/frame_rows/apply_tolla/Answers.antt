-- `sheets::rows::frame_rows::apply_tolla` meets its contract. Assumes nothing.
use mathlib.Core.Path.{refl}
use Rattle.sheets.specs.Letters.{hold, 𝐠}
use Rattle.sheets.specs.Table.{table}
use Rattle.sheets.specs.Lookup.{find}
use Rattle.sheets.proofs.rows.HeldLaws.{taken, refused, far-is, near-is}
use Rattle.sheets.proofs.rows.frame_rows.apply_tolla.Goals as goal

pub returns-in_err-g : goal.returns-in_err-g
unfolding table find hold
returns-in_err-g c =
    let h = refused 𝐠 _ c.in_err-g.ensures c.from_residual.ensures.1 in
    rw (h.0, h.1) refl

pub returns-in_err-far_enough : goal.returns-in_err-far_enough
unfolding table find hold
returns-in_err-far_enough c =
    let h = near-is c.args.e c.in_ok-g.g c.in_err-far_enough.ensures c.from_residual-in_err-far_enough.ensures.1 in
    rw (h.0, taken 𝐠 _ c.in_ok-g.ensures, h.1) refl

pub returns : goal.returns
unfolding table find hold
returns c = rw (taken 𝐠 _ c.in_ok-g.ensures, far-is c.args.e c.in_ok-g.g c.in_ok-far_enough.ensures, c.geocentric_to_geodetic_position.ensures) refl
