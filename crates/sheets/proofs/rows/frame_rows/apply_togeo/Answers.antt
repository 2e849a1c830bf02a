-- `sheets::rows::frame_rows::apply_togeo` meets its contract. Assumes nothing.
use mathlib.Core.Path.{refl}
use Rattle.sheets.specs.Letters.{hold, 𝐝}
use Rattle.sheets.specs.Table.{table}
use Rattle.sheets.specs.Lookup.{find}
use Rattle.sheets.proofs.rows.HeldLaws.{taken, refused}
use Rattle.sheets.proofs.rows.frame_rows.apply_togeo.Goals as goal

pub returns-in_err-d : goal.returns-in_err-d
unfolding table find hold
returns-in_err-d c =
    let h = refused 𝐝 _ c.in_err-d.ensures c.from_residual.ensures.1 in
    rw (h.0, h.1) refl

pub returns : goal.returns
unfolding table find hold
returns c = rw (taken 𝐝 _ c.in_ok-d.ensures, c.geodetic_to_geocentric_position.ensures) refl
