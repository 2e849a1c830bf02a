-- `sheets::rows::apply_origin` meets its contract. Assumes nothing.
use mathlib.Core.Path.{refl}
use Rattle.sheets.specs.Letters.{hold, 𝐟}
use Rattle.sheets.specs.Table.{table}
use Rattle.sheets.specs.Lookup.{find}
use Rattle.sheets.proofs.rows.HeldLaws.{taken, refused}
use Rattle.sheets.proofs.rows.apply_origin.Goals as goal

pub returns-in_err-f : goal.returns-in_err-f
unfolding table find hold
returns-in_err-f c =
    let h = refused 𝐟 _ c.in_err-f.ensures c.from_residual.ensures.1 in
    rw (h.0, h.1) refl

pub returns : goal.returns
unfolding table find hold
returns c = rw (taken 𝐟 _ c.in_ok-f.ensures, c.origin.ensures) refl
