-- `sheets::rows::apply_deg` meets its contract. Assumes nothing.
use mathlib.Core.Path.{refl}
use Rattle.sheets.specs.Letters.{hold, 𝐧}
use Rattle.sheets.specs.Table.{table}
use Rattle.sheets.specs.Lookup.{find}
use Rattle.sheets.proofs.rows.HeldLaws.{taken, refused}
use Rattle.sheets.proofs.rows.apply_deg.Goals as goal

pub returns-in_err-n : goal.returns-in_err-n
unfolding table find hold
returns-in_err-n c =
    let h = refused 𝐧 _ c.in_err-n.ensures c.from_residual.ensures.1 in
    rw (h.0, h.1) refl

pub returns : goal.returns
unfolding table find hold
returns c = rw (taken 𝐧 _ c.in_ok-n.ensures, c.from_degrees.ensures) refl
