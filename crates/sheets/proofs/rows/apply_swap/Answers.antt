-- `sheets::rows::apply_swap` meets its contract. Assumes nothing.
use mathlib.Core.Path.{refl}
use Rattle.sheets.specs.Letters.{hold, 𝐯}
use Rattle.sheets.specs.Table.{table}
use Rattle.sheets.specs.Lookup.{find}
use Rattle.sheets.proofs.rows.HeldLaws.{taken, refused, enu-or-ned, body-or-wan}
use Rattle.sheets.proofs.rows.apply_swap.Goals as goal

pub returns-in_err-v : goal.returns-in_err-v
unfolding table find hold
returns-in_err-v c =
    let h = refused 𝐯 _ c.in_err-v.ensures c.from_residual.ensures.1 in
    rw (h.0, h.1) refl

pub returns-in-Enu : goal.returns-in-Enu
unfolding table find hold
returns-in-Enu c = rw (taken 𝐯 _ c.in_ok-v.ensures, enu-or-ned c.in_ok-v.v.orientation c.in-Enu.is, c.swap.ensures) refl

pub returns-in-Body : goal.returns-in-Body
unfolding table find hold
returns-in-Body c = rw (taken 𝐯 _ c.in_ok-v.ensures, body-or-wan c.in_ok-v.v.orientation c.in-Body.is) refl
