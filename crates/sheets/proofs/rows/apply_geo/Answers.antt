-- `sheets::rows::apply_geo` meets its contract. Assumes nothing.
use mathlib.Core.Path.{refl}
use Rattle.sheets.specs.Letters.{hold, 𝐥}
use Rattle.sheets.specs.Table.{table}
use Rattle.sheets.specs.Lookup.{find}
use Rattle.sheets.proofs.rows.HeldLaws.{taken, refused}
use Rattle.sheets.proofs.rows.apply_geo.Goals as goal

pub returns-in_err-x : goal.returns-in_err-x
unfolding table find hold
returns-in_err-x c =
    let h = refused 𝐥 _ c.in_err-x.ensures c.from_residual.ensures.1 in
    rw (h.0, h.1) refl

pub returns-in_err-y : goal.returns-in_err-y
unfolding table find hold
returns-in_err-y c =
    let h = refused 𝐥 _ c.in_err-y.ensures c.from_residual-in_err-y.ensures.1 in
    rw (h.0, taken 𝐥 _ c.in_ok-x.ensures, h.1) refl

pub returns-in_err-z : goal.returns-in_err-z
unfolding table find hold
returns-in_err-z c =
    let h = refused 𝐥 _ c.in_err-z.ensures c.from_residual-in_err-z.ensures.1 in
    rw (h.0, taken 𝐥 _ c.in_ok-x.ensures, taken 𝐥 _ c.in_ok-y.ensures, h.1) refl

pub returns : goal.returns
unfolding table find hold
returns c = rw (taken 𝐥 _ c.in_ok-x.ensures, taken 𝐥 _ c.in_ok-y.ensures, taken 𝐥 _ c.in_ok-z.ensures, c.new.ensures) refl
