-- `sheets::rows::apply_scale` meets its contract. Assumes nothing.
use mathlib.Core.Path.{refl}
use Rattle.sheets.specs.Letters.{hold, 𝐯, 𝐧}
use Rattle.sheets.specs.Table.{table}
use Rattle.sheets.specs.Lookup.{find}
use Rattle.sheets.proofs.rows.HeldLaws.{taken, refused}
use Rattle.sheets.proofs.rows.apply_scale.Goals as goal

pub returns-in_err-v : goal.returns-in_err-v
unfolding table find hold
returns-in_err-v c =
    let h = refused 𝐯 _ c.in_err-v.ensures c.from_residual.ensures.1 in
    rw (h.0, h.1) refl

pub returns-in_err-k : goal.returns-in_err-k
unfolding table find hold
returns-in_err-k c =
    let h = refused 𝐧 _ c.in_err-k.ensures c.from_residual-in_err-k.ensures.1 in
    rw (h.0, taken 𝐯 _ c.in_ok-v.ensures, h.1) refl

pub returns : goal.returns
unfolding table find hold
returns c = rw (taken 𝐯 _ c.in_ok-v.ensures, taken 𝐧 _ c.in_ok-k.ensures, c.mul.ensures) refl
