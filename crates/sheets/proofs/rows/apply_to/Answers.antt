-- `sheets::rows::apply_to` meets its contract. Assumes nothing.
use mathlib.Core.Path.{refl}
use Rattle.sheets.specs.Letters.{hold, 𝐟, 𝐠}
use Rattle.sheets.specs.Table.{table}
use Rattle.sheets.specs.Lookup.{find}
use Rattle.sheets.proofs.rows.HeldLaws.{taken, refused}
use Rattle.sheets.proofs.rows.apply_to.Goals as goal

pub returns-in_err-f : goal.returns-in_err-f
unfolding table find hold
returns-in_err-f c =
    let h = refused 𝐟 _ c.in_err-f.ensures c.from_residual.ensures.1 in
    rw (h.0, h.1) refl

pub returns-in_err-g : goal.returns-in_err-g
unfolding table find hold
returns-in_err-g c =
    let h = refused 𝐠 _ c.in_err-g.ensures c.from_residual-in_err-g.ensures.1 in
    rw (h.0, taken 𝐟 _ c.in_ok-f.ensures, h.1) refl

pub returns : goal.returns
unfolding table find hold
returns c = rw (taken 𝐟 _ c.in_ok-f.ensures, taken 𝐠 _ c.in_ok-g.ensures, c.local_vector_to.ensures) refl
