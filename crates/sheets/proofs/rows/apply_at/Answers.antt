-- `sheets::rows::apply_at` meets its contract. Assumes nothing.
use mathlib.Core.Path.{refl}
use Rattle.sheets.specs.Letters.{hold, 𝐟, 𝐯}
use Rattle.sheets.specs.Table.{table}
use Rattle.sheets.specs.Lookup.{find}
use Rattle.sheets.proofs.rows.HeldLaws.{taken, refused, same, differs}
use Rattle.sheets.proofs.rows.apply_at.Goals as goal

pub returns-in_err-f : goal.returns-in_err-f
unfolding table find hold
returns-in_err-f c =
    let h = refused 𝐟 _ c.in_err-f.ensures c.from_residual.ensures.1 in
    rw (h.0, h.1) refl

pub returns-in_err-v : goal.returns-in_err-v
unfolding table find hold
returns-in_err-v c =
    let h = refused 𝐯 _ c.in_err-v.ensures c.from_residual-in_err-v.ensures.1 in
    rw (h.0, taken 𝐟 _ c.in_ok-f.ensures, h.1) refl

pub returns-then-ne : goal.returns-then-ne
unfolding table find hold
returns-then-ne c = rw (taken 𝐟 _ c.in_ok-f.ensures, taken 𝐯 _ c.in_ok-v.ensures, differs c.in_ok-f.f.orientation c.in_ok-v.v.orientation c.if-ne.ensures) refl

pub returns : goal.returns
unfolding table find hold
returns c = rw (taken 𝐟 _ c.in_ok-f.ensures, taken 𝐯 _ c.in_ok-v.ensures, same c.in_ok-f.f.orientation c.in_ok-v.v.orientation c.if-ne.ensures, c.destination_position.ensures) refl
