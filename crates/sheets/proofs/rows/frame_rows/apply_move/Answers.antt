-- `sheets::rows::frame_rows::apply_move` meets its contract. Assumes nothing.
use mathlib.Core.Path.{refl}
use Rattle.sheets.specs.Letters.{hold, 𝐚, 𝐟, 𝐯}
use Rattle.sheets.specs.Table.{table}
use Rattle.sheets.specs.Lookup.{find}
use Rattle.sheets.proofs.rows.HeldLaws.{taken, refused, same, differs}
use Rattle.sheets.proofs.rows.frame_rows.apply_move.Goals as goal

pub returns-in_err-f : goal.returns-in_err-f
unfolding table find hold
returns-in_err-f c =
    let h = refused 𝐟 _ c.in_err-f.ensures c.from_residual.ensures.1 in
    rw (h.0, h.1) refl

pub returns-in_err-v : goal.returns-in_err-v
unfolding table find hold
returns-in_err-v c =
    let h = refused 𝐯 _ c.in_err-v.ensures c.from_residual-in_err-v.ensures.1 in
    rw (h.0, taken 𝐟 _ c.in_ok-f.ensures, h.1) refl

pub returns-in_err-y : goal.returns-in_err-y
unfolding table find hold
returns-in_err-y c =
    let h = refused 𝐚 _ c.in_err-y.ensures c.from_residual-in_err-y.ensures.1 in
    rw (h.0, taken 𝐟 _ c.in_ok-f.ensures, taken 𝐯 _ c.in_ok-v.ensures, h.1) refl

pub returns-in_err-p : goal.returns-in_err-p
unfolding table find hold
returns-in_err-p c =
    let h = refused 𝐚 _ c.in_err-p.ensures c.from_residual-in_err-p.ensures.1 in
    rw (h.0, taken 𝐟 _ c.in_ok-f.ensures, taken 𝐯 _ c.in_ok-v.ensures, taken 𝐚 _ c.in_ok-y.ensures, h.1) refl

pub returns-in_err-r : goal.returns-in_err-r
unfolding table find hold
returns-in_err-r c =
    let h = refused 𝐚 _ c.in_err-r.ensures c.from_residual-in_err-r.ensures.1 in
    rw (h.0, taken 𝐟 _ c.in_ok-f.ensures, taken 𝐯 _ c.in_ok-v.ensures, taken 𝐚 _ c.in_ok-y.ensures, taken 𝐚 _ c.in_ok-p.ensures, h.1) refl

pub returns-then-ne : goal.returns-then-ne
unfolding table find hold
returns-then-ne c = rw (taken 𝐟 _ c.in_ok-f.ensures, taken 𝐯 _ c.in_ok-v.ensures, taken 𝐚 _ c.in_ok-y.ensures, taken 𝐚 _ c.in_ok-p.ensures, taken 𝐚 _ c.in_ok-r.ensures, differs c.in_ok-f.f.orientation c.in_ok-v.v.orientation c.if-ne.ensures) refl

pub returns : goal.returns
unfolding table find hold
returns c = rw (taken 𝐟 _ c.in_ok-f.ensures, taken 𝐯 _ c.in_ok-v.ensures, taken 𝐚 _ c.in_ok-y.ensures, taken 𝐚 _ c.in_ok-p.ensures, taken 𝐚 _ c.in_ok-r.ensures, same c.in_ok-f.f.orientation c.in_ok-v.v.orientation c.if-ne.ensures, c.transform.ensures) refl
