-- `sheets::rows::frame_rows::apply_turn` meets its contract. Assumes nothing.
use mathlib.Core.Path.{refl}
use Rattle.sheets.specs.Letters.{hold, 𝐚, 𝐟}
use Rattle.sheets.specs.Table.{table}
use Rattle.sheets.specs.Lookup.{find}
use Rattle.sheets.proofs.rows.HeldLaws.{taken, refused, is-body, other-body}
use Rattle.sheets.proofs.rows.frame_rows.apply_turn.Goals as goal

pub returns-in_err-f : goal.returns-in_err-f
unfolding table find hold
returns-in_err-f c =
    let h = refused 𝐟 _ c.in_err-f.ensures c.from_residual.ensures.1 in
    rw (h.0, h.1) refl

pub returns-in_err-a : goal.returns-in_err-a
unfolding table find hold
returns-in_err-a c =
    let h = refused 𝐚 _ c.in_err-a.ensures c.from_residual-in_err-a.ensures.1 in
    rw (h.0, taken 𝐟 _ c.in_ok-f.ensures, h.1) refl

pub returns-then-eq : goal.returns-then-eq
unfolding table find hold
returns-then-eq c = rw (taken 𝐟 _ c.in_ok-f.ensures, taken 𝐚 _ c.in_ok-a.ensures, is-body c.in_ok-f.f.orientation c.if-eq.ensures) refl

pub returns : goal.returns
unfolding table find hold
returns c = rw (taken 𝐟 _ c.in_ok-f.ensures, taken 𝐚 _ c.in_ok-a.ensures, other-body c.in_ok-f.f.orientation c.if-eq.ensures, c.rotate_around_z.ensures) refl
