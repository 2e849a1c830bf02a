-- `sheets::rows::apply_aer` meets its contract. Assumes nothing.
use mathlib.Core.Path.{refl}
use mathlib.Core.Option.{none, some}
use Rattle.sheets.specs.Letters.{hold, 𝐚, 𝐥}
use Rattle.sheets.proofs.rows.HeldLaws.{taken, refused}
use Rattle.sheets.proofs.rows.FamilyLaws.{aer-row}
use Rattle.sheets.proofs.rows.apply_aer.Goals as goal

pub returns-in_err-azimuth : goal.returns-in_err-azimuth
unfolding hold
returns-in_err-azimuth c =
    let h = refused 𝐚 _ c.in_err-azimuth.ensures c.from_residual.ensures.1 in
    rw h.0 (aer-row c.args.e c.args.o _ none (rw (h.1) refl))

pub returns-in_err-elevation : goal.returns-in_err-elevation
unfolding hold
returns-in_err-elevation c =
    let h = refused 𝐚 _ c.in_err-elevation.ensures c.from_residual-in_err-elevation.ensures.1 in
    rw h.0 (aer-row c.args.e c.args.o _ none (rw (taken 𝐚 _ c.in_ok-azimuth.ensures, h.1) refl))

pub returns-in_err-range : goal.returns-in_err-range
unfolding hold
returns-in_err-range c =
    let h = refused 𝐥 _ c.in_err-range.ensures c.from_residual-in_err-range.ensures.1 in
    rw h.0 (aer-row c.args.e c.args.o _ none (rw (taken 𝐚 _ c.in_ok-azimuth.ensures, taken 𝐚 _ c.in_ok-elevation.ensures, h.1) refl))

pub returns : goal.returns
unfolding hold
returns c = rw c.from_aer.ensures (aer-row c.args.e c.args.o _ (some (c.in_ok-azimuth.azimuth, (c.in_ok-elevation.elevation, (c.in_ok-range.range, tt)))) (rw (taken 𝐚 _ c.in_ok-azimuth.ensures, taken 𝐚 _ c.in_ok-elevation.ensures, taken 𝐥 _ c.in_ok-range.ensures) refl))
