-- `sheets::rows::apply_lla` meets its contract. Assumes nothing.
use mathlib.Core.Path.{refl}
use Rattle.sheets.specs.Letters.{hold, 𝐚, 𝐥}
use Rattle.sheets.specs.Table.{table}
use Rattle.sheets.specs.Lookup.{find}
use Rattle.sheets.proofs.rows.HeldLaws.{taken, refused}
use Rattle.sheets.proofs.rows.apply_lla.Goals as goal

pub returns-in_err-latitude : goal.returns-in_err-latitude
unfolding table find hold
returns-in_err-latitude c =
    let h = refused 𝐚 _ c.in_err-latitude.ensures c.from_residual.ensures.1 in
    rw (h.0, h.1) refl

pub returns-in_err-longitude : goal.returns-in_err-longitude
unfolding table find hold
returns-in_err-longitude c =
    let h = refused 𝐚 _ c.in_err-longitude.ensures c.from_residual-in_err-longitude.ensures.1 in
    rw (h.0, taken 𝐚 _ c.in_ok-latitude.ensures, h.1) refl

pub returns-in_err-height : goal.returns-in_err-height
unfolding table find hold
returns-in_err-height c =
    let h = refused 𝐥 _ c.in_err-height.ensures c.from_residual-in_err-height.ensures.1 in
    rw (h.0, taken 𝐚 _ c.in_ok-latitude.ensures, taken 𝐚 _ c.in_ok-longitude.ensures, h.1) refl

pub returns : goal.returns
unfolding table find hold
returns c = rw (taken 𝐚 _ c.in_ok-latitude.ensures, taken 𝐚 _ c.in_ok-longitude.ensures, taken 𝐥 _ c.in_ok-height.ensures, c.new.ensures, c.from_lat_long-n.ensures) refl
