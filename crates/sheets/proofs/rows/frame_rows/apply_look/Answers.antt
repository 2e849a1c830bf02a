-- `sheets::rows::frame_rows::apply_look` meets its contract. Assumes nothing.
use mathlib.Core.Path.{refl}
use Rattle.frames.specs.Frames.{looking_at_geocentric, looking_at_geodetic}
use Rattle.sheets.specs.Letters.{hold, 𝐚, 𝐠, 𝐝}
use Rattle.sheets.specs.Table.{table}
use Rattle.sheets.specs.Lookup.{find}
use Rattle.sheets.proofs.rows.HeldLaws.{taken, refused, far-is, near-is, is-𝐝, is-𝐠, not-𝐝, not-𝐠, 𝐝-not-𝐠, 𝐠-not-𝐝}
use Rattle.sheets.proofs.rows.frame_rows.apply_look.Goals as goal

pub returns-in_err-t-in-Geocentric : goal.returns-in_err-t-in-Geocentric
unfolding table find hold
returns-in_err-t-in-Geocentric c =
    let h = refused 𝐠 _ c.in_err-t-in-Geocentric.ensures c.from_residual.ensures.1 in
    rw (h.0, is-𝐠 c.in-Geocentric.is, 𝐠-not-𝐝 c.in-Geocentric.is, h.1) refl

pub returns-in_err-r-in-Geocentric : goal.returns-in_err-r-in-Geocentric
unfolding table find hold
returns-in_err-r-in-Geocentric c =
    let h = refused 𝐚 _ c.in_err-r-in-Geocentric.ensures c.from_residual-in_err-r-in-Geocentric.ensures.1 in
    rw (h.0, is-𝐠 c.in-Geocentric.is, 𝐠-not-𝐝 c.in-Geocentric.is, taken 𝐠 _ c.in_ok-t-in-Geocentric.ensures, h.1) refl

pub returns-in_err-far_enough-in-Geocentric : goal.returns-in_err-far_enough-in-Geocentric
unfolding table find hold
returns-in_err-far_enough-in-Geocentric c =
    let h = near-is c.args.e c.in-Geocentric.g c.in_err-far_enough-in-Geocentric.ensures c.from_residual-in_err-far_enough-in-Geocentric.ensures.1 in
    rw (h.0, is-𝐠 c.in-Geocentric.is, 𝐠-not-𝐝 c.in-Geocentric.is, taken 𝐠 _ c.in_ok-t-in-Geocentric.ensures, taken 𝐚 _ c.in_ok-r-in-Geocentric.ensures, h.1) refl

pub returns-in_err-t-in-Geodetic : goal.returns-in_err-t-in-Geodetic
unfolding table find hold
returns-in_err-t-in-Geodetic c =
    let h = refused 𝐝 _ c.in_err-t-in-Geodetic.ensures c.from_residual-in_err-t-in-Geodetic.ensures.1 in
    rw (h.0, 𝐝-not-𝐠 c.in-Geodetic.is, is-𝐝 c.in-Geodetic.is, h.1) refl

pub returns-in_err-r-in-Geodetic : goal.returns-in_err-r-in-Geodetic
unfolding table find hold
returns-in_err-r-in-Geodetic c =
    let h = refused 𝐚 _ c.in_err-r-in-Geodetic.ensures c.from_residual-in_err-r-in-Geodetic.ensures.1 in
    rw (h.0, 𝐝-not-𝐠 c.in-Geodetic.is, is-𝐝 c.in-Geodetic.is, taken 𝐝 _ c.in_ok-t-in-Geodetic.ensures, h.1) refl

pub returns-in_ok-far_enough-in-Geocentric : goal.returns-in_ok-far_enough-in-Geocentric
unfolding table find hold looking_at_geocentric
returns-in_ok-far_enough-in-Geocentric c = rw (is-𝐠 c.in-Geocentric.is, taken 𝐠 _ c.in_ok-t-in-Geocentric.ensures, taken 𝐚 _ c.in_ok-r-in-Geocentric.ensures, far-is c.args.e c.in-Geocentric.g c.in_ok-far_enough-in-Geocentric.ensures, c.looking_at.ensures) refl

pub returns-in_ok-r-in-Geodetic : goal.returns-in_ok-r-in-Geodetic
unfolding table find hold looking_at_geodetic
returns-in_ok-r-in-Geodetic c = rw (𝐝-not-𝐠 c.in-Geodetic.is, is-𝐝 c.in-Geodetic.is, taken 𝐝 _ c.in_ok-t-in-Geodetic.ensures, taken 𝐚 _ c.in_ok-r-in-Geodetic.ensures, c.looking_at-in-Geodetic.ensures) refl

pub returns-in_default : goal.returns-in_default
unfolding table find hold
returns-in_default c = rw (not-𝐠 _ c.in_default.not-Geocentric, not-𝐝 _ c.in_default.not-Geodetic) refl
