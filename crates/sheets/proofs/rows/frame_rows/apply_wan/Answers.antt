-- `sheets::rows::frame_rows::apply_wan` meets its contract. Assumes nothing.
use mathlib.Core.Path.{refl}
use Rattle.frames.specs.Frames.{wander_azimuth_from_geocentric, wander_azimuth_from_geodetic}
use Rattle.sheets.specs.Letters.{hold, 𝐚}
use Rattle.sheets.specs.Table.{table}
use Rattle.sheets.specs.Lookup.{find}
use Rattle.sheets.proofs.rows.HeldLaws.{taken, refused, far-is, near-is, is-𝐝, is-𝐠, not-𝐝, not-𝐠, 𝐝-not-𝐠}
use Rattle.sheets.proofs.rows.frame_rows.apply_wan.Goals as goal

pub returns-in_err-az : goal.returns-in_err-az
unfolding table find hold
returns-in_err-az c =
    let h = refused 𝐚 _ c.in_err-az.ensures c.from_residual.ensures.1 in
    rw (h.0, h.1) refl

pub returns-in_err-far_enough-in-Geocentric : goal.returns-in_err-far_enough-in-Geocentric
unfolding table find hold
returns-in_err-far_enough-in-Geocentric c =
    let h = near-is c.args.e c.in-Geocentric.g c.in_err-far_enough-in-Geocentric.ensures c.from_residual-in_err-far_enough-in-Geocentric.ensures.1 in
    rw (h.0, taken 𝐚 _ c.in_ok-az.ensures, is-𝐠 c.in-Geocentric.is, h.1) refl

pub returns-in_ok-far_enough-in-Geocentric : goal.returns-in_ok-far_enough-in-Geocentric
unfolding table find hold wander_azimuth_from_geocentric
returns-in_ok-far_enough-in-Geocentric c = rw (taken 𝐚 _ c.in_ok-az.ensures, is-𝐠 c.in-Geocentric.is, far-is c.args.e c.in-Geocentric.g c.in_ok-far_enough-in-Geocentric.ensures, c.wander_azimuth.ensures) refl

pub returns-in-Geodetic : goal.returns-in-Geodetic
unfolding table find hold wander_azimuth_from_geodetic
returns-in-Geodetic c = rw (taken 𝐚 _ c.in_ok-az.ensures, 𝐝-not-𝐠 c.in-Geodetic.is, is-𝐝 c.in-Geodetic.is, c.wander_azimuth-in-Geodetic.ensures) refl

pub returns-in_default : goal.returns-in_default
unfolding table find hold
returns-in_default c = rw (taken 𝐚 _ c.in_ok-az.ensures, not-𝐠 _ c.in_default.not-Geocentric, not-𝐝 _ c.in_default.not-Geodetic) refl
