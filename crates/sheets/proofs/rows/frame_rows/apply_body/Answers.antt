-- `sheets::rows::frame_rows::apply_body` meets its contract. Assumes nothing.
use mathlib.Core.Path.{refl}
use Rattle.frames.specs.Frames.{body_from_geocentric, body_from_geodetic}
use Rattle.sheets.specs.Letters.{hold, 𝐚}
use Rattle.sheets.specs.Table.{table}
use Rattle.sheets.specs.Lookup.{find}
use Rattle.sheets.proofs.rows.HeldLaws.{taken, refused, far-is, near-is, is-𝐝, is-𝐠, not-𝐝, not-𝐠, 𝐝-not-𝐠}
use Rattle.sheets.proofs.rows.frame_rows.apply_body.Goals as goal

pub returns-in_err-y : goal.returns-in_err-y
unfolding table find hold
returns-in_err-y c =
    let h = refused 𝐚 _ c.in_err-y.ensures c.from_residual.ensures.1 in
    rw (h.0, h.1) refl

pub returns-in_err-p : goal.returns-in_err-p
unfolding table find hold
returns-in_err-p c =
    let h = refused 𝐚 _ c.in_err-p.ensures c.from_residual-in_err-p.ensures.1 in
    rw (h.0, taken 𝐚 _ c.in_ok-y.ensures, h.1) refl

pub returns-in_err-r : goal.returns-in_err-r
unfolding table find hold
returns-in_err-r c =
    let h = refused 𝐚 _ c.in_err-r.ensures c.from_residual-in_err-r.ensures.1 in
    rw (h.0, taken 𝐚 _ c.in_ok-y.ensures, taken 𝐚 _ c.in_ok-p.ensures, h.1) refl

pub returns-in_err-far_enough-in-Geocentric : goal.returns-in_err-far_enough-in-Geocentric
unfolding table find hold
returns-in_err-far_enough-in-Geocentric c =
    let h = near-is c.args.e c.in-Geocentric.g c.in_err-far_enough-in-Geocentric.ensures c.from_residual-in_err-far_enough-in-Geocentric.ensures.1 in
    rw (h.0, taken 𝐚 _ c.in_ok-y.ensures, taken 𝐚 _ c.in_ok-p.ensures, taken 𝐚 _ c.in_ok-r.ensures, is-𝐠 c.in-Geocentric.is, h.1) refl

pub returns-in_ok-far_enough-in-Geocentric : goal.returns-in_ok-far_enough-in-Geocentric
unfolding table find hold body_from_geocentric
returns-in_ok-far_enough-in-Geocentric c = rw (taken 𝐚 _ c.in_ok-y.ensures, taken 𝐚 _ c.in_ok-p.ensures, taken 𝐚 _ c.in_ok-r.ensures, is-𝐠 c.in-Geocentric.is, far-is c.args.e c.in-Geocentric.g c.in_ok-far_enough-in-Geocentric.ensures, c.body.ensures) refl

pub returns-in-Geodetic : goal.returns-in-Geodetic
unfolding table find hold body_from_geodetic
returns-in-Geodetic c = rw (taken 𝐚 _ c.in_ok-y.ensures, taken 𝐚 _ c.in_ok-p.ensures, taken 𝐚 _ c.in_ok-r.ensures, 𝐝-not-𝐠 c.in-Geodetic.is, is-𝐝 c.in-Geodetic.is, c.body-in-Geodetic.ensures) refl

pub returns-in_default : goal.returns-in_default
unfolding table find hold
returns-in_default c = rw (taken 𝐚 _ c.in_ok-y.ensures, taken 𝐚 _ c.in_ok-p.ensures, taken 𝐚 _ c.in_ok-r.ensures, not-𝐠 _ c.in_default.not-Geocentric, not-𝐝 _ c.in_default.not-Geodetic) refl
