-- `sheets::rows::frame_rows::apply_level` meets its contract. Assumes nothing.
use mathlib.Core.Path.{refl}
use Rattle.frames.specs.Frames.{enu_from_geocentric, enu_from_geodetic, ned_from_geocentric, ned_from_geodetic}
use Rattle.sheets.specs.Letters.{hold}
use Rattle.sheets.specs.Table.{table}
use Rattle.sheets.specs.Lookup.{find}
use Rattle.sheets.proofs.rows.HeldLaws.{far-is, near-is, is-𝐝, is-𝐠, not-𝐝, not-𝐠, 𝐝-not-𝐠}
use Rattle.sheets.proofs.rows.FamilyLaws.{near-level, no-level}
use Rattle.sheets.proofs.rows.frame_rows.apply_level.Goals as goal

pub returns-in_err-far_enough-in-Geocentric : goal.returns-in_err-far_enough-in-Geocentric
returns-in_err-far_enough-in-Geocentric c =
    let h = near-is c.args.e c.in-Geocentric.g c.in_err-far_enough-in-Geocentric.ensures c.from_residual.ensures.1 in
    rw h.0 (near-level c.args.e c.args.ned _ (is-𝐠 c.in-Geocentric.is) h.1)

pub returns-then-ned : goal.returns-then-ned
unfolding table find hold ned_from_geocentric
returns-then-ned c = rw (c.if-ned.true, is-𝐠 c.in-Geocentric.is, far-is c.args.e c.in-Geocentric.g c.in_ok-far_enough-in-Geocentric.ensures, c.ned.ensures) refl

pub returns-else-ned : goal.returns-else-ned
unfolding table find hold enu_from_geocentric
returns-else-ned c = rw (c.if-ned.false, is-𝐠 c.in-Geocentric.is, far-is c.args.e c.in-Geocentric.g c.in_ok-far_enough-in-Geocentric.ensures, c.enu.ensures) refl

pub returns-then-ned-2 : goal.returns-then-ned-2
unfolding table find hold ned_from_geodetic
returns-then-ned-2 c = rw (c.if-ned-2.true, 𝐝-not-𝐠 c.in-Geodetic.is, is-𝐝 c.in-Geodetic.is, c.ned-then-ned-2.ensures) refl

pub returns-else-ned-2 : goal.returns-else-ned-2
unfolding table find hold enu_from_geodetic
returns-else-ned-2 c = rw (c.if-ned-2.false, 𝐝-not-𝐠 c.in-Geodetic.is, is-𝐝 c.in-Geodetic.is, c.enu-else-ned-2.ensures) refl

pub returns-in_default : goal.returns-in_default
returns-in_default c = no-level c.args.e c.args.ned _ (not-𝐠 _ c.in_default.not-Geocentric) (not-𝐝 _ c.in_default.not-Geodetic)
