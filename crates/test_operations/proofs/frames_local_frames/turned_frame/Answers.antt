-- `test_operations::frames_local_frames::turned_frame` makes the frames of the rows from 41 to 46. Assumes nothing.
use Rattle.std.proofs.Common.{ℕ, ◌≡◌, arith}
use Rattle.frames.specs.Frames.{body_from_geocentric, body_from_geodetic, wander_azimuth_from_geocentric, wander_azimuth_from_geodetic, looking_at_geocentric, looking_at_geodetic}
use Rattle.test_operations.specs.Rows.{answered}
use Rattle.test_operations.specs.FramesTable.{turned_rows}
use Rattle.test_operations.proofs.frames_local_frames.turned_frame.Goals as goal

pub returns-in-41 : goal.returns-in-41
unfolding answered turned_rows body_from_geocentric
returns-in-41 c = rw c.in-41.is (simp (c.body.ensures, c.angle_at-at9.ensures, c.angle_at-at8.ensures, c.angle_at-at7.ensures, c.geocentric_at-g.ensures, c.ellipsoid_at-l.ensures))

pub returns-in-42 : goal.returns-in-42
unfolding answered turned_rows body_from_geodetic
returns-in-42 c = rw c.in-42.is (simp (c.body-in-42.ensures, c.angle_at-at10.ensures, c.angle_at-at9.ensures, c.angle_at-at8.ensures, c.geodetic_at-d.ensures, c.ellipsoid_at-l.ensures))

pub returns-in-43 : goal.returns-in-43
unfolding answered turned_rows wander_azimuth_from_geocentric
returns-in-43 c = rw c.in-43.is (simp (c.wander_azimuth.ensures, c.angle_at-at7.ensures, c.geocentric_at-g.ensures, c.ellipsoid_at-l.ensures))

pub returns-in-44 : goal.returns-in-44
unfolding answered turned_rows wander_azimuth_from_geodetic
returns-in-44 c = rw c.in-44.is (simp (c.wander_azimuth-in-44.ensures, c.angle_at-at8.ensures, c.geodetic_at-d.ensures, c.ellipsoid_at-l.ensures))

pub returns-in-45 : goal.returns-in-45
unfolding answered turned_rows looking_at_geocentric
returns-in-45 c = rw c.in-45.is (simp (c.looking_at.ensures, c.geocentric_at.ensures, c.angle_at-at10.ensures, c.geocentric_at-g.ensures, c.ellipsoid_at-l.ensures))

pub returns-in_default : goal.returns-in_default
unfolding answered turned_rows looking_at_geodetic
returns-in_default c =
    let last : c.args.op ≡ 46 = omega arith in
    rw last (simp (c.looking_at-in_default.ensures, c.angle_at.ensures, c.geodetic_at.ensures, c.geodetic_at-d.ensures, c.ellipsoid_at-l.ensures))
