-- `test_operations::frames_local_frames::levels` answers the rows from 37 on. Assumes nothing.
use Rattle.frames.specs.Frames.{enu_from_geocentric, enu_from_geodetic, ned_from_geocentric, ned_from_geodetic}
use Rattle.test_operations.specs.Rows.{answered}
use Rattle.test_operations.specs.FramesTable.{level_rows}
use Rattle.test_operations.proofs.frames_local_frames.levels.Goals as goal

pub returns-in-37 : goal.returns-in-37
unfolding answered level_rows enu_from_geocentric
returns-in-37 c = rw c.in-37.is (simp (c.answer.ensures, c.enu.ensures, c.geocentric_at.ensures, c.ellipsoid_at.ensures))

pub returns-in-38 : goal.returns-in-38
unfolding answered level_rows enu_from_geodetic
returns-in-38 c = rw c.in-38.is (simp (c.answer-in-38.ensures, c.enu-in-38.ensures, c.geodetic_at.ensures, c.ellipsoid_at-in-38.ensures))

pub returns-in-39 : goal.returns-in-39
unfolding answered level_rows ned_from_geocentric
returns-in-39 c = rw c.in-39.is (simp (c.answer-in-39.ensures, c.ned.ensures, c.geocentric_at-in-39.ensures, c.ellipsoid_at-in-39.ensures))

pub returns-in-40 : goal.returns-in-40
unfolding answered level_rows ned_from_geodetic
returns-in-40 c = rw c.in-40.is (simp (c.answer-in-40.ensures, c.ned-in-40.ensures, c.geodetic_at-in-40.ensures, c.ellipsoid_at-in-40.ensures))
