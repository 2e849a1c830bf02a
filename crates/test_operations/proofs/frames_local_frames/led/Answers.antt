-- `test_operations::frames_local_frames::led` answers the row of 51, where a function of its own reads the words. Assumes nothing.
use Rattle.test_operations.specs.Rows.{answered}
use Rattle.test_operations.specs.FramesTable.{led_rows}
use Rattle.test_operations.proofs.frames_local_frames.led.Goals as goal

pub returns-in-51 : goal.returns-in-51
unfolding answered led_rows
returns-in-51 c = rw c.in-51.is (simp (c.answer-in-51.ensures, c.transformed.ensures))
