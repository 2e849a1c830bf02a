-- `test_operations::frames_local_frames::turned` answers the rows from 41 on. Assumes nothing.
use Rattle.std.proofs.Common.{ap, ◌∙◌}
use Rattle.test_operations.specs.Words.{padded}
use Rattle.test_operations.proofs.frames_local_frames.turned.Goals as goal

pub returns-in-41 : goal.returns-in-41
returns-in-41 c = c.answer.ensures ∙ ap padded c.turned_frame.ensures
