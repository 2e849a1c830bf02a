-- `sheets::run::floats::frame_at` meets its contract. Assumes nothing.
use Rattle.sheets.specs.code.run.Floats.{value_at}
use Rattle.sheets.proofs.run.floats.frame_at.Goals as goal

pub returns : goal.returns
unfolding value_at
returns c = simp (c.mat_at-inv_rm.ensures, c.mat_at-dir_rm.ensures, c.vec_at-origin.ensures)
