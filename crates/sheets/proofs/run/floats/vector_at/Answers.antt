-- `sheets::run::floats::vector_at` meets its contract. Assumes nothing.
use Rattle.sheets.specs.code.run.Floats.{value_at}
use Rattle.sheets.proofs.run.floats.vector_at.Goals as goal

pub returns : goal.returns
unfolding value_at
returns c = simp c.vec_at-v.ensures
