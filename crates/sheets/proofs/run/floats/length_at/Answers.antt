-- `sheets::run::floats::length_at` meets its contract. Assumes nothing.
use Rattle.sheets.specs.code.run.Floats.{value_at}
use borrow.Author.Rules.{rules}
use Rattle.sheets.proofs.run.floats.length_at.Goals as goal

pub returns : goal.returns
unfolding value_at
returns c = search rules
