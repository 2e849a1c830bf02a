-- `sheets::rows::kinds::row` meets its contract. Assumes nothing.
use mathlib.Core.Path.{ap, ◌∙◌}
use Rattle.std.specs.Bool.{then_some}
use Rattle.sheets.proofs.rows.KindRowLaws.{row-gives}
use Rattle.sheets.proofs.rows.kinds.row.Goals as goal

pub returns : goal.returns
returns c = c.then_some.ensures ∙ ap (λ b. then_some b c.args.gives) c.contains.ensures.value ∙ row-gives c.args.takes.now c.args.gives c.args.key
