-- `sheets::run::floats::lay_frame` meets its contract. Assumes nothing.
use native.Mathlib.Omega.{arith}
use mathlib.Core.Path.{refl}
use Rattle.sheets.specs.Output.{components}
use Rattle.sheets.specs.code.run.Floats.{by_rows}
use Rattle.sheets.proofs.run.FloatLays.{laid_then}
use Rattle.sheets.proofs.run.floats.lay_frame.Goals as goal

pub returns : goal.returns
returns c =
    let p = c.args.p in
    let matrices = laid_then _ (by_rows p.dir_rm) _ _ _ c.lay_matrix.ensures (omega arith) c.lay_matrix-2.ensures in
    laid_then _ (components p.origin) _ _ _ c.lay_three.ensures refl matrices
