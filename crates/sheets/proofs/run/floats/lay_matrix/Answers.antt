-- `sheets::run::floats::lay_matrix` meets its contract. Assumes nothing.
use native.Mathlib.Omega.{arith}
use mathlib.Core.Path.{refl}
use Rattle.sheets.specs.Output.{components}
use Rattle.sheets.proofs.run.FloatLays.{laid_then}
use Rattle.sheets.proofs.run.floats.lay_matrix.Goals as goal

pub returns : goal.returns
returns c =
    let m = c.args.m in
    let rows-after = laid_then _ (components m.r1) _ _ _ c.lay_three-2.ensures (omega arith) c.lay_three-3.ensures in
    laid_then _ (components m.r0) _ _ _ c.lay_three.ensures refl rows-after
