-- `sheets::run::laid::LocalVectorAsFloats::lay` meets its contract. Assumes nothing.
use Prim.Native.Nat.{◌+◌}
use mathlib.Core.Path.{ap}
use Rattle.sheets.proofs.run.FloatLaws.{kept-lay, lies-vector}
use Rattle.sheets.proofs.run.laid.LocalVectorAsFloats.lay.Goals as goal

pub returns : goal.returns
returns c = rw c.lay_three.ensures (record { code = ap (λ x. 5 + x) c.place_of.ensures.0; lies = λ lf. lies-vector _ lf _ c.requires _; kept = kept-lay _ _ _ })
