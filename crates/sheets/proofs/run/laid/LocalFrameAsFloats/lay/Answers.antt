-- `sheets::run::laid::LocalFrameAsFloats::lay` meets its contract. Assumes nothing.
use Prim.Native.Nat.{◌+◌}
use mathlib.Core.Path.{ap}
use Rattle.sheets.proofs.run.FloatLaws.{kept-lay, lies-frame}
use Rattle.sheets.proofs.run.laid.LocalFrameAsFloats.lay.Goals as goal

pub returns : goal.returns
returns c = rw c.lay_frame.ensures (record { code = ap (λ x. 9 + x) c.place_of.ensures.0; lies = λ lf. lies-frame _ lf _ c.requires _; kept = kept-lay _ _ _ })
