-- `sheets::run::laid::LengthAsFloats::lay` meets its contract. Assumes nothing.
use mathlib.Core.Path.{refl}
use Rattle.sheets.proofs.run.FloatLaws.{kept_set, lies-length}
use Rattle.sheets.proofs.run.laid.LengthAsFloats.lay.Goals as goal

pub returns : goal.returns
returns c = record { code = refl; lies = λ lf. lies-length c.args.floats.now lf _ c.requires _; kept = kept_set c.args.floats.now _ _ }
