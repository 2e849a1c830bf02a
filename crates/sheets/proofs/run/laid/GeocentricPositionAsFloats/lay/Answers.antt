-- `sheets::run::laid::GeocentricPositionAsFloats::lay` meets its contract. Assumes nothing.
use mathlib.Core.Path.{refl}
use Rattle.sheets.proofs.run.FloatLaws.{kept-lay, lies-geocentric}
use Rattle.sheets.proofs.run.laid.GeocentricPositionAsFloats.lay.Goals as goal

pub returns : goal.returns
returns c = rw c.lay_three.ensures (record { code = refl; lies = λ lf. lies-geocentric _ lf _ c.requires _; kept = kept-lay _ _ _ })
