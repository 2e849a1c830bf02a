-- `sheets::run::laid::GeodeticPositionAsFloats::lay` meets its contract. Assumes nothing.
use Rattle.sheets.proofs.run.LaidSteps.{geodetic-laid}
use Rattle.sheets.proofs.run.laid.GeodeticPositionAsFloats.lay.Goals as goal

pub returns : goal.returns
returns c = rw c.lay_three.ensures (geodetic-laid _ _ _ c.requires)
