-- `boresheet::readings::reading` meets its contract. Assumes nothing.
use Rattle.boresheet.proofs.ReadingSteps.{reading-number, reading-hex}
use Rattle.boresheet.proofs.readings.reading.Goals as goal

pub returns-in-Some : goal.returns-in-Some
returns-in-Some c = reading-number _ _ _ _ c.double.ensures c.ended.ensures _ _ c.in-Some.is

pub returns-in-None : goal.returns-in-None
returns-in-None c = reading-hex _ _ _ _ c.double.ensures c.ended.ensures _ _ c.in-None.is c.hex.ensures c.ended-in-None.ensures
