-- `sheets::run::text::put_value` meets its contract. Assumes nothing.
use Rattle.sheets.specs.code.run.Writing.{value_text}
use Rattle.sheets.proofs.run.ValueText.{value-told}
use Rattle.sheets.proofs.run.text.put_value.Goals as goal

pub returns-in-Number : goal.returns-in-Number
unfolding value_text
returns-in-Number c = value-told c.in-Number.is c.put_plain.ensures

pub returns-in-Radians : goal.returns-in-Radians
unfolding value_text
returns-in-Radians c = value-told c.in-Radians.is c.put_plain-in-Radians.ensures

pub returns-in-Metres : goal.returns-in-Metres
unfolding value_text
returns-in-Metres c = value-told c.in-Metres.is c.put_plain-in-Metres.ensures

pub returns-in-Geocentric : goal.returns-in-Geocentric
unfolding value_text
returns-in-Geocentric c = value-told c.in-Geocentric.is c.put_plain-in-Geocentric.ensures

pub returns-in-Geodetic : goal.returns-in-Geodetic
unfolding value_text
returns-in-Geodetic c = value-told c.in-Geodetic.is c.put_plain-in-Geodetic.ensures

pub returns-in-Vector : goal.returns-in-Vector
unfolding value_text
returns-in-Vector c = value-told c.in-Vector.is c.put_oriented.ensures

pub returns-in-Frame : goal.returns-in-Frame
unfolding value_text
returns-in-Frame c = value-told c.in-Frame.is c.put_oriented-in-Frame.ensures
