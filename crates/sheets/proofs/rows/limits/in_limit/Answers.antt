-- `sheets::rows::limits::in_limit` meets its contract. Assumes nothing.
use lib.Ieee.{of_bits}
use Rattle.numbers.specs.Ops.{decimal}
use Rattle.sheets.specs.Limits.{in_limit}
use Rattle.sheets.proofs.rows.limits.in_limit.Goals as goal

pub returns-in-Number : goal.returns-in-Number
unfolding in_limit
returns-in-Number c = rw c.in-Number.is c.is_near.ensures

pub returns-in-Radians : goal.returns-in-Radians
unfolding in_limit of_bits decimal
returns-in-Radians c = rw c.in-Radians.is c.is_within.ensures

pub returns-in-Metres : goal.returns-in-Metres
unfolding in_limit
returns-in-Metres c = rw c.in-Metres.is c.is_near-in-Metres.ensures

pub returns-in-Geocentric : goal.returns-in-Geocentric
unfolding in_limit
returns-in-Geocentric c = rw c.in-Geocentric.is c.are_near.ensures

pub returns-in-Geodetic : goal.returns-in-Geodetic
unfolding in_limit
returns-in-Geodetic c = rw c.in-Geodetic.is c.is_near-in-Geodetic.ensures

pub returns-in-Vector : goal.returns-in-Vector
unfolding in_limit
returns-in-Vector c = rw c.in-Vector.is c.are_near-in-Vector.ensures

pub returns-in-Frame : goal.returns-in-Frame
unfolding in_limit
returns-in-Frame c = rw c.in-Frame.is c.are_near-in-Frame.ensures
