-- A property of a value, by what it is: the laws over every letter and every value go by it. Assumes nothing.
use lib.Ieee.{Float}
use Rattle.numbers.specs.declared.Angle.{Angle}
use Rattle.numbers.specs.declared.Length.{Length}
use Rattle.frames.specs.declared.GeocentricPosition.{GeocentricPosition}
use Rattle.frames.specs.declared.GeodeticPosition.{GeodeticPosition}
use Rattle.frames.specs.declared.LocalVector.{LocalVector}
use Rattle.frames.specs.declared.LocalFrame.{LocalFrame}
use Rattle.sheets.specs.declared.Value.{Value}
use Rattle.sheets.specs.declared.Value.TheVariants.{Number, Radians, Metres, Geocentric, Geodetic, Vector, Frame}

pub by_cases : (P : Value → Type 0) → ((x : Float) → P (Number x)) → ((x : Angle) → P (Radians x)) → ((x : Length) → P (Metres x))
    → ((x : GeocentricPosition) → P (Geocentric x)) → ((x : GeodeticPosition) → P (Geodetic x)) → ((x : LocalVector) → P (Vector x)) → ((x : LocalFrame) → P (Frame x)) → (x : Value) → P x
by_cases P n a l g d v f (Number x) = n x
by_cases P n a l g d v f (Radians x) = a x
by_cases P n a l g d v f (Metres x) = l x
by_cases P n a l g d v f (Geocentric x) = g x
by_cases P n a l g d v f (Geodetic x) = d x
by_cases P n a l g d v f (Vector x) = v x
by_cases P n a l g d v f (Frame x) = f x
