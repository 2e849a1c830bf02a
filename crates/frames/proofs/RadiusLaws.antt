-- The radii at the equator and at the poles, as the documentation of ellipsoid.rs gives them, by computation. Assumes nothing.
use mathlib.Core.Path.{◌≡◌, refl}
use Prim.Native.Nat.{ℕ}
use lib.Ieee.{binary64, to_bits, neg}
use Rattle.numbers.specs.Ops.{num}
use Rattle.numbers.specs.Angles.{angle, quarter_circle, neg_quarter_circle, from_degrees}
use Rattle.numbers.specs.Lengths.{metres}
use Rattle.numbers.specs.declared.Length.{Length}
use Rattle.frames.specs.Ellipsoids.{wgs84}
use Rattle.frames.specs.Radii.{geocentric_radius, latitude_radius, prime_vertical_radius}
use Rattle.frames.proofs.Computed.{computed}
use Rattle.frames.specs.declared.Ellipsoid.{Ellipsoid}

-- ---- on every ellipsoid, whatever its four numbers are: the parallel at a pole is a point

pub north-pole-parallel : (l : Ellipsoid) → latitude_radius l quarter_circle ≡ metres (num 0)
unfolding computed
north-pole-parallel l = refl

pub south-pole-parallel : (l : Ellipsoid) → latitude_radius l neg_quarter_circle ≡ metres (num 0)
unfolding computed
south-pole-parallel l = refl

pub north-parallel-degrees : (l : Ellipsoid) → latitude_radius l (from_degrees (num 90)) ≡ metres (num 0)
unfolding computed
north-parallel-degrees l = refl

pub south-parallel-degrees : (l : Ellipsoid) → latitude_radius l (from_degrees (neg (num 90))) ≡ metres (num 0)
unfolding computed
south-parallel-degrees l = refl

-- ---- on WGS84, as bit patterns: 6378137 m and 6356752.314245179 m, the equatorial and the polar radius

abbrev bits : Length → ℕ
bits r = to_bits binary64 r.0

equator-geocentric : bits (geocentric_radius wgs84 (angle (num 0))) ≡ 0x4158_54a6_4000_0000
unfolding computed
equator-geocentric = refl

pole-geocentric : bits (geocentric_radius wgs84 (from_degrees (num 90))) ≡ 0x4158_3fc4_141c_97d0
unfolding computed
pole-geocentric = refl

equator-parallel : bits (latitude_radius wgs84 (angle (num 0))) ≡ 0x4158_54a6_4000_0000
unfolding computed
equator-parallel = refl

equator-prime-vertical : bits (prime_vertical_radius wgs84 (angle (num 0))) ≡ 0x4158_54a6_4000_0000
unfolding computed
equator-prime-vertical = refl
