-- Some values of the definitions, by computation, as bit patterns. Assumes nothing.
use mathlib.Core.Path.{◌≡◌, refl}
use mathlib.Core.List.{List, [], ◌∷◌}
use Prim.Native.Nat.{ℕ}
use lib.Ieee.{Float, binary64, of_bits, to_bits, neg}
use Rattle.numbers.specs.Ops.{◌⊕◌, decimal, num}
use Rattle.numbers.specs.Angles.{angle, from_degrees, neg_quarter_circle}
use Rattle.numbers.specs.Lengths.{metres}
use Rattle.numbers.specs.Vec.{raw, unit_z, neg_unit_z}
use Rattle.numbers.specs.declared.Vec3.{Vec3}
use Rattle.frames.specs.Positions.{geocentric_from_metres, nvector, geodetic, latlong_to_nvector}
use Rattle.frames.specs.Ellipsoids.{wgs84, ellipsoid, geodetic_to_geocentric, geocentric_to_geodetic, p_of, q_of}
use Rattle.frames.specs.Vectors.{local_from_metres, from_aer, elevation, bearing, swap}
use Rattle.frames.specs.Rotations.{r2zyx}
use Rattle.frames.specs.Frames.{east_at, frame_origin, local_vector_to, destination_position, enu_from_geodetic, wander_azimuth_from_geodetic, looking_at_geocentric, rotate_around_z, transform}
use Rattle.frames.proofs.Computed.{computed}
use Rattle.frames.specs.declared.GeocentricPosition.{GeocentricPosition}
use Rattle.frames.specs.declared.GeodeticPosition.{GeodeticPosition}
use Rattle.frames.specs.declared.Ellipsoid.{Ellipsoid}
use Rattle.frames.specs.declared.Orientation.TheVariants.{Enu, Ned, Body}
use Rattle.frames.specs.declared.LocalVector.{LocalVector}
use Rattle.frames.specs.declared.LocalFrame.{LocalFrame}

abbrev bits : Float → ℕ
bits x = to_bits binary64 x

abbrev bits_of : Float → Float → Float → List ℕ
bits_of x y z = bits x ∷ bits y ∷ bits z ∷ []

abbrev row_bits : Vec3 → List ℕ
row_bits v = bits_of v.x v.y v.z

abbrev geocentric_bits : GeocentricPosition → List ℕ
geocentric_bits g = bits_of g.x.0 g.y.0 g.z.0

abbrev vector_bits : LocalVector → List ℕ
vector_bits v = bits_of v.x.0 v.y.0 v.z.0

abbrev ellipsoid_bits : Ellipsoid → List ℕ
ellipsoid_bits l = bits l.equatorial_radius.0 ∷ bits l.polar_radius.0 ∷ bits l.eccentricity ∷ bits l.flattening ∷ []

-- ---- WGS84

-- The two numbers of TR8350.2, 6378137 m and 1/f = 298.257223563, give all four constants.
wgs84-constants : ellipsoid_bits wgs84 ≡ 0x4158_54a6_4000_0000 ∷ 0x4158_3fc4_141c_97d0 ∷ 0x3fb4_f21a_3cda_afa0 ∷ 0x3f6b_775a_84f3_e128 ∷ []
unfolding computed
wgs84-constants = refl

wgs84-defined : ellipsoid_bits (ellipsoid (metres (num 6378137)) (decimal 298257223563 9)) ≡ 0x4158_54a6_4000_0000 ∷ 0x4158_3fc4_141c_97d0 ∷ 0x3fb4_f21a_3cda_afa0 ∷ 0x3f6b_775a_84f3_e128 ∷ []
unfolding computed
wgs84-defined = refl

-- Latitude 1°, longitude 2°, height 3 m is (6373290.277, 222560.201, 110568.827): example 4 of Gade's n-vector page.
geodetic-to-geocentric : geocentric_bits (geodetic_to_geocentric wgs84 (geodetic (nvector (latlong_to_nvector (from_degrees (num 1)) (from_degrees (num 2)))) (metres (num 3)))) ≡ 0x4158_4fea_91bd_f1be ∷ 0x410b_2b01_9afb_5b35 ∷ 0x40fa_fe8d_3c22_f7e7 ∷ []
unfolding computed
geodetic-to-geocentric = refl

-- 6371 km times (0.9, -1, 1.1) is latitude 39.379°, longitude -48.013°, height 4702059.834 m: his example 3.
abbrev high : GeodeticPosition
high = geocentric_to_geodetic wgs84 (geocentric_from_metres (num 5733900) (neg (num 6371000)) (num 7008100))

geocentric-to-nvector : row_bits high.hp.0 ≡ 0x3fe0_8bfe_273b_f960 ∷ 0xbfe2_62a8_9d5f_1515 ∷ 0x3fe4_4d5d_34d2_df16 ∷ []
unfolding computed
geocentric-to-nvector = refl

geocentric-to-height : bits high.height.0 ≡ 0x4151_efda_f565_1638
unfolding computed
geocentric-to-height = refl

-- ---- the first starred sheet of document 01

abbrev globe : Ellipsoid
globe = ellipsoid (metres (num 6400000)) (num 128)

abbrev pole : LocalFrame
pole = enu_from_geodetic (geodetic (nvector (latlong_to_nvector (from_degrees (num 90)) (from_degrees (num 0)))) (metres (num 0))) globe

pole-origin : row_bits pole.origin ≡ 0 ∷ 0 ∷ 0x4158_392c_0000_0000 ∷ []
unfolding computed
pole-origin = refl

pole-row-0 : row_bits pole.dir_rm.r0 ≡ 0xbff0_0000_0000_0000 ∷ 0 ∷ 0 ∷ []
unfolding computed
pole-row-0 = refl

pole-row-1 : row_bits pole.dir_rm.r1 ≡ 0 ∷ 0xbff0_0000_0000_0000 ∷ 0 ∷ []
unfolding computed
pole-row-1 = refl

pole-row-2 : row_bits pole.dir_rm.r2 ≡ 0 ∷ 0 ∷ 0x3ff0_0000_0000_0000 ∷ []
unfolding computed
pole-row-2 = refl

swapped : vector_bits (swap (local_from_metres Enu (num 1) (num 2) (num 3))) ≡ 0x4000_0000_0000_0000 ∷ 0x3ff0_0000_0000_0000 ∷ 0xc008_0000_0000_0000 ∷ []
unfolding computed
swapped = refl

to-origin : vector_bits (local_vector_to pole (frame_origin pole)) ≡ 0 ∷ 0 ∷ 0 ∷ []
unfolding computed
to-origin = refl

-- ---- more of that frame

at-vector : geocentric_bits (destination_position pole (local_from_metres Enu (num 1) (num 2) (num 3))) ≡ 0xbff0_0000_0000_0000 ∷ 0xc000_0000_0000_0000 ∷ 0x4158_392c_c000_0000 ∷ []
unfolding computed
at-vector = refl

-- a turn of a z-up frame aligns it to z down: x and y change places
turned-row-0 : row_bits (rotate_around_z pole (angle (num 0))).dir_rm.r0 ≡ 0 ∷ 0xbff0_0000_0000_0000 ∷ 0 ∷ []
unfolding computed
turned-row-0 = refl

-- p + q at (3200000, 0, 0) is 0.25
centre : bits (p_of globe (raw (num 3200000) (num 0) (num 0)) ⊕ q_of globe (raw (num 3200000) (num 0) (num 0))) ≡ 0x3fd0_0000_0000_0000
unfolding computed
centre = refl

-- east at both poles is (-1, 0, 0)
east-north-pole : row_bits (east_at unit_z) ≡ 0xbff0_0000_0000_0000 ∷ 0 ∷ 0 ∷ []
unfolding computed
east-north-pole = refl

east-south-pole : row_bits (east_at neg_unit_z) ≡ 0xbff0_0000_0000_0000 ∷ 0 ∷ 0 ∷ []
unfolding computed
east-south-pole = refl

-- at the South Pole the longitude is dropped
south-pole : row_bits (latlong_to_nvector neg_quarter_circle (angle (num 1))) ≡ 0 ∷ 0 ∷ 0xbff0_0000_0000_0000 ∷ []
unfolding computed
south-pole = refl

-- ---- vectors

-- straight up, 2^-51 m and 2^-52 m away: PI/2 and 0
elevation-up : bits (elevation (local_from_metres Enu (num 0) (num 0) (of_bits binary64 0x3cc0_0000_0000_0000))).0 ≡ 0x3ff9_21fb_5444_2d18
unfolding computed
elevation-up = refl

elevation-none : bits (elevation (local_from_metres Enu (num 0) (num 0) (of_bits binary64 0x3cb0_0000_0000_0000))).0 ≡ 0
unfolding computed
elevation-none = refl

-- z points down: -PI/2
elevation-down : bits (elevation (local_from_metres Ned (num 0) (num 0) (num 1))).0 ≡ 0xbff9_21fb_5444_2d18
unfolding computed
elevation-down = refl

-- a hair west of north is north
bearing-hair : bits (bearing (local_from_metres Ned (num 1) (neg (decimal 1 17)) (num 0))).0 ≡ 0
unfolding computed
bearing-hair = refl

-- azimuth 155.427°, elevation -23.161°, range 10.885 m is (-9.101, 4.162, 4.281): the example of vector.rs
aer : vector_bits (from_aer Body (from_degrees (decimal 155427 3)) (from_degrees (neg (decimal 23161 3))) (metres (decimal 10885 3))) ≡ 0xc022_33e1_57bd_e014 ∷ 0x4010_a59b_b453_9d49 ∷ 0x4011_1fff_1f2b_5136 ∷ []
unfolding computed
aer = refl

-- ---- other frames, and their angles

-- latitude 52°, longitude 4°, wander azimuth 10°
wander-row-0 : row_bits (wander_azimuth_from_geodetic (from_degrees (num 10)) (geodetic (nvector (latlong_to_nvector (from_degrees (num 52)) (from_degrees (num 4)))) (metres (num 0))) wgs84).dir_rm.r0 ≡ 0xbfe9_290e_7d4b_66a2 ∷ 0x3fb1_5bc5_c603_4b35 ∷ 0xbfe3_a736_8d7a_0476 ∷ []
unfolding computed
wander-row-0 = refl

-- from the position of example 3 to (6378137, 0, 0), rolled by 5°
abbrev looking : LocalFrame
looking = looking_at_geocentric (geocentric_from_metres (num 5733900) (neg (num 6371000)) (num 7008100)) (geocentric_from_metres (num 6378137) (num 0) (num 0)) (from_degrees (num 5)) wgs84

looking-row-0 : row_bits looking.dir_rm.r0 ≡ 0x3fb1_5f89_32de_0018 ∷ 0xbfb5_87e9_d691_00a4 ∷ 0xbfef_d005_81e9_de3e ∷ []
unfolding computed
looking-row-0 = refl

-- moved by (1, 2, 3), then yaw 10°, pitch 20°, roll 30°
abbrev moved : LocalFrame
moved = transform looking (local_from_metres Body (num 1) (num 2) (num 3)) (from_degrees (num 10)) (from_degrees (num 20)) (from_degrees (num 30))

moved-origin : row_bits moved.origin ≡ 0x4155_df82_3ab3_cc56 ∷ 0xc158_4dae_1e38_89f5 ∷ 0x415a_bbd8_7bb2_3122 ∷ []
unfolding computed
moved-origin = refl

moved-yaw : bits (r2zyx moved.dir_rm).z.0 ≡ 0x3feb_f3b5_172a_1c39
unfolding computed
moved-yaw = refl
