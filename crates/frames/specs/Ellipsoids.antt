-- Ellipsoids of revolution, and the conversion of positions. ellipsoid.rs.
use Rattle.std.specs.Prelude.{Float}
use Rattle.numbers.specs.Ops.{◌⊕◌, ◌⊖◌, ◌⊗◌, ◌⊘◌, decimal, num}
use Rattle.numbers.specs.Root.{sqrt}
use Rattle.numbers.specs.Powers.{powf_third}
use Rattle.numbers.specs.Lengths.{metres}
use Rattle.numbers.specs.Vec.{vec}
use Rattle.numbers.specs.declared.Length.{Length}
use Rattle.numbers.specs.declared.Vec3.{Vec3}
use Rattle.frames.specs.Positions.{geocentric_from_metres, geocentric_as_metres, nvector, geodetic}
use Rattle.frames.specs.declared.GeocentricPosition.{GeocentricPosition}
use Rattle.frames.specs.declared.GeodeticPosition.{GeodeticPosition}
use Rattle.frames.specs.declared.Ellipsoid.{Ellipsoid}

-- World Geodetic System 1984, the four constants of `Ellipsoid::WGS84`.
-- NIMA TR8350.2 gives the semi-major axis, 6378137 m, and 1/f = 298.257223563; the other three follow from them.
unfoldable pub wgs84 : Ellipsoid
wgs84 = record {
  equatorial_radius = metres (num 6378137);
  polar_radius = metres (decimal 6356752314245179 9);
  eccentricity = decimal 8181919084262157 17;
  flattening = decimal 33528106647474805 19;
}

-- `Ellipsoid::new`, of the equatorial radius and the inverse flattening
unfoldable pub ellipsoid : Length → Float → Ellipsoid
ellipsoid radius inverse =
    let a = radius.0 in
    let f = num 1 ⊘ inverse in
    let b = a ⊗ (num 1 ⊖ f) in
    let e = sqrt (num 1 ⊖ b ⊗ b ⊘ (a ⊗ a)) in
    record { equatorial_radius = radius; polar_radius = metres b; eccentricity = e; flattening = f }

-- `geodetic_to_geocentric_position`
unfoldable pub geodetic_to_geocentric : Ellipsoid → GeodeticPosition → GeocentricPosition
geodetic_to_geocentric l pos =
    let nx = pos.hp.0.x in
    let ny = pos.hp.0.y in
    let nz = pos.hp.0.z in
    let a = l.equatorial_radius.0 in
    let b = l.polar_radius.0 in
    let m = a ⊗ a ⊘ (b ⊗ b) in
    let n = b ⊘ sqrt (nx ⊗ nx ⊗ m ⊕ ny ⊗ ny ⊗ m ⊕ nz ⊗ nz) in
    let h = pos.height.0 in
    geocentric_from_metres (n ⊗ m ⊗ nx ⊕ h ⊗ nx) (n ⊗ m ⊗ ny ⊕ h ⊗ ny) (n ⊗ nz ⊕ h ⊗ nz)

-- ---- `geocentric_to_geodetic_position`, in steps named as the Rust's locals

unfoldable pub p_of : Ellipsoid → Vec3 → Float
p_of l pv =
    let a = l.equatorial_radius.0 in
    (pv.x ⊗ pv.x ⊕ pv.y ⊗ pv.y) ⊘ (a ⊗ a)

unfoldable pub q_of : Ellipsoid → Vec3 → Float
q_of l pv =
    let e2 = l.eccentricity ⊗ l.eccentricity in
    let a = l.equatorial_radius.0 in
    (num 1 ⊖ e2) ⊘ (a ⊗ a) ⊗ (pv.z ⊗ pv.z)

-- u, by r, s and t
unfoldable pub u_of : Float → Float → Float → Float
u_of e4 p q =
    let r = (p ⊕ q ⊖ e4) ⊘ num 6 in
    let s = e4 ⊗ p ⊗ q ⊘ (num 4 ⊗ r ⊗ r ⊗ r) in
    let t = powf_third (num 1 ⊕ s ⊕ sqrt (s ⊗ (num 2 ⊕ s))) in
    r ⊗ (num 1 ⊕ t ⊕ num 1 ⊘ t)

-- k, by v and w
unfoldable pub k_of : Float → Float → Float → Float → Float
k_of e2 e4 q u =
    let v = sqrt (u ⊗ u ⊕ q ⊗ e4) in
    let w = e2 ⊗ (u ⊕ v ⊖ q) ⊘ (num 2 ⊗ v) in
    sqrt (u ⊕ v ⊕ w ⊗ w) ⊖ w

-- the position, by k
unfoldable pub geodetic_by : Float → Float → Vec3 → GeodeticPosition
geodetic_by e2 k pv =
    let d = k ⊗ sqrt (pv.x ⊗ pv.x ⊕ pv.y ⊗ pv.y) ⊘ (k ⊕ e2) in
    let h = (k ⊕ e2 ⊖ num 1) ⊘ k ⊗ sqrt (d ⊗ d ⊕ pv.z ⊗ pv.z) in
    let fs = num 1 ⊘ sqrt (d ⊗ d ⊕ pv.z ⊗ pv.z) in
    let fa = k ⊘ (k ⊕ e2) in
    geodetic (nvector (vec (fs ⊗ fa ⊗ pv.x) (fs ⊗ fa ⊗ pv.y) (fs ⊗ pv.z))) (metres h)

unfoldable pub geocentric_to_geodetic : Ellipsoid → GeocentricPosition → GeodeticPosition
geocentric_to_geodetic l pos =
    let pv = geocentric_as_metres pos in
    let e2 = l.eccentricity ⊗ l.eccentricity in
    let e4 = e2 ⊗ e2 in
    let q = q_of l pv in
    let u = u_of e4 (p_of l pv) q in
    geodetic_by e2 (k_of e2 e4 q u) pv
