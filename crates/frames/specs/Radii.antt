-- The radii of an ellipsoid: at a geodetic latitude, and the mean. ellipsoid.rs.
use Rattle.numbers.specs.Ops.{◌⊕◌, ◌⊖◌, ◌⊗◌, ◌⊘◌, num, pick}
use Rattle.numbers.specs.Root.{sqrt}
use Rattle.numbers.specs.Sine.{sin, cos}
use Rattle.numbers.specs.Powers.{powf_three_halves}
use Rattle.numbers.specs.Angles.{angle_eq, quarter_circle, neg_quarter_circle}
use Rattle.numbers.specs.Lengths.{metres, length_add, length_mul, length_over}
use Rattle.numbers.specs.declared.Angle.{Angle}
use Rattle.numbers.specs.declared.Length.{Length}
use Rattle.frames.specs.declared.Ellipsoid.{Ellipsoid}

-- from the centre to the surface
unfoldable pub geocentric_radius : Ellipsoid → Angle → Length
geocentric_radius l lat =
    let a = l.equatorial_radius.0 in
    let b = l.polar_radius.0 in
    let f1 = a ⊗ a ⊗ cos lat.0 in
    let f2 = b ⊗ b ⊗ sin lat.0 in
    let f3 = a ⊗ cos lat.0 in
    let f4 = b ⊗ sin lat.0 in
    metres (sqrt ((f1 ⊗ f1 ⊕ f2 ⊗ f2) ⊘ (f3 ⊗ f3 ⊕ f4 ⊗ f4)))

-- of curvature, across the meridian: N
unfoldable pub prime_vertical_radius : Ellipsoid → Angle → Length
prime_vertical_radius l lat =
    let e2 = l.eccentricity ⊗ l.eccentricity in
    let s2 = sin lat.0 ⊗ sin lat.0 in
    metres (l.equatorial_radius.0 ⊘ sqrt (num 1 ⊖ e2 ⊗ s2))

-- of curvature, along the meridian: M
unfoldable pub meridian_radius : Ellipsoid → Angle → Length
meridian_radius l lat =
    let e2 = l.eccentricity ⊗ l.eccentricity in
    let s2 = sin lat.0 ⊗ sin lat.0 in
    metres (l.equatorial_radius.0 ⊗ (num 1 ⊖ e2) ⊘ powf_three_halves (num 1 ⊖ e2 ⊗ s2))

-- of the parallel: zero at latitude exactly PI/2 or -PI/2
unfoldable pub latitude_radius : Ellipsoid → Angle → Length
latitude_radius l lat =
    pick (angle_eq lat quarter_circle) (metres (num 0))
    (pick (angle_eq lat neg_quarter_circle) (metres (num 0))
    (length_mul (prime_vertical_radius l lat) (cos lat.0)))

-- the mean of the two equatorial radii and the polar one
unfoldable pub mean_radius : Ellipsoid → Length
mean_radius l = length_over (length_add (length_mul l.equatorial_radius (num 2)) l.polar_radius) (num 3)
