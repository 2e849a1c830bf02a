-- Which positions are of doubles (`FitPosition`), and which have an n-vector that `Vec3::new` leaves unchanged (`SettledPosition`). Assumes nothing.
use lib.Ieee.{binary64}
use lib.Ieee.Fits.{add-fits, mul-fits}
use Rattle.numbers.specs.Ops.{◌⊗◌}
use Rattle.numbers.specs.Sine.{sin, cos}
use Rattle.numbers.specs.Angles.{angle_eq, quarter_circle, neg_quarter_circle}
use Rattle.numbers.specs.Vec.{unit_z, neg_unit_z}
use Rattle.numbers.specs.declared.Angle.{Angle}
use Rattle.numbers.specs.declared.Length.{Length}
use Rattle.numbers.specs.declared.Vec3.{Vec3}
use Rattle.numbers.proofs.FitLaws.{Fits, sin-fits}
use Rattle.numbers.proofs.VecLaws.{SettledVec, vec-settled, unit_z-settled, neg_unit_z-settled, picked, settled-fits}
use Rattle.frames.specs.Positions.{geocentric, geocentric_from_vec3, geocentric_as_metres, geodetic, nvector, latlong_to_nvector}
use Rattle.frames.specs.Ellipsoids.{geodetic_to_geocentric, geodetic_by, geocentric_to_geodetic}
use Rattle.frames.specs.declared.GeocentricPosition.{GeocentricPosition}
use Rattle.frames.specs.declared.GeodeticPosition.{GeodeticPosition}
use Rattle.frames.specs.declared.Ellipsoid.{Ellipsoid}

-- ---- geocentric: the coordinates are doubles

pub record FitPosition (g : GeocentricPosition) : Type 0 where
  pub fit_x : Fits g.x.0
  pub fit_y : Fits g.y.0
  pub fit_z : Fits g.z.0

pub geocentric-fits : (x y z : Length) → Fits x.0 → Fits y.0 → Fits z.0 → FitPosition (geocentric x y z)
geocentric-fits x y z p q r = record { fit_x = p; fit_y = q; fit_z = r }

pub geodetic_to_geocentric-fits : (l : Ellipsoid) (d : GeodeticPosition) → FitPosition (geodetic_to_geocentric l d)
unfolding geodetic_to_geocentric
geodetic_to_geocentric-fits l d = record { fit_x = add-fits binary64 _ _; fit_y = add-fits binary64 _ _; fit_z = add-fits binary64 _ _ }

pub geocentric_from_vec3-fits : (v : Vec3) → SettledVec v → FitPosition (geocentric_from_vec3 v)
geocentric_from_vec3-fits v s = record { fit_x = settled-fits v.x s.on_x; fit_y = settled-fits v.y s.on_y; fit_z = settled-fits v.z s.on_z }

pub geocentric_as_metres-settled : (g : GeocentricPosition) → FitPosition g → SettledVec (geocentric_as_metres g)
geocentric_as_metres-settled g h = vec-settled g.x.0 g.y.0 g.z.0 h.fit_x h.fit_y h.fit_z

-- ---- geodetic: the n-vector went through `Vec3::new`

abbrev pub SettledPosition : GeodeticPosition → Type 0
SettledPosition d = SettledVec d.hp.0

-- of a latitude and a longitude, whatever they are
pub latlong_to_nvector-settled : (lat lon : Angle) → SettledVec (latlong_to_nvector lat lon)
unfolding latlong_to_nvector
latlong_to_nvector-settled lat lon =
    let cl = cos lat.0 in
    picked SettledVec (angle_eq lat quarter_circle) unit_z _ unit_z-settled
    (picked SettledVec (angle_eq lat neg_quarter_circle) neg_unit_z _ neg_unit_z-settled
    (vec-settled (cl ⊗ cos lon.0) (cl ⊗ sin lon.0) (sin lat.0) (mul-fits binary64 cl (cos lon.0)) (mul-fits binary64 cl (sin lon.0)) (sin-fits lat.0)))

pub latlong-settled : (lat lon : Angle) (h : Length) → SettledPosition (geodetic (nvector (latlong_to_nvector lat lon)) h)
latlong-settled lat lon h = latlong_to_nvector-settled lat lon

-- of a geocentric position, whatever it is
pub geocentric_to_geodetic-settled : (l : Ellipsoid) (g : GeocentricPosition) → SettledPosition (geocentric_to_geodetic l g)
unfolding geocentric_to_geodetic geodetic_by
geocentric_to_geodetic-settled l g = vec-settled _ _ _ (mul-fits binary64 _ _) (mul-fits binary64 _ _) (mul-fits binary64 _ _)
