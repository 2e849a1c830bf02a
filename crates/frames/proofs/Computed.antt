-- `unfolding computed` under a theorem's signature has every definition here, and of the numbers, computed.
use mathlib.Core.Bool.{Bool, true}
use Rattle.numbers.proofs.Computed as Numbers
use Rattle.frames.specs.Positions.{nvector_to_latlong, latlong_to_nvector}
use Rattle.frames.specs.Ellipsoids.{wgs84, ellipsoid, geodetic_to_geocentric, p_of, q_of, u_of, k_of, geodetic_by, geocentric_to_geodetic}
use Rattle.frames.specs.Radii.{geocentric_radius, prime_vertical_radius, meridian_radius, latitude_radius, mean_radius}
use Rattle.frames.specs.Orientations.{align_to_z_down}
use Rattle.frames.specs.Vectors.{aer_to_nez, from_aer, slant_range, elevation, bearing, swap}
use Rattle.frames.specs.Rotations.{r2xyz, r2zyx, zyx2r, xyz2r}
use Rattle.frames.specs.Frames.{enu_inverse, ned_inverse, new_enu, new_ned, new_body, new_wander_azimuth, local_vector_to, destination_position, enu_from_geocentric, enu_from_geodetic, ned_from_geocentric, ned_from_geodetic, body_from_geocentric, body_from_geodetic, wander_azimuth_from_geocentric, wander_azimuth_from_geodetic, looking_at, looking_at_geocentric, looking_at_geodetic, rotate, rotate_around_z, transform}

unfoldable pub computed : Bool
unfolding Numbers.computed nvector_to_latlong latlong_to_nvector wgs84 ellipsoid geodetic_to_geocentric p_of q_of u_of k_of geodetic_by geocentric_to_geodetic geocentric_radius prime_vertical_radius meridian_radius latitude_radius mean_radius align_to_z_down aer_to_nez from_aer slant_range elevation bearing swap r2xyz r2zyx zyx2r xyz2r enu_inverse ned_inverse new_enu new_ned new_body new_wander_azimuth local_vector_to destination_position enu_from_geocentric enu_from_geodetic ned_from_geocentric ned_from_geodetic body_from_geocentric body_from_geodetic wander_azimuth_from_geocentric wander_azimuth_from_geodetic looking_at looking_at_geocentric looking_at_geodetic rotate rotate_around_z transform
computed = true
