-- THE OPERATIONS OF `frames` BY THEIR NUMBERS: what each answers to the words a that it is given.
-- An ellipsoid is the first four words, a frame the first 22, an orientation the first.
use Rattle.std.specs.Prelude.{List, [], ◌∷◌}
use Rattle.numbers.specs.Ops.{◌⊕◌}
use Rattle.frames.specs.Positions.{geocentric, geocentric_from_metres, geocentric_from_vec3, geocentric_as_metres, nvector, geodetic, lat_long, nvector_to_latlong, latlong_to_nvector}
use Rattle.frames.specs.Ellipsoids.{wgs84, ellipsoid, geodetic_to_geocentric, geocentric_to_geodetic, p_of, q_of}
use Rattle.frames.specs.Radii.{geocentric_radius, latitude_radius, prime_vertical_radius, meridian_radius, mean_radius}
use Rattle.frames.specs.Orientations.{is_z_up, align_to_z_down}
use Rattle.frames.specs.Vectors.{local_vector, local_from_metres, local_from_vec3, local_zero, local_as_metres, from_aer, slant_range, elevation, bearing, local_add, local_sub, local_mul, local_div, local_neg, swap}
use Rattle.frames.specs.Rotations.{zyx2r, xyz2r, r2xyz, r2zyx}
use Rattle.frames.specs.Frames.{enu_from_geocentric, enu_from_geodetic, ned_from_geocentric, ned_from_geodetic, body_from_geocentric, body_from_geodetic, wander_azimuth_from_geocentric, wander_azimuth_from_geodetic, looking_at_geocentric, looking_at_geodetic, rotate_around_z, transform, frame_origin, local_vector_to, destination_position}
use Rattle.test_operations.specs.Rows.{Row, ◌⟼◌}
use Rattle.test_operations.specs.Words.{double_at, vector_at, matrix_at, number, truth, vector, matrix}
use Rattle.test_operations.specs.Values.{angle_at, length_at, geocentric_at, geodetic_at, ellipsoid_at, orientation_at, local_at, frame_at, three, geocentric_words, geodetic_words, lat_long_words, ellipsoid_words, xyz_words, zyx_words, parts_words, local_words, frame_words}

-- ---- the rows, the last first

unfoldable pub radius_rows : List Row
radius_rows =
    (54 ⟼ λ a. number (geocentric_radius (ellipsoid_at a) (angle_at a 4)).0)
    ∷ (55 ⟼ λ a. number (latitude_radius (ellipsoid_at a) (angle_at a 4)).0)
    ∷ (56 ⟼ λ a. number (prime_vertical_radius (ellipsoid_at a) (angle_at a 4)).0)
    ∷ (57 ⟼ λ a. number (meridian_radius (ellipsoid_at a) (angle_at a 4)).0)
    ∷ (58 ⟼ λ a. number (mean_radius (ellipsoid_at a)).0)
    ∷ (59 ⟼ λ a. local_words (local_div (local_at a 1) (double_at a 4)))
    ∷ []

unfoldable pub led_rows : List Row
led_rows =
    (47 ⟼ λ a. frame_words (rotate_around_z (frame_at a) (angle_at a 22)))
    ∷ (48 ⟼ λ a. matrix (frame_at a).dir_rm)
    ∷ (49 ⟼ λ a. matrix (frame_at a).inv_rm)
    ∷ (50 ⟼ λ a. geocentric_words (frame_origin (frame_at a)))
    ∷ (51 ⟼ λ a. frame_words (transform (frame_at a) (local_at a 22) (angle_at a 25) (angle_at a 26) (angle_at a 27)))
    ∷ (52 ⟼ λ a. local_words (local_vector_to (frame_at a) (geocentric_at a 22)))
    ∷ (53 ⟼ λ a. geocentric_words (destination_position (frame_at a) (local_at a 22)))
    ∷ radius_rows

unfoldable pub turned_rows : List Row
turned_rows =
    (41 ⟼ λ a. frame_words (body_from_geocentric (angle_at a 7) (angle_at a 8) (angle_at a 9) (geocentric_at a 4) (ellipsoid_at a)))
    ∷ (42 ⟼ λ a. frame_words (body_from_geodetic (angle_at a 8) (angle_at a 9) (angle_at a 10) (geodetic_at a 4) (ellipsoid_at a)))
    ∷ (43 ⟼ λ a. frame_words (wander_azimuth_from_geocentric (angle_at a 7) (geocentric_at a 4) (ellipsoid_at a)))
    ∷ (44 ⟼ λ a. frame_words (wander_azimuth_from_geodetic (angle_at a 8) (geodetic_at a 4) (ellipsoid_at a)))
    ∷ (45 ⟼ λ a. frame_words (looking_at_geocentric (geocentric_at a 4) (geocentric_at a 7) (angle_at a 10) (ellipsoid_at a)))
    ∷ (46 ⟼ λ a. frame_words (looking_at_geodetic (geodetic_at a 4) (geodetic_at a 8) (angle_at a 12) (ellipsoid_at a)))
    ∷ led_rows

unfoldable pub level_rows : List Row
level_rows =
    (37 ⟼ λ a. frame_words (enu_from_geocentric (geocentric_at a 4) (ellipsoid_at a)))
    ∷ (38 ⟼ λ a. frame_words (enu_from_geodetic (geodetic_at a 4) (ellipsoid_at a)))
    ∷ (39 ⟼ λ a. frame_words (ned_from_geocentric (geocentric_at a 4) (ellipsoid_at a)))
    ∷ (40 ⟼ λ a. frame_words (ned_from_geodetic (geodetic_at a 4) (ellipsoid_at a)))
    ∷ turned_rows

unfoldable pub rotation_rows : List Row
rotation_rows =
    (31 ⟼ λ a. truth (is_z_up (orientation_at a)))
    ∷ (32 ⟼ λ a. matrix align_to_z_down)
    ∷ (33 ⟼ λ a. matrix (zyx2r (angle_at a 0) (angle_at a 1) (angle_at a 2)))
    ∷ (34 ⟼ λ a. matrix (xyz2r (angle_at a 0) (angle_at a 1) (angle_at a 2)))
    ∷ (35 ⟼ λ a. xyz_words (r2xyz (matrix_at a 0)))
    ∷ (36 ⟼ λ a. zyx_words (r2zyx (matrix_at a 0)))
    ∷ level_rows

unfoldable pub combined_rows : List Row
combined_rows =
    (22 ⟼ λ a. vector (local_as_metres (local_at a 1)))
    ∷ (23 ⟼ λ a. number (slant_range (local_at a 1)).0)
    ∷ (24 ⟼ λ a. number (elevation (local_at a 1)).0)
    ∷ (25 ⟼ λ a. number (bearing (local_at a 1)).0)
    ∷ (26 ⟼ λ a. local_words (local_add (local_at a 1) (local_at a 4)))
    ∷ (27 ⟼ λ a. local_words (local_sub (local_at a 1) (local_at a 4)))
    ∷ (28 ⟼ λ a. local_words (local_mul (local_at a 1) (double_at a 4)))
    ∷ (29 ⟼ λ a. local_words (local_neg (local_at a 1)))
    ∷ (30 ⟼ λ a. local_words (swap (local_at a 1)))
    ∷ rotation_rows

unfoldable pub vector_rows : List Row
vector_rows =
    (17 ⟼ λ a. local_words (local_zero (orientation_at a)))
    ∷ (18 ⟼ λ a. parts_words (local_vector (orientation_at a) (length_at a 1) (length_at a 2) (length_at a 3)))
    ∷ (19 ⟼ λ a. local_words (local_from_metres (orientation_at a) (double_at a 1) (double_at a 2) (double_at a 3)))
    ∷ (20 ⟼ λ a. local_words (local_from_vec3 (orientation_at a) (vector_at a 1)))
    ∷ (21 ⟼ λ a. local_words (from_aer (orientation_at a) (angle_at a 1) (angle_at a 2) (length_at a 3)))
    ∷ combined_rows

-- p, q and their sum of operation 16 are those of refusal 8
unfoldable pub ellipsoid_rows : List Row
ellipsoid_rows =
    (10 ⟼ λ a. ellipsoid_words (ellipsoid (length_at a 0) (double_at a 1)))
    ∷ (11 ⟼ λ a. ellipsoid_words wgs84)
    ∷ (12 ⟼ λ a. ellipsoid_words wgs84)
    ∷ (13 ⟼ λ a. ellipsoid_words (ellipsoid_at a))
    ∷ (14 ⟼ λ a. geocentric_words (geodetic_to_geocentric (ellipsoid_at a) (geodetic_at a 4)))
    ∷ (15 ⟼ λ a. geodetic_words (geocentric_to_geodetic (ellipsoid_at a) (geocentric_at a 4)))
    ∷ (16 ⟼ λ a. let p = p_of (ellipsoid_at a) (vector_at a 4) in let q = q_of (ellipsoid_at a) (vector_at a 4) in three p q (p ⊕ q))
    ∷ vector_rows

-- all of them
unfoldable pub table : List Row
table =
    (0 ⟼ λ a. geocentric_words (geocentric (length_at a 0) (length_at a 1) (length_at a 2)))
    ∷ (1 ⟼ λ a. geocentric_words (geocentric_from_metres (double_at a 0) (double_at a 1) (double_at a 2)))
    ∷ (2 ⟼ λ a. geocentric_words (geocentric_from_vec3 (vector_at a 0)))
    ∷ (3 ⟼ λ a. vector (geocentric_as_metres (geocentric_at a 0)))
    ∷ (4 ⟼ λ a. geodetic_words (geodetic (nvector (vector_at a 0)) (length_at a 3)))
    ∷ (5 ⟼ λ a. lat_long_words (lat_long (angle_at a 0) (angle_at a 1)))
    ∷ (6 ⟼ λ a. lat_long_words (nvector_to_latlong (vector_at a 0)))
    ∷ (7 ⟼ λ a. vector (latlong_to_nvector (angle_at a 0) (angle_at a 1)))
    ∷ (8 ⟼ λ a. vector (latlong_to_nvector (angle_at a 0) (angle_at a 1)))
    ∷ (9 ⟼ λ a. vector (vector_at a 0))
    ∷ ellipsoid_rows
