-- Every frame that the machine makes is sound, and every value shown good. The law of values: numbers, lengths and positions are of doubles, a geodetic position's n-vector went through `Vec3::new`, a frame is sound. Assumes nothing.
use mathlib.Core.List.{List, [], ◌∷◌}
use mathlib.Core.Option.{Option, none, some}
use lib.Ieee.{Float, binary64}
use lib.Ieee.Fits.{round-fits, add-fits}
use Rattle.numbers.specs.Ops.{num}
use Rattle.numbers.specs.Lengths.{metres}
use Rattle.numbers.specs.declared.Length.{Length}
use Rattle.numbers.proofs.FitLaws.{Fits, decimal-fits}
use Rattle.frames.proofs.PositionLaws.{FitPosition, SettledPosition, geocentric-fits, geodetic_to_geocentric-fits, latlong-settled, geocentric_to_geodetic-settled}
use Rattle.frames.proofs.FitLaws.{slant_range-fits}
use Rattle.frames.proofs.FrameLaws.{Sound, enu_from_geocentric-sound, enu_from_geodetic-sound, ned_from_geocentric-sound, ned_from_geodetic-sound, wander_azimuth_from_geocentric-sound, wander_azimuth_from_geodetic-sound, body_from_geocentric-sound, body_from_geodetic-sound, looking_at_geocentric-sound, looking_at_geodetic-sound, rotate_around_z-sound, transform-sound, frame_origin-fits, destination_position-fits}
use Rattle.sheets.specs.declared.Value.{Value}
use Rattle.sheets.specs.declared.Value.TheVariants.{Number, Radians, Metres, Geocentric, Geodetic, Vector, Frame}
use Rattle.sheets.specs.Trees.{Num, Sheet}
use Rattle.sheets.specs.Letters.{𝐥, held}
use Rattle.sheets.specs.Table.{table}
use Rattle.sheets.specs.Entries.{Entry, shown, summed, entry_value, plus, sum_from, total}
use Rattle.sheets.specs.Limits.{num_value}
use Rattle.sheets.specs.Machine.{machine, last_state}
use Rattle.sheets.specs.Claim.{All, frames_made}
use Rattle.sheets.proofs.Trace.{Keeps, good-ran}

abbrev pub Good : Value → Type 0
Good (Number x) = Fits x
Good (Radians a) = Unit {0}
Good (Metres l) = Fits l.0
Good (Geocentric g) = FitPosition g
Good (Geodetic d) = SettledPosition d
Good (Vector v) = Unit {0}
Good (Frame f) = Sound f

nums : (q : Num) → Good (Number (num_value q))
unfolding num_value
nums q = round-fits binary64 _ _ _

sums : (es : List Entry) → Good (Metres (total es))
unfolding total
sums es = go (metres (num 0)) es (decimal-fits 0 0)
  where
    plus-fits : (t : Length) (o : Option Length) → Fits t.0 → Fits (plus t o).0
    plus-fits t none h = h
    plus-fits t (some l) h = add-fits binary64 t.0 l.0

    go : (t : Length) (es : List Entry) → Fits t.0 → Fits (sum_from t es).0
    go t [] h = h
    go t (shown i g ∷ es) h = go (plus t (held 𝐥 g.value)) es (plus-fits t (held 𝐥 g.value) h)
    go t (summed u ∷ es) h = go t es h

rows : All (Keeps Good Sound) table
unfolding table
rows = (
  λ e xs h. (tt, tt),
  (
    λ e xs h. (h.0, tt),
    (
      λ e xs h. (geocentric-fits xs.0 xs.1.0 xs.1.1.0 h.0 h.1.0 h.1.1.0, tt),
      (
        λ e xs h. (latlong-settled xs.0 xs.1.0 xs.1.1.0, tt),
        (
          λ e xs h. (geodetic_to_geocentric-fits e xs.0, tt),
          (
            λ e xs h. (geocentric_to_geodetic-settled e xs.0, tt),
            (
              λ e xs h. (tt, tt),
              (
                λ e xs h. (tt, tt),
                (
                  λ e xs h. (tt, tt),
                  (
                    λ e xs h. (tt, tt),
                    (
                      λ e xs h. (tt, tt),
                      (
                        λ e xs h. (tt, tt),
                        (
                          λ e xs h. (tt, tt),
                          (
                            λ e xs h. (tt, tt),
                            (
                              λ e xs h. let s = enu_from_geocentric-sound xs.0 e h.0 in (s, (s, tt)),
                              (
                                λ e xs h. let s = enu_from_geodetic-sound xs.0 e h.0 in (s, (s, tt)),
                                (
                                  λ e xs h. let s = ned_from_geocentric-sound xs.0 e h.0 in (s, (s, tt)),
                                  (
                                    λ e xs h. let s = ned_from_geodetic-sound xs.0 e in (s, (s, tt)),
                                    (
                                      λ e xs h. let s = wander_azimuth_from_geocentric-sound xs.0 xs.1.0 e h.1.0 in (s, (s, tt)),
                                      (
                                        λ e xs h. let s = wander_azimuth_from_geodetic-sound xs.0 xs.1.0 e in (s, (s, tt)),
                                        (
                                          λ e xs h. let s = body_from_geocentric-sound xs.0 xs.1.0 xs.1.1.0 xs.1.1.1.0 e h.1.1.1.0 in (s, (s, tt)),
                                          (
                                            λ e xs h. let s = body_from_geodetic-sound xs.0 xs.1.0 xs.1.1.0 xs.1.1.1.0 e in (s, (s, tt)),
                                            (
                                              λ e xs h. let s = looking_at_geocentric-sound xs.0 xs.1.0 xs.1.1.0 e h.0 in (s, (s, tt)),
                                              (
                                                λ e xs h. let s = looking_at_geodetic-sound xs.0 xs.1.0 xs.1.1.0 e in (s, (s, tt)),
                                                (
                                                  λ e xs h. let s = rotate_around_z-sound xs.0 xs.1.0 h.0 in (s, (s, tt)),
                                                  (
                                                    λ e xs h. let s = transform-sound xs.0 xs.1.0 xs.1.1.0 xs.1.1.1.0 xs.1.1.1.1.0 in (s, (s, tt)),
                                                    (
                                                      λ e xs h. (tt, tt),
                                                      (
                                                        λ e xs h. (destination_position-fits xs.0 xs.1.0, tt),
                                                        (
                                                          λ e xs h. (tt, tt),
                                                          (
                                                            λ e xs h. (tt, tt),
                                                            (
                                                              λ e xs h. (tt, tt),
                                                              (
                                                                λ e xs h. (tt, tt),
                                                                (
                                                                  λ e xs h. (tt, tt),
                                                                  (
                                                                    λ e xs h. (tt, tt),
                                                                    (
                                                                      λ e xs h. (tt, tt),
                                                                      (
                                                                        λ e xs h. (slant_range-fits xs.0, tt),
                                                                        (
                                                                          λ e xs h. (frame_origin-fits xs.0 h.0, tt),
                                                                          (
                                                                            λ e xs h. (tt, tt),
                                                                            (
                                                                              λ e xs h. (tt, tt),
                                                                              (
                                                                                λ e xs h. (tt, tt),
                                                                                tt,
                                                                              ),
                                                                            ),
                                                                          ),
                                                                        ),
                                                                      ),
                                                                    ),
                                                                  ),
                                                                ),
                                                              ),
                                                            ),
                                                          ),
                                                        ),
                                                      ),
                                                    ),
                                                  ),
                                                ),
                                              ),
                                            ),
                                          ),
                                        ),
                                      ),
                                    ),
                                  ),
                                ),
                              ),
                            ),
                          ),
                        ),
                      ),
                    ),
                  ),
                ),
              ),
            ),
          ),
        ),
      ),
    ),
  ),
)

pub every-frame : (c : Sheet) (rs : List Float) → All Fits rs → All Sound (frames_made (machine c rs))
every-frame c rs h = (good-ran Good Sound nums sums rows c rs (decimal-fits 0 0) h).0

-- and every value shown is good: a length is a double
pub every-shown : (c : Sheet) (rs : List Float) → All Fits rs → All (λ a. Good (entry_value a)) (last_state (machine c rs)).entries
every-shown c rs h = (good-ran Good Sound nums sums rows c rs (decimal-fits 0 0) h).1
