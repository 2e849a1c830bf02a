-- The value of each row has the kind that the row gives. Assumes nothing.
use mathlib.Core.Path.{◌≡◌, refl, ap}
use mathlib.Core.Bool.{Bool, true, false}
use mathlib.Core.List.{List, [], ◌∷◌}
use mathlib.Core.Option.{Option, none, some}
use lib.Dec.{T}
use Rattle.frames.specs.Vectors.{from_aer, swap_from, swap}
use Rattle.frames.specs.Frames.{new_enu, new_ned, new_body, new_wander_azimuth, enu_from_geocentric, enu_from_geodetic, ned_from_geocentric, ned_from_geodetic, wander_azimuth_from_geocentric, wander_azimuth_from_geodetic, body_from_geocentric, body_from_geodetic, looking_at, looking_at_geocentric, looking_at_geodetic, rotate_around_z, transform, local_vector_to}
use Rattle.frames.specs.declared.Ellipsoid.{Ellipsoid}
use Rattle.frames.specs.declared.Orientation.{Orientation}
use Rattle.frames.specs.declared.Orientation.TheVariants.{Enu, Ned, Body, Wan}
use Rattle.frames.specs.declared.LocalVector.{LocalVector}
use Rattle.sheets.specs.declared.Value.{Value}
use Rattle.sheets.specs.Text.{Word}
use Rattle.sheets.specs.Kinds.{kind_of, vector}
use Rattle.sheets.specs.Letters.{Holds, hold, orientations}
use Rattle.sheets.specs.Table.{Row, on, when, other, table}
use Rattle.sheets.specs.Lookup.{same_word, shared, Hit, hit, find}
use Rattle.sheets.specs.Claim.{All}
use Rattle.sheets.proofs.rows.FindKind.{lead}

abbrev pub Kept : Row → Type 0
Kept r = (e : Ellipsoid) (xs : Holds r.takes) → kind_of (on r.takes (r.apply e) xs) ≡ r.gives (lead (orientations r.takes xs))

-- `swap` hands back the other orientation
swap-from : (o : Orientation) (v : LocalVector) → v.orientation ≡ o → (swap_from o v).orientation ≡ other o
swap-from Enu v e = refl
swap-from Ned v e = refl
swap-from Body v e = e
swap-from Wan v e = e

swap-other : (v : LocalVector) → (swap v).orientation ≡ other v.orientation
unfolding swap
swap-other v = swap-from v.orientation v refl

pub kept : All Kept table
unfolding table new_enu new_ned new_body new_wander_azimuth enu_from_geocentric enu_from_geodetic ned_from_geocentric ned_from_geodetic wander_azimuth_from_geocentric wander_azimuth_from_geodetic body_from_geocentric body_from_geodetic looking_at looking_at_geocentric looking_at_geodetic rotate_around_z transform local_vector_to from_aer
kept = (
  λ e xs. refl,
  (
    λ e xs. refl,
    (
      λ e xs. refl,
      (
        λ e xs. refl,
        (
          λ e xs. refl,
          (
            λ e xs. refl,
            (
              λ e xs. refl,
              (
                λ e xs. refl,
                (
                  λ e xs. refl,
                  (
                    λ e xs. refl,
                    (
                      λ e xs. refl,
                      (
                        λ e xs. refl,
                        (
                          λ e xs. refl,
                          (
                            λ e xs. refl,
                            (
                              λ e xs. refl,
                              (
                                λ e xs. refl,
                                (
                                  λ e xs. refl,
                                  (
                                    λ e xs. refl,
                                    (
                                      λ e xs. refl,
                                      (
                                        λ e xs. refl,
                                        (
                                          λ e xs. refl,
                                          (
                                            λ e xs. refl,
                                            (
                                              λ e xs. refl,
                                              (
                                                λ e xs. refl,
                                                (
                                                  λ e xs. refl,
                                                  (
                                                    λ e xs. refl,
                                                    (
                                                      λ e xs. refl,
                                                      (
                                                        λ e xs. refl,
                                                        (
                                                          λ e xs. refl,
                                                          (
                                                            λ e xs. refl,
                                                            (
                                                              λ e xs. refl,
                                                              (
                                                                λ e xs. refl,
                                                                (
                                                                  λ e xs. ap vector (swap-other xs.0),
                                                                  (
                                                                    λ e xs. refl,
                                                                    (
                                                                      λ e xs. refl,
                                                                      (
                                                                        λ e xs. refl,
                                                                        (
                                                                          λ e xs. refl,
                                                                          (
                                                                            λ e xs. refl,
                                                                            (
                                                                              λ e xs. refl,
                                                                              (
                                                                                λ e xs. refl,
                                                                                tt,
                                                                              ),
                                                                            ),
                                                                          ),
                                                                        ),
                                                                      ),
                                                                    ),
                                                                  ),
                                                                ),
                                                              ),
                                                            ),
                                                          ),
                                                        ),
                                                      ),
                                                    ),
                                                  ),
                                                ),
                                              ),
                                            ),
                                          ),
                                        ),
                                      ),
                                    ),
                                  ),
                                ),
                              ),
                            ),
                          ),
                        ),
                      ),
                    ),
                  ),
                ),
              ),
            ),
          ),
        ),
      ),
    ),
  ),
)

-- ---- a row that was found is one of the table, for its word

-- P holds of the row, where there is one
abbrev pub OfHit : (Row → Type 0) → Option Hit → Type 0
OfHit P none = Unit {0}
OfHit P (some h) = P h.row

of-hit : (P : Row → Type 0) (r : Row) (b : Bool) (o : Option (Holds r.takes)) (p : Option Hit) → (T b → P r) → OfHit P p → OfHit P (hit r b o p)
of-hit P r false o p k h = h
of-hit P r true none p k h = h
of-hit P r true (some xs) p k h = go (shared r.over (orientations r.takes xs))
  where
    go : (b : Bool) → OfHit P (when b (some (record { row = r; args = xs })) p)
    go true = k tt
    go false = h

pub of-find : (P Q : Row → Type 0) (w : Word) → ((r : Row) → Q r → T (same_word w r.word) → P r) → (rs : List Row) → All Q rs → (vs : List Value) → OfHit P (find rs w vs)
unfolding find
of-find P Q w k [] q vs = tt
of-find P Q w k (r ∷ rs) q vs = of-hit P r (same_word w r.word) (hold r.takes vs) (find rs w vs) (k r q.0) (of-find P Q w k rs q.1 vs)

-- so its value has its kind
pub kept-find : (w : Word) (vs : List Value) → OfHit Kept (find table w vs)
kept-find w vs = of-find Kept Kept w (λ r k t. k) table kept vs
