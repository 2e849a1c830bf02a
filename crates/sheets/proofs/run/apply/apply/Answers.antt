-- `sheets::run::apply::apply` meets its contract. Assumes nothing.
use mathlib.Core.List.{[], ◌∷◌}
use Rattle.sheets.specs.Kinds.{number, angle, len, geocentric, geodetic}
use Rattle.sheets.specs.code.rows.KindCodes.{key_from}
use Rattle.sheets.specs.code.run.Evaluating.{plain_keys}
use Rattle.sheets.proofs.run.KeySteps.{by-kinds}
use Rattle.sheets.proofs.run.apply.apply.Goals as goal

pub returns-in-1 : goal.returns-in-1
unfolding key_from
returns-in-1 c = by-kinds (number ∷ []) c.in-1.is c.number_row.ensures

pub returns-in-819 : goal.returns-in-819
unfolding key_from
returns-in-819 c = by-kinds (len ∷ len ∷ len ∷ []) c.in-819.is c.lengths_row.ensures

pub returns-in-547 : goal.returns-in-547
unfolding key_from
returns-in-547 c = by-kinds (angle ∷ angle ∷ len ∷ []) c.in-547.is c.aer_row.ensures

pub returns-in-4 : goal.returns-in-4
unfolding key_from
returns-in-4 c = by-kinds (geocentric ∷ []) c.in-4.is c.position_row.ensures

pub returns-in-5 : goal.returns-in-5
unfolding key_from
returns-in-5 c = by-kinds (geodetic ∷ []) c.in-5.is c.position_row-in-5.ensures

pub returns-in-36 : goal.returns-in-36
unfolding key_from
returns-in-36 c = by-kinds (angle ∷ geocentric ∷ []) c.in-36.is c.wan_row.ensures

pub returns-in-37 : goal.returns-in-37
unfolding key_from
returns-in-37 c = by-kinds (angle ∷ geodetic ∷ []) c.in-37.is c.wan_row-in-37.ensures

pub returns-in-8740 : goal.returns-in-8740
unfolding key_from
returns-in-8740 c = by-kinds (angle ∷ angle ∷ angle ∷ geocentric ∷ []) c.in-8740.is c.body_row.ensures

pub returns-in-8741 : goal.returns-in-8741
unfolding key_from
returns-in-8741 c = by-kinds (angle ∷ angle ∷ angle ∷ geodetic ∷ []) c.in-8741.is c.body_row-in-8741.ensures

pub returns-in-1090 : goal.returns-in-1090
unfolding key_from
returns-in-1090 c = by-kinds (geocentric ∷ geocentric ∷ angle ∷ []) c.in-1090.is c.look_row.ensures

pub returns-in-1362 : goal.returns-in-1362
unfolding key_from
returns-in-1362 c = by-kinds (geodetic ∷ geodetic ∷ angle ∷ []) c.in-1362.is c.look_row-in-1362.ensures

pub returns-in_default : goal.returns-in_default
unfolding plain_keys
returns-in_default c = c.oriented_row.ensures.is c.in_default.in_default-own.rest
