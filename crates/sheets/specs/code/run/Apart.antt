-- How the run tells whether the names shown stand apart: by the places kept, each with those below it.
-- No part of what must be believed: they only tie the code to the machine.
use Rattle.std.specs.Prelude.{ℕ, zero, suc, ◌*◌, Bool, true, false, ◌&&◌, List, get_or, Float, Result, Ok, Err}
use Rattle.std.specs.Float.Ieee as Ieee
use Rattle.numbers.specs.Vec.{norm, vec_sub}
use Rattle.numbers.specs.declared.Vec3.{Vec3}
use Rattle.frames.specs.Positions.{geocentric_as_metres}
use Rattle.sheets.specs.declared.refusals.Refusal.{Refusal as Code}
use Rattle.sheets.specs.declared.Halt.{Halt}
use Rattle.sheets.specs.Table.{when}
use Rattle.sheets.specs.Limits.{near}
use Rattle.sheets.specs.code.run.Floats.{position_at}

-- in metres, the position of the name at the place j
abbrev pub metres_at : List Float → ℕ → Vec3
metres_at f j = geocentric_as_metres (position_at f (21 * j))

-- the name at the place j, if it was shown, is at least so far from v; so is each one below it
unfoldable pub clear_at : Float → Vec3 → List Float → List Bool → ℕ → Bool
clear_at least v f js j = when (get_or js j false) (Ieee.le least (norm (vec_sub v (metres_at f j)))) true

unfoldable pub clear_below : Float → Vec3 → List Float → List Bool → ℕ → Bool
clear_below least v f js zero = true
clear_below least v f js (suc j) = clear_at least v f js j && clear_below least v f js j

-- and of every two below the place j
unfoldable pub apart_below : Float → List Float → List Bool → ℕ → Bool
apart_below least f js zero = true
apart_below least f js (suc j) = when (get_or js j false) (clear_below least (metres_at f j) f js j) true && apart_below least f js j

-- an apart's answer: refusal 7, then refusal 9
unfoldable pub apart_answer : Float → List Float → List Bool → ℕ → Result ℕ Halt
apart_answer least f js written = when (near least) (when (apart_below least f js 96) (Ok written) (Err (Halt.Refused Code.Apart))) (Err (Halt.Refused Code.Limit))
