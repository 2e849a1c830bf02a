-- What `quarters` of src/sine.rt asks of a double: finite, and at most b in size.
use Rattle.std.specs.Prelude.{ℕ, ◌*◌, ◌≤◌, Float}
use Rattle.std.specs.Float.{nan, inf, fin}
use Rattle.std.specs.Float.Ieee.{up, down}

abbrev pub Bounded : Float → ℕ → Type 0
Bounded nan b = ⊥
Bounded (inf s) b = ⊥
Bounded (fin s m e) b = m * up e ≤ b * down e
