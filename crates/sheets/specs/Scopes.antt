-- What the lines done leave to those after them, whatever a name stands for: to the machine a value, to the check's walk a kind.
use Rattle.std.specs.Prelude.{List, [], ◌∷◌, Bool, true, false}
use Rattle.sheets.specs.Names.{Given, Known, barred}
use Rattle.sheets.specs.Refusals.{name, Checked, fine, bad}

-- The known words, the newest first; and every name that a let gave, on which nothing depends.
pub record Scope (A : Type 0) : Type 0 where
  pub known : Known A
  pub given : List (Given A)

-- at line 2, where these words are known
abbrev pub opened : {A : Type 0} → Known A → Scope A
opened gs = record { known = gs; given = [] }

abbrev pub with_name : {A : Type 0} → Given A → Scope A → Scope A
with_name g s = record { known = g ∷ s.known; given = g ∷ s.given }

abbrev pub give_if : {A : Type 0} → Bool → Given A → Scope A → Checked (Scope A)
give_if true g s = bad name
give_if false g s = fine (with_name g s)

-- refusal 5: a word given twice, or an operator's
abbrev pub give : {A : Type 0} → Given A → Scope A → Checked (Scope A)
give g s = give_if (barred g.name s.known) g s
