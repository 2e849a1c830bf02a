-- `sheets::run::plain_rows::orientation_in` meets its contract. Assumes nothing.
use mathlib.Core.Path.{refl}
use mathlib.Core.List.{[], ◌∷◌}
use mathlib.Core.Logic.{⊎_elim}
use Rattle.sheets.specs.Text.{ascii}
use Rattle.sheets.specs.code.reader.Codes.{word_char, code_from, code_of}
use Rattle.sheets.specs.code.run.Evaluating.{orientation_in}
use Rattle.sheets.proofs.run.ArmSteps.{fourth}
use Rattle.sheets.proofs.run.plain_rows.orientation_in.Goals as goal

pub returns-in-1121750 : goal.returns-in-1121750
unfolding orientation_in word_char code_from
returns-in-1121750 c = ⊎_elim (λ e. rw e refl) (λ e. rw e refl) c.in-1121750.is

pub returns-in-1133721 : goal.returns-in-1133721
unfolding orientation_in word_char code_from
returns-in-1133721 c = ⊎_elim (λ e. rw e refl) (λ e. rw e refl) c.in-1133721.is

pub returns-in-41353556 : goal.returns-in-41353556
unfolding orientation_in word_char code_from
returns-in-41353556 c = ⊎_elim (λ e. rw e refl) (λ e. rw e refl) c.in-41353556.is

pub returns-in_default : goal.returns-in_default
unfolding orientation_in word_char code_from
returns-in_default c = fourth (code_of (ascii "aenu") ∷ code_of (ascii "venu") ∷ []) (code_of (ascii "aned") ∷ code_of (ascii "vned") ∷ []) (code_of (ascii "abody") ∷ code_of (ascii "vbody") ∷ []) _ _ _ _ _ c.in_default.in_default-own.rest.0.0.1 c.in_default.in_default-own.rest.0.1 c.in_default.in_default-own.rest.1
