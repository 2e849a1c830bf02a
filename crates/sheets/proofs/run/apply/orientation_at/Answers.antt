-- `sheets::run::apply::orientation_at` meets its contract. Assumes nothing.
use mathlib.Core.Path.{refl}
use mathlib.Core.List.{[], ◌∷◌}
use mathlib.Core.Logic.{⊎_elim}
use Rattle.sheets.specs.code.run.Evaluating.{orientation_at}
use Rattle.sheets.proofs.run.ArmSteps.{fourth}
use Rattle.sheets.proofs.run.apply.orientation_at.Goals as goal

pub returns-in-6 : goal.returns-in-6
unfolding orientation_at
returns-in-6 c = ⊎_elim (λ e. rw e refl) (λ e. rw e refl) c.in-6.is

pub returns-in-7 : goal.returns-in-7
unfolding orientation_at
returns-in-7 c = ⊎_elim (λ e. rw e refl) (λ e. rw e refl) c.in-7.is

pub returns-in-8 : goal.returns-in-8
unfolding orientation_at
returns-in-8 c = ⊎_elim (λ e. rw e refl) (λ e. rw e refl) c.in-8.is

pub returns-in_default : goal.returns-in_default
unfolding orientation_at
returns-in_default c = fourth (6 ∷ 10 ∷ []) (7 ∷ 11 ∷ []) (8 ∷ 12 ∷ []) _ _ _ _ _ c.in_default.in_default-own.rest.0.0.1 c.in_default.in_default-own.rest.0.1 c.in_default.in_default-own.rest.1
