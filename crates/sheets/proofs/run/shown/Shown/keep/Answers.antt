-- `sheets::run::shown::Shown::keep` meets its contract. Assumes nothing.
use mathlib.Core.Path.{ap, sym, ◌∙◌}
use Rattle.sheets.specs.Entries.{plus}
use Rattle.sheets.specs.code.run.Keeping.{keep}
use Rattle.sheets.proofs.rows.HeldLaws.{not-𝐥, is-𝐥, not-𝐠, is-𝐠}
use Rattle.sheets.proofs.run.shown.Shown.keep.Goals as goal

pub returns-in-Geocentric-clause-places : goal.returns-in-Geocentric-clause-places
returns-in-Geocentric-clause-places c = sym (ap (keep _ _) (is-𝐠 c.in-Geocentric.is))

pub returns-in-Geocentric-clause-sum : goal.returns-in-Geocentric-clause-sum
returns-in-Geocentric-clause-sum c = sym (ap (plus _) (not-𝐥 _ (λ x e. let i = c.in-Geocentric.is in cc)))

pub returns-in-Metres-clause-places : goal.returns-in-Metres-clause-places
returns-in-Metres-clause-places c = sym (ap (keep _ _) (not-𝐠 _ (λ x e. let i = c.in-Metres.is in cc)))

pub returns-in-Metres-clause-sum : goal.returns-in-Metres-clause-sum
returns-in-Metres-clause-sum c = c.add-self.ensures ∙ sym (ap (plus _) (is-𝐥 c.in-Metres.is))

pub returns-in_default : goal.returns-in_default
returns-in_default c = record { places = sym (ap (keep _ _) (not-𝐠 _ c.in_default.not-Geocentric)); sum = sym (ap (plus _) (not-𝐥 _ c.in_default.not-Metres)) }
