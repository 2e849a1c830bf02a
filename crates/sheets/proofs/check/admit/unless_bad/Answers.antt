-- `sheets::check::admit::unless_bad` meets its contract. Assumes nothing.
use Rattle.sheets.proofs.check.AdmitSteps.{unless-bad, unless-fine}
use Rattle.sheets.proofs.check.admit.unless_bad.Goals as goal

pub returns-in-Err : goal.returns-in-Err
returns-in-Err c = λ p. unless-bad _ _ _ (c.form_from-f.ensures p) _ _ c.in-Err.is _ c.at.ensures

pub returns-in-Ok : goal.returns-in-Ok
returns-in-Ok c = λ p. unless-fine _ _ _ (c.form_from-f.ensures p) _ _ c.in-Ok.is
