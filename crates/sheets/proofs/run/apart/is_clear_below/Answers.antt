-- `sheets::run::apart::is_clear_below` meets its contract. Assumes nothing.
use mathlib.Core.Path.{◌≡◌}
use mathlib.Core.Bool.{true, false}
use borrow.Author.Rules.{rules}
use borrow.Author.Tests.{tests}
use Rattle.std.proofs.lemmas.Iterator.{cases_from_all}
use Rattle.sheets.specs.code.run.Apart.{clear_at}
use Rattle.sheets.proofs.run.ApartSteps.{clear-decided, downward-yielded}
use Rattle.sheets.proofs.run.apart.is_clear_below.Goals as goal

pub returns : goal.returns
returns c =
    clear-decided _ _ _ _ c.args.place c.all.result
    (cases_from_all _ _ _ (λ q. true ≡ clear_at c.args.least c.args.v c.args.floats.now c.args.shown.now q) (λ q. false ≡ clear_at c.args.least c.args.v c.args.floats.now c.args.shown.now q)
    c.all.ensures.ran (downward-yielded c.args.place c.rev.ensures.source) (λ x q k. search (rules, tests)) (λ x q k. search (rules, tests)))
