-- `sheets::run::fields::put_fields` meets its contract. Assumes nothing.
use mathlib.Core.Path.{refl, ◌∙◌}
use native.Mathlib.Omega.{arith}
use Rattle.std.proofs.lemmas.List.{take_all}
use Rattle.sheets.proofs.run.WritingLaws.{none-written}
use Rattle.sheets.proofs.run.ValueText.{fields-turn}
use Rattle.sheets.proofs.run.fields.put_fields.Goals as goal

pub loop-x-init : goal.loop-x-init
loop-x-init c = (omega arith, refl, none-written _ _)

pub loop-x-preserved : goal.loop-x-preserved
loop-x-preserved c =
    let t = fields-turn c.args.fields.now c.loop-x.x-index c.loop-x-test.true c.loop-x.invariant.0 c.loop-x.invariant.2 c.put_field-n.ensures in
    (t.0, c.put_field-n.auto.out ∙ c.loop-x.invariant.1, t.1)

pub returns : goal.returns
returns c = rw (take_all c.loop-x.x-index c.args.fields.now c.loop-x-test.false) at c.loop-x.invariant.2
