-- `sheets::run::fields::put_text` meets its contract. Assumes nothing.
use mathlib.Core.Path.{refl, ◌∙◌}
use native.Mathlib.Omega.{arith}
use Rattle.std.proofs.lemmas.List.{take_all}
use Rattle.sheets.proofs.run.WritingLaws.{none-written, text-turn}
use Rattle.sheets.proofs.run.fields.put_text.Goals as goal

pub loop-b-init : goal.loop-b-init
loop-b-init c = (omega arith, refl, none-written _ _)

pub loop-b-preserved : goal.loop-b-preserved
loop-b-preserved c =
    let t = text-turn c.args.text.now c.loop-b.b-index c.loop-b-test.true c.loop-b.invariant.2 c.put_byte-n.ensures in
    (omega (arith, c.put_byte-n.ensures.end), c.put_byte-n.auto.out ∙ c.loop-b.invariant.1, t)

pub returns : goal.returns
returns c = rw (take_all c.loop-b.b-index c.args.text.now c.loop-b-test.false) at c.loop-b.invariant.2
