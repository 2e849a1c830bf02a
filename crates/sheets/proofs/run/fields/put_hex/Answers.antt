-- `sheets::run::fields::put_hex` meets its contract. Assumes nothing.
use Rattle.sheets.proofs.run.DigitLaws.{sixteen}
use Rattle.sheets.proofs.run.fields.put_hex.Goals as goal

pub returns : goal.returns
returns c =
    sixteen c.args.n c.digits_of.ensures c.digits_of-2.ensures c.put_text-m.ensures c.put_text.ensures
