-- `sheets::run::fields::put_field` meets its contract. Assumes nothing.
use Rattle.sheets.proofs.run.WritingLaws.{field-written}
use Rattle.sheets.proofs.run.fields.put_field.Goals as goal

pub returns : goal.returns
returns c =
    field-written c.args.x c.bits-b.result c.bits-b.ensures c.put_byte-n.ensures c.put_hex.ensures
