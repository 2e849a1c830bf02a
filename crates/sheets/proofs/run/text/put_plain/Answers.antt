-- `sheets::run::text::put_plain` meets its contract. Assumes nothing.
use native.Mathlib.Omega.{arith}
use Rattle.sheets.proofs.run.ValueText.{plain-written}
use Rattle.sheets.proofs.run.text.put_plain.Goals as goal

pub put_fields-requires : goal.put_fields-requires
put_fields-requires c = omega (arith, c.put_byte-i.ensures.end, c.put_byte-i.auto.out)

pub returns : goal.returns
returns c = plain-written _ _ c.put_byte-i.ensures c.put_fields.ensures
