-- `sheets::run::text::put_oriented` meets its contract. Assumes nothing.
use native.Mathlib.Omega.{arith}
use Rattle.sheets.specs.Kinds.{vector}
use Rattle.sheets.proofs.run.TextBound.{name-length}
use Rattle.sheets.proofs.run.ValueText.{oriented-written}
use Rattle.sheets.proofs.run.text.put_oriented.Goals as goal

pub put_orientation-j-requires : goal.put_orientation-j-requires
put_orientation-j-requires c = omega (arith, c.put_byte-i.ensures.end, c.put_byte-i.auto.out)

pub put_fields-requires : goal.put_fields-requires
put_fields-requires c = omega (arith, name-length (vector c.args.o), c.put_byte-i.ensures.end, c.put_byte-i.auto.out, c.put_orientation-j.ensures.end, c.put_orientation-j.auto.out)

pub returns : goal.returns
returns c = oriented-written _ _ _ c.put_byte-i.ensures c.put_orientation-j.ensures c.put_fields.ensures
