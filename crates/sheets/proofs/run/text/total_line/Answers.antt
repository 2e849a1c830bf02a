-- `sheets::run::text::total_line` meets its contract. Assumes nothing.
use native.Mathlib.Omega.{arith}
use mathlib.Core.Path.{ap}
use mathlib.Core.Bool.{not}
use mathlib.Core.List.{[], ◌∷◌}
use Rattle.sheets.specs.Text.{ascii}
use Rattle.sheets.proofs.run.TextBound.{fields-length}
use Rattle.sheets.proofs.run.LineText.{room-told, line-none, total-whole}
use Rattle.sheets.proofs.run.text.total_line.Goals as goal

pub returns-then-not-has_room : goal.returns-then-not-has_room
returns-then-not-has_room c = line-none _ _ _ _ _ _ c.has_room.ensures (ap not c.if-not-has_room.true)

pub put_text-i-requires : goal.put_text-i-requires
put_text-i-requires c = omega (arith, (room-told _ (ascii "total") 0 5 c.args.out.now _ c.has_room.ensures (ap not c.if-not-has_room.false)).3)

pub put_plain-n-requires : goal.put_plain-n-requires
put_plain-n-requires c = omega (arith, (room-told _ (ascii "total") 0 5 c.args.out.now _ c.has_room.ensures (ap not c.if-not-has_room.false)).3, c.put_text-i.ensures.end, c.put_text-i.auto.out)

pub put_byte-requires : goal.put_byte-requires
put_byte-requires c =
    omega (
      arith,
      (room-told _ (ascii "total") 0 5 c.args.out.now _ c.has_room.ensures (ap not c.if-not-has_room.false)).3,
      c.put_text-i.ensures.end,
      c.put_text-i.auto.out,
      c.put_plain-n.ensures.end,
      c.put_plain-n.auto.out,
      fields-length (c.args.sum.0 ∷ []),
    )

pub returns : goal.returns
returns c = total-whole _ _ _ c.has_room.ensures (ap not c.if-not-has_room.false) c.put_text-i.ensures c.put_plain-n.ensures c.put_byte.ensures
