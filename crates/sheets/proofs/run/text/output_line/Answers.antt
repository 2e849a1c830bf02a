-- `sheets::run::text::output_line` meets its contract. Assumes nothing.
use native.Mathlib.Omega.{arith}
use Rattle.sheets.proofs.run.LineText.{room-told, value-length, line-none, line-whole}
use mathlib.Core.Path.{ap}
use mathlib.Core.Bool.{not}
use Rattle.sheets.proofs.run.text.output_line.Goals as goal

pub returns-then-not-has_room : goal.returns-then-not-has_room
returns-then-not-has_room c = line-none _ _ _ _ _ _ c.has_room.ensures (ap not c.if-not-has_room.true)

pub slice_bounds-put_text-count : goal.slice_bounds-put_text-count
slice_bounds-put_text-count c = (room-told _ c.args.s.now _ _ c.args.out.now _ c.has_room.ensures (ap not c.if-not-has_room.false)).0

pub slice_bounds-put_text-start : goal.slice_bounds-put_text-start
slice_bounds-put_text-start c = omega (arith, (room-told _ c.args.s.now _ _ c.args.out.now _ c.has_room.ensures (ap not c.if-not-has_room.false)).0, (room-told _ c.args.s.now _ _ c.args.out.now _ c.has_room.ensures (ap not c.if-not-has_room.false)).1)

pub slice_bounds-put_text-end : goal.slice_bounds-put_text-end
slice_bounds-put_text-end c = omega (arith, (room-told _ c.args.s.now _ _ c.args.out.now _ c.has_room.ensures (ap not c.if-not-has_room.false)).0, (room-told _ c.args.s.now _ _ c.args.out.now _ c.has_room.ensures (ap not c.if-not-has_room.false)).1)

pub put_text-i-requires : goal.put_text-i-requires
put_text-i-requires c = omega (arith, (room-told _ c.args.s.now _ _ c.args.out.now _ c.has_room.ensures (ap not c.if-not-has_room.false)).3)

pub put_byte-j-requires : goal.put_byte-j-requires
put_byte-j-requires c = omega (arith, (room-told _ c.args.s.now _ _ c.args.out.now _ c.has_room.ensures (ap not c.if-not-has_room.false)).3)

pub put_value-k-requires : goal.put_value-k-requires
put_value-k-requires c = omega (arith, (room-told _ c.args.s.now _ _ c.args.out.now _ c.has_room.ensures (ap not c.if-not-has_room.false)).3)

pub put_byte-requires : goal.put_byte-requires
put_byte-requires c = omega (arith, (room-told _ c.args.s.now _ _ c.args.out.now _ c.has_room.ensures (ap not c.if-not-has_room.false)).3, value-length c.args.v)

pub returns : goal.returns
returns c =
    line-whole _ _ _ _ c.has_room.result _ c.has_room.ensures (ap not c.if-not-has_room.false) c.put_text-i.ensures c.put_byte-j.ensures c.put_value-k.ensures c.put_byte.ensures
