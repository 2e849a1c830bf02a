-- `sheets::reader::head::custom` meets its contract. Assumes nothing.
use Rattle.sheets.proofs.reader.HeadSteps.{custom-no-first, custom-no-second, custom-no-end, custom-done}
use Rattle.sheets.proofs.reader.head.custom.Goals as goal

pub returns-in_err-radius : goal.returns-in_err-radius
returns-in_err-radius c = rw c.from_residual.ensures (custom-no-first _ _ _ c.double_slot.ensures c.in_err-radius.was)

pub returns-in_err-inverse : goal.returns-in_err-inverse
returns-in_err-inverse c = rw c.from_residual-in_err-inverse.ensures (custom-no-second _ _ _ c.double_slot.ensures _ _ c.in_ok-radius.was _ c.double_slot-2.ensures c.in_err-inverse.was)

pub returns-in_err-next : goal.returns-in_err-next
returns-in_err-next c = rw c.from_residual-in_err-next.ensures (custom-no-end _ _ _ c.double_slot.ensures _ _ c.in_ok-radius.was _ c.double_slot-2.ensures _ _ c.in_ok-inverse.was _ c.closing.ensures c.in_err-next.was)

pub returns : goal.returns
returns c = custom-done _ _ _ c.double_slot.ensures _ _ c.in_ok-radius.was _ c.double_slot-2.ensures _ _ c.in_ok-inverse.was _ c.closing.ensures _ c.in_ok-next.was
