-- What goes down from call to call of `sheets::reader::expr::args` and `sheets::reader::expr::expr`.
use Rattle.std.proofs.Common.{◌+◌, ◌*◌}
use Rattle.sheets.proofs.reader.expr.+args_expr.Given as goal

abbrev pub decreases-args : goal.decreases-args
decreases-args l = l.depth * 8 + l.left

abbrev pub decreases-expr : goal.decreases-expr
decreases-expr l = l.depth * 8
