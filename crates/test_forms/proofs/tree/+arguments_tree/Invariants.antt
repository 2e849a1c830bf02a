-- What goes down from call to call of `test_forms::tree::arguments` and `test_forms::tree::tree`.
use Rattle.std.proofs.Common.{◌+◌, ◌*◌}
use Rattle.test_forms.proofs.tree.+arguments_tree.Given as goal

abbrev pub decreases-arguments : goal.decreases-arguments
decreases-arguments g l = l.depth * 2 + 1

abbrev pub decreases-tree : goal.decreases-tree
decreases-tree g l = l.depth * 2
