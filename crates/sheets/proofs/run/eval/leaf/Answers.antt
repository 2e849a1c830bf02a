-- `sheets::run::eval::leaf` meets its contract. Assumes nothing.
use native.Mathlib.Omega.{arith}
use Rattle.sheets.proofs.run.EvalSteps.{leaf-word, leaf-num, leaf-none}
use Rattle.sheets.proofs.run.eval.leaf.Goals as goal

pub known-requires : goal.known-requires
known-requires c = omega arith

pub bounds-floats-top : goal.bounds-floats-top
bounds-floats-top c = omega arith

pub tested-requires : goal.tested-requires
tested-requires c = omega arith

pub returns-in-Some : goal.returns-in-Some
returns-in-Some c = leaf-word _ _ _ _ _ _ c.word-w.ensures _ _ c.in-Some.is _ _ c.known.ensures

pub returns-in-Some-q : goal.returns-in-Some-q
returns-in-Some-q c = leaf-num _ _ _ _ _ _ c.word-w.ensures c.in-None.is _ c.double-q.ensures c.requires _ _ c.in-Some-q.is _ c.tested.ensures

pub returns-in-None-q : goal.returns-in-None-q
returns-in-None-q c = leaf-none _ _ _ _ _ _ c.word-w.ensures c.in-None.is _ c.double-q.ensures c.in-None-q.is _ _ _
