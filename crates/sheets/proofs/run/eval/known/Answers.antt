-- `sheets::run::eval::known` meets its contract. Assumes nothing.
use native.Mathlib.Omega.{arith}
use mathlib.Core.Path.{refl}
use Rattle.sheets.proofs.check.NewestLaws.{placed-none, placed-some}
use Rattle.sheets.proofs.run.EvalSteps.{known-none, known-reading, known-name}
use Rattle.sheets.proofs.run.eval.known.Goals as goal

pub returns-in_default-reading_index : goal.returns-in_default-reading_index
returns-in_default-reading_index c = known-none _ _ _ _ c.requires _ (placed-none _ _ _ c.place.ensures c.in_default.is) refl _ refl c.in_default-reading_index.ensures

pub bounds-floats-i : goal.bounds-floats-i
bounds-floats-i c = omega arith

pub bounds-floats-top : goal.bounds-floats-top
bounds-floats-top c = omega arith

pub tested-requires : goal.tested-requires
tested-requires c = omega arith

pub returns-in_default : goal.returns-in_default
returns-in_default c = known-reading _ _ _ _ c.requires _ (placed-none _ _ _ c.place.ensures c.in_default.is) refl _ c.in-Some-reading_index.ensures.0 c.in-Some-reading_index.ensures.1 _ c.tested.ensures

pub bounds-names-j : goal.bounds-names-j
bounds-names-j c = omega (arith, (placed-some _ _ _ c.place.ensures _ c.in-Some.is).0.most)

pub overflow_mul-j : goal.overflow_mul-j
overflow_mul-j c = omega (arith, (placed-some _ _ _ c.place.ensures _ c.in-Some.is).0.most)

pub copy_floats-requires : goal.copy_floats-requires
copy_floats-requires c = (omega (arith, (placed-some _ _ _ c.place.ensures _ c.in-Some.is).0.most), omega arith)

pub tested-requires-2 : goal.tested-requires-2
tested-requires-2 c = omega arith

pub returns : goal.returns
returns c = known-name _ _ _ _ c.requires _ (placed-some _ _ _ c.place.ensures _ c.in-Some.is).0 (placed-some _ _ _ c.place.ensures _ c.in-Some.is).1 _ refl _ c.copy_floats.ensures _ c.tested-2.ensures
