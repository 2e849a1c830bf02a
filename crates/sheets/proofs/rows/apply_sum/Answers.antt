-- `sheets::rows::apply_sum` meets its contract. Assumes nothing.
use mathlib.Core.Path.{refl}
use Rattle.sheets.specs.Letters.{hold, 𝐯}
use Rattle.sheets.specs.Table.{table}
use Rattle.sheets.specs.Lookup.{find}
use Rattle.sheets.proofs.rows.HeldLaws.{taken, refused, same, differs}
use Rattle.sheets.proofs.rows.FamilyLaws.{no-shared-sum, no-sum}
use Rattle.sheets.proofs.rows.apply_sum.Goals as goal

pub returns-in_err-a : goal.returns-in_err-a
unfolding hold
returns-in_err-a c =
    let h = refused 𝐯 _ c.in_err-a.ensures c.from_residual.ensures.1 in
    rw h.0 (no-sum c.args.e c.args.minus _ (rw (h.1) refl))

pub returns-in_err-b : goal.returns-in_err-b
unfolding hold
returns-in_err-b c =
    let h = refused 𝐯 _ c.in_err-b.ensures c.from_residual-in_err-b.ensures.1 in
    rw h.0 (no-sum c.args.e c.args.minus _ (rw (taken 𝐯 _ c.in_ok-a.ensures, h.1) refl))

pub returns-then-ne : goal.returns-then-ne
returns-then-ne c = no-shared-sum c.args.e c.args.minus _ _ (taken 𝐯 _ c.in_ok-a.ensures) (taken 𝐯 _ c.in_ok-b.ensures) (differs c.in_ok-a.a.orientation c.in_ok-b.b.orientation c.if-ne.ensures)

pub returns-then-minus : goal.returns-then-minus
unfolding table find hold
returns-then-minus c = rw (c.if-minus.true, taken 𝐯 _ c.in_ok-a.ensures, taken 𝐯 _ c.in_ok-b.ensures, same c.in_ok-a.a.orientation c.in_ok-b.b.orientation c.if-ne.ensures, c.sub.ensures) refl

pub returns-else-minus : goal.returns-else-minus
unfolding table find hold
returns-else-minus c = rw (c.if-minus.false, taken 𝐯 _ c.in_ok-a.ensures, taken 𝐯 _ c.in_ok-b.ensures, same c.in_ok-a.a.orientation c.in_ok-b.b.orientation c.if-ne.ensures, c.add.ensures) refl
