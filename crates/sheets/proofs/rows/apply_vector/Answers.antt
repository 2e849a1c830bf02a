-- `sheets::rows::apply_vector` meets its contract. Assumes nothing.
use mathlib.Core.Path.{refl}
use mathlib.Core.Option.{none, some}
use Rattle.sheets.specs.Letters.{hold, 𝐥}
use Rattle.sheets.proofs.rows.HeldLaws.{taken, refused}
use Rattle.sheets.proofs.rows.FamilyLaws.{vector_row}
use Rattle.sheets.proofs.rows.apply_vector.Goals as goal

pub returns-in_err-x : goal.returns-in_err-x
unfolding hold
returns-in_err-x c =
    let h = refused 𝐥 _ c.in_err-x.ensures c.from_residual.ensures.1 in
    rw h.0 (vector_row c.args.e c.args.o _ none (rw (h.1) refl))

pub returns-in_err-y : goal.returns-in_err-y
unfolding hold
returns-in_err-y c =
    let h = refused 𝐥 _ c.in_err-y.ensures c.from_residual-in_err-y.ensures.1 in
    rw h.0 (vector_row c.args.e c.args.o _ none (rw (taken 𝐥 _ c.in_ok-x.ensures, h.1) refl))

pub returns-in_err-z : goal.returns-in_err-z
unfolding hold
returns-in_err-z c =
    let h = refused 𝐥 _ c.in_err-z.ensures c.from_residual-in_err-z.ensures.1 in
    rw h.0 (vector_row c.args.e c.args.o _ none (rw (taken 𝐥 _ c.in_ok-x.ensures, taken 𝐥 _ c.in_ok-y.ensures, h.1) refl))

pub returns : goal.returns
unfolding hold
returns c = rw c.new.ensures (vector_row c.args.e c.args.o _ (some (c.in_ok-x.x, (c.in_ok-y.y, (c.in_ok-z.z, tt)))) (rw (taken 𝐥 _ c.in_ok-x.ensures, taken 𝐥 _ c.in_ok-y.ensures, taken 𝐥 _ c.in_ok-z.ensures) refl))
