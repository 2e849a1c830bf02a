-- `numbers::Vec3::orthogonal_to` meets its contract. Assumes nothing.
use Rattle.std.proofs.Common.{◌≡◌, true, false, sym, ◌∙◌, refl}
use lib.Ieee.{of_bits}
use Rattle.numbers.specs.Ops.{decimal}
use Rattle.numbers.specs.Vec.{zero_vec, vec_eq, orthogonal_to}
use Rattle.numbers.proofs.EqualLaws.{equal_vectors}
use Rattle.numbers.proofs.Vec3.orthogonal_to.Goals as goal

pub returns-then-eq : goal.returns-then-eq
unfolding of_bits decimal orthogonal_to
returns-then-eq c =
    let t : vec_eq c.stable_cross_prod_unit-r.result zero_vec ≡ true = sym (equal_vectors _ _) ∙ sym c.eq.ensures ∙ c.if-eq.true in
    rw (sym c.stable_cross_prod_unit-r.ensures, t) c.orthogonal.ensures

pub returns-else-eq : goal.returns-else-eq
unfolding of_bits decimal orthogonal_to
returns-else-eq c =
    let t : vec_eq c.stable_cross_prod_unit-r.result zero_vec ≡ false = sym (equal_vectors _ _) ∙ sym c.eq.ensures ∙ c.if-eq.false in
    rw (sym c.stable_cross_prod_unit-r.ensures, t) refl
