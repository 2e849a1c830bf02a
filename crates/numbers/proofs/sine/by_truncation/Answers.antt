-- `numbers::sine::by_truncation` meets its contract, by `proofs/CeilLaw.antt`. Assumes nothing.
use Rattle.std.proofs.Common.{◌≡◌, ℕ, ◌+◌, ◌%◌, ℤ, pos, sym, ap, ◌∙◌, subst, arith}
use lib.Ieee.{binary64, of_int}
use Rattle.numbers.specs.Sine.{mod4}
use Rattle.numbers.proofs.Quotient.{exact}
use Rattle.numbers.proofs.CeilLaw.{Above, Under, in-range, in-range', above, under, minus-whole, minus-mod}
use Rattle.numbers.proofs.sine.by_truncation.Goals as goal
use Rattle.numbers.proofs.sine.by_truncation.Goals.{After-truncating_f64_to_u64-t, After-truncating_f64_to_u64-t-else-y}

at-pos : (z : ℤ) (t : ℕ) → z ≡ pos t → (of_int binary64 (pos t) ≡ of_int binary64 z) × (t % 4 ≡ mod4 z)
unfolding mod4
at-pos z t e = (ap (of_int binary64) (sym e), ap mod4 (sym e))

above-here : (c : After-truncating_f64_to_u64-t) → Above c.args.y c.truncating_f64_to_u64-t.result
above-here c = subst (Above c.args.y) (sym c.truncating_f64_to_u64-t.ensures) (above c.args.y c.requires c.if-y.true)

under-here : (c : After-truncating_f64_to_u64-t-else-y) → Under c.args.y c.truncating_f64_to_u64-t-else-y.result
under-here c = subst (Under c.args.y) (sym c.truncating_f64_to_u64-t-else-y.ensures) (under c.args.y c.requires c.if-y.false)

pub truncating_f64_to_u64-t-requires : goal.truncating_f64_to_u64-t-requires
truncating_f64_to_u64-t-requires c = let h = in-range c.args.y c.requires c.if-y.true in record { lower_bound = h.0; upper_bound = h.1 }

pub int_to_float-f : goal.int_to_float-f
int_to_float-f c = exact c.truncating_f64_to_u64-t.result (omega (arith, (above-here (goal.at.int_to_float-f c).After-truncating_f64_to_u64-t).small))

pub overflow_add-result : goal.overflow_add-result
overflow_add-result c = omega (arith, (above-here (goal.at.overflow_add-result c).After-truncating_f64_to_u64-t).small)

pub int_to_float-result : goal.int_to_float-result
int_to_float-result c = exact (c.truncating_f64_to_u64-t.result + 1) (omega (arith, (above-here (goal.at.int_to_float-result c).After-truncating_f64_to_u64-t).small))

pub truncating_f64_to_u64-t-requires-else-y : goal.truncating_f64_to_u64-t-requires-else-y
truncating_f64_to_u64-t-requires-else-y c = let h = in-range' c.args.y c.requires c.if-y.false in record { lower_bound = h.0; upper_bound = h.1 }

pub int_to_float-result-else-y : goal.int_to_float-result-else-y
int_to_float-result-else-y c = exact c.truncating_f64_to_u64-t-else-y.result (omega (arith, (under-here (goal.at.int_to_float-result-else-y c).After-truncating_f64_to_u64-t-else-y).small))

pub returns-then-f-y : goal.returns-then-f-y
returns-then-f-y c = at-pos _ _ ((above-here (goal.at.returns-then-f-y c).After-truncating_f64_to_u64-t).less c.if-f-y.true)

pub returns-else-f-y : goal.returns-else-f-y
returns-else-f-y c = at-pos _ _ ((above-here (goal.at.returns-else-f-y c).After-truncating_f64_to_u64-t).same c.if-f-y.false)

pub returns-else-y : goal.returns-else-y
returns-else-y c =
    let k = (under-here (goal.at.returns-else-y c).After-truncating_f64_to_u64-t-else-y) in
    let t = c.truncating_f64_to_u64-t-else-y.result in
    (minus-whole t k.small ∙ ap (of_int binary64) (sym k.is), minus-mod t ∙ ap mod4 (sym k.is))
