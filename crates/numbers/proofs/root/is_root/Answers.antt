-- `numbers::root::is_root` meets its contract. Assumes nothing.
use Rattle.std.proofs.lemmas.Float.{T_from_true}
use Rattle.std.proofs.Common.{◌≡◌, ◌+◌, ◌-◌, ◌*◌, ◌≤◌, sym, ap, ◌∙◌, arith}
use lib.Ieee.{binary64, of_bits, to_bits}
use lib.Ieee.Bits.{of_bits-to_bits}
use Rattle.numbers.proofs.NoNan.{no_nan}
use Rattle.numbers.proofs.Rounded.{to-nearest}
use Rattle.numbers.proofs.root.is_root.Goals as goal

pub float_to_bits-digits : goal.float_to_bits-digits
float_to_bits-digits c = no_nan c.args.s c.if-s.false

pub returns : goal.returns
returns c h =
    let b = c.args.x.bits in
    let s = c.args.s in
    let n = c.normal-n in
    let l = n.result.g * 4503599627370496 in
    let r = to_bits binary64 s - l in
    let k : l ≤ to_bits binary64 s = c.if-digits-low.false in
    let e : to_bits binary64 s ≡ l + r = omega arith in
    let o = to-nearest b n.result.w n.result.g r (omega arith) c.args.x.in_range.1 n.ensures (c.rounds.ensures h) c.if-r-ge-TWO_53.false in
    sym (of_bits-to_bits binary64 s (T_from_true _ c.well_formed.1.0.1)) ∙ ap (of_bits binary64) e ∙ o.is
