-- `sheets::reader::bytes::word` meets its contract. Assumes nothing.
use Prim.Native.Nat.{◌≤◌, ◌<◌, ◌-◌, ◌+◌, ◌*◌, ◌^◌}
use mathlib.Core.Path.{refl, ap, ◌∙◌}
use Rattle.std.specs.Prelude.{Some}
use native.Mathlib.Omega.{arith}
use Rattle.sheets.proofs.reader.CharSteps.{char_none, char-got}
use Rattle.sheets.proofs.reader.TokenSteps.{cap, word_none, word_some, word_small, word-grow, word-turn, word-stop, word_end}
use Rattle.sheets.proofs.reader.bytes.word.Goals as goal

pub returns-in_err-code : goal.returns-in_err-code
returns-in_err-code c = rw c.from_residual.ensures (word_none _ _ _ _ c.byte.ensures.is refl (char_none _ _ c.letter.ensures.is c.in_err-code.was))

pub overflow_step-i : goal.overflow_step-i
overflow_step-i c = let first = char-got _ _ c.letter.ensures.is _ c.in_ok-code.was in omega (arith, first.0, first.1, c.letter.ensures.from_byte, c.byte.ensures.inside)

pub loop-i-init : goal.loop-i-init
loop-i-init c =
    let first = char-got _ _ c.letter.ensures.is _ c.in_ok-code.was in
    (omega arith, word_small _ _ (omega (arith, first.0, c.letter.ensures.small)), word_some _ _ _ _ c.byte.ensures.is first.0 (λ z. omega (arith, z, first.1)))

pub bounds-s-i : goal.bounds-s-i
bounds-s-i c = omega arith

pub returns-in_default : goal.returns-in_default
returns-in_default c = word-stop _ _ _ _ _ _ refl (char_none _ _ c.word_char.ensures.is c.in_default.is) c.loop-i.invariant.2

pub overflow_mul-code : goal.overflow_mul-code
overflow_mul-code c =
    let next = char-got _ _ c.word_char.ensures.is _ c.in-Some.is in
    let grows : c.loop-i.code * 37 + c.in-Some.d < 37 ^ (12 - (c.args.at + 12 - (c.loop-i.i + 1))) = word-grow _ _ _ _ (omega arith) (omega arith) c.loop-i.invariant.1 (omega (arith, next.0, c.word_char.ensures.small)) in
    let caps : 37 ^ (12 - (c.args.at + 12 - (c.loop-i.i + 1))) ≤ 37 ^ 12 = cap 37 12 _ (omega arith) in
    omega arith

pub overflow_add-code : goal.overflow_add-code
overflow_add-code c =
    let next = char-got _ _ c.word_char.ensures.is _ c.in-Some.is in
    let grows : c.loop-i.code * 37 + c.in-Some.d < 37 ^ (12 - (c.args.at + 12 - (c.loop-i.i + 1))) = word-grow _ _ _ _ (omega arith) (omega arith) c.loop-i.invariant.1 (omega (arith, next.0, c.word_char.ensures.small)) in
    let caps : 37 ^ (12 - (c.args.at + 12 - (c.loop-i.i + 1))) ≤ 37 ^ 12 = cap 37 12 _ (omega arith) in
    omega arith

pub loop-i-smaller : goal.loop-i-smaller
loop-i-smaller c = omega arith

pub loop-i-preserved : goal.loop-i-preserved
loop-i-preserved c =
    let next = char-got _ _ c.word_char.ensures.is _ c.in-Some.is in
    (omega arith, (let it : c.loop-i.code * 37 + c.in-Some.d < 37 ^ (12 - (c.args.at + 12 - (c.loop-i.i + 1))) = word-grow _ _ _ _ (omega arith) (omega arith) c.loop-i.invariant.1 (omega (arith, next.0, c.word_char.ensures.small)) in it), word-turn _ _ _ _ _ _ next.0 (omega arith) (λ z. omega (arith, z, next.1)) c.loop-i.invariant.2)

pub returns : goal.returns
returns c =
    let first = char-got _ _ c.letter.ensures.is _ c.in_ok-code.was in
    let begins : c.args.at + 1 ≤ c.word_limit-end.result = omega (arith, first.0, first.1, c.letter.ensures.from_byte, c.byte.ensures.inside) in
    ap (λ n. Some (c.loop-i.code, n)) (omega (arith, begins)) ∙ word_end _ _ _ _ _ (omega arith) c.loop-i.invariant.2
