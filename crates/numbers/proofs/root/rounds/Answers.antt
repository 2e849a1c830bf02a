-- `numbers::root::rounds` meets its contract: the square of the candidate in full, and tested. Assumes nothing.
use Rattle.std.proofs.lemmas.Float.{T_from_true}
use Rattle.std.proofs.Common.{◌≡◌, ℕ, ◌+◌, ◌-◌, ◌*◌, ◌/◌, ◌%◌, ◌<◌, ◌≤◌, ap, ◌∙◌, arith, ltb→lt}
use Rattle.numbers.specs.code.RootSteps.{Rounds}
use Rattle.numbers.proofs.root.rounds.Goals as goal

parts : (a b : ℕ) → (a * 67108864 + b) * (a * 67108864 + b) ≡ a * a * 4503599627370496 + a * b * 134217728 + b * b
parts a b = omega arith

-- from the upper and the lower digits a and b of r: d is what a² leaves of w and 2 more, and e what a * b leaves of that
confirmed : (w r a b d e : ℕ) → r ≡ a * 67108864 + b → a * a + d ≡ w + 2 → a * b + e ≡ d * 33554432
    → e * 134217728 ≤ b * b + (r + 9007199254740992) → b * b + (r + 9007199254740992) < e * 134217728 + 2 * r → Rounds w r
confirmed w r a b d e p D E h k =
    let s : r * r ≡ a * a * 4503599627370496 + a * b * 134217728 + b * b = ap (λ (x : ℕ). x * x) p ∙ parts a b in
    record { under = omega arith; over = omega arith }

pub returns : goal.returns
returns c h =
    let r = c.args.r in
    let w = c.args.w in
    let a = r / 67108864 in
    let b = r % 67108864 in
    let d = w + 2 - a * a in
    let e = d * 33554432 - a * b in
    let l = ltb→lt (b * b + (r + 9007199254740992) - e * 134217728) (2 * r) (T_from_true _ h) in
    confirmed w r a b d e (omega arith) (omega (arith, c.if-square-top.false)) (omega (arith, c.if-cross-over.false)) c.if-left-most.false (omega (arith, l, c.if-left-most.false))
