-- `numbers::units::shifted` meets its contract: after n turns, rest is what b leaves of a * 2 ^ (11 * n). Assumes nothing.
use Rattle.std.proofs.Common.{◌≡◌, ℕ, ◌+◌, ◌*◌, ◌%◌, ◌^◌, ◌<◌, ◌≤◌, sym, ap, ◌∙◌, mod-lt, mul_assoc, mul-le-mul, arith, pow_mono, pow-add}
use Rattle.std.proofs.lemmas.Nat.{mul-mod_first}
use Rattle.numbers.proofs.units.shifted.Goals as goal

-- m more digits behind a * 2 ^ j
behind : (a b j m rest : ℕ) → rest ≡ a * 2 ^ j % b → rest * 2 ^ m % b ≡ a * 2 ^ (j + m) % b
behind a b j m rest e =
    ap (λ (z : ℕ). z * 2 ^ m % b) e ∙ mul-mod_first (a * 2 ^ j) (2 ^ m) b ∙ ap (λ (z : ℕ). z % b) (mul_assoc a (2 ^ j) (2 ^ m) ∙ ap (λ (z : ℕ). a * z) (sym (pow-add 2 j m)))

less : (a b j rest : ℕ) → 0 < b → rest ≡ a * 2 ^ j % b → rest < b
less a b j rest p e = rw e (mod-lt (a * 2 ^ j) p)

small : (rest b left : ℕ) → rest < b → b ≤ 2 ^ 53 → left < 11 → rest * 2 ^ left < 2 ^ 64
small rest b left h k l =
    let p : 2 ^ left ≤ 2 ^ 10 = pow_mono {j = 10} (omega arith) in
    let q : rest ≤ 2 ^ 53 = omega arith in
    let m = mul-le-mul q p in
    omega arith

pub loop-preserved : goal.loop-preserved
loop-preserved c = behind _ _ _ 11 _ c.loop.invariant ∙ ap (λ (n : ℕ). c.args.a * 2 ^ n % c.args.b) (omega arith)

pub overflow_mul-result : goal.overflow_mul-result
overflow_mul-result c =
    let h : c.loop.rest * c.power.result < 2 ^ 64 = rw c.power.ensures (small _ _ _ (less _ _ _ _ c.requires.0 c.loop.invariant) c.requires.1 (omega arith)) in
    omega arith

pub returns : goal.returns
returns c = rw c.power.ensures (behind _ _ _ _ _ c.loop.invariant ∙ ap (λ (n : ℕ). c.args.a * 2 ^ n % c.args.b) (omega (arith, c.loop-test.false, c.loop.auto.counter-end)))
