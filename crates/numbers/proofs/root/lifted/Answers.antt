-- `numbers::root::lifted` meets its contract: w * 4 ^ h stays v * 4 ^ g. Assumes nothing.
use Rattle.std.proofs.Common.{◌≡◌, ℕ, suc, ◌+◌, ◌-◌, ◌*◌, ◌^◌, ◌<◌, ◌≤◌, ap, ◌∙◌, inl, inr, mul-le-mul_right, zero-lt-suc, mul-lt-mul_of_pos_right, pow-suc, arith, pow-add}
use native.Mathlib.Nat.{pow-le-pow_right, one-le-pow}
use Rattle.numbers.proofs.Isqrt.{below_or_not}
use Rattle.numbers.proofs.root.lifted.Invariants.{Inv}
use Rattle.numbers.proofs.root.lifted.Goals as goal

-- h does not fall below g - 26
deep : (v g w h : ℕ) → 0 < v → Inv v g w h → g < h + 27
deep v g w h p0 i = elim (below_or_not g (h + 27)) [ inl y ↦ y | inr n ↦ absurd (no n) ]
  where
    no : h + 27 ≤ g → ⊥
    no n =
        let p : 4 ^ (h + 27) ≤ 4 ^ g = pow-le-pow_right (zero-lt-suc 3) n in
        let q : 4 ^ (h + 27) ≡ 4 ^ h * 4 ^ 27 = pow-add 4 h 27 in
        let r : w * 4 ^ h < 2 ^ 54 * 4 ^ h = mul-lt-mul_of_pos_right i.high (one-le-pow h 4 (zero-lt-suc 3)) in
        let s : 1 * 4 ^ g ≤ v * 4 ^ g = mul-le-mul_right (4 ^ g) p0 in
        omega (arith, i.same)

again : (v g w h : ℕ) → Inv v g w h → 0 < h → w < 4503599627370496 → Inv v g (w * 4) (h - 1)
again v g w h i H l =
    let e : h ≡ suc (h - 1) = omega arith in
    let p : 4 ^ h ≡ 4 ^ (h - 1) * 4 = ap (λ (x : ℕ). 4 ^ x) e ∙ pow-suc 4 (h - 1) in
    let q : w * 4 ^ h ≡ w * (4 ^ (h - 1) * 4) = ap (λ (x : ℕ). w * x) p in
    record { same = omega (arith, i.same); high = omega arith; some = omega (arith, i.some); under = omega (arith, i.under) }

pub overflow_sub-h : goal.overflow_sub-h
overflow_sub-h c = omega (arith, deep _ _ _ _ c.requires.0 c.loop-w.invariant)

pub loop-w-preserved : goal.loop-w-preserved
loop-w-preserved c = again _ _ _ _ c.loop-w.invariant (omega (arith, deep _ _ _ _ c.requires.0 c.loop-w.invariant)) c.loop-w-test.true

pub returns : goal.returns
returns c =
    let i = c.loop-w.invariant in
    record { same = i.same; low = omega arith; high = i.high; under = i.under; over = omega (arith, deep _ _ _ _ c.requires.0 i) }
