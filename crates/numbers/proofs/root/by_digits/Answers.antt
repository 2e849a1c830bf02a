-- `numbers::root::by_digits` meets its contract: after i turns, w * 4 ^ i is (root² + rest) * 2 ^ 54 and what is left. Assumes nothing.
use Rattle.std.proofs.Common.{◌≡◌, ℕ, ◌+◌, ◌-◌, ◌*◌, ◌/◌, ◌%◌, ◌^◌, ◌<◌, ◌≤◌, refl, pow-suc, add-one, arith, pow_mono}
use Rattle.numbers.proofs.root.by_digits.Invariants.{Inv}
use Rattle.numbers.proofs.root.by_digits.Goals as goal
use Rattle.numbers.proofs.root.by_digits.Goals.{then-trial-rest, else-trial-rest}

-- a turn, with the next two digits brought down
brought : (w left rest root i : ℕ) → Inv w left rest root i → w * 4 ^ (i + 1) ≡ (4 * (root * root) + (rest * 4 + left / 4503599627370496)) * 18014398509481984 + left % 4503599627370496 * 4
brought w left rest root i v =
    let p : 4 ^ (i + 1) ≡ 4 ^ i * 4 = rw (add-one, pow-suc) refl in
    let e : w * 4 ^ (i + 1) ≡ w * 4 ^ i * 4 = rw p (omega arith) in
    omega (arith, v.sum)

double : (root i : ℕ) → root < 2 ^ i → root * 2 + 1 < 2 ^ (i + 1)
double root i h =
    let p : 2 ^ (i + 1) ≡ 2 ^ i * 2 = rw (add-one, pow-suc) refl in
    omega arith

yes : (w left rest root i : ℕ) → Inv w left rest root i → i < 53 → root * 4 + 1 ≤ rest * 4 + left / 4503599627370496
    → Inv w (left % 4503599627370496 * 4) (rest * 4 + left / 4503599627370496 - (root * 4 + 1)) (root * 2 + 1) (i + 1)
yes w left rest root i v l h = record {
  sum = let b = brought w left rest root i v in omega arith;
  small = omega arith;
  less = omega (arith, v.less, v.small);
  short = double root i v.short;
  turns = omega arith;
}

no : (w left rest root i : ℕ) → Inv w left rest root i → i < 53 → rest * 4 + left / 4503599627370496 < root * 4 + 1
    → Inv w (left % 4503599627370496 * 4) (rest * 4 + left / 4503599627370496) (root * 2) (i + 1)
no w left rest root i v l h = record {
  sum = let b = brought w left rest root i v in omega arith;
  small = omega arith;
  less = omega arith;
  short = let d = double root i v.short in omega arith;
  turns = omega arith;
}

along : {w left rest root rest' root' i : ℕ} → rest' ≡ rest → root' ≡ root → Inv w left rest root i → Inv w left rest' root' i
along p q v = rw (p, q) v

bound : (w left rest root i : ℕ) → Inv w left rest root i → root < 2 ^ 53
bound w left rest root i v = let p : 2 ^ i ≤ 2 ^ 53 = pow_mono v.turns in omega (arith, v.short)

pub overflow_mul-rest : goal.overflow_mul-rest
overflow_mul-rest c = omega (arith, (bound _ _ _ _ _ c.loop.invariant))

pub overflow_add-rest : goal.overflow_add-rest
overflow_add-rest c = omega (arith, (bound _ _ _ _ _ c.loop.invariant))

pub overflow_mul-trial : goal.overflow_mul-trial
overflow_mul-trial c = omega (arith, (bound _ _ _ _ _ c.loop.invariant))

pub overflow_add-trial : goal.overflow_add-trial
overflow_add-trial c = omega (arith, (bound _ _ _ _ _ c.loop.invariant))

pub loop-preserved : goal.loop-preserved
loop-preserved c =
    let v = c.loop.invariant in
    let l = c.loop-test.true in
    elim c.if-trial-rest.branch [
      | then-trial-rest w ↦ along w.rest-is w.root-is (yes _ _ _ _ _ v l w.if-trial-rest.true)
      | else-trial-rest w ↦ along w.rest-is w.root-is (no _ _ _ _ _ v l w.if-trial-rest.false)
    ]
