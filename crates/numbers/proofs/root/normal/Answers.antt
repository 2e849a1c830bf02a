-- `numbers::root::normal` meets its contract. Assumes nothing.
use Rattle.std.proofs.Common.{◌≡◌, ℕ, suc, ◌+◌, ◌-◌, ◌*◌, ◌/◌, ◌%◌, ◌^◌, ◌<◌, ◌≤◌, sym, ap, ◌∙◌, inl, inr, pow-suc, mul-one, arith, pow-add}
use Rattle.numbers.proofs.Isqrt.{four, below_or_not}
use Rattle.numbers.proofs.Values.{normal}
use Rattle.numbers.proofs.root.normal.Goals as goal

-- with the large numbers as variables, since omega stops at 38 digits
shuffle : (m a x : ℕ) → m * (a * (x * x)) ≡ m * (x * x) * a
shuffle m a x = omega arith

shuffle' : (m a x : ℕ) → m * 2 * (a * (x * 2 * (x * 2))) ≡ m * (x * (x * 2)) * (a * 4)
shuffle' m a x = omega arith

-- a normal number, by the parity of its exponent's field q
odd-field : (m q : ℕ) → q % 2 ≡ 1 → m * 4 ^ (511 + q / 2) ≡ m * 2 ^ (q - 1) * 2 ^ 1022
odd-field m q h =
    let k = q / 2 in
    let a : q - 1 ≡ k + k = omega arith in
    let b : 2 ^ (q - 1) ≡ 2 ^ k * 2 ^ k = ap (λ (x : ℕ). 2 ^ x) a ∙ pow-add 2 k k in
    let d : 4 ^ (511 + k) ≡ 4 ^ 511 * (2 ^ k * 2 ^ k) = pow-add 4 511 k ∙ ap (λ (x : ℕ). 4 ^ 511 * x) (four k) in
    rw (b, d) (shuffle m (4 ^ 511) (2 ^ k))

even-field : (m q : ℕ) → (q % 2 ≡ 1 → ⊥) → 0 < q → m * 2 * 4 ^ (510 + q / 2) ≡ m * 2 ^ (q - 1) * 2 ^ 1022
even-field m q h p =
    let k = q / 2 in
    let a : q - 1 ≡ (k - 1) + k = omega arith in
    let a' : k ≡ suc (k - 1) = omega arith in
    let b : 2 ^ (q - 1) ≡ 2 ^ (k - 1) * 2 ^ k = ap (λ (x : ℕ). 2 ^ x) a ∙ pow-add 2 (k - 1) k in
    let b' : 2 ^ k ≡ 2 ^ (k - 1) * 2 = ap (λ (x : ℕ). 2 ^ x) a' ∙ pow-suc 2 (k - 1) in
    let d : 4 ^ (510 + k) ≡ 4 ^ 510 * (2 ^ k * 2 ^ k) = pow-add 4 510 k ∙ ap (λ (x : ℕ). 4 ^ 510 * x) (four k) in
    rw (b, d, b') (shuffle' m (4 ^ 510) (2 ^ (k - 1)))

-- the significand, doubled where the field is even
record Doubled (m q w : ℕ) : Type 0 where
  same : w * 4 ^ (510 + (q + 1) / 2) ≡ m * 2 ^ (q - 1) * 2 ^ 1022
  low : m ≤ w
  high : w ≤ m * 2

doubled : (m q : ℕ) → 0 < q → Doubled m q (m * (2 - q % 2))
doubled m q p = elim (below_or_not (q % 2) 1) [
  | inl h ↦
      let f : 2 - q % 2 ≡ 2 = omega arith in
      let e : m * (2 - q % 2) ≡ m * 2 = ap (λ (k : ℕ). m * k) f in
      let g : 510 + (q + 1) / 2 ≡ 510 + q / 2 = omega arith in
      record {
        same = (λ i. e i * 4 ^ g i) ∙ even-field m q (λ (k : q % 2 ≡ 1). omega arith) p;
        low = omega arith;
        high = omega arith;
      }
  | inr h ↦
      let f : 2 - q % 2 ≡ 1 = omega arith in
      let e : m * (2 - q % 2) ≡ m = ap (λ (k : ℕ). m * k) f ∙ mul-one m in
      let g : 510 + (q + 1) / 2 ≡ 511 + q / 2 = omega arith in
      record {
        same = (λ i. e i * 4 ^ g i) ∙ odd-field m q (omega arith);
        low = omega arith;
        high = omega arith;
      }
]

pub returns : goal.returns
returns c =
    let b = c.args.x.bits in
    let q = b / 4503599627370496 in
    let p : 0 < q = omega arith in
    let d = doubled (4503599627370496 + b % 4503599627370496) q p in
    record {
      same = d.same ∙ ap (λ (x : ℕ). x * 2 ^ 1022) (sym (normal b (omega arith)));
      low = omega (arith, d.low);
      high = omega (arith, d.high);
      under = omega arith;
      over = omega arith;
    }
