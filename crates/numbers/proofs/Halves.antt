-- Where the root of (R² + rest) * H² lies, for a rest of at most 2R and an even H, by `halves`. Assumes nothing.
use Rattle.std.proofs.Common.{◌≡◌, ℕ, ◌+◌, ◌*◌, ◌<◌, ◌≤◌, Bool, true, false, cond, T, eqb, refl, ap, ◌∙◌, inl, inr, mul-lt-mul_of_pos_right, mul-pos, arith, eqb→eq}
use Rattle.numbers.specs.Root.{isqrt, halves}
use Rattle.numbers.proofs.Isqrt.{isqrt-is, root-le, root-lt, below_or_not}

-- 2 * s is a, or a - 1 where the root is no whole number
record Sticky (n s a : ℕ) : Type 0 where
  even : 2 * s ≤ a
  odd : a ≤ 2 * s + 1
  more : s * s < n → a ≡ 2 * s + 1

sticky : (n : ℕ) → Sticky n (isqrt n) (halves n)
unfolding halves
sticky n = go (eqb (isqrt n * isqrt n) n) (eqb→eq (isqrt n * isqrt n) n)
  where
    go : (b : Bool) → (T b → isqrt n * isqrt n ≡ n) → Sticky n (isqrt n) (2 * isqrt n + cond b 0 1)
    go true h = record { even = omega arith; odd = omega arith; more = λ l. absurd (omega (arith, h tt)) }
    go false h = record { even = omega arith; odd = omega arith; more = λ l. refl }

pub record Placed (R rest H a : ℕ) : Type 0 where
  pub from : R * H * 2 ≤ a
  pub to : a < (R + 1) * H * 2
  pub down : rest ≤ R → a < (2 * R + 1) * H
  pub up : R < rest → (2 * R + 1) * H < a

pub placed : (n R rest H K : ℕ) → H ≡ 2 * K → 0 < K → rest ≤ 2 * R → n ≡ (R * R + rest) * (H * H) → Placed R rest H (halves n)
placed n R rest H K e k l h =
    let s = isqrt n in
    let r = isqrt-is n in
    let t = sticky n in
    let P : 0 < K * K = mul-pos k k in
    let hk : n ≡ (R * R + rest) * (4 * (K * K)) = h ∙ ap (λ (x : ℕ). (R * R + rest) * (x * x)) e ∙ omega arith in
    let a : R * H * (R * H) ≤ n = rw (hk, e) (omega arith) in
    let b : (R * R + rest) * (4 * (K * K)) < (R + 1) * (R + 1) * (4 * (K * K)) = mul-lt-mul_of_pos_right (omega arith) (omega arith) in
    let b' : n < (R + 1) * H * ((R + 1) * H) = rw (hk, e) (omega arith) in
    record {
      from = let x : R * H ≤ s = root-le n (R * H) s r a in omega (arith, t.even);
      to = let x : s < (R + 1) * H = root-lt n ((R + 1) * H) s r b' in omega (arith, t.odd);
      down = λ g.
          let m : (R * R + rest) * 4 * (K * K) < (2 * R + 1) * (2 * R + 1) * (K * K) = mul-lt-mul_of_pos_right (omega arith) P in
          let m' : n < (2 * R + 1) * K * ((2 * R + 1) * K) = rw hk (omega arith) in
          let x : s < (2 * R + 1) * K = root-lt n ((2 * R + 1) * K) s r m' in
          rw e (omega (arith, t.odd));
      up = λ g.
          let m : (2 * R + 1) * (2 * R + 1) * (K * K) < (R * R + rest) * 4 * (K * K) = mul-lt-mul_of_pos_right (omega arith) P in
          let m' : (2 * R + 1) * K * ((2 * R + 1) * K) < n = rw hk (omega arith) in
          let x : (2 * R + 1) * K ≤ s = root-le n ((2 * R + 1) * K) s r (omega arith) in
          rw e (beyond ((2 * R + 1) * K) ((2 * R + 1) * (2 * K)) (omega arith) s t x m');
    }
  where
    beyond : (j J : ℕ) → J ≡ 2 * j → (s : ℕ) → Sticky n s (halves n) → j ≤ s → j * j < n → J < halves n
    beyond j J q s t x m = elim (below_or_not j s) [
      | inl y ↦ omega (arith, t.even)
      | inr y ↦ let z : s ≡ j = omega arith in let u : s * s < n = rw z m in omega (arith, t.more u)
    ]
