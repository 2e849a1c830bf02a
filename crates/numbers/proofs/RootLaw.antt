-- `sqrt x` is nearer to the root of x than every other value of the format. Assumes nothing.
use Rattle.std.proofs.Common.{◌≡◌, ℕ, zero, suc, ◌+◌, ◌-◌, ◌*◌, ◌/◌, ◌^◌, ◌<◌, ◌≤◌, false, T, ltb, ◌⊎◌, sym, refl, ap, ◌∙◌, subst, inl, inr, le_trans, le_of_eq, lt_of_lt_of_le, lt_of_le_of_lt, lt_irrefl, mul-le-mul_right, mul_assoc, mul_comm, mul-le-mul, lt_of_mul-lt-mul_right, mul-lt-mul_of_pos_right, mul-pos, pow-suc, mul-div_cancel, arith, lit<, ltb→lt, pow_pos, pow_mono, pow-add}
use lib.Ieee.{Float, nan, inf, fin, binary64, down, units, round}
use lib.Ieee.Fits.{down_pos, and_l, and_r}
use lib.Ieee.Exact.{HasValue, units_val}
use lib.Ieee.Nearest.{closest}
use Rattle.numbers.specs.Root.{sqrt, isqrt, halves}
use Rattle.numbers.specs.code.RootSteps.{Squared, Lifted}
use Rattle.numbers.proofs.Isqrt.{below_or_not}
use Rattle.numbers.proofs.Halves.{Placed, placed}
use Rattle.numbers.proofs.Rounded.{closest-down, closest-up, round-at, sqrt-at, squares, at_least}
use Rattle.numbers.proofs.RootGrid.{in_units, plain, above, Nearer, Grid, grid, two-pow, scaled, squared}

-- ---- where the root lies about q * H, with H = 2 * K
record Middle (n q K : ℕ) : Type 0 where
  beyond : n < (2 * q + 1) * K * ((2 * q + 1) * K)
  before : (2 * q - 1) * K * ((2 * q - 1) * K) < n
  least : (2 ^ 52 < q) ⊎ (q * (2 * K) * (q * (2 * K)) ≤ n)

middle-down : (n R rest K : ℕ) → 0 < K → 0 < R → n ≡ (R * R + rest) * (2 * K * (2 * K)) → rest ≤ R → Middle n R K
middle-down n R rest K k p e h =
    let P : 0 < K * K = mul-pos k k in
    let a : (R * R + rest) * 4 * (K * K) < (2 * R + 1) * (2 * R + 1) * (K * K) = mul-lt-mul_of_pos_right (omega arith) P in
    let b : (2 * R - 1) * (2 * R - 1) * (K * K) < (2 * R) * (2 * R) * (K * K) = mul-lt-mul_of_pos_right (sq (2 * R - 1) (2 * R) (omega arith)) P in
    record {
      beyond = rw e (omega arith);
      before = rw e (chain (2 * R - 1) R rest K b);
      least = inr (rw e (omega arith));
    }
  where
    sq : (x y : ℕ) → x < y → x * x < y * y
    sq x y h = let a = mul-le-mul h h in omega arith

    chain : (x R rest K : ℕ) → x * x * (K * K) < (2 * R) * (2 * R) * (K * K) → x * K * (x * K) < (R * R + rest) * (2 * K * (2 * K))
    chain x R rest K h = omega arith

middle-up : (n R rest K : ℕ) → 0 < K → 2 ^ 52 ≤ R → n ≡ (R * R + rest) * (2 * K * (2 * K)) → R < rest → rest ≤ 2 * R → Middle n (R + 1) K
middle-up n R rest K k p e h l =
    let P : 0 < K * K = mul-pos k k in
    let a : (2 * R + 1) * (2 * R + 1) * (K * K) < (R * R + rest) * 4 * (K * K) = mul-lt-mul_of_pos_right (omega arith) P in
    let b : (R * R + rest) * 4 * (K * K) < (2 * (R + 1) + 1) * (2 * (R + 1) + 1) * (K * K) = mul-lt-mul_of_pos_right (omega arith) P in
    let d : 2 * (R + 1) - 1 ≡ 2 * R + 1 = omega arith in
    record {
      beyond = rw e (omega arith);
      before = rw (e, d) (omega arith);
      least = inl (omega arith);
    }

-- ---- another value of the format is on the same grid, or below it
coarse : (m j g : ℕ) → m < 2 ^ 53 → 2 ^ 52 * 2 ^ g ≤ m * 2 ^ j → g ≤ j
coarse m j g h l = elim (below_or_not j g) [ inl k ↦ absurd (no k) | inr k ↦ k ]
  where
    no : j < g → ⊥
    no k =
        let a : m * 2 ^ j < 2 ^ 53 * 2 ^ j = mul-lt-mul_of_pos_right h (pow_pos j) in
        let b : 2 ^ (j + 1) ≤ 2 ^ g = pow_mono (omega arith) in
        let c : 2 ^ (j + 1) ≡ 2 ^ j * 2 = pow-add 2 j 1 in
        omega arith

multiple : (m j g : ℕ) → g ≤ j → m * 2 ^ j ≡ m * 2 ^ (j - g) * 2 ^ g
multiple m j g h = let e : j ≡ j - g + g = omega arith in ap (λ (x : ℕ). m * 2 ^ x) e ∙ ap (λ (x : ℕ). m * x) (pow-add 2 (j - g) g) ∙ sym (mul_assoc m (2 ^ (j - g)) (2 ^ g))

next : (q t H : ℕ) → q * H < t * H → (q + 1) * H ≤ t * H
next q t H h = mul-le-mul_right H (let l : q < t = lt_of_mul-lt-mul_right H h in omega arith)

over-is : (n q K v : ℕ) → Middle n q K → (q + 1) * (2 * K) ≤ v → 4 * n < (q * (2 * K) + v) * (q * (2 * K) + v)
over-is n q K v m h =
    let a : (2 * q + 1) * (2 * K) ≤ q * (2 * K) + v = omega arith in
    let b = mul-le-mul a a in
    omega (arith, m.beyond)

under-is : (n q K v : ℕ) → 0 < q → Middle n q K → v ≤ (q - 1) * (2 * K) → (q * (2 * K) + v) * (q * (2 * K) + v) < 4 * n
under-is n q K v p m h =
    let a : q * (2 * K) + v ≤ (2 * q - 1) * (2 * K) = apart (q - 1) (2 * q - 1) (omega arith) h in
    let b = mul-le-mul a a in
    close (2 * q - 1) b m.before
  where
    apart : (r s : ℕ) → s ≡ q + r → v ≤ r * (2 * K) → q * (2 * K) + v ≤ s * (2 * K)
    apart r s f l = rw f (omega arith)

    close : (s : ℕ) → (q * (2 * K) + v) * (q * (2 * K) + v) ≤ s * (2 * K) * (s * (2 * K)) → s * K * (s * K) < n → (q * (2 * K) + v) * (q * (2 * K) + v) < 4 * n
    close s b c = omega arith

lower-is : (n q K v : ℕ) → q * (2 * K) * (q * (2 * K)) ≤ n → v < q * (2 * K) → (q * (2 * K) + v) * (q * (2 * K) + v) < 4 * n
lower-is n q K v h l = let a : suc (q * (2 * K) + v) ≤ 2 * (q * (2 * K)) = omega arith in let b = mul-le-mul a a in omega arith

nearer : (n q g m j K : ℕ) → 2 ^ 52 ≤ q → 2 ^ g ≡ 2 * K → Middle n q K → m < 2 ^ 53 → Nearer n (q * 2 ^ g) (m * 2 ^ j)
nearer n q g m j K l e d s = record { over = above-it; under = below-it }
  where
    base : 2 ^ 52 * 2 ^ g ≤ q * 2 ^ g
    base = mul-le-mul_right (2 ^ g) l

    above-it : q * 2 ^ g < m * 2 ^ j → 4 * n < (q * 2 ^ g + m * 2 ^ j) * (q * 2 ^ g + m * 2 ^ j)
    above-it h =
        let k : g ≤ j = coarse m j g s (omega (arith, base)) in
        let f = multiple m j g k in
        let t : (q + 1) * 2 ^ g ≤ m * 2 ^ j = rw f (next q (m * 2 ^ (j - g)) (2 ^ g) (rw f at h)) in
        subst (λ (H : ℕ). 4 * n < (q * H + m * 2 ^ j) * (q * H + m * 2 ^ j)) (sym e) (over-is n q K (m * 2 ^ j) d (subst (λ (H : ℕ). (q + 1) * H ≤ m * 2 ^ j) e t))

    below-it : m * 2 ^ j < q * 2 ^ g → (q * 2 ^ g + m * 2 ^ j) * (q * 2 ^ g + m * 2 ^ j) < 4 * n
    below-it h = elim d.least [
      | inl p ↦
          let t : m * 2 ^ j ≤ (q - 1) * 2 ^ g = elim (below_or_not (m * 2 ^ j) (2 ^ 52 * 2 ^ g)) [
            | inl u ↦ let w : 2 ^ 52 * 2 ^ g ≤ (q - 1) * 2 ^ g = mul-le-mul_right (2 ^ g) (omega arith) in omega arith
            | inr u ↦
                let f = multiple m j g (coarse m j g s u) in
                let r : m * 2 ^ (j - g) < q = lt_of_mul-lt-mul_right (2 ^ g) (rw f at h) in
                rw f (mul-le-mul_right (2 ^ g) (omega arith))
          ] in
          subst (λ (H : ℕ). (q * H + m * 2 ^ j) * (q * H + m * 2 ^ j) < 4 * n) (sym e) (under-is n q K (m * 2 ^ j) (omega arith) d (subst (λ (H : ℕ). m * 2 ^ j ≤ (q - 1) * H) e t))
      | inr p ↦ subst (λ (H : ℕ). (q * H + m * 2 ^ j) * (q * H + m * 2 ^ j) < 4 * n) (sym e) (lower-is n q K (m * 2 ^ j) p (subst (λ (H : ℕ). m * 2 ^ j < q * H) e h))
    ]

-- ---- the root
in-units-of : (y : Float) (v : ℕ) → HasValue y false v (2 ^ 1074) → in_units y ≡ v
in-units-of nan v h = absurd h
in-units-of (inf s) v h = absurd h
in-units-of (fin s m e) v h = ap (λ (z : ℕ). z / down e) h.1 ∙ mul-div_cancel v (down_pos e)

pow_lt_back : (a b : ℕ) → 2 ^ a < 2 ^ b → a < b
pow_lt_back a b h = elim (below_or_not a b) [ inl g ↦ g | inr g ↦ absurd (lt_irrefl (2 ^ a) (lt_of_lt_of_le h (pow_mono g))) ]

-- nothing overflows
small_power : (w g n : ℕ) → 2 ^ 52 ≤ w → w * 4 ^ g ≡ n * 2 ^ 1022 → n < 2 ^ 2098 → g < 1534
small_power w g n h e l =
    let a : 2 ^ 52 * 4 ^ g ≤ w * 4 ^ g = mul-le-mul_right (4 ^ g) h in
    let b : 2 ^ (52 + (g + g)) ≡ 2 ^ 52 * 4 ^ g = pow-add 2 52 (g + g) ∙ ap (λ (z : ℕ). 2 ^ 52 * z) (sym (two-pow g)) in
    let c : n * 2 ^ 1022 < 2 ^ 2098 * 2 ^ 1022 = mul-lt-mul_of_pos_right l (pow_pos 1022) in
    let d : 52 + (g + g) < 3120 = pow_lt_back (52 + (g + g)) 3120 (lt_of_le_of_lt (le_of_eq b) (lt_of_le_of_lt a (lt_of_le_of_lt (le_of_eq e) c))) in
    half d
  where
    half : 52 + (g + g) < 3120 → g < 1534
    half h = omega arith

in-range : (q g : ℕ) → q ≤ 2 ^ 53 → g < 1534 → q * 2 ^ g < 2 ^ 2098
in-range q g h l = lt_of_le_of_lt (le_trans (mul-le-mul_right (2 ^ g) h) (le_trans (le_of_eq (sym (pow-add 2 53 g))) (pow_mono {j = 1587} (room l)))) (lit< tt)
  where
    room : g < 1534 → 53 + g ≤ 1587
    room l = omega arith

record Found (x : Float) : Type 0 where
  q : ℕ
  g : ℕ
  K : ℕ
  units_are : in_units (sqrt x) ≡ q * 2 ^ g
  even : 2 ^ g ≡ 2 * K
  low : 2 ^ 52 ≤ q
  mid : Middle (in_units x * 2 ^ 1074) q K

first_pos : (m p : ℕ) → 0 < m * p → 0 < m
first_pos zero p h = absurd (omega (arith, h))
first_pos (suc m) p h = omega arith

module _ (x : Float) (G : Grid x) (P : 0 < G.m * 2 ^ G.j) (w g : ℕ) (l : Lifted (G.m * 2 ^ G.j * 2 ^ 1022) (G.j + 1022) w g) (R rest : ℕ) (s : Squared w R rest) where
  abbrev n : ℕ
  n = G.m * 2 ^ G.j * 2 ^ 1074

  abbrev K : ℕ
  K = 2 ^ (g - 1)

  even : 2 ^ g ≡ 2 * K
  even =
      let e : g ≡ suc (g - 1) = omega (arith, l.over) in
      ap (λ (z : ℕ). 2 ^ z) e ∙ pow-suc 2 (g - 1) ∙ mul_comm (2 ^ (g - 1)) 2

  is-square : n ≡ (R * R + rest) * (2 ^ g * 2 ^ g)
  is-square = squares w g R rest (G.m * 2 ^ G.j) l.same s.whole

  at : Placed R rest (2 ^ g) (halves n)
  at = placed n R rest (2 ^ g) K even (pow_pos (g - 1)) s.less is-square

  low-root : 2 ^ 52 ≤ R
  low-root = at_least w R rest s l.low

  is-square' : n ≡ (R * R + rest) * (2 * K * (2 * K))
  is-square' = is-square ∙ ap (λ (H : ℕ). (R * R + rest) * (H * H)) even

  finding : (q : ℕ) → closest (halves n) (2 * 2 ^ g) ≡ q → 2 ^ 52 ≤ q → q ≤ 2 ^ 53 → Middle n q K → Found x
  finding q e lo hi m =
      let p : 4503599627370496 * 2 ^ g ≤ R * 2 ^ g = mul-le-mul_right (2 ^ g) low-root in
      let p' : (R + 1) * 2 ^ g ≤ 9007199254740992 * 2 ^ g = mul-le-mul_right (2 ^ g) (omega (arith, s.short)) in
      let r : round binary64 false (halves n) (2 ^ 1075) ≡ units binary64 false q g = round-at (halves n) g q (2 ^ 1074) refl (from_at p at.from) (to_at p' at.to) e in
      let v : HasValue (units binary64 false q g) false (q * 2 ^ g) (2 ^ 1074) = units_val binary64 false q g (in-range q g hi (small_power w g (G.m * 2 ^ G.j) l.low l.same G.high)) in
      record {
        q = q;
        g = g;
        K = K;
        units_are = ap in_units (sqrt-at x (G.m * 2 ^ G.j) P G.value ∙ r) ∙ in-units-of (units binary64 false q g) (q * 2 ^ g) v;
        even = even;
        low = lo;
        mid = subst (λ (z : ℕ). Middle (z * 2 ^ 1074) q K) (sym G.is) m;
      }
    where
      from_at : 4503599627370496 * 2 ^ g ≤ R * 2 ^ g → R * 2 ^ g * 2 ≤ halves n → 2 ^ 52 * 2 ^ g * 2 ≤ halves n
      from_at a b = omega arith

      to_at : (R + 1) * 2 ^ g ≤ 9007199254740992 * 2 ^ g → halves n < (R + 1) * 2 ^ g * 2 → halves n < 2 ^ 53 * 2 ^ g * 2
      to_at a b = omega arith

  find : Found x
  find = elim (below_or_not R rest) [
    | inl h ↦ finding (R + 1) (closest-up (halves n) (2 ^ g) R (pow_pos g) at.to (at.up h)) (omega (arith, low-root)) (omega (arith, s.short)) (middle-up n R rest K (pow_pos (g - 1)) low-root is-square' h s.less)
    | inr h ↦ finding R (closest-down (halves n) (2 ^ g) R (pow_pos g) at.from (at.down h)) low-root (omega (arith, s.short)) (middle-down n R rest K (pow_pos (g - 1)) (omega (arith, low-root)) is-square' h)
  ]

-- For a value x of the format above zero, and any other value y of the format that is not negative, sqrt x is nearer to the root of x than y is.
pub sqrt-nearest : (x y : Float) → T (above x) → T (plain y) → Nearer (in_units x * 2 ^ 1074) (in_units (sqrt x)) (in_units y)
sqrt-nearest x y h k =
    let G = grid x (and_l (plain x) (ltb 0 (in_units x)) h) in
    let P : 0 < G.m * 2 ^ G.j = subst (λ (z : ℕ). 0 < z) G.is (ltb→lt 0 (in_units x) (and_r (plain x) (ltb 0 (in_units x)) h)) in
    let S = scaled G.m G.j (first_pos G.m (2 ^ G.j) P) G.short in
    let F = find x G P S.w S.g S.is (isqrt (S.w * 4503599627370496)) (S.w * 4503599627370496 - isqrt (S.w * 4503599627370496) * isqrt (S.w * 4503599627370496)) (squared S.w S.is.high) in
    let Y = grid y k in
    subst (λ (z : ℕ). Nearer (in_units x * 2 ^ 1074) z (in_units y)) (sym F.units_are)
    (subst (Nearer (in_units x * 2 ^ 1074) (F.q * 2 ^ F.g)) (sym Y.is)
    (nearer (in_units x * 2 ^ 1074) F.q F.g Y.m Y.j F.K F.low F.even F.mid Y.short))
