-- `round` at a number of halves of a unit, and the bits of what it gives. Assumes nothing.
use Rattle.std.proofs.Common.{◌≡◌, ℕ, zero, suc, ◌+◌, ◌-◌, ◌*◌, ◌/◌, ◌%◌, ◌^◌, ◌<◌, ◌≤◌, Bool, true, false, cond, not, T, eqb, sym, refl, ap, ◌∙◌, subst, inl, inr, true≢false, le_trans, le_of_eq, le_refl, lt_of_lt_of_le, mul-le-mul_right, mul_assoc, mul_comm, div-lt_iff_lt-mul, mul-le-mul, mul-lt-mul_of_pos_right, mul-pos, pow-suc, lt_of_not-le, div-add-mod', le-div_iff_mul-le, mul_right_comm, not-le_of_lt, mul-div_cancel, arith, lit<, eqb→eq, leb→le, pow_pos, pow_mono, pow-add}
use Prim.Native.Nat.{compare, Ordering}
use lib.Dec.{is_le, compare_is_eq, nleb→lt, eqb_refl}
use lib.Arith.{lt_of_le-ne}
use lib.Ieee.{Float, nan, inf, fin, binary64, up, down, size, nearest, units, round, of_bits, to_bits, fits}
use lib.Ieee.Digits.{size-lt, size-le}
use lib.Ieee.Fits.{round_is, round-fits, core, down_pos}
use lib.Ieee.Exact.{HasValue, units_val}
use lib.Ieee.Nearest.{closest, closest_same, div_same}
use lib.Ieee.Bits.{of_bits-to_bits}
use Rattle.numbers.specs.Root.{sqrt, halves}
use Rattle.numbers.specs.code.Units.{units_of}
use Rattle.numbers.specs.code.RootSteps.{Squared, Rounds, Lifted, RootOf}
use Rattle.numbers.proofs.Isqrt.{below_or_not, four}
use Rattle.numbers.proofs.Halves.{Placed, placed}
use Rattle.numbers.proofs.Values.{pattern, units-pos, no-digits}

-- ---- what `compare` says
abbrev Cmp : Ordering → ℕ → ℕ → Type 0
Cmp Ordering.lt a b = a < b
Cmp Ordering.eq a b = a ≡ b
Cmp Ordering.gt a b = b < a

cmp : (a b : ℕ) → Cmp (compare a b) a b
cmp a b = go (compare a b) (leb→le a b) (nleb→lt a b) (eqb→eq a b) (λ (e : a ≡ b). subst (λ (x : ℕ). T (eqb a x)) e (eqb_refl a))
  where
    go : (o : Ordering) → (T (is_le o) → a ≤ b) → (T (not (is_le o)) → b < a) → (T (compare_is_eq o) → a ≡ b) → (a ≡ b → T (compare_is_eq o)) → Cmp o a b
    go Ordering.lt h k e n = lt_of_le-ne (h tt) n
    go Ordering.eq h k e n = e tt
    go Ordering.gt h k e n = k tt

nearest-down : (q a b : ℕ) → a < b → nearest q (compare a b) ≡ q
nearest-down q a b h = go (compare a b) (cmp a b)
  where
    go : (o : Ordering) → Cmp o a b → nearest q o ≡ q
    go Ordering.lt c = refl
    go Ordering.eq c = absurd (omega arith)
    go Ordering.gt c = absurd (omega arith)

nearest-up : (q a b : ℕ) → b < a → nearest q (compare a b) ≡ suc q
nearest-up q a b h = go (compare a b) (cmp a b)
  where
    go : (o : Ordering) → Cmp o a b → nearest q o ≡ suc q
    go Ordering.lt c = absurd (omega arith)
    go Ordering.eq c = absurd (omega arith)
    go Ordering.gt c = refl

-- ---- a / (2H), by where a lies
quotient : (a u q : ℕ) → 0 < u → q * u ≤ a → a < (q + 1) * u → a / u ≡ q
quotient a u q U h k =
    let x : q ≤ a / u = (le-div_iff_mul-le U).1 h in
    let y : a / u < q + 1 = (div-lt_iff_lt-mul U).1 k in
    omega arith

pub closest-down : (a H q : ℕ) → 0 < H → q * H * 2 ≤ a → a < (2 * q + 1) * H → closest a (2 * H) ≡ q
closest-down a H q p h k =
    let e : a / (2 * H) ≡ q = quotient a (2 * H) q (omega arith) (omega arith) (omega arith) in
    let f : a / (2 * H) * (2 * H) + a % (2 * H) ≡ a = div-add-mod' a (2 * H) in
    let f' : q * (2 * H) + a % (2 * H) ≡ a = rw e at f in
    rw e (nearest-down q (a % (2 * H) * 2) (2 * H) (omega arith))

pub closest-up : (a H q : ℕ) → 0 < H → a < (q + 1) * H * 2 → (2 * q + 1) * H < a → closest a (2 * H) ≡ q + 1
closest-up a H q p h k =
    let e : a / (2 * H) ≡ q = quotient a (2 * H) q (omega arith) (omega arith) (omega arith) in
    let f : a / (2 * H) * (2 * H) + a % (2 * H) ≡ a = div-add-mod' a (2 * H) in
    let f' : q * (2 * H) + a % (2 * H) ≡ a = rw e at f in
    rw e (nearest-up q (a % (2 * H) * 2) (2 * H) (omega arith) ∙ omega arith)

-- ---- how many digits
size_is : (n z : ℕ) → 2 ^ z ≤ n → n < 2 ^ (z + 1) → size n ≡ z + 1
size_is n z l u =
    let a : size n ≤ z + 1 = size-le n (z + 1) u in
    let b : z < size n = lt_of_not-le (λ (g : size n ≤ z). not-le_of_lt (lt_of_lt_of_le (size-lt n) (pow_mono g)) l) in
    omega arith

-- a halves, with a from 2 ^ 52 to 2 ^ 53 times 2 ^ (g + 1)
pub round-at : (a g q : ℕ) (L : ℕ) → L ≡ 2 ^ 1074 → 2 ^ 52 * 2 ^ g * 2 ≤ a → a < 2 ^ 53 * 2 ^ g * 2 → closest a (2 * 2 ^ g) ≡ q → round binary64 false a (2 * L) ≡ units binary64 false q g
round-at a g q L e_l l u e =
    let P : 0 < L = rw e_l (pow_pos 1074) in
    let G : 0 < 2 ^ g = pow_pos g in
    let w : a * L / (2 * L) ≡ a / 2 = div_same (a * L) (2 * L) a 2 (omega arith) (omega arith) (omega arith) in
    let lo : 2 ^ (52 + g) ≤ a / 2 = rw (pow-add 2 52 g) (omega arith) in
    let hi : a / 2 < 2 ^ (52 + g + 1) = rw (pow-add 2 (52 + g) 1, pow-add 2 52 g) (omega arith) in
    let z : size (a * L / (2 * L)) - 53 ≡ g = (rw w (let s : size (a / 2) ≡ 52 + g + 1 = size_is (a / 2) (52 + g) lo hi in omega arith)) in
    let k : closest (a * L) (2 * L * 2 ^ g) ≡ closest a (2 * 2 ^ g) = closest_same (a * L) (2 * L * 2 ^ g) a (2 * 2 ^ g) (mul-pos (omega arith) G) (omega arith) (omega arith) in
    round_is binary64 false a (2 * L)
    ∙ ap (λ (x : ℕ). core binary64 false (a * x) (2 * L) (size (a * x / (2 * L)) - 53)) (sym e_l)
    ∙ ap (λ (x : ℕ). core binary64 false (a * L) (2 * L) x) z
    ∙ ap (λ (x : ℕ). units binary64 false x g) (k ∙ e)

-- ---- the bits of q * 2 ^ g units
to_bits-at : (x : Float) (n : ℕ) → HasValue x false n (2 ^ 1074) → to_bits binary64 x ≡ (size n - 53) * 4503599627370496 + n / 2 ^ (size n - 53)
unfolding to_bits
to_bits-at nan n h = absurd h
to_bits-at (inf s) n h = absurd h
to_bits-at (fin s m e) n h =
    let k : m * up e * 2 ^ 1074 / down e ≡ n = ap (λ (x : ℕ). x / down e) h.1 ∙ mul-div_cancel n (down_pos e) in
    ap (λ (t : Bool). cond t 9223372036854775808 0 + (size (m * up e * 2 ^ 1074 / down e) - 53) * 4503599627370496 + m * up e * 2 ^ 1074 / down e / 2 ^ (size (m * up e * 2 ^ 1074 / down e) - 53)) h.0
    ∙ ap (λ (x : ℕ). 0 + (size x - 53) * 4503599627370496 + x / 2 ^ (size x - 53)) k
    ∙ omega arith

bits_at : (q g n : ℕ) → n ≡ q * 2 ^ g → 2 ^ 52 ≤ q → q ≤ 2 ^ 53 → (size n - 53) * 4503599627370496 + n / 2 ^ (size n - 53) ≡ g * 4503599627370496 + q
bits_at q g n e l u = elim (below_or_not q (2 ^ 53)) [ inl h ↦ within h | inr h ↦ over (omega arith) ]
  where
    G : 0 < 2 ^ g
    G = pow_pos g

    within : q < 2 ^ 53 → (size n - 53) * 4503599627370496 + n / 2 ^ (size n - 53) ≡ g * 4503599627370496 + q
    within h =
        let lo : 2 ^ (52 + g) ≤ n = rw (pow-add 2 52 g, e) (mul-le-mul_right (2 ^ g) l) in
        let hi : n < 2 ^ (52 + g + 1) = rw (pow-add 2 (52 + g) 1, pow-add 2 52 g, e) (let m = mul-lt-mul_of_pos_right h G in omega arith) in
        let z : size n - 53 ≡ g = (let s : size n ≡ 52 + g + 1 = size_is n (52 + g) lo hi in omega arith) in
        rw (z, e, mul-div_cancel q G) refl

    over : q ≡ 2 ^ 53 → (size n - 53) * 4503599627370496 + n / 2 ^ (size n - 53) ≡ g * 4503599627370496 + q
    over h =
        let e' : n ≡ 2 ^ 53 * 2 ^ g = e ∙ ap (λ (x : ℕ). x * 2 ^ g) h in
        let lo : 2 ^ (53 + g) ≤ n = rw (pow-add 2 53 g, e') (le_refl (2 ^ 53 * 2 ^ g)) in
        let hi : n < 2 ^ (53 + g + 1) = rw (pow-add 2 (53 + g) 1, pow-add 2 53 g, e') (omega (arith, G)) in
        let z : size n - 53 ≡ g + 1 = (let s : size n ≡ 53 + g + 1 = size_is n (53 + g) lo hi in omega arith) in
        let f : n ≡ 2 ^ 52 * 2 ^ (g + 1) = e' ∙ rw (pow-add 2 g 1) (omega arith) in
        rw (z, f, mul-div_cancel (2 ^ 52) (pow_pos (g + 1)), h) (omega arith)

units-bits : (q g : ℕ) → 2 ^ 52 ≤ q → q ≤ 2 ^ 53 → g ≤ 1534 → T (fits binary64 (units binary64 false q g)) → of_bits binary64 (g * 4503599627370496 + q) ≡ units binary64 false q g
units-bits q g l u h f =
    let x = units binary64 false q g in
    let v : HasValue x false (q * 2 ^ g) (2 ^ 1074) = units_val binary64 false q g (small q g u h) in
    ap (of_bits binary64) (sym (to_bits-at x (q * 2 ^ g) v ∙ bits_at q g (q * 2 ^ g) refl l u)) ∙ of_bits-to_bits binary64 x f
  where
    lt-suc-of : {a b : ℕ} → a ≤ b → a < suc b
    lt-suc-of h = omega arith

    suc-le : {a b : ℕ} → a ≤ b → suc a ≤ suc b
    suc-le h = omega arith

    suc-pow : suc (2 ^ 1587) ≤ 2 ^ 2098
    suc-pow = lit< tt

    small : (q g : ℕ) → q ≤ 2 ^ 53 → g ≤ 1534 → q * 2 ^ g < 2 ^ (1074 + 1024)
    small q g u h =
        let a : q * 2 ^ g ≤ 2 ^ 53 * 2 ^ g = mul-le-mul_right (2 ^ g) u in
        let b : 2 ^ (53 + g) ≤ 2 ^ 1587 = pow_mono {j = 1587} (omega arith) in
        lt_of_lt_of_le (lt_of_lt_of_le (lt-suc-of a) (le_trans (suc-le (le_trans (le_of_eq (sym (pow-add 2 53 g))) b)) (suc-pow))) (le_refl (2 ^ 2098))

-- ---- the root of a value
times : (a n d L : ℕ) → 0 < d → a * L ≡ n * d → a * (L * L) / d ≡ n * L
times a n d L p e = ap (λ (x : ℕ). x / d) (sym (mul_assoc a L L) ∙ ap (λ (x : ℕ). x * L) e ∙ mul_right_comm n d L) ∙ mul-div_cancel (n * L) p

pub sqrt-at : (x : Float) (n : ℕ) → 0 < n → HasValue x false n (2 ^ 1074) → sqrt x ≡ round binary64 false (halves (n * 2 ^ 1074)) (2 ^ 1075)
unfolding sqrt
sqrt-at nan n p h = absurd h
sqrt-at (inf s) n p h = absurd h
sqrt-at (fin true m e) n p h = absurd (true≢false h.0)
sqrt-at (fin false zero e) n p h = absurd (no-digits zero e n (2 ^ 1074) p h.1 refl)
sqrt-at (fin false (suc m) e) n p h = ap (λ (x : ℕ). round binary64 false (halves x) (2 ^ 1075)) (times (suc m * up e) n (down e) (2 ^ 1074) (down_pos e) h.1)

-- ---- the root of a pattern
pub squares : (w g root rest n : ℕ) → w * 4 ^ g ≡ n * 2 ^ 1022 → root * root + rest ≡ w * 4503599627370496 → n * 2 ^ 1074 ≡ (root * root + rest) * (2 ^ g * 2 ^ g)
squares w g root rest n e f = go (2 ^ 1022) 4503599627370496 (2 ^ g * 2 ^ g) (ap (λ (x : ℕ). w * x) (sym (four g)) ∙ e) f
  where
    go : (A B F : ℕ) → w * F ≡ n * A → root * root + rest ≡ w * B → n * (A * B) ≡ (root * root + rest) * F
    go A B F x y =
        sym (mul_assoc n A B) ∙ ap (λ (z : ℕ). z * B) (sym x) ∙ mul_right_comm w F B ∙ ap (λ (z : ℕ). z * F) (sym y)

pub at_least : (w root rest : ℕ) → Squared w root rest → 4503599627370496 ≤ w → 4503599627370496 ≤ root
at_least w root rest s h = elim (below_or_not root 4503599627370496) [ inl l ↦ absurd (no l (mul-le-mul l l)) | inr l ↦ l ]
  where
    no : root < 4503599627370496 → suc root * suc root ≤ 4503599627370496 * 4503599627370496 → ⊥
    no l m = omega (arith, s.whole, s.less)

module _ (b w g root rest : ℕ) (B : 0 < b) (F : b < 9218868437227405312) (l : Lifted (units_of b * 2 ^ 1022) 1534 w g) (s : Squared w root rest) where
  at : Placed root rest (2 ^ g) (halves (units_of b * 2 ^ 1074))
  at =
      let e : g ≡ suc (g - 1) = omega (arith, l.over) in
      let k : 2 ^ g ≡ 2 * 2 ^ (g - 1) = ap (λ (x : ℕ). 2 ^ x) e ∙ pow-suc 2 (g - 1) ∙ mul_comm (2 ^ (g - 1)) 2 in
      placed (units_of b * 2 ^ 1074) root rest (2 ^ g) (2 ^ (g - 1)) k (pow_pos (g - 1)) s.less (squares w g root rest (units_of b) l.same s.whole)

  rooted : (q : ℕ) → closest (halves (units_of b * 2 ^ 1074)) (2 * 2 ^ g) ≡ q → 2 ^ 52 ≤ q → q ≤ 2 ^ 53 → RootOf b (g * 4503599627370496 + q)
  rooted q e lo hi =
      let a = halves (units_of b * 2 ^ 1074) in
      let p : 4503599627370496 ≤ root = at_least w root rest s l.low in
      let m : 4503599627370496 * 2 ^ g ≤ root * 2 ^ g = mul-le-mul_right (2 ^ g) p in
      let m' : (root + 1) * 2 ^ g ≤ 9007199254740992 * 2 ^ g = mul-le-mul_right (2 ^ g) (omega (arith, s.short)) in
      let r : round binary64 false a (2 ^ 1075) ≡ units binary64 false q g = round-at a g q (2 ^ 1074) refl (omega (arith, at.from)) (omega (arith, at.to)) e in
      record {
        is = units-bits q g lo hi l.under (subst (λ (v : Float). T (fits binary64 v)) r (round-fits binary64 false a (2 ^ 1075)))
            ∙ sym (sqrt-at (of_bits binary64 b) (units_of b) (units-pos b B) (pattern b F) ∙ r);
        finite = omega (arith, l.under);
      }

  pub rounded-down : rest ≤ root → RootOf b (g * 4503599627370496 + root)
  rounded-down h = rooted root (closest-down (halves (units_of b * 2 ^ 1074)) (2 ^ g) root (pow_pos g) at.from (at.down h)) (at_least w root rest s l.low) (omega (arith, s.short))

  pub rounded-up : root < rest → RootOf b (g * 4503599627370496 + (root + 1))
  rounded-up h = rooted (root + 1) (closest-up (halves (units_of b * 2 ^ 1074)) (2 ^ g) root (pow_pos g) at.to (at.up h)) (omega (arith, at_least w root rest s l.low)) (omega (arith, s.short))

-- ---- the root to the nearest whole number
pub to-nearest : (b w g r : ℕ) → 0 < b → b < 9218868437227405312 → Lifted (units_of b * 2 ^ 1022) 1534 w g → Rounds w r → r < 2 ^ 53 → RootOf b (g * 4503599627370496 + r)
to-nearest b w g r B F l n h = elim (below_or_not (w * 4503599627370496) (r * r)) [ inl k ↦ up r n h k | inr k ↦ down k ]
  where
    down : r * r ≤ w * 4503599627370496 → RootOf b (g * 4503599627370496 + r)
    down k =
        let q = w * 4503599627370496 - r * r in
        let s : Squared w r q = record { whole = omega arith; less = omega (arith, n.over); short = h } in
        rounded-down b w g r q B F l s (omega (arith, n.over))

    up : (r : ℕ) → Rounds w r → r < 2 ^ 53 → w * 4503599627370496 < r * r → RootOf b (g * 4503599627370496 + r)
    up zero n h k = absurd (omega arith)
    up (suc p) n h k =
        let q = w * 4503599627370496 - p * p in
        let e : suc p * suc p ≡ p * p + 2 * p + 1 = omega arith in
        let s : Squared w p q = record { whole = omega (arith, n.under); less = omega (arith, n.under); short = omega arith } in
        subst (λ (x : ℕ). RootOf b (g * 4503599627370496 + x)) (omega arith) (rounded-up b w g p q B F l s (omega (arith, n.under)))
