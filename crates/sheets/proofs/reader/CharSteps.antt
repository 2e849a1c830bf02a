-- Characters, as the code tells them: a number from 1 on, or none. Assumes nothing.
use Rattle.std.specs.Prelude.{Option, Some, None}
use Prim.Native.Nat.{ℕ, zero, suc, ◌-◌, ◌<◌, ◌≤◌}
use native.Mathlib.Omega.{arith}
use mathlib.Core.Path.{◌≡◌, refl, ap}
use borrow.Author.Tests.{le-leb, lt-leb}
use Rattle.sheets.specs.code.reader.Codes.{letter, word_char, digit}
use Rattle.sheets.specs.code.reader.Views.{char_number, CharOf, digit_value, DigitOf}

-- ---- what is answered

some-number : (n d : ℕ) → d ≡ n → 0 < d → Some d ≡ char_number n
unfolding char_number
some-number zero d e pos = absurd (omega arith)
some-number (suc n) d e pos = ap (λ k. Some k) e

no_number : (n : ℕ) → n ≡ 0 → None ≡ char_number n
unfolding char_number
no_number n e = rw e refl

pub some-char : (most n b d : ℕ) → d ≡ n → 0 < d → n ≤ most → n ≤ b → CharOf most n b (Some d)
some-char most n b d e pos small from = record { is = some-number n d e pos; small = small; from_byte = from }

pub no_char : (most n b : ℕ) → n ≡ 0 → CharOf most n b None
no_char most n b e = record { is = no_number n e; small = omega (arith, e); from_byte = omega (arith, e) }

some-value : (n d : ℕ) → n ≡ suc d → Some d ≡ digit_value n
unfolding digit_value
some-value n d e = rw e refl

no_value : (n : ℕ) → n ≡ 0 → None ≡ digit_value n
unfolding digit_value
no_value n e = rw e refl

pub some-digit : (b d : ℕ) → digit b ≡ suc d → suc d ≤ 10 → suc d ≤ b → DigitOf b (Some d)
some-digit b d e small from = record { is = some-value (digit b) d e; small = omega (arith, e); from_byte = omega (arith, e) }

pub no_digit : (b : ℕ) → digit b ≡ 0 → DigitOf b None
no_digit b e = record { is = no_value (digit b) e; small = omega (arith, e); from_byte = omega (arith, e) }

-- ---- what an answer says

pub char_none : (n : ℕ) (r : Option ℕ) → r ≡ char_number n → r ≡ None → n ≡ 0
unfolding char_number
char_none zero r e h = refl
char_none (suc n) r e h = let z : ◌≡◌ {A = ℕ} 0 1 = cc in absurd (omega arith)

pub char-got : (n : ℕ) (r : Option ℕ) → r ≡ char_number n → (d : ℕ) → r ≡ Some d → (d ≡ n) × (0 < d)
unfolding char_number
char-got zero r e d h = let z : ◌≡◌ {A = ℕ} 0 1 = cc in absurd (omega arith)
char-got (suc n) r e d h = let i : d ≡ suc n = cc in (i, omega arith)

pub digit_none : (n : ℕ) (r : Option ℕ) → r ≡ digit_value n → r ≡ None → n ≡ 0
unfolding digit_value
digit_none zero r e h = refl
digit_none (suc n) r e h = let z : ◌≡◌ {A = ℕ} 0 1 = cc in absurd (omega arith)

pub digit-got : (n : ℕ) (r : Option ℕ) → r ≡ digit_value n → (d : ℕ) → r ≡ Some d → n ≡ suc d
unfolding digit_value
digit-got zero r e d h = let z : ◌≡◌ {A = ℕ} 0 1 = cc in absurd (omega arith)
digit-got (suc n) r e d h = let i : n ≡ d = cc in ap suc i

-- ---- the numbers of bytes

pub letter-in : (b : ℕ) → 97 ≤ b → b ≤ 122 → letter b ≡ b - 96
unfolding letter
letter-in b low high = simp (le-leb 97 b low, le-leb b 122 high)

pub letter-below : (b : ℕ) → b < 97 → letter b ≡ 0
unfolding letter
letter-below b h = simp (lt-leb 97 b h)

pub letter-above : (b : ℕ) → 122 < b → letter b ≡ 0
unfolding letter
letter-above b h = simp (le-leb 97 b (omega arith), lt-leb b 122 h)

pub digit-in : (b : ℕ) → 48 ≤ b → b ≤ 57 → digit b ≡ b - 47
unfolding digit
digit-in b low high = simp (le-leb 48 b low, le-leb b 57 high)

pub digit-below : (b : ℕ) → b < 48 → digit b ≡ 0
unfolding digit
digit-below b h = simp (lt-leb 48 b h)

pub digit-above : (b : ℕ) → 57 < b → digit b ≡ 0
unfolding digit
digit-above b h = simp (le-leb 48 b (omega arith), lt-leb b 57 h)

pub char-letter : (b : ℕ) → 97 ≤ b → b ≤ 122 → word_char b ≡ b - 96
unfolding word_char
char-letter b low high = simp (le-leb 97 b low, le-leb b 122 high)

pub char-digit : (b : ℕ) → 48 ≤ b → b ≤ 57 → word_char b ≡ b - 21
unfolding word_char
char-digit b low high = simp (lt-leb 97 b (omega arith), le-leb 48 b low, le-leb b 57 high)

pub char-below : (b : ℕ) → b < 48 → word_char b ≡ 0
unfolding word_char
char-below b h = simp (lt-leb 97 b (omega arith), lt-leb 48 b h)

pub char-between : (b : ℕ) → 57 < b → b < 97 → word_char b ≡ 0
unfolding word_char
char-between b low high = simp (lt-leb 97 b high, le-leb 48 b (omega arith), lt-leb b 57 low)

pub char-above : (b : ℕ) → 122 < b → word_char b ≡ 0
unfolding word_char
char-above b h = simp (le-leb 97 b (omega arith), lt-leb b 122 h)
