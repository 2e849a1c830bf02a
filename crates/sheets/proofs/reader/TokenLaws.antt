-- The reader gives a WORD or a NUM exactly where the bytes are what it prints, it is in shape, and no byte of a token follows. Assumes nothing.
use Prim.Native.Nat.{ℕ, zero, suc, ◌+◌, ◌-◌, ◌≤◌}
use native.Mathlib.Omega.{arith}
use mathlib.Core.Path.{◌≡◌, refl, sym, ap, ◌∙◌}
use mathlib.Core.Bool.{Bool, true, false, cond}
use mathlib.Core.Logic.{◌⊎◌, inl, inr}
use mathlib.Core.List.{List, [], ◌∷◌, ◌++◌}
use lib.Dec.{eqb, leb}
use lib.ListN.{length, get_or}
use borrow.Author.Tests.{eq-eqb, ne_eqb, le-leb, lt-leb, eqb-true, eqb-false, leb-true}
use Rattle.sheets.specs.Text.{Word}
use Rattle.sheets.specs.Trees.{Num}
use Rattle.sheets.specs.Grammar.{Letter, Digit, Each, IsWord, IsNum, point, print_num}
use Rattle.sheets.specs.code.reader.Codes.{letter, word_char, digit}
use Rattle.sheets.specs.code.reader.Reader.{Got, none, got, chars_if, chars, word_if, read_word, part_end, part_if, whole_step, read_whole, sign_if, read_num}
use Rattle.sheets.proofs.reader.ReaderLaws.{chars-stop, chars-more, whole_is, part-is}
use Rattle.sheets.proofs.reader.Spans.{Spans, spans-append, spans-split, spans-end, Holds, holds-none, holds-got, holds_at}

-- ---- characters
abbrev pub Counted : (ℕ → ℕ) → ℕ → Type 0
Counted f b = f b ≡ 0 → ⊥

pub letter-is : (b : ℕ) → Counted letter b → Letter b
unfolding letter
letter-is b = go (leb 97 b) refl (leb b 122) refl
  where
    go : (p : Bool) → leb 97 b ≡ p → (q : Bool) → leb b 122 ≡ q → (cond p (cond q (b - 96) 0) 0 ≡ 0 → ⊥) → Letter b
    go true ep true eq h = (leb-true _ _ ep, leb-true _ _ eq)
    go true ep false eq h = absurd (h refl)
    go false ep q eq h = absurd (h refl)

is-letter : (b : ℕ) → Letter b → Counted letter b
unfolding letter
is-letter b h e = let z = rw (le-leb 97 b h.0, le-leb b 122 h.1) at e in omega arith

pub digit-is : (b : ℕ) → Counted digit b → Digit b
unfolding digit
digit-is b = go (leb 48 b) refl (leb b 57) refl
  where
    go : (p : Bool) → leb 48 b ≡ p → (q : Bool) → leb b 57 ≡ q → (cond p (cond q (b - 47) 0) 0 ≡ 0 → ⊥) → Digit b
    go true ep true eq h = (leb-true _ _ ep, leb-true _ _ eq)
    go true ep false eq h = absurd (h refl)
    go false ep q eq h = absurd (h refl)

pub is_digit : (b : ℕ) → Digit b → Counted digit b
unfolding digit
is_digit b h e = let z = rw (le-leb 48 b h.0, le-leb b 57 h.1) at e in omega arith

pub char_is : (b : ℕ) → Counted word_char b → Letter b ⊎ Digit b
unfolding word_char
char_is b = go (leb 97 b) refl (leb b 122) refl (leb 48 b) refl (leb b 57) refl
  where
    go : (p : Bool) → leb 97 b ≡ p → (q : Bool) → leb b 122 ≡ q → (r : Bool) → leb 48 b ≡ r → (t : Bool) → leb b 57 ≡ t
        → (cond p (cond q (b - 96) 0) (cond r (cond t (b - 21) 0) 0) ≡ 0 → ⊥) → Letter b ⊎ Digit b
    go true ep true eq r er t et h = inl (leb-true _ _ ep, leb-true _ _ eq)
    go true ep false eq r er t et h = absurd (h refl)
    go false ep q eq true er true et h = inr (leb-true _ _ er, leb-true _ _ et)
    go false ep q eq true er false et h = absurd (h refl)
    go false ep q eq false er t et h = absurd (h refl)

pub is-char : (b : ℕ) → Letter b ⊎ Digit b → Counted word_char b
unfolding word_char
is-char b (inl h) e = let z = rw (le-leb 97 b h.0, le-leb b 122 h.1) at e in omega arith
is-char b (inr h) e = let z = rw (lt-leb 97 b (omega arith), le-leb 48 b h.0, le-leb b 57 h.1) at e in omega arith

pub each_map : (P Q : ℕ → Type 0) → ((b : ℕ) → P b → Q b) → (s : List ℕ) → Each P s → Each Q s
each_map P Q f [] h = tt
each_map P Q f (c ∷ s) h = (f c h.0, each_map P Q f s h.1)

-- what follows goes on with no token
abbrev pub Stops : List ℕ → ℕ → Type 0
Stops s n = (word_char (get_or s n 0) ≡ 0) × (digit (get_or s n 0) ≡ 0) × (get_or s n 0 ≡ 46 → ⊥)

pub space-stops : (s : List ℕ) (n : ℕ) → get_or s n 0 ≡ 32 → Stops s n
unfolding word_char digit
space-stops s n h = (rw h refl, rw h refl, λ e. omega arith)

pub close-stops : (s : List ℕ) (n : ℕ) → get_or s n 0 ≡ 41 → Stops s n
unfolding word_char digit
close-stops s n h = (rw h refl, rw h refl, λ e. omega arith)

-- ---- runs of characters
module _ (f : ℕ → ℕ) (s : List ℕ) where
  pub record Run (k at : ℕ) (w : List ℕ) : Type 0 where
    pub span : Spans s w at (at + length w)
    pub each : Each (Counted f) w
    pub most : length w ≤ k

  pub chars-run : (k at : ℕ) → Run k at (chars f k s at)
  unfolding chars chars_if Spans
  chars-run zero at = record { span = omega arith; each = tt; most = omega arith }
  chars-run (suc k) at = go (eqb (f (get_or s at 0)) 0) refl (chars-run k (at + 1))
    where
      go : (t : Bool) → eqb (f (get_or s at 0)) 0 ≡ t → Run k (at + 1) (chars f k s (at + 1)) → Run (suc k) at (chars_if t (get_or s at 0) (chars f k s) at)
      go true e r = record { span = omega arith; each = tt; most = omega arith }
      go false e r =
          let i : at + 1 + length (chars f k s (at + 1)) ≡ at + suc (length (chars f k s (at + 1))) = omega arith in
          record { span = (refl, rw i at r.span); each = (eqb-false _ _ e, r.each); most = omega (arith, r.most) }

  chars-complete : (w : List ℕ) (k at n : ℕ) → Spans s w at n → Each (Counted f) w → length w ≤ k → f (get_or s n 0) ≡ 0 → chars f k s at ≡ w
  unfolding Spans
  chars-complete [] k at n p h l e = chars-stop f s k at (rw p e)
  chars-complete (c ∷ w) zero at n p h l e = absurd (omega arith)
  chars-complete (c ∷ w) (suc k) at n p h l e =
      chars-more f s (suc k) at (omega arith) (rw p.0 h.0)
      ∙ ap (λ t. get_or s at 0 ∷ chars f t s (at + 1)) (omega arith)
      ∙ ap (λ b. b ∷ chars f k s (at + 1)) p.0
      ∙ ap (λ t. c ∷ t) (chars-complete w k (at + 1) n p.1 h.1 (omega arith) e)

-- ---- words
abbrev pub WordAt : List ℕ → ℕ → Word → ℕ → Type 0
WordAt s at w n = Spans s w at n × IsWord w

pub word_sound : (s : List ℕ) (at : ℕ) → Holds (WordAt s at) (read_word s at)
unfolding read_word word_if Spans
word_sound s at = go (eqb (letter (get_or s at 0)) 0) refl
  where
    go : (t : Bool) → eqb (letter (get_or s at 0)) 0 ≡ t → Holds (WordAt s at) (word_if t s at)
    go true e = holds-none _
    go false e =
        let r = chars-run word_char s 11 (at + 1) in
        let w = chars word_char 11 s (at + 1) in
        let i : at + 1 + length w ≡ at + suc (length w) = omega arith in
        holds-got (WordAt s at) (get_or s at 0 ∷ w) (at + suc (length w))
        ((refl, rw i at r.span), (letter-is _ (eqb-false _ _ e), each_map (Counted word_char) (λ b. Letter b ⊎ Digit b) char_is w r.each, r.most))

pub word-spans : (s : List ℕ) (at : ℕ) (w : Word) (n : ℕ) → read_word s at ≡ got w n → n ≡ at + length w
word-spans s at w n e = spans-end s w at n (holds_at (WordAt s at) (read_word s at) w n (word_sound s at) e).0

pub word-complete : (s : List ℕ) (w : Word) (at n : ℕ) → Spans s w at n → IsWord w → Stops s n → read_word s at ≡ got w n
unfolding read_word word_if Spans
word-complete s [] at n p h e = absurd h
word-complete s (c ∷ w) at n p h e =
    let i : n ≡ at + suc (length w) = spans-end s (c ∷ w) at n p in
    let r : chars word_char 11 s (at + 1) ≡ w = chars-complete word_char s w 11 (at + 1) n p.1 (each_map (λ b. Letter b ⊎ Digit b) (Counted word_char) is-char w h.1) h.2 e.0 in
    rw (ne_eqb (letter (get_or s at 0)) 0 (rw p.0 (is-letter c h.0)), r, p.0, i) refl

pub no_word : (s : List ℕ) (at : ℕ) → letter (get_or s at 0) ≡ 0 → read_word s at ≡ none
unfolding read_word word_if
no_word s at e = rw (eq-eqb _ _ e) refl

-- ---- numbers
abbrev pub NumAt : List ℕ → ℕ → Num → ℕ → Type 0
NumAt s at q n = Spans s (print_num q) at n × IsNum q

abbrev pub WholeAt : List ℕ → Bool → ℕ → Num → ℕ → Type 0
WholeAt s m at q n = Spans s (q.whole ++ point q.part) at n × IsNum q × (q.minus ≡ m)

pub whole-sound : (s : List ℕ) (m : Bool) (at : ℕ) → Holds (WholeAt s m at) (read_whole m s at)
unfolding read_whole whole_step part_if part_end Spans
whole-sound s m at = go (chars digit 9 s at) (chars-run digit s 9 at)
  where
    behind : (c : ℕ) (w t : List ℕ) → Run digit s 9 at (c ∷ w) → get_or s (at + length (c ∷ w)) 0 ≡ 46 → Run digit s 6 (at + length (c ∷ w) + 1) t
        → Holds (WholeAt s m at) (part_end m (c ∷ w) t (at + length (c ∷ w) + 1))
    behind c w [] r e u = holds-none _
    behind c w (d ∷ t) r e u =
        holds-got (WholeAt s m at) (record { minus = m; whole = c ∷ w; part = d ∷ t }) _ (
          spans-append s (c ∷ w) (46 ∷ d ∷ t) at (at + length (c ∷ w)) _ r.span (e, u.span),
          (each_map (Counted digit) Digit digit-is (c ∷ w) r.each, omega arith, r.most, each_map (Counted digit) Digit digit-is (d ∷ t) u.each, u.most),
          refl,
        )

    after : (c : ℕ) (w : List ℕ) → Run digit s 9 at (c ∷ w) → (b : Bool) → eqb (get_or s (at + length (c ∷ w)) 0) 46 ≡ b
        → Holds (WholeAt s m at) (part_if b m (c ∷ w) s (at + length (c ∷ w)))
    after c w r true e = behind c w (chars digit 6 s (at + length (c ∷ w) + 1)) r (eqb-true _ _ e) (chars-run digit s 6 (at + length (c ∷ w) + 1))
    after c w r false e =
        holds-got (WholeAt s m at) (record { minus = m; whole = c ∷ w; part = [] }) _ (
          spans-append s (c ∷ w) [] at (at + length (c ∷ w)) _ r.span refl,
          (each_map (Counted digit) Digit digit-is (c ∷ w) r.each, omega arith, r.most, tt, omega arith),
          refl,
        )

    go : (ds : List ℕ) → Run digit s 9 at ds → Holds (WholeAt s m at) (whole_step m ds s at)
    go [] r = holds-none _
    go (c ∷ w) r = after c w r (eqb (get_or s (at + length (c ∷ w)) 0) 46) refl

pub num-sound : (s : List ℕ) (at : ℕ) → Holds (NumAt s at) (read_num s at)
unfolding read_num sign_if Holds Spans
num-sound s at = go (eqb (get_or s at 0) 45) refl
  where
    signed : (m : Bool) (i : ℕ) → ((q : Num) (n : ℕ) → WholeAt s m i q n → NumAt s at q n) → (o : Got Num) → Holds (WholeAt s m i) o → Holds (NumAt s at) o
    signed m i f none h = tt
    signed m i f (got q n) h = f q n h

    go : (t : Bool) → eqb (get_or s at 0) 45 ≡ t → Holds (NumAt s at) (sign_if t s at)
    go true e = signed true (at + 1) (λ q n h. (rw h.2 (eqb-true (get_or s at 0) 45 e, h.0), h.1)) (read_whole true s (at + 1)) (whole-sound s true (at + 1))
    go false e = signed false at (λ q n h. (rw h.2 h.0, h.1)) (read_whole false s at) (whole-sound s false at)

pub whole-complete : (s : List ℕ) (m : Bool) (w t : List ℕ) (at n : ℕ) → Spans s (w ++ point t) at n → Each Digit w → 1 ≤ length w → length w ≤ 9 → Each Digit t → length t ≤ 6 → Stops s n
    → read_whole m s at ≡ got (record { minus = m; whole = w; part = t }) n
unfolding read_whole part_if Spans digit
whole-complete s m w t at n p hw one nine ht six e = go t p ht six
  where
    goes : (k : ℕ) → Spans s w at k → digit (get_or s k 0) ≡ 0 → (b : Bool) → eqb (get_or s k 0) 46 ≡ b → read_whole m s at ≡ part_if b m w s k
    goes k q z b eb =
        let i : at + length w ≡ k = sym (spans-end s w at k q) in
        ap (λ ds. whole_step m ds s at) (chars-complete digit s w 9 at k q (each_map Digit (Counted digit) is_digit w hw) nine z)
        ∙ whole_is m w s at (λ l. omega arith) ∙ rw (i, eb) refl

    point-digit : (k : ℕ) → get_or s k 0 ≡ 46 → digit (get_or s k 0) ≡ 0
    point-digit k h = rw h refl

    go : (t : List ℕ) → Spans s (w ++ point t) at n → Each Digit t → length t ≤ 6 → read_whole m s at ≡ got (record { minus = m; whole = w; part = t }) n
    go [] p ht six =
        let (k, q, r) = spans-split s w [] at n p in
        let i : k ≡ n = r in
        goes n (rw i at q) e.1 false (ne_eqb (get_or s n 0) 46 e.2)
    go (d ∷ t) p ht six =
        let (k, q, r) = spans-split s w (46 ∷ d ∷ t) at n p in
        let u : chars digit 6 s (k + 1) ≡ d ∷ t = chars-complete digit s (d ∷ t) 6 (k + 1) n r.1 (each_map Digit (Counted digit) is_digit (d ∷ t) ht) six e.1 in
        goes k q (point-digit k r.0) true (eq-eqb (get_or s k 0) 46 r.0)
        ∙ ap (λ ds. part_end m w ds (k + 1)) u ∙ part-is m w (d ∷ t) (k + 1) (λ l. omega arith)
        ∙ ap (got (record { minus = m; whole = w; part = d ∷ t })) (sym (spans-end s (d ∷ t) (k + 1) n r.1))

first-digit : (s : List ℕ) (w t : List ℕ) (at n : ℕ) → Spans s (w ++ t) at n → Each Digit w → 1 ≤ length w → Digit (get_or s at 0)
unfolding Spans
first-digit s [] t at n p h one = absurd (omega arith)
first-digit s (c ∷ w) t at n p h one = rw p.0 h.0

pub digit-letter : (b : ℕ) → b ≤ 57 → letter b ≡ 0
unfolding letter
digit-letter b h = rw (lt-leb 97 b (omega arith)) refl

pub num-complete : (s : List ℕ) (q : Num) (at n : ℕ) → Spans s (print_num q) at n → IsNum q → Stops s n → (read_num s at ≡ got q n) × (get_or s at 0 ≤ 57) × (get_or s at 0 ≡ 40 → ⊥)
unfolding Spans read_num sign_if
num-complete s q at n p h e = go q.minus refl p
  where
    unfold-minus : Spans s (print_num q) at n → q.minus ≡ true → (get_or s at 0 ≡ 45) × Spans s (q.whole ++ point q.part) (at + 1) n
    unfold-minus p em = rw em at p

    unfold-plus : Spans s (print_num q) at n → q.minus ≡ false → Spans s (q.whole ++ point q.part) at n
    unfold-plus p em = rw em at p

    go : (m : Bool) → q.minus ≡ m → Spans s (print_num q) at n → (read_num s at ≡ got q n) × (get_or s at 0 ≤ 57) × (get_or s at 0 ≡ 40 → ⊥)
    go true em p =
        let r = unfold-minus p em in
        let c = whole-complete s true q.whole q.part (at + 1) n r.1 h.0 h.1 h.2 h.3 h.4 e in
        (rw (eq-eqb (get_or s at 0) 45 r.0) (c ∙ ap (λ m. got (record { minus = m; whole = q.whole; part = q.part }) n) (sym em)), omega (arith, r.0), λ z. omega (arith, r.0))
    go false em p =
        let r = unfold-plus p em in
        let d = first-digit s q.whole (point q.part) at n r h.0 h.1 in
        let c = whole-complete s false q.whole q.part at n r h.0 h.1 h.2 h.3 h.4 e in
        (rw (ne_eqb (get_or s at 0) 45 (λ z. omega arith)) (c ∙ ap (λ m. got (record { minus = m; whole = q.whole; part = q.part }) n) (sym em)), omega arith, λ z. omega arith)
