-- The reader of files of readings reads exactly the files of the form, and says of any other what it comes to. Assumes nothing.
use Rattle.std.specs.Prelude.{Option, Some, None}
use Prim.Native.Nat.{ℕ, zero, suc, ◌+◌, ◌-◌, ◌*◌, ◌<◌, ◌≤◌}
use native.Mathlib.Omega.{arith}
use mathlib.Core.Path.{◌≡◌, refl, sym, ap, subst, ◌∙◌}
use mathlib.Core.Logic.{inl, inr, ◌↔◌}
use mathlib.Core.Bool.{Bool, true, false, cond, ◌&&◌}
use Rattle.std.proofs.Common.{Result, Ok}
use mathlib.Core.List.{List, [], ◌∷◌, ◌++◌, append_assoc, append-nil}
use lib.Dec.{eqb, leb}
use lib.ListN.{length, get_or, drop, length-append, length-drop, drop_of_length-le}
use lib.Ieee.{Float, binary64, of_bits}
use lib.Seq.{drop-cons}
use borrow.Author.Tests.{eq-eqb, ne_eqb, eqb-true, eqb-false, le-leb, lt-leb, leb-true, leb-false}
use Rattle.sheets.specs.Text.{◌⌢◌, lf}
use Rattle.sheets.specs.Trees.{Num}
use Rattle.sheets.specs.Grammar.{Each, sign, point, print_num, IsNum}
use Rattle.sheets.specs.Limits.{num_value}
use Rattle.sheets.specs.code.reader.Codes.{word_char, digit}
use Rattle.sheets.specs.code.reader.Reader.{Got, none, got, read_num}
use Rattle.sheets.specs.code.reader.Views.{doubled_by, doubled}
use Rattle.sheets.proofs.reader.Spans.{Spans, spans-append, spans-split, spans-end, spans-drop, drop-spans, holds_at}
use Rattle.sheets.proofs.reader.ReaderLaws.{byte_inside}
use Rattle.sheets.proofs.reader.Viewed.{some_pair}
use Rattle.sheets.proofs.reader.TokenLaws.{Stops, NumAt, num-sound, num-complete}
use Rattle.boresheet.specs.declared.readings.BadReadings.{BadReadings}
use Rattle.boresheet.specs.Format.{hex_number, HexDigit, hexadecimal_from, Line, Lines, ComesTo, all, short, bad, long}
use Rattle.boresheet.specs.code.Readings.{hex_if, hex_from, hex_at, end_if, ended_at, or_else, reading_at, lastly, line_if, readings_from, readings_of}

not_is : {C : Type 0} (x : Float) (n : ℕ) → ◌≡◌ {A = Option (Float × ℕ)} None (Some (x, n)) → C
not_is x n e = let z : ◌≡◌ {A = ℕ} 0 1 = cc in absurd (omega arith)

-- ---- hexadecimal digits

pub hex-lf : hex_number 10 ≡ 16
unfolding hex_number
hex-lf = refl

hex-point : hex_number 46 ≡ 16
unfolding hex_number
hex-point = refl

-- a number from a range of bytes, or else from the rest
hex-range : (b lo hi d rest : ℕ) → hi < d + 16 → ((rest ≡ 16 → ⊥) → rest < 16) → (cond (leb lo b && leb b hi) (b - d) rest ≡ 16 → ⊥) → cond (leb lo b && leb b hi) (b - d) rest < 16
hex-range b lo hi d rest h r n = go (leb lo b) (leb b hi) refl n
  where
    go : (x y : Bool) → leb b hi ≡ y → (cond (x && y) (b - d) rest ≡ 16 → ⊥) → cond (x && y) (b - d) rest < 16
    go true true e n = omega (arith, leb-true b hi e)
    go true false e n = r n
    go false y e n = r n

hex-most : (b : ℕ) → (hex_number b ≡ 16 → ⊥) → hex_number b < 16
unfolding hex_number
hex-most b h = hex-range b 48 57 48 _ (omega arith) (hex-range b 65 70 55 _ (omega arith) (hex-range b 97 102 87 16 (omega arith) (λ n. absurd (n refl)))) h

module _ (s : List ℕ) where
  -- what the reader took as digits are digits
  hex-sound : (k n at m : ℕ) (x : Float) → hex_from k n s at ≡ Some (x, m) → (ds : List ℕ) × Each HexDigit ds × (length ds ≡ k) × Spans s ds at m × (x ≡ of_bits binary64 (hexadecimal_from n ds))
  unfolding hex_from hex_if hexadecimal_from Spans
  hex-sound zero n at m x e = let (v, j) = some_pair _ _ _ _ e in ([], tt, refl, j, sym v)
  hex-sound (suc k) n at m x e = go (eqb (hex_number (get_or s at 0)) 16) refl (hex-sound k (n * 16 + hex_number (get_or s at 0)) (at + 1) m x) e
    where
      go : (b : Bool) → eqb (hex_number (get_or s at 0)) 16 ≡ b
          → (hex_from k (n * 16 + hex_number (get_or s at 0)) s (at + 1) ≡ Some (x, m) → (ds : List ℕ) × Each HexDigit ds × (length ds ≡ k) × Spans s ds (at + 1) m × (x ≡ of_bits binary64 (hexadecimal_from (n * 16 + hex_number (get_or s at 0)) ds)))
          → hex_if b (hex_from k (n * 16 + hex_number (get_or s at 0)) s) at ≡ Some (x, m)
          → (ds : List ℕ) × Each HexDigit ds × (length ds ≡ suc k) × Spans s ds at m × (x ≡ of_bits binary64 (hexadecimal_from n ds))
      go true h rest e = not_is x m e
      go false h rest e =
          let (ds, each, l, p, v) = rest e in
          (get_or s at 0 ∷ ds, (hex-most (get_or s at 0) (eqb-false _ _ h), each), ap suc l, (refl, p), v)

  hex-complete : (ds : List ℕ) (k n at m : ℕ) → length ds ≡ k → Each HexDigit ds → Spans s ds at m → hex_from k n s at ≡ Some (of_bits binary64 (hexadecimal_from n ds), m)
  unfolding hex_from hex_if hexadecimal_from Spans
  hex-complete [] zero n at m l h p = ap (λ i. Some (of_bits binary64 n, i)) p
  hex-complete [] (suc k) n at m l h p = absurd (omega arith)
  hex-complete (b ∷ ds) zero n at m l h p = absurd (omega arith)
  hex-complete (b ∷ ds) (suc k) n at m l h p =
      rw (p.0, ne_eqb (hex_number b) 16 (λ e. omega (arith, h.0))) (hex-complete ds k (n * 16 + hex_number b) (at + 1) m (omega arith) h.1 p.1)

  -- each byte among them is a digit
  hex-each : (ds : List ℕ) (at m : ℕ) → Each HexDigit ds → Spans s ds at m → (p : ℕ) → at ≤ p → p < m → hex_number (get_or s p 0) < 16
  unfolding Spans
  hex-each [] at m h e p low high = absurd (omega (arith, e))
  hex-each (b ∷ ds) at m h e p low high = go (eqb p at) refl (λ l. hex-each ds (at + 1) m h.1 e.1 p l high)
    where
      go : (c : Bool) → eqb p at ≡ c → (at + 1 ≤ p → hex_number (get_or s p 0) < 16) → hex_number (get_or s p 0) < 16
      go true q later = rw (eqb-true p at q, e.0) h.0
      go false q later = let z : p ≡ at → ⊥ = eqb-false p at q in later (omega (arith, z))

  -- ---- a line

  lf-stops : (n : ℕ) → get_or s n 0 ≡ 10 → Stops s n
  unfolding word_char digit
  lf-stops n h = (rw h refl, rw h refl, λ e. omega arith)

  -- what was read and the LF behind it
  ended-sound : (d : Option (Float × ℕ)) (x : Float) (n : ℕ) → ended_at s d ≡ Some (x, n) → (m : ℕ) × (d ≡ Some (x, m)) × (get_or s m 0 ≡ 10) × (n ≡ m + 1)
  unfolding ended_at end_if
  ended-sound None x n e = not_is x n e
  ended-sound (Some (y, m)) x n e = go (eqb (get_or s m 0) 10) refl e
    where
      go : (b : Bool) → eqb (get_or s m 0) 10 ≡ b → end_if b y m ≡ Some (x, n) → (k : ℕ) × ◌≡◌ {A = Option (Float × ℕ)} (Some (y, m)) (Some (x, k)) × (get_or s k 0 ≡ 10) × (n ≡ k + 1)
      go true q e = let (v, j) = some_pair _ _ _ _ e in (m, ap (λ z. Some (z, m)) v, eqb-true _ _ q, sym j)
      go false q e = not_is x n e

  ended-complete : (x : Float) (m : ℕ) → get_or s m 0 ≡ 10 → ended_at s (Some (x, m)) ≡ Some (x, m + 1)
  unfolding ended_at end_if
  ended-complete x m h = rw (eq-eqb (get_or s m 0) 10 h) refl

  doubled-sound : (at : ℕ) (x : Float) (m : ℕ) → doubled (read_num s at) ≡ Some (x, m) → (q : Num) × IsNum q × Spans s (print_num q) at m × (x ≡ num_value q)
  unfolding doubled_by
  doubled-sound at x m e = go (read_num s at) refl e
    where
      go : (o : Got Num) → read_num s at ≡ o → doubled o ≡ Some (x, m) → (q : Num) × IsNum q × Spans s (print_num q) at m × (x ≡ num_value q)
      go none eo e = not_is x m e
      go (got q n) eo e =
          let (v, j) = some_pair _ _ _ _ e in
          let (p, h) = holds_at (NumAt s at) (read_num s at) q n (num-sound s at) eo in
          (q, h, (rw (sym j) p), sym v)

  -- a line that was read stands there
  pub line-sound : (at : ℕ) (x : Float) (n : ℕ) → reading_at s at ≡ Some (x, n) → (t : List ℕ) × Line t x × Spans s (t ++ lf) at n × (n ≤ length s)
  unfolding reading_at hex_at or_else Spans
  line-sound at x n e = go (ended_at s (doubled (read_num s at))) refl e
    where
      ended : (t : List ℕ) → Line t x → (m : ℕ) → Spans s t at m → get_or s m 0 ≡ 10 → n ≡ m + 1 → (t : List ℕ) × Line t x × Spans s (t ++ lf) at n × (n ≤ length s)
      ended t l m p h j = (t, l, spans-append s t lf at m n p (h, sym j), omega (arith, byte_inside s m 10 h (omega arith), j))

      go : (d : Option (Float × ℕ)) → ended_at s (doubled (read_num s at)) ≡ d → or_else d (ended_at s (hex_from 16 0 s at)) ≡ Some (x, n) → (t : List ℕ) × Line t x × Spans s (t ++ lf) at n × (n ≤ length s)
      go (Some (y, k)) ed e =
          let (m, em, h, j) = ended-sound (doubled (read_num s at)) x n (ed ∙ e) in
          let (q, iq, p, v) = doubled-sound at x m em in
          ended (print_num q) (inl (q, iq, refl, v)) m p h j
      go None ed e =
          let (m, em, h, j) = ended-sound (hex_from 16 0 s at) x n e in
          let (ds, each, l, p, v) = hex-sound 16 0 at m x em in
          ended ds (inr (each, l, v)) m p h j

  -- hexadecimal digits before an LF are no NUM before one
  not-both : (at m : ℕ) (q : Num) → IsNum q → Spans s (print_num q) at m → get_or s m 0 ≡ 10 → (ds : List ℕ) → Each HexDigit ds → Spans s ds at (at + 16) → ⊥
  unfolding Spans
  not-both at m q h p e ds each p16 =
      let (i, ps, pr) = spans-split s (sign q.minus) (q.whole ++ point q.part) at m p in
      let (k, pw, pp) = spans-split s q.whole (point q.part) i m pr in
      go q.part k pp (omega (arith, spans-end s (sign q.minus) at i ps, spans-end s q.whole i k pw))
      (omega (arith, spans-end s (sign q.minus) at i ps, spans-end s q.whole i k pw, short-sign q.minus, h.2))
    where
      short-sign : (b : Bool) → length (sign b) ≤ 1
      short-sign true = omega arith
      short-sign false = omega arith

      no_digit : (k c : ℕ) → at ≤ k → k < at + 16 → get_or s k 0 ≡ c → hex_number c ≡ 16 → ⊥
      no_digit k c low high g z = omega (arith, hex-each ds at (at + 16) each p16 k low high, ap hex_number g, z)

      go : (w : List ℕ) (k : ℕ) → Spans s (point w) k m → at ≤ k → k < at + 16 → ⊥
      go [] k pp low high = no_digit k 10 low high (ap (λ i. get_or s i 0) pp ∙ e) hex-lf
      go (c ∷ w) k pp low high = no_digit k 46 low high pp.0 hex-point

  -- a line that stands there is read
  line-complete : (at : ℕ) (t r : List ℕ) (x : Float) → drop at s ≡ t ⌢ lf ⌢ r → Line t x
      → (n : ℕ) × (reading_at s at ≡ Some (x, n)) × (drop n s ≡ r) × (at < length s) × (n ≤ length s)
  unfolding reading_at hex_at or_else doubled_by Spans
  line-complete at t r x e l =
      let (p, d) = drop-spans s t (10 ∷ r) at e in
      let (p10, d10) = drop-spans s (10 ∷ []) r (at + length t) d in
      let h : get_or s (at + length t) 0 ≡ 10 = p10.0 in
      (at + length t + 1, read (at + length t) p h l, d10, omega (arith, byte_inside s (at + length t) 10 h (omega arith)), omega (arith, byte_inside s (at + length t) 10 h (omega arith)))
    where
      not-num : (m : ℕ) → Spans s t at m → m ≡ at + 16 → Each HexDigit t → (d : Option (Float × ℕ)) → ended_at s (doubled (read_num s at)) ≡ d → d ≡ None
      not-num m p z each None ed = refl
      not-num m p z each (Some (y, k)) ed =
          let (i, em, h, j) = ended-sound (doubled (read_num s at)) y k ed in
          let (q, iq, pq, v) = doubled-sound at y i em in
          absurd (not-both at i q iq pq h t each (rw (sym z) p))

      read : (m : ℕ) → Spans s t at m → get_or s m 0 ≡ 10 → Line t x → reading_at s at ≡ Some (x, m + 1)
      read m p h (inl (q, iq, et, ex)) =
          let c = (num-complete s q at m (rw et at p) iq (lf-stops m h)).0 in
          rw (c, ended-complete (num_value q) m h) (ap (λ z. Some (z, m + 1)) (sym ex))
      read m p h (inr (each, l, ex)) =
          let z : m ≡ at + 16 = omega (arith, spans-end s t at m p) in
          rw (not-num m p z each (ended_at s (doubled (read_num s at))) refl, hex-complete t 16 0 at m l each p, ended-complete (of_bits binary64 (hexadecimal_from 0 t)) m h) (ap (λ z. Some (z, m + 1)) (sym ex))

-- ---- the file

lines_more : (xs : List Float) (u t : List ℕ) (x : Float) → Lines u xs → Line t x → Lines (u ++ (t ++ lf)) (xs ++ (x ∷ []))
lines_more [] u t x e h = (t, [], ap (λ v. v ++ (t ++ lf)) e, h, refl)
lines_more (y ∷ xs) u t x (a, r, e, g, l) h = (a, r ++ (t ++ lf), ap (λ v. v ++ (t ++ lf)) e ∙ append_assoc a (10 ∷ r) (t ++ lf), g, lines_more xs r t x l h)

module _ (s : List ℕ) where
  -- where the lines u with the readings xs were read, and k more are due
  comes : (k : ℕ) (xs : List Float) (u : List ℕ) (at : ℕ) → at ≤ length s → s ≡ u ++ drop at s → Lines u xs → length xs + k ≡ 16 → ComesTo s (readings_from k xs s at)
  unfolding readings_from lastly line_if
  comes zero xs u at le e l c = go (leb (length s) at) refl
    where
      go : (b : Bool) → leb (length s) at ≡ b → ComesTo s (lastly b xs)
      go true q = all xs (subst (λ v. Lines v xs) (sym (e ∙ ap (λ v. u ++ v) (drop_of_length-le s (leb-true _ _ q)) ∙ append-nil u)) l) (omega arith)
      go false q = long u (get_or s at 0) (drop (suc at) s) xs (e ∙ ap (λ v. u ++ v) (drop-cons s at 0 (leb-false _ _ q))) l (omega arith)
  comes (suc k) xs u at le e l c = go (leb (length s) at) refl (λ x n v. comes k (xs ++ (x ∷ [])) v n)
    where
      Rest : Type 0
      Rest = (x : Float) (n : ℕ) (v : List ℕ) → n ≤ length s → s ≡ v ++ drop n s → Lines v (xs ++ (x ∷ [])) → length (xs ++ (x ∷ [])) + k ≡ 16 → ComesTo s (readings_from k (xs ++ (x ∷ [])) s n)

      on : at < length s → Rest → (d : Option (Float × ℕ)) → reading_at s at ≡ d → ComesTo s (line_if false d xs (λ x n. readings_from k (xs ++ (x ∷ [])) s n))
      on h rest None ed =
          let i = drop-cons s at 0 h in
          bad u (get_or s at 0) (drop (suc at) s) xs (e ∙ ap (λ v. u ++ v) i) l (omega arith)
          (λ (t, r, x, b, g). let (n, er, d, inside, w) = line-complete s at t r x (i ∙ b) g in not_is x n (sym ed ∙ er))
      on h rest (Some (x, n)) ed =
          let (t, g, p, w) = line-sound s at x n ed in
          rest x n (u ++ (t ++ lf)) w (e ∙ ap (λ v. u ++ v) (spans-drop s (t ++ lf) at n p w) ∙ sym (append_assoc u (t ++ lf) (drop n s))) (lines_more xs u t x l g)
          (omega (arith, length-append xs (x ∷ [])))

      go : (b : Bool) → leb (length s) at ≡ b → Rest → ComesTo s (line_if b (reading_at s at) xs (λ x n. readings_from k (xs ++ (x ∷ [])) s n))
      go true q rest = short xs (subst (λ v. Lines v xs) (sym (e ∙ ap (λ v. u ++ v) (drop_of_length-le s (leb-true _ _ q)) ∙ append-nil u)) l) (omega arith)
      go false q rest = on (leb-false _ _ q) rest (reading_at s at) refl

  -- what the reader answers is what the file comes to
  pub file-comes : ComesTo s (readings_of s)
  unfolding readings_of
  file-comes = comes 16 [] [] 0 (omega arith) refl refl (omega arith)

  -- the lines that stand from a place to the end are read
  reads : (ys : List Float) (k : ℕ) (xs : List Float) (at : ℕ) → length ys ≡ k → Lines (drop at s) ys → readings_from k xs s at ≡ Ok (xs ++ ys)
  unfolding readings_from lastly line_if
  reads [] zero xs at c l = rw (le-leb (length s) at (omega (arith, length-drop at s, ap (λ (v : List ℕ). length v) l)), append-nil xs) refl
  reads [] (suc k) xs at c l = absurd (omega arith)
  reads (y ∷ ys) zero xs at c l = absurd (omega arith)
  reads (y ∷ ys) (suc k) xs at c (t, r, e, g, l) =
      let (n, er, d, inside, w) = line-complete s at t r y e g in
      rw (lt-leb (length s) at inside, er) (reads ys k (xs ++ (y ∷ [])) n (omega arith) (subst (λ v. Lines v ys) (sym d) l) ∙ ap Ok (append_assoc xs (y ∷ []) ys))

  -- the readings are xs exactly where the file is sixteen lines with these readings
  pub file-exact : (xs : List Float) → (readings_of s ≡ Ok xs) ↔ (Lines s xs × (length xs ≡ 16))
  unfolding readings_of
  file-exact xs = (λ e. back (readings_of s) file-comes e, λ (l, c). reads xs 16 [] 0 c l)
    where
      back : (r : Result (List Float) BadReadings) → ComesTo s r → r ≡ Ok xs → Lines s xs × (length xs ≡ 16)
      back r (all ys l c) e = let i : ys ≡ xs = cc in (rw i at l, rw i at c)
      back r (short ys l c) e = absurd (cc)
      back r (bad u b t ys i l c n) e = absurd (cc)
      back r (long u b t ys i l c) e = absurd (cc)
