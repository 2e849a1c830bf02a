-- The reader gives a line exactly where the bytes are what it prints and it is in shape: line 1, and the others. Assumes nothing.
use Prim.Native.Nat.{ℕ, ◌+◌, ◌<◌, ◌≤◌}
use native.Mathlib.Omega.{arith}
use mathlib.Core.Path.{◌≡◌, refl, sym, ap, ◌∙◌, subst}
use mathlib.Core.Bool.{Bool, true, false}
use mathlib.Core.List.{List, [], ◌∷◌, ◌++◌}
use lib.Dec.{eqb}
use lib.ListN.{length, length-append, get_or}
use borrow.Author.Tests.{eq-eqb, eqb-true}
use Rattle.sheets.specs.Text.{Word, ascii, lf}
use Rattle.sheets.specs.Trees.{Num, Expr, Exprs, word_expr, num_expr, form_expr, nil, ◌▸◌, Line, let_line, show_line, total_line, apart_line, Head, wgs84, custom}
use Rattle.sheets.specs.Grammar.{IsWord, IsNum, sign, point, print_num, print, print_args, IsExpr, AreArgs, ended, IsEnded, head_bracket, IsHead, print_head, line_bracket, IsLine, print_line}
use Rattle.sheets.specs.code.reader.Codes.{letter, word_char, code_from, code_of}
use Rattle.sheets.specs.code.reader.Reader.{Got, none, got, ◌then◌, chars_if, chars, word_if, read_word, read_unsigned, read_expr, or_else, nothing, opening, spaced, closing, limit, more, first, one, two, read_the, ◌or◌, Row, from_rows, read_rows, head_rows, read_head, let_word, whole, whole_rows, line_rows, read_begun, rest, read_line}
use Rattle.sheets.proofs.reader.ReaderLaws.{then-got, mapped, closing-mapped, byte_inside, limit_is}
use Rattle.sheets.proofs.reader.Spans.{Spans, spans-append, spans-split, spans-end, Holds, holds-none, holds_then, holds-or, holds-map}
use Rattle.sheets.proofs.reader.TokenLaws.{word-complete, num-complete, no_word, digit-letter}
use Rattle.sheets.proofs.reader.ExprLaws.{args-stop}
use Rattle.sheets.proofs.reader.CodeLaws.{code_same, word-by}
use Rattle.sheets.proofs.reader.PieceLaws.{limit-sound, OpenAt, open-sound, Part, word-part, num-part, unsigned-part, expr-part, the-part, Tail, bare-sound, one-sound, two-sound, bare-complete, one-complete, two-complete}

infixr 5 ◌&◌
-- ---- rows
◌&◌ : {P Q : Type 0} → P → Q → P × Q
p & q = (p, q)

module _ {A : Type 0} (bracket : A → Expr) where
  -- a bracket opened by k is that of what is read
  abbrev Is : Word → Exprs → A → Type 0
  Is k xs l = form_expr k xs ≡ bracket l

  abbrev AreRows : List (Row A) → Type 0
  AreRows [] = Unit {0}
  AreRows (r ∷ rs) = (IsWord r.opener × ((s : List ℕ) (at : ℕ) → Holds (Tail (Is r.opener) 5 s at) (r.parts s at))) × AreRows rs

  tail-sound : (rs : List (Row A)) → AreRows rs → (k : Word) → IsWord k → (s : List ℕ) (at : ℕ) → Holds (Tail (Is k) 5 s at) (from_rows rs (code_of k) s at)
  unfolding from_rows
  tail-sound [] h k hk s at = holds-none (Tail (Is k) 5 s at)
  tail-sound (r ∷ rs) h k hk s at =
      holds-or (Tail (Is k) 5 s at) (eqb (code_of k) (code_of r.opener)) (r.parts s) (from_rows rs (code_of k) s) at
      (λ e. subst (λ z. Holds (Tail (Is z) 5 s at) (r.parts s at)) (sym (code_same k r.opener hk h.0.0 (eqb-true (code_of k) (code_of r.opener) e))) (h.0.1 s at))
      (λ e. tail-sound rs h.1 k hk s at)

  abbrev Within : List ℕ → ℕ → A → ℕ → Type 0
  Within s at l n = (Spans s (ended (bracket l)) at n × IsExpr 12 (bracket l)) × (n ≤ length s) × (at < n)

  abbrev Stands : List ℕ → ℕ → A → ℕ → Type 0
  Stands s at l n = Spans s (ended (bracket l)) at n × IsEnded (bracket l) × (n ≤ length s) × (at < length s)

  rows-within : (rs : List (Row A)) → AreRows rs → (s : List ℕ) (at : ℕ) → Holds (Within s at) (read_rows rs s at)
  unfolding read_rows Spans
  rows-within rs h s at =
      holds_then (OpenAt s at) (Within s at) (opening s at) _ (open-sound s at) (λ k i p.
      holds-map (Tail (Is k) 5 s i) (Within s at) (from_rows rs (code_of k) s i) (λ l n t.
      let (xs, m, q, r, c, e, g) = t in
      let sp : Spans s (print (form_expr k xs)) at m = (p.0.0, spans-append s k (print_args xs) (at + 1) i m p.0.1 q) in (
        subst (λ x. Spans s (ended x) at n × IsExpr 12 x) c (spans-append s (print (form_expr k xs)) lf at m n sp (e, g), (p.1, r)),
        omega (arith, byte_inside s m 10 e (omega arith), g),
        omega (arith, spans-end s (print (form_expr k xs)) at m sp, g),
      ))
      (tail-sound rs h k p.1 s i))

  rows-sound : (rs : List (Row A)) → AreRows rs → (s : List ℕ) (at : ℕ) → Holds (Stands s at) (limit at (read_rows rs s at))
  rows-sound rs h s at =
      holds-map (λ l n. Within s at l n × (n ≤ at + 200)) (Stands s at) (limit at (read_rows rs s at))
      (λ l n p. (p.0.0.0, (p.0.0.1, omega (arith, spans-end s (ended (bracket l)) at n p.0.0.0, p.1)), p.0.1, omega (arith, p.0.1, p.0.2)))
      (limit-sound (Within s at) at (read_rows rs s at) (rows-within rs h s at))

-- what the rows read of the rest of this bracket
abbrev Reads : {A : Type 0} → List (Row A) → List ℕ → Expr → A → Type 0
Reads rs s (word_expr w) l = ⊥
Reads rs s (num_expr q) l = ⊥
Reads rs s (form_expr k xs) l = (i m : ℕ) → Spans s (print_args xs) i m → AreArgs 11 5 xs → get_or s m 0 ≡ 10 → from_rows rs (code_of k) s i ≡ got l (m + 1)

rows-complete : {A : Type 0} (rs : List (Row A)) (s : List ℕ) (x : Expr) (l : A) (at n : ℕ) → Spans s (ended x) at n → IsEnded x → Reads rs s x l → limit at (read_rows rs s at) ≡ got l n
unfolding read_rows opening or_else Spans
rows-complete rs s (word_expr w) l at n p h f = absurd f
rows-complete rs s (num_expr q) l at n p h f = absurd f
rows-complete rs s (form_expr k xs) l at n p h f =
    let (m, q, e) = spans-split s (print (form_expr k xs)) lf at n p in
    let (i, a, b) = spans-split s k (print_args xs) (at + 1) m q.1 in
    let o : opening s at ≡ got k i = rw (eq-eqb (get_or s at 0) 40 q.0) (word-complete s k (at + 1) i a h.0.0 (args-stop s xs i m b)) in
    ap (limit at) (then-got (opening s at) _ k i o ∙ f i m b h.0.1 e.0 ∙ ap (got l) e.1) ∙ limit_is at l n (omega (arith, h.1, spans-end s (ended (form_expr k xs)) at n p))

-- ---- line 1
abbrev pub HeadStands : List ℕ → Head → ℕ → Type 0
HeadStands s h n = Spans s (print_head h) 0 n × IsHead h × (n ≤ length s)

holds-either : {A : Type 0} (P : A → ℕ → Type 0) (o p : Got A) → Holds P o → Holds P p → Holds P (o or p)
unfolding Holds ◌or◌
holds-either P none p g h = h
holds-either P (got x n) p g h = g

wgs-word : IsWord (ascii "wgs84")
unfolding read_word word_if chars chars_if letter word_char
wgs-word = word-by (ascii "wgs84") refl

head_rows_lem : AreRows head_bracket head_rows
unfolding head_rows read_word word_if chars chars_if letter word_char
head_rows_lem = (
  word-by (ascii "ellipsoid") refl,
  λ s at. holds-either (Tail (Is head_bracket (ascii "ellipsoid")) 5 s at) _ _
      (one-sound (the-part (ascii "wgs84") wgs-word) (Is head_bracket (ascii "ellipsoid")) 4 (λ u. wgs84) (λ u. refl) s at)
      (two-sound num-part num-part (Is head_bracket (ascii "ellipsoid")) 3 custom (λ q r. refl) s at),
)
    & tt

pub head-sound : (s : List ℕ) → Holds (HeadStands s) (read_head s)
unfolding read_head
head-sound s = holds-map (Stands head_bracket s 0) (HeadStands s) (limit 0 (read_rows head_rows s 0)) (λ h n p. (p.0, p.1, p.2)) (rows-sound head_bracket head_rows head_rows_lem s 0)

not-wgs : (s : List ℕ) (q : Num) (xs : Exprs) (at m : ℕ) → Spans s (print_args (num_expr q ▸ xs)) at m → IsNum q → one (read_the (ascii "wgs84")) (λ u. wgs84) s at ≡ none
unfolding more spaced or_else read_the ◌then◌ Spans
not-wgs s q xs at m p h =
    let (i, a, b) = spans-split s (print_num q) (print_args xs) (at + 1) m p.1 in
    let (e, small, other) = num-complete s q (at + 1) i a h (args-stop s xs i m b) in
    rw (eq-eqb (get_or s at 0) 32 p.0, no_word s (at + 1) (digit-letter _ small)) refl

head-reads : (s : List ℕ) (h : Head) → Reads head_rows s (head_bracket h) h
unfolding from_rows head_rows ◌or◌ or_else code_from word_char
head-reads s wgs84 = λ i m p h e. rw (one-complete (the-part (ascii "wgs84") wgs-word) (λ u. wgs84) s tt i m p wgs-word e) refl
head-reads s (custom x y) = λ i m p h e. rw (not-wgs s x (num_expr y ▸ nil) i m p h.0) (two-complete num-part num-part custom s x y i m p h.0 h.1.0 e)

pub head-complete : (s : List ℕ) (h : Head) (n : ℕ) → Spans s (print_head h) 0 n → IsHead h → read_head s ≡ got h n
unfolding read_head
head-complete s h n p i = rows-complete head_rows s (head_bracket h) h 0 n p i (head-reads s h)

-- line 1 has at most 48 bytes: 200 need no test
num-few : (q : Num) → IsNum q → length (print_num q) ≤ 17
num-few q h = omega (arith, length-append (sign q.minus) (q.whole ++ point q.part), length-append q.whole (point q.part), signed q.minus, pointed q.part, h.2, h.4)
  where
    signed : (m : Bool) → length (sign m) ≤ 1
    signed true = omega arith
    signed false = omega arith

    pointed : (t : List ℕ) → length (point t) ≤ length t + 1
    pointed [] = omega arith
    pointed (c ∷ t) = omega arith

head_few : (h : Head) → IsExpr 12 (head_bracket h) → length (print_head h) ≤ 48
head_few wgs84 h = omega arith
head_few (custom q r) h = omega (
  arith,
  length-append (print (head_bracket (custom q r))) lf,
  length-append (print_num q) (print_args (num_expr r ▸ nil)),
  length-append (print_num r) (print_args nil),
  num-few q h.1.0,
  num-few r h.1.1.0,
)

pub head-unlimited : (s : List ℕ) → read_head s ≡ read_rows head_rows s 0
unfolding read_head limit Holds
head-unlimited s = go (read_rows head_rows s 0) (rows-within head_bracket head_rows head_rows_lem s 0)
  where
    go : (o : Got Head) → Holds (Within head_bracket s 0) o → limit 0 o ≡ o
    go none w = refl
    go (got h n) w = limit_is 0 h n (omega (arith, spans-end s (print_head h) 0 n w.0.0, head_few h w.0.1))

-- ---- the lines after it

-- rows, and what is read behind them
abbrev finished : {A B : Type 0} → (List ℕ → A → ℕ → Got B) → List (Row A) → List (Row B)
finished g [] = []
finished g (r ∷ rs) = record { opener = r.opener; parts = λ s n. r.parts s n then g s } ∷ finished g rs

rows-finish : {A B : Type 0} (g : List ℕ → A → ℕ → Got B) (rs : List (Row A)) (k : ℕ) (s : List ℕ) (at : ℕ) → (from_rows rs k s at then g s) ≡ from_rows (finished g rs) k s at
unfolding from_rows or_else ◌then◌
rows-finish g [] k s at = refl
rows-finish g (r ∷ rs) k s at = go (rows-finish g rs k s at) (eqb k (code_of r.opener))
  where
    go : (from_rows rs k s at then g s) ≡ from_rows (finished g rs) k s at → (b : Bool) → (or_else b (r.parts s) (from_rows rs k s) at then g s) ≡ or_else b (λ n. r.parts s n then g s) (from_rows (finished g rs) k s) at
    go e true = refl
    go e false = e

line-is : (s : List ℕ) (at : ℕ) → read_line s at ≡ limit at (read_rows (finished rest line_rows) s at)
unfolding read_line read_begun read_rows ◌then◌
line-is s at = ap (limit at) (go (opening s at))
  where
    go : (o : Got Word) → ((o then (λ k n. from_rows line_rows (code_of k) s n)) then rest s) ≡ (o then (λ k n. from_rows (finished rest line_rows) (code_of k) s n))
    go none = refl
    go (got k n) = rows-finish rest line_rows (code_of k) s n

-- a let, a line of no part, and one of one part
let-two : (s : List ℕ) (at : ℕ) → (first read_word let_word s at then rest s) ≡ two read_word (read_expr 11) let_line s at
unfolding more spaced rest or_else ◌then◌
let-two s at = go (spaced (read_word s) s at)
  where
    next : (w : Word) (n : ℕ) (b : Bool) → (or_else b (λ n. got (let_word w) (n + 1)) nothing n then rest s) ≡ (or_else b (λ n. read_expr 11 s (n + 1)) nothing n then (λ x m. closing (let_line w x) s m))
    next w n true = refl
    next w n false = refl

    go : (o : Got Word) → ((o then (λ w n. spaced (got (let_word w)) s n)) then rest s) ≡ (o then (λ w n. spaced (read_expr 11 s) s n then (λ x m. closing (let_line w x) s m)))
    go none = refl
    go (got w n) = next w n (eqb (get_or s n 0) 32)

whole-bare : (l : Line) (s : List ℕ) (at : ℕ) → (closing (whole l) s at then rest s) ≡ closing l s at
unfolding mapped rest ◌then◌
whole-bare l s at = ap (λ o. o then rest s) (closing-mapped (whole l) s at) ∙ ends (closing tt s at) ∙ sym (closing-mapped l s at)
  where
    ends : (c : Got (Unit {0})) → (mapped (λ u. whole l) c then rest s) ≡ mapped (λ u. l) c
    ends none = refl
    ends (got u n) = refl

whole-one : {B : Type 0} (f : List ℕ → ℕ → Got B) (line : B → Line) (s : List ℕ) (at : ℕ) → (one f (λ v. whole (line v)) s at then rest s) ≡ one f line s at
unfolding more ◌then◌
whole-one {B} f line s at = go (spaced (f s) s at)
  where
    go : (o : Got B) → ((o then (λ v n. closing (whole (line v)) s n)) then rest s) ≡ (o then (λ v n. closing (line v) s n))
    go none = refl
    go (got v n) = whole-bare (line v) s n

let-sound : (s : List ℕ) (at : ℕ) → Holds (Tail (Is line_bracket (ascii "let")) 5 s at) (first read_word let_word s at then rest s)
let-sound s at = subst (Holds (Tail (Is line_bracket (ascii "let")) 5 s at)) (sym (let-two s at)) (two-sound word-part expr-part (Is line_bracket (ascii "let")) 3 let_line (λ w x. refl) s at)

whole-sound : {B : Type 0} {f : List ℕ → ℕ → Got B} (b : Part f) (k : Word) (line : B → Line) → ((v : B) → Is line_bracket k (b.make v ▸ nil) (line v))
    → (s : List ℕ) (at : ℕ) → Holds (Tail (Is line_bracket k) 5 s at) (one f (λ v. whole (line v)) s at then rest s)
whole-sound {B} {f} b k line h s at = subst (Holds (Tail (Is line_bracket k) 5 s at)) (sym (whole-one f line s at)) (one-sound b (Is line_bracket k) 4 line h s at)

bare-whole-sound : (k : Word) (l : Line) → Is line_bracket k nil l → (s : List ℕ) (at : ℕ) → Holds (Tail (Is line_bracket k) 5 s at) (closing (whole l) s at then rest s)
bare-whole-sound k l h s at = subst (Holds (Tail (Is line_bracket k) 5 s at)) (sym (whole-bare l s at)) (bare-sound (Is line_bracket k) 5 l h s at)

line-rows : AreRows line_bracket (finished rest line_rows)
unfolding line_rows whole_rows read_word word_if chars chars_if letter word_char
line-rows =
    (word-by (ascii "let") refl, let-sound)
    & (word-by (ascii "show") refl, whole-sound word-part (ascii "show") show_line (λ w. refl))
    & (word-by (ascii "total") refl, bare-whole-sound (ascii "total") total_line refl)
    & (word-by (ascii "apart") refl, whole-sound unsigned-part (ascii "apart") apart_line (λ q. refl))
    & tt

line_reads : (s : List ℕ) (l : Line) → Reads (finished rest line_rows) s (line_bracket l) l
unfolding from_rows line_rows whole_rows or_else code_from word_char
line_reads s (let_line w x) = λ i m p h e. let-two s i ∙ two-complete word-part expr-part let_line s w x i m p h.0 h.1.0 e
line_reads s (show_line w) = λ i m p h e. whole-one read_word show_line s i ∙ one-complete word-part show_line s w i m p h.0 e
line_reads s total_line = λ i m p h e. whole-bare total_line s i ∙ bare-complete s total_line i m p e
line_reads s (apart_line q) = λ i m p h e. whole-one read_unsigned apart_line s i ∙ one-complete unsigned-part apart_line s q i m p h.0 e

abbrev pub LineStands : List ℕ → ℕ → Line → ℕ → Type 0
LineStands s at l n = Stands line_bracket s at l n

pub line-sound : (s : List ℕ) (at : ℕ) → Holds (LineStands s at) (read_line s at)
line-sound s at = subst (Holds (LineStands s at)) (sym (line-is s at)) (rows-sound line_bracket (finished rest line_rows) line-rows s at)

pub line-complete : (s : List ℕ) (l : Line) (at n : ℕ) → Spans s (print_line l) at n → IsLine l → read_line s at ≡ got l n
line-complete s l at n p h = line-is s at ∙ rows-complete (finished rest line_rows) s (line_bracket l) l at n p h (line_reads s l)
