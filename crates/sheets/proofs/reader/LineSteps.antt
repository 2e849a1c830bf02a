-- The lines after line 1, a step at a time, as the code reads them: what the answer of `line_head` says, and a law for each way out. Assumes nothing.
use Rattle.std.specs.Prelude.{Option, Some, None}
use Prim.Native.Nat.{ℕ, ◌+◌, ◌-◌, ◌<◌}
use native.Mathlib.Omega.{arith}
use mathlib.Core.Path.{◌≡◌, refl, sym, ap, ap₂, ◌∙◌, subst}
use mathlib.Core.Bool.{Bool, true, false}
use mathlib.Core.List.{List}
use lib.Dec.{eqb, leb}
use lib.ListN.{length}
use lib.Ieee.{Float}
use borrow.Author.Tests.{ne_eqb, le-leb, lt-leb, leb-true, leb-false}
use Rattle.sheets.specs.Text.{Word, ascii}
use Rattle.sheets.specs.Trees.{Unsigned, signless, Line, let_line, show_line, total_line, apart_line}
use Rattle.sheets.specs.Grammar.{IsWord}
use Rattle.sheets.specs.Limits.{num_value}
use Rattle.sheets.specs.code.reader.Codes.{word_char, code_from, code_of}
use Rattle.sheets.specs.code.reader.Reader.{Got, none, got, ◌then◌, read_word, read_unsigned, read_expr, or_else, nothing, opening, spaced, closing, limit, more, first, one, Row, from_rows, read_rows, Begun, let_word, whole, whole_rows, line_rows, read_begun, rest, read_line}
use Rattle.sheets.specs.code.reader.Views.{place, coded, closed, short_end, unsigned_double, name_at, named_at, head_told, bare_head, head_opened, line_head, WholeIn}
use Rattle.sheets.proofs.reader.ReaderLaws.{then-got, mapped, closing-mapped}
use Rattle.sheets.proofs.reader.Spans.{Holds, holds-none, holds_then, holds_at, holds-or}
use Rattle.sheets.proofs.reader.TokenLaws.{WordAt, word_sound, word-spans}
use Rattle.sheets.proofs.reader.PieceLaws.{space-holds, closing-holds}
use Rattle.sheets.proofs.reader.PieceSteps.{then-none, spaced-got, spaced-inside, closing-none, closing-got}
use Rattle.sheets.proofs.reader.RowSteps.{NoneOf, rows-miss, more-none, more-got, first-mapped, one-mapped}
use Rattle.sheets.proofs.reader.Viewed.{placed-none, placed-got, coded_none, coded-got, doubled-none, doubled-got, named_none, named-got}
use Rattle.sheets.specs.declared.reader.lines.NameAt.{NameAt}
use Rattle.sheets.specs.declared.reader.lines.WholeLine.{WholeLine}
use Rattle.sheets.specs.declared.reader.lines.LineHead.{LineHead}

-- ---- a space, a word, and what follows it
pub slot-inside : (s : List ℕ) (at : ℕ) (r : Option (ℕ × ℕ)) → r ≡ coded (spaced (read_word s) s at) → (k n : ℕ) → r ≡ Some (k, n) → at < length s
slot-inside s at r er k n h = let (w, ew, ek) = coded-got _ r er k n h in spaced-inside (read_word s) s at w n ew

module _ (s : List ℕ) (at : ℕ) (r : Option (ℕ × ℕ)) (er : r ≡ coded (spaced (read_word s) s at)) (f : Word → List ℕ → ℕ → Got Word) where
  pub no_name : r ≡ None → None ≡ named_at (at + 1) (more read_word f s at)
  unfolding named_at
  no_name h = rw (more-none read_word f s at (coded_none _ r er h)) refl

  module _ (k n : ℕ) (h : r ≡ Some (k, n)) where
    pub lost-name : ((w : Word) → f w s n ≡ none) → None ≡ named_at (at + 1) (more read_word f s at)
    unfolding named_at
    lost-name g = let (w, ew, ek) = coded-got _ r er k n h in rw (more-got read_word f s at w n ew ∙ g w) refl

    pub name-read : (m : ℕ) → ((w : Word) → f w s n ≡ got w m) → Some (record { code = k; from = at + 1; end = n }, m) ≡ named_at (at + 1) (more read_word f s at)
    unfolding named_at
    name-read m g =
        let (w, ew, ek) = coded-got _ r er k n h in
        let e : n ≡ at + 1 + length w = word-spans s (at + 1) w n (spaced-got (read_word s) s at w n ew).1 in
        ap₂ (λ c i. Some (record { code = c; from = at + 1; end = i }, m)) ek e ∙ sym (ap (named_at (at + 1)) (more-got read_word f s at w n ew ∙ g w))

-- ---- the head of a line

-- what is answered of what is begun behind a word that ends at n: of a let its word, which is a WORD, and of any other line what the code has of it
unfoldable Begins : List ℕ → ℕ → Begun → ℕ → Type 0
Begins s n (let_word w) m = IsWord w
Begins s n (whole l) m = (y : WholeLine) × (head_told n (got (whole l) m) ≡ Some (LineHead.Whole y m)) × WholeIn s y l

holds-self : {A : Type 0} (o : Got A) → Holds (λ x m. o ≡ got x m) o
unfolding Holds
holds-self none = tt
holds-self (got x m) = refl

-- a line that begins with what `read` reads
part-begins : {A : Type 0} (s : List ℕ) (n : ℕ) (read : List ℕ → ℕ → Got A) (f : A → List ℕ → ℕ → Got Begun) → ((v : A) (m : ℕ) → read s (n + 1) ≡ got v m → Holds (Begins s n) (f v s m)) → Holds (Begins s n) (more read f s n)
unfolding more
part-begins s n read f h = holds_then _ (Begins s n) (spaced (read s) s n) _ (holds-self (spaced (read s) s n)) (λ v m e. h v m (spaced-got (read s) s n v m e).1)

-- the word that was read, where its name says that it stands
named_in : (s : List ℕ) (n : ℕ) (w : Word) (m : ℕ) → read_word s (n + 1) ≡ got w m → read_word s (n + 1) ≡ got w (n + 1 + length w)
named_in s n w m e = e ∙ ap (got w) (word-spans s (n + 1) w m e)

rows-begin : (s : List ℕ) (k n : ℕ) → Holds (Begins s n) (from_rows line_rows k s n)
unfolding from_rows line_rows whole_rows Begins head_told
rows-begin s k n =
    holds-or (Begins s n) (eqb k (code_of (ascii "let"))) _ _ n (λ e. part-begins s n read_word _ (λ w m h. space-holds (Begins s n) (let_word w) s m (λ i. (holds_at (WordAt s (n + 1)) (read_word s (n + 1)) w m (word_sound s (n + 1)) h).1))) (λ e.
    holds-or (Begins s n) (eqb k (code_of (ascii "show"))) _ _ n (λ e. part-begins s n read_word _ (λ w m h. closing-holds (Begins s n) (whole (show_line w)) s m (λ i. (WholeLine.Show (name_at w (n + 1)), refl, (w, named_in s n w m h, refl, refl))))) (λ e.
    holds-or (Begins s n) (eqb k (code_of (ascii "total"))) _ _ n (λ e. closing-holds (Begins s n) (whole total_line) s n (λ i. (WholeLine.Total, refl, refl))) (λ e.
    holds-or (Begins s n) (eqb k (code_of (ascii "apart"))) _ _ n (λ e. part-begins s n read_unsigned _ (λ q m h. closing-holds (Begins s n) (whole (apart_line q)) s m (λ i. (WholeLine.Apart (num_value (signless q)), refl, (q, refl, refl))))) (λ e.
    holds-none (Begins s n)))))

-- what an answer of `line_head` says of the line that is read at a place
abbrev Says : List ℕ → ℕ → Got Line → Option LineHead → Type 0
Says s at o None = o ≡ none
Says s at o (Some (LineHead.Let name n)) = (w : Word) × IsWord w × (code_of w ≡ name.code) × (o ≡ limit at (rest s (let_word w) n))
Says s at o (Some (LineHead.Whole y n)) = (l : Line) × WholeIn s y l × (o ≡ limit at (got l n))

pub head-says : (s : List ℕ) (at : ℕ) (r : Option LineHead) → r ≡ line_head s at → (q : Option LineHead) → r ≡ q → Says s at (read_line s at) q
unfolding read_line read_begun read_rows head_opened head_told Begins Holds limit rest ◌then◌
head-says s at r er q h = subst (Says s at (read_line s at)) (sym er ∙ h) (go (opening s at))
  where
    row : (n : ℕ) (o : Got Begun) → Holds (Begins s n) o → Says s at (limit at (o then rest s)) (head_told n o)
    row n none t = refl
    row n (got (let_word w) m) t = (w, t, refl, refl)
    row n (got (whole l) m) (y, e, t) = subst (Says s at (limit at (got l m))) (sym e) (l, t, refl)

    go : (o : Got Word) → Says s at (limit at ((o then (λ k n. from_rows line_rows (code_of k) s n)) then rest s)) (head_opened s o)
    go none = refl
    go (got k n) = row n (from_rows line_rows (code_of k) s n) (rows-begin s (code_of k) n)

-- ---- a line that a word opens

-- the answer for what was read
abbrev told_by : {B : Type 0} → (B → ℕ → Option LineHead) → Got B → Option LineHead
told_by f none = None
told_by f (got v m) = f v m

module _ (s : List ℕ) (at : ℕ) (r : Option (ℕ × ℕ)) (er : r ≡ coded (opening s at)) where
  pub head-no-word : r ≡ None → None ≡ line_head s at
  unfolding head_opened
  head-no-word h = ap (head_opened s) (sym (coded_none (opening s at) r er h))

  -- the rows go by its code
  pub head_opened_lem : (k n : ℕ) → r ≡ Some (k, n) → head_told n (from_rows line_rows k s n) ≡ line_head s at
  unfolding head_opened
  head_opened_lem k n h = let (w, ew, ek) = coded-got (opening s at) r er k n h in ap (λ c. head_told n (from_rows line_rows c s n)) ek ∙ ap (head_opened s) (sym ew)

module _ (s : List ℕ) (k n : ℕ) where
  abbrev Opens : {B : Type 0} → List (Row Begun) → (B → ℕ → Option LineHead) → Got B → Type 0
  Opens rs f o = head_told n (from_rows rs k s n) ≡ told_by f o

  -- the row of the word reads o, and the code tells it so
  opens_by : {B : Type 0} (rs : List (Row Begun)) (make : B → Begun) (f : B → ℕ → Option LineHead) (o : Got B) → from_rows rs k s n ≡ mapped make o → ((v : B) (m : ℕ) → head_told n (got (make v) m) ≡ f v m) → Opens rs f o
  unfolding mapped head_told
  opens_by {B} rs make f o e t = ap (head_told n) e ∙ go o
    where
      go : (o : Got B) → head_told n (mapped make o) ≡ told_by f o
      go none = refl
      go (got v m) = t v m

  pub opens-let : k ≡ code_of (ascii "let") → Opens line_rows (λ w m. Some (LineHead.Let (name_at w (n + 1)) m)) (first read_word (λ w. w) s n)
  unfolding line_rows from_rows or_else code_from word_char head_told
  opens-let e = opens_by line_rows let_word _ (first read_word (λ w. w) s n) (rw e (first-mapped read_word let_word s n)) (λ w m. refl)

  pub opens-whole : (k ≡ code_of (ascii "let") → ⊥) → head_told n (from_rows whole_rows k s n) ≡ head_told n (from_rows line_rows k s n)
  unfolding line_rows from_rows or_else
  opens-whole e = rw (ne_eqb k (code_of (ascii "let")) e) refl

  pub opens-show : k ≡ code_of (ascii "show") → Opens whole_rows (λ w m. Some (LineHead.Whole (WholeLine.Show (name_at w (n + 1))) m)) (one read_word (λ w. w) s n)
  unfolding whole_rows from_rows or_else code_from word_char head_told
  opens-show e = opens_by whole_rows (λ w. whole (show_line w)) _ (one read_word (λ w. w) s n) (rw e (one-mapped read_word (λ w. whole (show_line w)) s n)) (λ w m. refl)

  -- a line without parts
  opens-bare : (l : Line) (y : WholeLine) → ((m : ℕ) → head_told n (got (whole l) m) ≡ Some (LineHead.Whole y m)) → from_rows whole_rows k s n ≡ closing (whole l) s n → bare_head y (closed s n) ≡ head_told n (from_rows whole_rows k s n)
  unfolding mapped head_told place bare_head
  opens-bare l y t e = go (closing tt s n) ∙ sym (ap (head_told n) (e ∙ closing-mapped (whole l) s n))
    where
      go : (c : Got (Unit {0})) → bare_head y (place c) ≡ head_told n (mapped (λ u. whole l) c)
      go none = refl
      go (got u m) = sym (t m)

  pub opens-total : k ≡ code_of (ascii "total") → bare_head WholeLine.Total (closed s n) ≡ head_told n (from_rows whole_rows k s n)
  unfolding whole_rows from_rows or_else code_from word_char head_told
  opens-total e = opens-bare total_line WholeLine.Total (λ m. refl) (rw e refl)

  pub opens-apart : k ≡ code_of (ascii "apart") → Opens whole_rows (λ q m. Some (LineHead.Whole (WholeLine.Apart (num_value (signless q))) m)) (one read_unsigned (λ q. q) s n)
  unfolding whole_rows from_rows or_else code_from word_char head_told
  opens-apart e = opens_by whole_rows (λ q. whole (apart_line q)) _ (one read_unsigned (λ q. q) s n) (rw e (one-mapped read_unsigned (λ q. whole (apart_line q)) s n)) (λ q m. refl)

  -- a word that no row has
  pub opens-none : NoneOf whole_rows k → None ≡ head_told n (from_rows whole_rows k s n)
  unfolding head_told
  opens-none h = sym (ap (head_told n) (rows-miss whole_rows k s n h))

-- by what the code read of a word
module _ (x : Option LineHead) (n : ℕ) (f : NameAt → ℕ → Option LineHead) (o : Got Word) (t : x ≡ told_by (λ w m. f (name_at w (n + 1)) m) o) (v : Option (NameAt × ℕ)) (ev : v ≡ named_at (n + 1) o) where
  pub unnamed : v ≡ None → None ≡ x
  unnamed i = sym (t ∙ ap (told_by (λ w m. f (name_at w (n + 1)) m)) (named_none (n + 1) o v ev i))

  pub name-told : (y : NameAt) (m : ℕ) → v ≡ Some (y, m) → f y m ≡ x
  name-told y m i = let (w, ew, ey) = named-got (n + 1) o v ev y m i in ap (λ z. f z m) ey ∙ sym (t ∙ ap (told_by (λ w m. f (name_at w (n + 1)) m)) ew)

-- by what the code read of a NUM
module _ (x : Option LineHead) (f : Float → ℕ → Option LineHead) (o : Got Unsigned) (t : x ≡ told_by (λ q m. f (num_value (signless q)) m) o) (v : Option (Float × ℕ)) (ev : v ≡ unsigned_double o) where
  pub no-double : v ≡ None → None ≡ x
  no-double i = sym (t ∙ ap (told_by (λ q m. f (num_value (signless q)) m)) (doubled-none signless o v ev i))

  pub double-told : (y : Float) (m : ℕ) → v ≡ Some (y, m) → f y m ≡ x
  double-told y m i = let (q, eq, ey) = doubled-got signless o v ev y m i in ap (λ z. f z m) ey ∙ sym (t ∙ ap (told_by (λ q m. f (num_value (signless q)) m)) eq)

-- ---- the end of a line
pub short-test : (at n : ℕ) → leb (n - 200) at ≡ leb n (at + 200)
short-test at n = go (leb n (at + 200)) refl
  where
    go : (b : Bool) → leb n (at + 200) ≡ b → leb (n - 200) at ≡ b
    go true e = le-leb (n - 200) at (omega (arith, leb-true n (at + 200) e))
    go false e = lt-leb (n - 200) at (omega (arith, leb-false n (at + 200) e))

module _ (at n : ℕ) (t : Bool) (et : t ≡ leb n (at + 200)) where
  pub end_short : t ≡ true → Some n ≡ short_end at n
  unfolding limit place or_else
  end_short h = rw (sym et ∙ h) refl

  pub end-long : t ≡ false → None ≡ short_end at n
  unfolding limit place or_else
  end-long h = rw (sym et ∙ h) refl

short-is : {A : Type 0} (x : A) (at n : ℕ) → short_end at n ≡ place (limit at (got x n))
unfolding limit place or_else
short-is {A} x at n = go (leb n (at + 200))
  where
    go : (b : Bool) → place {A = Unit {0}} (or_else b (got tt) nothing n) ≡ place (or_else b (got x) nothing n)
    go true = refl
    go false = refl

module _ (s : List ℕ) (at : ℕ) (r : Option LineHead) (er : r ≡ line_head s at) where
  pub end-bad : r ≡ None → None ≡ place (read_line s at)
  unfolding place
  end-bad h = ap place (sym (head-says s at r er _ h))

  pub end_whole : (y : WholeLine) (n : ℕ) → r ≡ Some (LineHead.Whole y n) → (v : Option ℕ) → v ≡ short_end at n → v ≡ place (read_line s at)
  end_whole y n h v ev = let (l, t, e) = head-says s at r er _ h in ev ∙ short-is l at n ∙ ap place (sym e)

  module _ (y : NameAt) (n : ℕ) (h : r ≡ Some (LineHead.Let y n)) (x : Option ℕ) (ex : x ≡ place (read_expr 11 s n)) where
    pub end-no-expr : x ≡ None → None ≡ place (read_line s at)
    unfolding place limit rest
    end-no-expr i = let (w, hw, ew, e) = head-says s at r er _ h in ap place (sym (e ∙ ap (limit at) (then-none (read_expr 11 s n) _ (placed-none _ x ex i))))

    module _ (m : ℕ) (i : x ≡ Some m) (c : Option ℕ) (ec : c ≡ closed s m) where
      pub end-no-end : c ≡ None → None ≡ place (read_line s at)
      unfolding place limit rest
      end-no-end j =
          let (w, hw, ew, e) = head-says s at r er _ h in
          let (z, ez) = placed-got _ x ex m i in
          ap place (sym (e ∙ ap (limit at) (then-got (read_expr 11 s n) _ z m ez ∙ closing-none (let_line w z) s m c ec j)))

      pub end-let : (k : ℕ) → c ≡ Some k → (v : Option ℕ) → v ≡ short_end at k → v ≡ place (read_line s at)
      unfolding rest
      end-let k j v ev =
          let (w, hw, ew, e) = head-says s at r er _ h in
          let (z, ez) = placed-got _ x ex m i in
          ev ∙ short-is (let_line w z) at k ∙ ap place (sym (e ∙ ap (limit at) (then-got (read_expr 11 s n) _ z m ez ∙ closing-got (let_line w z) s m c ec k j)))
