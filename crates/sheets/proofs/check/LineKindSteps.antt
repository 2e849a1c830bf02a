-- A line of the check's walk, a step at a time: a law for each way out of `is_barred`, `known_kind`, `whole_kind`, `let_kind`, `short_kind` and `line_kind`. Assumes nothing.
use Prim.Native.Nat.{ℕ, ◌+◌}
use native.Mathlib.Omega.{arith}
use mathlib.Core.Path.{◌≡◌, refl, sym, ap, ◌∙◌, subst}
use mathlib.Core.Bool.{Bool, true, false, ◌||◌}
use mathlib.Core.List.{List, [], ◌∷◌}
use mathlib.Core.Option.{Option as Maybe, none, some}
use lib.Dec.{leb}
use lib.Ieee.{Float}
use mir.Val.{has_key}
use Rattle.sheets.specs.Text.{Word}
use Rattle.sheets.specs.Trees.{Line, let_line, show_line}
use Rattle.sheets.specs.Grammar.{IsWord}
use Rattle.sheets.specs.code.reader.Codes.{code_from, code_of}
use Rattle.sheets.specs.code.reader.Reader.{Got, none as no_got, got, read_expr, or_else, nothing, closing, limit, let_word, rest, read_line}
use Rattle.sheets.specs.code.reader.Views.{closed, WholeIn}
use Rattle.sheets.specs.Kinds.{Kind, kind_code}
use Rattle.sheets.specs.Table.{table, when}
use Rattle.sheets.specs.Lookup.{same_word, opens}
use Rattle.sheets.specs.Names.{Known, or_else as or_later, lookup, knows, barred, given_on}
use Rattle.sheets.specs.Scopes.{Scope, give_if}
use Rattle.sheets.specs.code.rows.KindCodes.{code_if, row_codes}
use Rattle.sheets.specs.Refusals.{fault, Checked, fine, bad, thenᶜ}
use Rattle.sheets.specs.Check.{kind_of_expr, lineᶜ}
use Rattle.sheets.specs.declared.reader.lines.NameAt.{NameAt}
use Rattle.sheets.specs.declared.reader.lines.WholeLine.{WholeLine}
use Rattle.sheets.proofs.reader.ReaderLaws.{then-got}
use Rattle.sheets.proofs.reader.Inverse.{then-read, closing-read, limit-read}
use Rattle.sheets.proofs.reader.PieceSteps.{closing-got}
use Rattle.sheets.proofs.reader.Slices.{word-is}
use Rattle.sheets.specs.declared.check.names.Names.{Names}
use Rattle.sheets.specs.code.check.Walking.{kind_found, Standing, kind_said, ExprHas, line_word, line_said, LineHas, WordHas, WholeHas, short_kind, BarredWord}
use Rattle.std.specs.Prelude.{is_some, Option, Some, None, Result, Ok, Err}
use Rattle.sheets.specs.declared.refusals.Refusal.{Refusal as Code}
use Rattle.sheets.specs.code.Refusals.{code_for}
use Rattle.sheets.specs.declared.check.admit.LineKind.{LineKind}
use Rattle.sheets.proofs.rows.KindRowLaws.{opens-is}
use Rattle.sheets.proofs.check.KindSteps.{same-told, found-kind, none-if, some-if}

-- ---- a word that cannot be given

abbrev has_some : Maybe Kind → Bool
has_some none = false
has_some (some k) = true

coded-some : (o : Maybe Kind) → is_some (code_if o) ≡ has_some o
coded-some none = refl
coded-some (some k) = refl

knows-is : (w : Word) (ps : Known Kind) → has_some (lookup w ps) ≡ knows w ps
knows-is w [] = refl
knows-is w (p ∷ ps) = go (same_word w p.name) (knows-is w ps)
  where
    go : (b : Bool) → has_some (lookup w ps) ≡ knows w ps → has_some (or_later b p.value (lookup w ps)) ≡ (b || knows w ps)
    go true e = refl
    go false e = e

-- t tells whether the word opens a form, f is the kind code found for it
module _ (ps : Known Kind) (code : ℕ) (t : Bool) (ht : t ≡ has_key (row_codes table) code) where
  by_code_lem : (w : Word) → IsWord w → code_of w ≡ code → t ≡ opens table w
  by_code_lem w hw e = ht ∙ ap (has_key (row_codes table)) (sym e) ∙ opens-is w hw

  pub barred-operator : t ≡ true → BarredWord code ps true
  barred-operator h = record { is = λ w hw e. ap (λ b. b || knows w ps) (sym h ∙ by_code_lem w hw e) }

  module _ (h : t ≡ false) (names : Names) (st : Standing names ps) (f : Option ℕ) (hf : f ≡ kind_found names code) where
    by-lookup : (w : Word) → IsWord w → code_of w ≡ code → has_some (lookup w ps) ≡ barred w ps
    by-lookup w hw e = knows-is w ps ∙ ap (λ b. b || knows w ps) (sym h ∙ by_code_lem w hw e)

    pub barred-looked : BarredWord code ps (is_some f)
    barred-looked = record { is = λ w hw e. ap is_some (found-kind names ps st code f hf w hw (sym e)) ∙ coded-some (lookup w ps) ∙ by-lookup w hw e }

-- ---- readings taken apart

-- a refusal is no line
not_line : {C : Type 0} (why : Code) (q : LineKind) → Err why ≡ Ok q → C
not_line why q e = let z : ◌≡◌ {A = ℕ} 0 1 = cc in absurd (omega arith)

-- a line's code, kind code and next place
abbrev pub line_at : ℕ → ℕ → ℕ → Result LineKind Code
line_at c k n = Ok (record { code = c; kind = k; next = n })

pub line-nothing : (o : Got Line) → o ≡ no_got → (i : ℕ) (c : Scope Kind) (why : Code) → LineHas o i c (Err why)
line-nothing o h i c why = record { is = λ l n e. let z : ◌≡◌ {A = ℕ} 0 1 = cc in absurd (omega arith); read = λ q e. not_line why q e }

line_same : (j k f g m n : ℕ) → j ≡ k → f ≡ g → m ≡ n → line_at j f m ≡ line_at k g n
line_same j k f g m n d e h = rw (d, e, h) refl

-- the next line stands where it is said
next-is : {c k n : ℕ} {q : LineKind} → line_at c k n ≡ Ok q → n ≡ q.next
next-is {c} {k} {n} {q} e = let i : ◌≡◌ {A = LineKind} (record { code = c; kind = k; next = n }) q = cc in ap (λ (z : LineKind). z.next) i

-- ---- a line that names a word: f is the kind code found for it

module _ (names : Names) (i : ℕ) (c : Scope Kind) (st : Standing names c.known) (code next : ℕ) (f : Option ℕ) (hf : f ≡ kind_found names code) where
  pub known-not : f ≡ None → WordHas code (λ w. got (show_line w) next) i c (Err Code.Name)
  unfolding lineᶜ line_said
  known-not h = record {
    is = λ w hw ec. record {
      is = λ l m e.
          let el : l ≡ show_line w = cc in
          rw (el, none-if (lookup w c.known) f (found-kind names c.known st code f hf w hw (sym ec)) h) refl;
      read = λ q e. not_line Code.Name q e;
    };
  }

  pub known_is : (k : ℕ) → f ≡ Some k → WordHas code (λ w. got (show_line w) next) i c (line_at code k next)
  unfolding lineᶜ line_said
  known_is k h = record {
    is = λ w hw ec. record {
      is = λ l m e.
          let (j, eo, ek) = some-if (lookup w c.known) f (found-kind names c.known st code f hf w hw (sym ec)) k h in
          let el : l ≡ show_line w = cc in
          let en : next ≡ m = cc in
          rw (el, eo) (line_same _ _ _ _ _ _ (sym ec) ek en);
      read = λ q e. (show_line w, ap (got (show_line w)) (next-is e));
    };
  }

-- ---- a line that is read whole

pub whole-show : (line : WholeLine) (name : NameAt) → line ≡ WholeLine.Show name → (next i : ℕ) (c : Scope Kind) (r : Result LineKind Code) → WordHas name.code (λ w. got (show_line w) next) i c r → WholeHas line next i c r
whole-show line name e next i c r h = rw e record {
  is = λ s l (w, ew, ec, el). subst (λ l. LineHas (got l next) i c r) (sym el) (h.is w (word-is s name.from w name.end ew) ec);
}

-- one that names no word and is always passed, with this kind code
whole_plain : (line : WholeLine) (k next i : ℕ) (c : Scope Kind) → ((s : List ℕ) (l : Line) → WholeIn s line l → line_at 0 k next ≡ line_said (line_word l) (lineᶜ i c l) next) → WholeHas line next i c (line_at 0 k next)
whole_plain line k next i c said = record {
  is = λ s l hl. record {
    is = λ m n em. let en : next ≡ n = cc in let el : l ≡ m = cc in rw (← el, ← en) (said s l hl);
    read = λ q er. (l, ap (got l) (next-is er));
  };
}

pub whole-total : (line : WholeLine) → line ≡ WholeLine.Total → (next i : ℕ) (c : Scope Kind) → WholeHas line next i c (line_at 0 2 next)
unfolding lineᶜ line_said code_from
whole-total line e next i c = rw e (whole_plain WholeLine.Total 2 next i c (λ s l h. rw h refl))

pub whole_apart : (line : WholeLine) (x : Float) → line ≡ WholeLine.Apart x → (next i : ℕ) (c : Scope Kind) → WholeHas line next i c (line_at 0 254 next)
unfolding lineᶜ line_said code_from
whole_apart line x e next i c = rw e (whole_plain (WholeLine.Apart x) 254 next i c (λ s l h. rw h.2 refl))

-- ---- a let from its expression on: q is what the expression came to, t whether the word cannot be given, c what the code read of `)` and LF

module _ (s : List ℕ) (at code i : ℕ) (d : Scope Kind) (q : Result (ℕ × ℕ) Code) (hq : ExprHas s at 11 d.known q) where
  abbrev pub LetHas : Result LineKind Code → Type 0
  LetHas p = WordHas code (λ w. rest s (let_word w) at) i d p

  -- the word w given a kind, unless it cannot be given
  abbrev given : Word → Bool → Kind → Checked (ℕ × Scope Kind)
  given w b k = thenᶜ (give_if b (given_on i w k) d) (λ c. fine (kind_code k, c))

  -- where p is no refusal, a let was read
  abbrev LetRead : Result LineKind Code → Type 0
  LetRead p = (w : Word) (y : LineKind) → p ≡ Ok y → (l : Line) × (rest s (let_word w) at ≡ got l y.next)

  let-is : (p : Result LineKind Code)
      → ((w : Word) → IsWord w → code_of w ≡ code → (o : Checked Kind) (j m : ℕ) → q ≡ kind_said o j → closed s j ≡ Some m → p ≡ line_said w (thenᶜ o (given w (barred w d.known))) m)
      → LetRead p
      → LetHas p
  unfolding rest lineᶜ
  let-is p f g = record {
    is = λ w hw ec. record {
      is = λ l m e.
          let (x, j, ex, ez) = then-read (read_expr 11 s at) (λ x m. closing (let_line w x) s m) l m e in
          let (el, et) = closing-read (let_line w x) l s j m ez in
          rw el (f w hw ec (kind_of_expr x d.known) j m (hq.is x j ex) et);
      read = g w;
    };
  }

  pub let-refused : (why : Code) → q ≡ Err why → LetHas (Err why)
  unfolding kind_said line_said
  let-refused why h = let-is _ go (λ w y e. not_line why y e)
    where
      go : (w : Word) → IsWord w → code_of w ≡ code → (o : Checked Kind) (j m : ℕ) → q ≡ kind_said o j → closed s j ≡ Some m
          → Err why ≡ line_said w (thenᶜ o (given w (barred w d.known))) m
      go w hw ec (fine k) j m p et = let z : ◌≡◌ {A = ℕ} 0 1 = cc in absurd (omega arith)
      go w hw ec (bad f) j m p et = let n : why ≡ code_for (fault f) = cc in ap (λ k. Err k) n

  module _ (f end : ℕ) (h : q ≡ Ok (f, end)) (t : Bool) (ht : BarredWord code d.known t) where
    let-fine : (p : Result LineKind Code)
        → ((w : Word) (k : Kind) (m : ℕ) → code_of w ≡ code → f ≡ kind_code k → closed s end ≡ Some m → p ≡ line_said w (given w t k) m)
        → LetRead p
        → LetHas p
    unfolding kind_said
    let-fine p g u = let-is p go u
      where
        go : (w : Word) → IsWord w → code_of w ≡ code → (o : Checked Kind) (j m : ℕ) → q ≡ kind_said o j → closed s j ≡ Some m → p ≡ line_said w (thenᶜ o (given w (barred w d.known))) m
        go w hw ec (fine k) j m e et =
            let same = same-told (sym h ∙ e) in
            let ek : f ≡ kind_code k = same.0 in
            let ej : end ≡ j = same.1 in
            g w k m ec ek (ap (closed s) ej ∙ et) ∙ ap (λ b. line_said w (given w b k) m) (ht.is w hw ec)
        go w hw ec (bad x) j m e et = let z : ◌≡◌ {A = ℕ} 0 1 = cc in absurd (omega arith)

    pub let-barred : t ≡ true → LetHas (Err Code.Name)
    unfolding line_said
    let-barred h = let-fine _ (λ w k m ec ek et. rw h refl) (λ w y e. not_line Code.Name y e)

    module _ (et : t ≡ false) (c : Option ℕ) (ez : c ≡ closed s end) where
      pub let-no-end : (why : Code) → c ≡ None → LetHas (Err why)
      let-no-end why j = let-fine _ (λ w k m ec ek el. let z : ◌≡◌ {A = ℕ} 0 1 = cc in absurd (omega arith)) (λ w y e. not_line why y e)

      pub let-given : (next : ℕ) → c ≡ Some next → LetHas (line_at code f next)
      unfolding rest line_said
      let-given next j = let-fine _ (λ w k m ec ek el. let en : next ≡ m = cc in rw et (line_same _ _ _ _ _ _ (sym ec) ek en)) (λ w y e.
          let (x, ex) = hq.read f end h in
          let en = next-is e in
          (let_line w x, then-got (read_expr 11 s at) (λ x m. closing (let_line w x) s m) x end ex ∙ closing-got (let_line w x) s end c ez next j ∙ ap (got (let_line w x)) en))

-- ---- at most 200 bytes

-- b tells whether the line y is so short
module _ (at : ℕ) (y : LineKind) (b : Bool) (eb : b ≡ leb y.next (at + 200)) where
  pub short-is : b ≡ true → Ok y ≡ short_kind at (Ok y)
  unfolding short_kind
  short-is h = rw (← eb, h) refl

  pub short-not : b ≡ false → Err Code.Form ≡ short_kind at (Ok y)
  unfolding short_kind
  short-not h = rw (← eb, h) refl

-- r came to a refusal, which stands; or to a line, which is tested
module _ (at : ℕ) (r : Result LineKind Code) where
  pub short-err : (why : Code) → r ≡ Err why → Err why ≡ short_kind at r
  unfolding short_kind
  short-err why e = rw e refl

  pub short-ok : (y : LineKind) → r ≡ Ok y → (q : Result LineKind Code) → q ≡ short_kind at (Ok y) → q ≡ short_kind at r
  short-ok y e q eq = rw e eq

short-line : (at : ℕ) (o : Got Line) (i : ℕ) (d : Scope Kind) (r : Result LineKind Code) → LineHas o i d r → LineHas (limit at o) i d (short_kind at r)
unfolding limit or_else short_kind line_said
short-line at o i d r h = record {
  is = λ l n e.
      let (eo, short) = limit-read at o l n e in
      ap (short_kind at) (h.is l n eo) ∙ said-short (line_word l) (lineᶜ i d l) n short;
  read = λ y e.
      let (er, short) = short-read r y e in
      let (l, eo) = h.read y er in
      (l, ap (limit at) eo ∙ ap (λ b. or_else b (got l) nothing y.next) short);
}
  where
    said-short : (w : Word) (q : Checked (ℕ × Scope Kind)) (n : ℕ) → leb n (at + 200) ≡ true → short_kind at (line_said w q n) ≡ line_said w q n
    said-short w (fine p) n e = rw e refl
    said-short w (bad f) n e = refl

    short-read : (r : Result LineKind Code) (y : LineKind) → short_kind at r ≡ Ok y → (r ≡ Ok y) × (leb y.next (at + 200) ≡ true)
    short-read (Err why) y e = not_line why y e
    short-read (Ok z) y e = go (leb z.next (at + 200)) refl e
      where
        go : (b : Bool) → leb z.next (at + 200) ≡ b → when b (Ok z) (Err Code.Form) ≡ Ok y → (◌≡◌ {A = Result LineKind Code} (Ok z) (Ok y)) × (leb y.next (at + 200) ≡ true)
        go true h e = let i : z ≡ y = cc in (e, ap (λ (x : LineKind). leb x.next (at + 200)) (sym i) ∙ h)
        go false h e = not_line Code.Form y e

-- ---- a line: what is left of it comes to r; a let, whose word has this code, and a line that is read whole

pub line_word_lem : (s : List ℕ) (at i : ℕ) (d : Scope Kind) (code : ℕ) (o : Word → Got Line) → (w : Word) × IsWord w × (code_of w ≡ code) × (read_line s at ≡ limit at (o w))
    → (r : Result LineKind Code) → WordHas code o i d r → (q : Result LineKind Code) → q ≡ short_kind at r → LineHas (read_line s at) i d q
line_word_lem s at i d code o (w, hw, ec, el) r hr q eq = rw (el, eq) (short-line at (o w) i d r (hr.is w hw ec))

pub line-whole : (s : List ℕ) (at i : ℕ) (d : Scope Kind) (line : WholeLine) (n : ℕ) → (l : Line) × WholeIn s line l × (read_line s at ≡ limit at (got l n))
    → (r : Result LineKind Code) → WholeHas line n i d r → (q : Result LineKind Code) → q ≡ short_kind at r → LineHas (read_line s at) i d q
line-whole s at i d line n (l, hl, el) r hr q eq = rw (el, eq) (short-line at (got l n) i d r (hr.is s l hl))
