-- The kind of an expression, a step at a time: a law for each way out of `kind_at` and `gather`. Assumes nothing.
use Prim.Native.Nat.{ℕ, zero, suc, ◌+◌, ◌-◌, ◌*◌, ◌^◌, ◌<◌, ◌≤◌}
use native.Mathlib.Omega.{arith}
use mathlib.Core.Path.{◌≡◌, refl, sym, ap, ◌∙◌, subst}
use mathlib.Core.List.{List, ◌∷◌}
use mathlib.Core.Option.{Option as Maybe, none, some}
use lib.ListN.{get_or}
use Rattle.sheets.specs.Text.{Word}
use Rattle.sheets.specs.Trees.{Expr, Exprs, word_expr, num_expr, form_expr, nil, ◌▸◌}
use Rattle.sheets.specs.Grammar.{IsWord, IsExpr}
use Rattle.sheets.specs.code.reader.Codes.{code_of}
use Rattle.sheets.specs.code.reader.Reader.{got, ◌then◌, read_word, read_num, read_args, read_expr}
use Rattle.sheets.specs.code.reader.Views.{place, coded, counted}
use Rattle.sheets.specs.Kinds.{Kind, kind_code}
use Rattle.sheets.specs.Table.{table}
use Rattle.sheets.specs.Lookup.{find_kind}
use Rattle.sheets.specs.Names.{Known, lookup}
use Rattle.sheets.specs.code.rows.KindCodes.{code_if, key_from, RowKind}
use Rattle.sheets.specs.Refusals.{Fault, kind, fault, Checked, fine, bad, thenᶜ, known?}
use Rattle.sheets.specs.Check.{kind_of_expr, kinds_of_exprs}
use Rattle.sheets.specs.declared.reader.num.Numeral.{Numeral}
use Rattle.sheets.proofs.reader.ReaderLaws.{then-got, close-read}
use Rattle.sheets.proofs.reader.TokenSteps.{grow, cap}
use Rattle.sheets.proofs.reader.ExprSteps.{args_none, args-other, args-step, expr-step, expr-bad, name-read, num-read}
use Rattle.sheets.proofs.reader.Viewed.{coded-got}
use Rattle.sheets.proofs.reader.Inverse.{not-read, arg-read, form-read}
use Rattle.sheets.proofs.reader.Spans.{holds_at}
use Rattle.sheets.proofs.reader.ExprLaws.{ExprAt, expr-sound}
use Rattle.sheets.proofs.rows.KindRowLaws.{row-kind}
use Rattle.sheets.proofs.check.PassedLaws.{kind-newest}
use Rattle.sheets.specs.declared.check.names.Names.{Names}
use Rattle.sheets.specs.code.check.Walking.{kind_from, kind_found, Standing, kind_said, ExprHas, key_said, ArgsHave}
use Rattle.std.specs.Prelude.{Option, Some, None, Result, Ok, Err}
use Rattle.sheets.specs.declared.refusals.Refusal.{Refusal as Code}
use Rattle.sheets.specs.code.Refusals.{code_for}

-- ---- what a kind's code says, where there is one

pub none-if : (o : Maybe Kind) (f : Option ℕ) → f ≡ code_if o → f ≡ None → o ≡ none
none-if none f e h = refl
none-if (some k) f e h = let z : ◌≡◌ {A = ℕ} 0 1 = cc in absurd (omega arith)

pub some-if : (o : Maybe Kind) (f : Option ℕ) → f ≡ code_if o → (k : ℕ) → f ≡ Some k → (j : Kind) × (o ≡ some j) × (k ≡ kind_code j)
some-if none f e k h = let z : ◌≡◌ {A = ℕ} 0 1 = cc in absurd (omega arith)
some-if (some j) f e k h = (j, refl, cc)

-- the kind code found for a word, where the lines passed stand for the known words
pub found-kind : (names : Names) (ps : Known Kind) → Standing names ps → (code : ℕ) (f : Option ℕ) → f ≡ kind_found names code
    → (w : Word) → IsWord w → code ≡ code_of w → f ≡ code_if (lookup w ps)
found-kind names ps (passed, st) code f hf w hw e =
    hf ∙ kind-newest names passed st.from code ∙ ap (kind_from names passed) e ∙ st.is w hw

-- a fault where there is no kind
said-none : (x : Fault) (o : Maybe Kind) (f : Option ℕ) (n : ℕ) → f ≡ code_if o → f ≡ None → Err (code_for (fault x)) ≡ kind_said (known? x o) n
unfolding kind_said
said-none x o f n e h = rw (none-if o f e h) refl

said-some : (x : Fault) (o : Maybe Kind) (f : Option ℕ) (k n : ℕ) → f ≡ code_if o → f ≡ Some k → Ok (k, n) ≡ kind_said (known? x o) n
unfolding kind_said
said-some x o f k n e h = let (j, eo, ek) = some-if o f e k h in rw eo (ap (λ i. Ok (i, n)) ek)

-- ---- an expression

-- a code, or a key, and the place behind it
abbrev pub told : ℕ → ℕ → Result (ℕ × ℕ) Code
told k n = Ok (k, n)

pub same-told : {j k m n : ℕ} → told j m ≡ told k n → (j ≡ k) × (m ≡ n)
same-told {j} {k} {m} {n} e = let i : ◌≡◌ {A = ℕ × ℕ} (j, m) (k, n) = cc in (ap (λ (p : ℕ × ℕ). p.0) i, ap (λ (p : ℕ × ℕ). p.1) i)

-- a refusal is no kind
not_is : {C : Type 0} (why : Code) (k n : ℕ) → Err why ≡ told k n → C
not_is why k n e = let z : ◌≡◌ {A = ℕ} 0 1 = cc in absurd (omega arith)

pub has-none : (s : List ℕ) (at depth : ℕ) (ps : Known Kind) (why : Code) → None ≡ place (read_expr depth s at) → ExprHas s at depth ps (Err why)
has-none s at depth ps why h = record { is = λ x n g. not-read (read_expr depth s at) x n h g; read = λ k n e. not_is why k n e }

said-end : (o : Checked Kind) (n k m : ℕ) → kind_said o n ≡ told k m → n ≡ m
unfolding kind_said
said-end (fine j) n k m e = (same-told e).1
said-end (bad f) n k m e = not_is (code_for (fault f)) k m e

has-got : (s : List ℕ) (at depth : ℕ) (ps : Known Kind) (r : Result (ℕ × ℕ) Code) (x : Expr) (n : ℕ) → read_expr depth s at ≡ got x n → r ≡ kind_said (kind_of_expr x ps) n → ExprHas s at depth ps r
has-got s at depth ps r x n h g = record { is = λ y m k. cc; read = λ k m e. (x, h ∙ ap (got x) (said-end (kind_of_expr x ps) n k m (sym g ∙ e))) }

-- the words of an expression that was read are words
leaf-word : (s : List ℕ) (at depth : ℕ) (w : Word) (n : ℕ) → read_expr depth s at ≡ got (word_expr w) n → IsWord w
leaf-word s at depth w n e = go depth (holds_at (ExprAt s depth at) (read_expr depth s at) (word_expr w) n (expr-sound s depth at) e).1
  where
    go : (d : ℕ) → IsExpr d (word_expr w) → IsWord w
    go zero h = h
    go (suc d) h = h

module _ (s : List ℕ) (at b : ℕ) (eb : b ≡ get_or s at 0) (depth : ℕ) (ps : Known Kind) where
  module _ (h : b ≡ 40 → ⊥) (r : Option (ℕ × ℕ)) (er : r ≡ coded (read_word s at)) where
    -- a word: f is the kind code found for it
    module _ (code n : ℕ) (hr : r ≡ Some (code, n)) (names : Names) (st : Standing names ps) (f : Option ℕ) (hf : f ≡ kind_found names code) where
      found-is : (w : Word) → read_expr depth s at ≡ got (word_expr w) n → code ≡ code_of w → f ≡ code_if (lookup w ps)
      found-is w ew ec = found-kind names ps st code f hf w (leaf-word s at depth w n ew) ec

      pub word-unknown : f ≡ None → ExprHas s at depth ps (Err Code.Name)
      unfolding kind_of_expr kind_said
      word-unknown e =
          let (w, ew, ec) = name-read s at b eb depth h r er code n hr in
          has-got s at depth ps _ (word_expr w) n ew (rw (none-if (lookup w ps) f (found-is w ew ec) e) refl)

      pub word-known : (k : ℕ) → f ≡ Some k → ExprHas s at depth ps (Ok (k, n))
      unfolding kind_of_expr kind_said
      word-known k e =
          let (w, ew, ec) = name-read s at b eb depth h r er code n hr in
          let (j, eo, ek) = some-if (lookup w ps) f (found-is w ew ec) k e in
          has-got s at depth ps _ (word_expr w) n ew (rw eo (ap (λ i. Ok (i, n)) ek))

    pub num-has : r ≡ None → (v : Option Numeral) → v ≡ counted (read_num s at) → (y : Numeral) → v ≡ Some y → ExprHas s at depth ps (Ok (0, y.end))
    unfolding kind_of_expr kind_said
    num-has hr v ev y hv = let (q, eq, ey) = num-read s at b eb depth h r er hr v ev y hv in has-got s at depth ps _ (num_expr q) y.end eq refl

    pub leaf-none : (why : Code) → r ≡ None → (v : Option Numeral) → v ≡ counted (read_num s at) → v ≡ None → ExprHas s at depth ps (Err why)
    leaf-none why hr v ev hv = has-none s at depth ps why (expr-bad s at b eb depth h r er hr v ev hv)

  -- a bracket: g is what its arguments came to
  module _ (h : b ≡ 40) (d : depth ≡ 0 → ⊥) (r : Option (ℕ × ℕ)) (er : r ≡ coded (read_word s (at + 1))) (code m : ℕ) (hr : r ≡ Some (code, m)) (g : Result (ℕ × ℕ) Code) (hg : ArgsHave s m (depth - 1) 5 0 ps g) where
    form-has : (q : Result (ℕ × ℕ) Code)
        → ((w : Word) → IsWord w → code ≡ code_of w → (o : Checked (List Kind)) (n : ℕ) → g ≡ key_said 0 o n → q ≡ kind_said (thenᶜ o (λ js. known? kind (find_kind table w js))) n)
        → ((k n : ℕ) → q ≡ Ok (k, n) → (x : Expr) × (read_expr depth s at ≡ got x n))
        → ExprHas s at depth ps q
    unfolding kind_of_expr
    form-has q f t = record {
      is = λ x n e.
          let (w, xs, hw, ec, ea, ex) = form-read s at b eb depth h d r er code m hr x n e in
          rw ex (f w hw ec (kinds_of_exprs xs ps) n (hg.is xs n ea));
      read = t;
    }

    pub form-refused : (why : Code) → g ≡ Err why → ExprHas s at depth ps (Err why)
    unfolding key_said kind_said
    form-refused why eg = form-has _ go (λ k n e. not_is why k n e)
      where
        go : (w : Word) → IsWord w → code ≡ code_of w → (o : Checked (List Kind)) (n : ℕ) → g ≡ key_said 0 o n → Err why ≡ kind_said (thenᶜ o (λ js. known? kind (find_kind table w js))) n
        go w hw ec (fine ks) n p = let z : ◌≡◌ {A = ℕ} 0 1 = cc in absurd (omega arith)
        go w hw ec (bad f) n p = let i : why ≡ code_for (fault f) = cc in ap (λ k. Err k) i

    -- f is the kind code of the row
    module _ (key end : ℕ) (eg : g ≡ Ok (key, end)) (f : Option ℕ) (hf : RowKind code key f) where
      row_is : (w : Word) → IsWord w → code ≡ code_of w → (ks : List Kind) (n : ℕ) → g ≡ key_said 0 (fine ks) n → (f ≡ code_if (find_kind table w ks)) × (end ≡ n)
      unfolding key_said
      row_is w hw ec ks n p =
          let same = same-told (sym p ∙ eg) in
          (row-kind code key f hf w hw ec ks same.0, sym same.1)

      not-bad : {C : Type 0} (x : Fault) (n : ℕ) → g ≡ key_said 0 (bad x) n → C
      unfolding key_said
      not-bad x n p = let z : ◌≡◌ {A = ℕ} 0 1 = cc in absurd (omega arith)

      pub form-no-row : f ≡ None → ExprHas s at depth ps (Err Code.Kind)
      form-no-row e = form-has _ go (λ k n e. not_is Code.Kind k n e)
        where
          go : (w : Word) → IsWord w → code ≡ code_of w → (o : Checked (List Kind)) (n : ℕ) → g ≡ key_said 0 o n → Err Code.Kind ≡ kind_said (thenᶜ o (λ js. known? kind (find_kind table w js))) n
          go w hw ec (fine ks) n p = said-none kind (find_kind table w ks) f n (row_is w hw ec ks n p).0 e
          go w hw ec (bad x) n p = not-bad x n p

      all_read : (i k n : ℕ) → told i end ≡ told k n → (x : Expr) × (read_expr depth s at ≡ got x n)
      all_read i k n e =
          let (xs, ea) = hg.read key end eg in
          let (w, ew, ek) = coded-got (read_word s (at + 1)) r er code m hr in
          let j : end ≡ n = (same-told e).1 in (
            form_expr w xs,
            expr-step s at b eb depth h d
                ∙ then-got (read_word s (at + 1)) (λ w n. read_args (read_expr (depth - 1) s) 5 s n then (λ xs m. got (form_expr w xs) m)) w m ew
                ∙ then-got (read_args (read_expr (depth - 1) s) 5 s m) (λ xs m. got (form_expr w xs) m) xs end ea
                ∙ ap (got (form_expr w xs)) j,
          )

      pub form-row : (i : ℕ) → f ≡ Some i → ExprHas s at depth ps (Ok (i, end))
      form-row i e = form-has _ go (all_read i)
        where
          go : (w : Word) → IsWord w → code ≡ code_of w → (o : Checked (List Kind)) (n : ℕ) → g ≡ key_said 0 o n → Ok (i, end) ≡ kind_said (thenᶜ o (λ js. known? kind (find_kind table w js))) n
          go w hw ec (fine ks) n p = let (ef, en) = row_is w hw ec ks n p in ap (λ m. Ok (i, m)) en ∙ said-some kind (find_kind table w ks) f i n ef e
          go w hw ec (bad x) n p = not-bad x n p

-- ---- the arguments

have-none : (s : List ℕ) (at depth left key : ℕ) (ps : Known Kind) (why : Code) → None ≡ place (read_args (read_expr depth s) left s at) → ArgsHave s at depth left key ps (Err why)
have-none s at depth left key ps why h = record { is = λ xs n g. not-read (read_args (read_expr depth s) left s at) xs n h g; read = λ k n e. not_is why k n e }

module _ (s : List ℕ) (at b : ℕ) (eb : b ≡ get_or s at 0) (depth left key : ℕ) (ps : Known Kind) where
  pub have-closed : b ≡ 41 → ArgsHave s at depth left key ps (Ok (key, at + 1))
  unfolding kinds_of_exprs key_said key_from
  have-closed h = record {
    is = λ xs n e.
        let q = close-read (read_expr depth s) s at b eb left h in
        let i : xs ≡ nil = cc in
        let j : n ≡ at + 1 = cc in
        rw (i, j) refl;
    read = λ k n e. let i : at + 1 ≡ n = (same-told e).1 in (nil, close-read (read_expr depth s) s at b eb left h ∙ ap (got nil) i);
  }

  pub have-sixth : (why : Code) → (b ≡ 41 → ⊥) → left ≡ 0 → ArgsHave s at depth left key ps (Err why)
  have-sixth why h l = have-none s at depth left key ps why (args_none (read_expr depth s) s at b eb left h l)

  pub have-other : (why : Code) → (b ≡ 32 → ⊥) → (b ≡ 41 → ⊥) → ArgsHave s at depth left key ps (Err why)
  have-other why h c = have-none s at depth left key ps why (args-other (read_expr depth s) s at b eb left c h)

  -- r is what an argument came to
  module _ (h : b ≡ 32) (l : left ≡ 0 → ⊥) (r : Result (ℕ × ℕ) Code) (hr : ExprHas s (at + 1) depth ps r) where
    more-read : (xs : Exprs) (n : ℕ) → read_args (read_expr depth s) left s at ≡ got xs n
        → (x : Expr) × (m : ℕ) × (ys : Exprs) × (read_expr depth s (at + 1) ≡ got x m) × (read_args (read_expr depth s) (left - 1) s m ≡ got ys n) × (xs ≡ x ▸ ys)
    more-read xs n e = arg-read (read_expr depth s) s at b eb left l h xs n e

    pub have-refused : (why : Code) → r ≡ Err why → ArgsHave s at depth left key ps (Err why)
    unfolding kinds_of_exprs key_said kind_said
    have-refused why er = record {
      is = λ xs n e.
          let (x, m, ys, ex, ey, exs) = more-read xs n e in
          rw exs (go (kind_of_expr x ps) m (kinds_of_exprs ys ps) n (hr.is x m ex));
      read = λ k n e. not_is why k n e;
    }
      where
        go : (o : Checked Kind) (m : ℕ) (p : Checked (List Kind)) (n : ℕ) → r ≡ kind_said o m → Err why ≡ key_said key (thenᶜ o (λ j. thenᶜ p (λ js. fine (j ∷ js)))) n
        go (fine j) m p n e = let z : ◌≡◌ {A = ℕ} 0 1 = cc in absurd (omega arith)
        go (bad f) m p n e = let i : why ≡ code_for (fault f) = cc in ap (λ k. Err k) i

    pub have-more : (k end : ℕ) → r ≡ Ok (k, end) → (q : Result (ℕ × ℕ) Code) → ArgsHave s end depth (left - 1) (key * 16 + k + 1) ps q → ArgsHave s at depth left key ps q
    unfolding kinds_of_exprs key_said kind_said key_from
    have-more k end er q hq = record {
      is = λ xs n e.
          let (x, m, ys, ex, ey, exs) = more-read xs n e in
          rw exs (go (kind_of_expr x ps) m ys n ey (hr.is x m ex));
      read = λ j n e.
          let (x, ex) = hr.read k end er in
          let (ys, ey) = hq.read j n e in (
            x ▸ ys,
            args-step (read_expr depth s) s at b eb left l h
                ∙ then-got (read_expr depth s (at + 1)) (λ y n. read_args (read_expr depth s) (left - 1) s n then (λ ys m. got (y ▸ ys) m)) x end ex
                ∙ then-got (read_args (read_expr depth s) (left - 1) s end) (λ ys m. got (x ▸ ys) m) ys n ey,
          );
    }
      where
        push : (j : Kind) → kind_code j ≡ k → (o : Checked (List Kind)) (n : ℕ) → key_said (key * 16 + k + 1) o n ≡ key_said key (thenᶜ o (λ js. fine (j ∷ js))) n
        push j e (fine js) n = ap (λ i. Ok (key_from i js, n)) (omega arith)
        push j e (bad f) n = refl

        go : (o : Checked Kind) (m : ℕ) (ys : Exprs) (n : ℕ) → read_args (read_expr depth s) (left - 1) s m ≡ got ys n → r ≡ kind_said o m
            → q ≡ key_said key (thenᶜ o (λ j. thenᶜ (kinds_of_exprs ys ps) (λ js. fine (j ∷ js)))) n
        go (fine j) m ys n ey e =
            let same = same-told (sym er ∙ e) in
            hq.is ys n (ap (read_args (read_expr depth s) (left - 1) s) same.1 ∙ ey) ∙ push j (sym same.0) (kinds_of_exprs ys ps) n
        go (bad f) m ys n ey e = let z : ◌≡◌ {A = ℕ} 0 1 = cc in absurd (omega arith)

-- the key of at most five kinds stays small
key-grows : (left key k : ℕ) → (left ≡ 0 → ⊥) → left ≤ 5 → key < 512 ^ (5 - left) → k ≤ 255 → (key * 16 + k + 1 < 512 ^ (5 - (left - 1))) × (key * 16 + k + 1 < 512 ^ 5)
key-grows left key k l le h hk =
    let g = grow 512 5 left key 256 (omega arith) le h (omega arith) in
    let m = cap 512 5 (left - 1) (omega arith) in
    (omega arith, omega arith)

-- the same by how many kinds there are
pub grown : (n key k : ℕ) → n < 5 → key < 512 ^ n → k ≤ 255 → (key * 16 + k + 1 < 512 ^ (n + 1)) × (key * 16 + k + 1 < 512 ^ 5)
grown n key k l h hk =
    let e : 5 - (5 - n) ≡ n = omega arith in
    let d : 5 - (5 - n - 1) ≡ n + 1 = omega arith in
    let g = key-grows (5 - n) key k (omega arith) (omega arith) (subst (λ m. key < 512 ^ m) (sym e) h) hk in
    (subst (λ m. key * 16 + k + 1 < 512 ^ m) d g.0, g.1)

-- one argument fewer is left
pub left-one : (n : ℕ) → n < 5 → (s : List ℕ) (at depth key : ℕ) (ps : Known Kind) (q : Result (ℕ × ℕ) Code) → ArgsHave s at depth (5 - (n + 1)) key ps q → ArgsHave s at depth (5 - n - 1) key ps q
left-one n l s at depth key ps q h =
    let e : 5 - (n + 1) ≡ 5 - n - 1 = omega arith in
    subst (λ m. ArgsHave s at depth m key ps q) e h
