-- The look-up of a kind by numbers is the table's: a word by its code, kinds by their key. Assumes nothing.
use Prim.Native.Nat.{ℕ, suc, ◌+◌, ◌*◌, ◌<◌}
use native.Mathlib.Omega.{arith}
use mathlib.Core.Path.{◌≡◌, refl, sym, ap, ◌∙◌, subst}
use mathlib.Core.Bool.{Bool, true, false, ◌&&◌, ◌||◌, not}
use mathlib.Core.List.{List, [], ◌∷◌, ◌++◌, append-nil}
use mathlib.Core.Option.{Option as Maybe, some}
use lib.Dec.{T, eqb, eqb→eq, eqb_refl}
use mir.Facts.{and_yes, yes_and}
use mir.Val.{has_key}
use types.Run.{OneOf, hit, miss}
use Rattle.std.specs.Prelude.{Option, Some, None}
use Rattle.std.specs.Option.{option_or}
use Rattle.std.specs.Bool.{then_some}
use Rattle.std.specs.List.{list_any}
use Rattle.frames.specs.declared.Orientation.TheVariants.{Enu, Ned, Body, Wan}
use Rattle.sheets.specs.Text.{Word}
use Rattle.sheets.specs.Grammar.{IsWord}
use Rattle.sheets.specs.code.reader.Codes.{code_of}
use Rattle.sheets.specs.Kinds.{Kind, number, angle, len, geocentric, geodetic, vector, frame, place, kind_code, same_kind, same_kinds}
use Rattle.sheets.specs.Table.{Row, when, table}
use Rattle.sheets.specs.Lookup.{same_word, opens, KindRow, kind_rows, search, find_kind}
use Rattle.sheets.specs.code.rows.KindCodes.{kind_at, key_from, key_of, code_if, row_num, search_num, RowKind, Missed, row_codes}
use Rattle.sheets.proofs.reader.CodeLaws.{code_same}
use Rattle.sheets.proofs.check.KindExact.{same_word_lem, same-kinds}
use Rattle.sheets.proofs.rows.WordLaws.{spelt, spelt_is, missed-none}

-- ---- kinds by their key

pub kind-at : (k : Kind) → (kind_at (kind_code k) ≡ k) × (kind_code k < 13)
kind-at number = (refl, omega arith)
kind-at angle = (refl, omega arith)
kind-at len = (refl, omega arith)
kind-at geocentric = (refl, omega arith)
kind-at geodetic = (refl, omega arith)
kind-at (vector Enu) = (refl, omega arith)
kind-at (vector Ned) = (refl, omega arith)
kind-at (vector Body) = (refl, omega arith)
kind-at (vector Wan) = (refl, omega arith)
kind-at (frame Enu) = (refl, omega arith)
kind-at (frame Ned) = (refl, omega arith)
kind-at (frame Body) = (refl, omega arith)
kind-at (frame Wan) = (refl, omega arith)

-- and so it is not 255
pub kind-small : (k : Kind) → kind_code k < 13
kind-small k = (kind-at k).1

-- the key, its last kind first
abbrev back_key : List Kind → ℕ
back_key [] = 0
back_key (k ∷ ks) = back_key ks * 16 + suc (kind_code k)

back-same : (js ks : List Kind) → back_key js ≡ back_key ks → js ≡ ks
back-same [] [] e = refl
back-same [] (k ∷ ks) e = absurd (omega arith)
back-same (j ∷ js) [] e = absurd (omega arith)
back-same (j ∷ js) (k ∷ ks) e =
    let sj = (kind-at j).1 in
    let sk = (kind-at k).1 in
    let h : kind_code j ≡ kind_code k = omega arith in
    let t : back_key js ≡ back_key ks = omega arith in
    let p : j ≡ k = sym (kind-at j).0 ∙ ap kind_at h ∙ (kind-at k).0 in
    let q : js ≡ ks = back-same js ks t in
    cc

abbrev onto : List Kind → List Kind → List Kind
onto [] a = a
onto (k ∷ ks) a = onto ks (k ∷ a)

key_back : (ks a : List Kind) → key_from (back_key a) ks ≡ back_key (onto ks a)
unfolding key_from
key_back [] a = refl
key_back (k ∷ ks) a = key_back ks (k ∷ a)

onto-onto : (ks a b : List Kind) → onto (onto ks a) b ≡ onto a (ks ++ b)
onto-onto [] a b = refl
onto-onto (k ∷ ks) a b = onto-onto ks (k ∷ a) b

pub key-same : (js ks : List Kind) → key_of js ≡ key_of ks → js ≡ ks
key-same js ks e =
    let h : onto js [] ≡ onto ks [] = back-same (onto js []) (onto ks []) (sym (key_back js []) ∙ e ∙ key_back ks []) in
    sym (append-nil js) ∙ sym (onto-onto js [] []) ∙ ap (λ z. onto z []) h ∙ onto-onto ks [] [] ∙ append-nil ks

-- ---- the two tests

same_test : (a b : Bool) → (T a → T b) → (T b → T a) → a ≡ b
same_test true true f g = refl
same_test true false f g = absurd (f tt)
same_test false true f g = absurd (g tt)
same_test false false f g = refl

word-self : (w : Word) → T (same_word w w)
word-self [] = tt
word-self (b ∷ w) = yes_and (eqb b b) (same_word w w) (eqb_refl b) (word-self w)

pub words-agree : (v w : Word) → IsWord v → IsWord w → eqb (code_of v) (code_of w) ≡ same_word w v
words-agree v w hv hw =
    same_test _ _
    (λ t. subst (λ u. T (same_word u v)) (code_same v w hv hw (eqb→eq (code_of v) (code_of w) t)) (word-self v))
    (λ t. subst (λ u. T (eqb (code_of v) (code_of u))) (sym (same_word_lem w v t)) (eqb_refl (code_of v)))

kind-self : (k : Kind) → T (same_kind k k)
kind-self number = tt
kind-self angle = tt
kind-self len = tt
kind-self geocentric = tt
kind-self geodetic = tt
kind-self (vector o) = eqb_refl (place o)
kind-self (frame o) = eqb_refl (place o)

kinds-self : (ks : List Kind) → T (same_kinds ks ks)
kinds-self [] = tt
kinds-self (k ∷ ks) = yes_and (same_kind k k) (same_kinds ks ks) (kind-self k) (kinds-self ks)

keys-agree : (js ks : List Kind) → eqb (key_of js) (key_of ks) ≡ same_kinds js ks
keys-agree js ks =
    same_test _ _
    (λ t. subst (λ u. T (same_kinds js u)) (key-same js ks (eqb→eq (key_of js) (key_of ks) t)) (kinds-self js))
    (λ t. subst (λ u. T (eqb (key_of js) (key_of u))) (same-kinds js ks t) (eqb_refl (key_of js)))

-- ---- the rows by numbers

abbrev all_spelt : List KindRow → Bool
all_spelt [] = true
all_spelt (p ∷ ps) = spelt p.word && all_spelt ps

by-numbers : (ps : List KindRow) → T (all_spelt ps) → (w : Word) → IsWord w → (ks : List Kind) → search_num ps (code_of w) (key_of ks) ≡ code_if (search ps w ks)
unfolding search_num search
by-numbers [] t w hw ks = refl
by-numbers (p ∷ ps) t w hw ks =
    let h = and_yes (spelt p.word) (all_spelt ps) t in
    rw (words-agree p.word w (spelt_is p.word h.0) hw, keys-agree p.takes ks) (go (same_word w p.word && same_kinds p.takes ks) _ _ (by-numbers ps h.1 w hw ks))
  where
    go : (b : Bool) (m : Option ℕ) (o : Maybe Kind) → m ≡ code_if o → when b (Some (kind_code p.gives)) m ≡ code_if (when b (some p.gives) o)
    go true m o e = refl
    go false m o e = e

all-spelt : T (all_spelt (kind_rows table))
unfolding kind_rows table
all-spelt = tt

-- for a word and kinds it is the table's
pub row-kind : (c k : ℕ) (r : Option ℕ) → RowKind c k r → (w : Word) → IsWord w → c ≡ code_of w → (ks : List Kind) → key_of ks ≡ k → r ≡ code_if (find_kind table w ks)
unfolding find_kind
row-kind c k r h w hw e ks q = h.is ∙ ap (λ x. search_num (kind_rows table) x k) e ∙ ap (search_num (kind_rows table) (code_of w)) (sym q) ∙ by-numbers (kind_rows table) all-spelt w hw ks

-- rows of one word that give one kind
pub row-gives : (ks : List ℕ) (g key : ℕ) → then_some (list_any (λ k. eqb k key) ks) g ≡ row_num ks g key None
row-gives [] g key = refl
row-gives (k ∷ ks) g key = go (eqb k key) (row-gives ks g key)
  where
    go : (b : Bool) → then_some (list_any (λ k. eqb k key) ks) g ≡ row_num ks g key None → then_some (b || list_any (λ k. eqb k key) ks) g ≡ when b (Some g) (row_num ks g key None)
    go true e = refl
    go false e = e

-- and else by other rows
pub row-or : (ks : List ℕ) (g key : ℕ) (r : Option ℕ) → option_or (row_num ks g key None) r ≡ row_num ks g key r
row-or [] g key r = refl
row-or (k ∷ ks) g key r = go (eqb k key) (row-or ks g key r)
  where
    go : (b : Bool) → option_or (row_num ks g key None) r ≡ row_num ks g key r → option_or (when b (Some g) (row_num ks g key None)) r ≡ when b (Some g) (row_num ks g key r)
    go true e = refl
    go false e = e

-- an arm: the rows of the word v
pub kind-arm : (v : Word) (c k : ℕ) (r : Option ℕ) → c ≡ code_of v → r ≡ search_num (kind_rows table) (code_of v) k → RowKind c k r
kind-arm v c k r e h = record { is = h ∙ ap (λ x. search_num (kind_rows table) x k) (sym e) }

-- each row's number is among these or those
abbrev pub all_among : (KindRow → ℕ) → List KindRow → List ℕ → List ℕ → Bool
all_among g [] js ks = true
all_among g (p ∷ ps) js ks = (has_key js (g p) || has_key ks (g p)) && all_among g ps js ks

missed-both : (js ks : List ℕ) (x : ℕ) → T (has_key js x || has_key ks x) → Missed js x → Missed ks x → ⊥
missed-both js ks x t m n = go (has_key js x) refl t
  where
    go : (b : Bool) → has_key js x ≡ b → T (b || has_key ks x) → ⊥
    go true h u = missed-none js x (subst T (sym h) tt) m
    go false h u = missed-none ks x u n

-- a row with the code c and the key k would have the number x
no_number : (g : KindRow → ℕ) (js ks : List ℕ) (c k x : ℕ) → ((p : KindRow) → T (eqb (code_of p.word) c && eqb (key_of p.takes) k) → g p ≡ x) → Missed js x → Missed ks x
    → (ps : List KindRow) → T (all_among g ps js ks) → None ≡ search_num ps c k
unfolding search_num
no_number g js ks c k x s m n [] t = refl
no_number g js ks c k x s m n (p ∷ ps) t =
    let h = and_yes (has_key js (g p) || has_key ks (g p)) (all_among g ps js ks) t in
    go (eqb (code_of p.word) c && eqb (key_of p.takes) k) (λ u. missed-both js ks x (subst (λ y. T (has_key js y || has_key ks y)) (s p u) h.0) m n) (no_number g js ks c k x s m n ps h.1)
  where
    go : (b : Bool) → (T b → ⊥) → None ≡ search_num ps c k → None ≡ when b (Some (kind_code p.gives)) (search_num ps c k)
    go true f e = absurd (f tt)
    go false f e = e

-- the last arm: no row has the code
pub no_kind : (js ks : List ℕ) → T (all_among (λ p. code_of p.word) (kind_rows table) js ks) → (c k : ℕ) → Missed js c → Missed ks c → RowKind c k None
no_kind js ks t c k m n =
    let same : ((p : KindRow) → T (eqb (code_of p.word) c && eqb (key_of p.takes) k) → code_of p.word ≡ c) = λ p u. eqb→eq (code_of p.word) c (and_yes (eqb (code_of p.word) c) (eqb (key_of p.takes) k) u).0 in
    record { is = no_number (λ p. code_of p.word) js ks c k c same m n (kind_rows table) t }

-- no row has the key
pub no_key : (js ks : List ℕ) → T (all_among (λ p. key_of p.takes) (kind_rows table) js ks) → (c k : ℕ) → Missed js k → Missed ks k → RowKind c k None
no_key js ks t c k m n =
    let same : ((p : KindRow) → T (eqb (code_of p.word) c && eqb (key_of p.takes) k) → key_of p.takes ≡ k) = λ p u. eqb→eq (key_of p.takes) k (and_yes (eqb (code_of p.word) c) (eqb (key_of p.takes) k) u).1 in
    record { is = no_number (λ p. key_of p.takes) js ks c k k same m n (kind_rows table) t }

-- ---- the operators' words

abbrev pub rows_spelt : List Row → Bool
rows_spelt [] = true
rows_spelt (r ∷ rs) = spelt r.word && rows_spelt rs

opens_by : (rs : List Row) → T (rows_spelt rs) → (w : Word) → IsWord w → has_key (row_codes rs) (code_of w) ≡ opens rs w
opens_by [] t w hw = refl
opens_by (r ∷ rs) t w hw =
    let h = and_yes (spelt r.word) (rows_spelt rs) t in
    rw (words-agree r.word w (spelt_is r.word h.0) hw, opens_by rs h.1 w hw) refl

pub rows-spelt : T (rows_spelt table)
unfolding table
rows-spelt = tt

abbrev pub every : (ℕ → Bool) → List ℕ → Bool
every f [] = true
every f (j ∷ js) = f j && every f js

pub of-every : (f : ℕ → Bool) (js : List ℕ) → T (every f js) → (x : ℕ) → T (has_key js x) → T (f x)
of-every f [] t x h = absurd h
of-every f (j ∷ js) t x h =
    let p = and_yes (f j) (every f js) t in
    go (eqb j x) (λ u. subst (λ y. T (f y)) (eqb→eq j x u) p.0) h (of-every f js p.1 x)
  where
    go : (b : Bool) → (T b → T (f x)) → T (b || has_key js x) → (T (has_key js x) → T (f x)) → T (f x)
    go true g u n = g tt
    go false g u n = n u

-- whether a word is an operator's, by its code
pub opens-is : (w : Word) → IsWord w → has_key (row_codes table) (code_of w) ≡ opens table w
opens-is w hw = opens_by table rows-spelt w hw

-- an arm: its codes are codes of the table
pub opens-yes : (ks : List ℕ) → T (every (has_key (row_codes table)) ks) → (c : ℕ) → OneOf ks c → true ≡ has_key (row_codes table) c
opens-yes ks t c o = same_test true (has_key (row_codes table) c) (λ u. of-every (has_key (row_codes table)) ks t c (among (has_key ks c) refl)) (λ u. tt)
  where
    among : (b : Bool) → has_key ks c ≡ b → T (has_key ks c)
    among true h = subst T (sym h) tt
    among false h = absurd (miss ks c (subst (λ b. T (not b)) (sym h) tt) o)

-- the codes of some arms, the last arm first; the number is none of them
abbrev in_some : List (List ℕ) → ℕ → Bool
in_some [] x = false
in_some (ks ∷ kss) x = has_key ks x || in_some kss x

abbrev pub MissedEach : List (List ℕ) → ℕ → Type 0
MissedEach [] x = Unit {0}
MissedEach (ks ∷ kss) x = MissedEach kss x × (OneOf ks x → ⊥)

in-none : (kss : List (List ℕ)) (x : ℕ) → MissedEach kss x → T (in_some kss x) → ⊥
in-none [] x m t = t
in-none (ks ∷ kss) x m t = go (has_key ks x) (λ u. m.1 (hit ks x u)) t (in-none kss x m.0)
  where
    go : (b : Bool) → (T b → ⊥) → T (b || in_some kss x) → (T (in_some kss x) → ⊥) → ⊥
    go true f u n = f tt
    go false f u n = n u

-- the last arm: the table's codes are all in some arm
pub opens-no : (kss : List (List ℕ)) → T (every (in_some kss) (row_codes table)) → (c : ℕ) → MissedEach kss c → false ≡ has_key (row_codes table) c
opens-no kss t c m = same_test false (has_key (row_codes table) c) (λ u. absurd u) (λ u. in-none kss c m (of-every (in_some kss) (row_codes table) t c u))
