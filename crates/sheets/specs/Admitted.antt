-- What document 01 admits, said apart from the check's walk: which expressions have a kind, and which lines fit what is known before them.
use Rattle.std.specs.Prelude.{◌≡◌, ◌⊎◌, List, [], ◌∷◌, false, ℕ, suc}
use Rattle.std.proofs.Math.Option.{some}
use Rattle.sheets.specs.Trees.{Expr, Exprs, word_expr, num_expr, form_expr, nil, ◌▸◌, Line, let_line, show_line, total_line, apart_line}
use Rattle.sheets.specs.Kinds.{Kind, number, kind_code}
use Rattle.sheets.specs.Table.{table}
use Rattle.sheets.specs.Lookup.{KindRow, kind_rows, opens}
use Rattle.sheets.specs.Names.{Known, lookup, knows, given_on}

-- it is one of these
abbrev pub In : {A : Type 0} → A → List A → Type 0
In x [] = ⊥
In x (y ∷ ys) = (x ≡ y) ⊎ In x ys

-- a NUM is n, a known word has its kind, a bracket that of the row which fits its word and its arguments' kinds
abbrev mutual
  pub HasKind : Expr → Known Kind → Kind → Type 0
  HasKind (word_expr w) ks k = lookup w ks ≡ some k
  HasKind (num_expr q) ks k = number ≡ k
  HasKind (form_expr w xs) ks k = (r : KindRow) × In r (kind_rows table) × (w ≡ r.word) × HaveKinds xs ks r.takes × (r.gives ≡ k)

  pub HaveKinds : Exprs → Known Kind → List Kind → Type 0
  HaveKinds nil ks js = [] ≡ js
  HaveKinds (x ▸ xs) ks js = (j : Kind) × (is : List Kind) × HasKind x ks j × HaveKinds xs ks is × (j ∷ is ≡ js)

-- Line i, where the words ks are known: after it the words js are known, and it has this kind code.
-- A let gives a word that is neither an operator's nor known; a show's word is known; a total's kind code is 2, an apart's 254.
abbrev pub LineFits : ℕ → Known Kind → Line → Known Kind → ℕ → Type 0
LineFits i ks (let_line w x) js n = (k : Kind) × HasKind x ks k × (opens table w ≡ false) × (knows w ks ≡ false) × (given_on i w k ∷ ks ≡ js) × (kind_code k ≡ n)
LineFits i ks (show_line w) js n = (k : Kind) × (lookup w ks ≡ some k) × (ks ≡ js) × (kind_code k ≡ n)
LineFits i ks total_line js n = (ks ≡ js) × (2 ≡ n)
LineFits i ks (apart_line q) js n = (ks ≡ js) × (254 ≡ n)

-- these lines from line i on, where the words ks are known before them, with their kind codes
abbrev pub LinesFit : ℕ → Known Kind → List Line → List ℕ → Type 0
LinesFit i ks [] cs = [] ≡ cs
LinesFit i ks (l ∷ ls) cs = (js : Known Kind) × (n : ℕ) × (ds : List ℕ) × LineFits i ks l js n × LinesFit (suc i) js ls ds × (n ∷ ds ≡ cs)
