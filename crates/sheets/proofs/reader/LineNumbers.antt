-- A line holds exactly one LF, its last byte, so that a line's number is one more than the LFs before it: of the lines of a sheet, of the first bad line, and from each line to the next. Assumes nothing.
use Prim.Native.Nat.{ℕ, zero, suc, ◌+◌, ◌<◌, ◌≤◌}
use Prim.Native.String.{String}
use native.Mathlib.Omega.{arith}
use mathlib.Core.Path.{◌≡◌, refl, sym, ap, subst, ◌∙◌}
use mathlib.Core.Bool.{Bool, true, false}
use mathlib.Core.Logic.{◌⊎◌, inl, inr}
use mathlib.Core.List.{List, [], ◌∷◌, ◌++◌, append_assoc, append-nil}
use lib.ListN.{length, take, drop, length-append, take-append-drop}
use lib.Seq.{take-append_seam, length-take-le}
use borrow.Author.Tests.{ne_eqb}
use Rattle.sheets.specs.Text.{Word, ascii, ◌⌢◌, lf}
use Rattle.sheets.specs.Trees.{Num, Expr, Exprs, word_expr, num_expr, form_expr, nil, ◌▸◌, Line, Head, Sheet}
use Rattle.sheets.specs.Grammar.{Letter, Digit, Each, IsWord, IsNum, sign, point, print_num, print, print_args, IsExpr, AreArgs, ended, IsEnded, head_bracket, print_head, line_bracket, print_line, IsLine, print_lines, AreLines, after, print_sheet, IsSheet, Written, FirstBad, at_head, at_line, at_97}
use Rattle.sheets.specs.LineNumbers.{count_lf, line_number}
use Rattle.sheets.specs.code.reader.Reader.{got, read_line, read_head}
use Rattle.sheets.proofs.reader.Spans.{Spans, spans-drop, holds_at}
use Rattle.sheets.proofs.reader.CodeLaws.{word-chars}
use Rattle.sheets.proofs.reader.LineLaws.{HeadStands, head-sound, LineStands, line-sound}

infixr 20 ◌also◌
pub count-append : (a b : List ℕ) → count_lf (a ++ b) ≡ count_lf a + count_lf b
unfolding count_lf
count-append [] b = omega arith
count-append (c ∷ a) b = omega (arith, count-append a b)

-- ---- texts without LF
pub record NoLF (s : List ℕ) : Type 0 where
  pub zero_lf : count_lf s ≡ 0

pub ◌also◌ : {a b : List ℕ} → NoLF a → NoLF b → NoLF (a ++ b)
◌also◌ {a} {b} p q = record { zero_lf = count-append a b ∙ omega (arith, p.zero_lf, q.zero_lf) }

pub text : (t : String) → count_lf (ascii t) ≡ 0 → NoLF (ascii t)
text t e = record { zero_lf = e }

pub each_none : (P : ℕ → Type 0) → ((b : ℕ) → P b → b ≡ 10 → ⊥) → (s : List ℕ) → Each P s → NoLF s
unfolding count_lf
each_none P f [] h = record { zero_lf = refl }
each_none P f (b ∷ s) h = record { zero_lf = rw (ne_eqb b 10 (f b h.0)) (omega (arith, (each_none P f s h.1).zero_lf)) }

pub word_none : (w : Word) → IsWord w → NoLF w
word_none w h = each_none (λ b. Letter b ⊎ Digit b) other w (word-chars w h)
  where
    other : (b : ℕ) → Letter b ⊎ Digit b → b ≡ 10 → ⊥
    other b (inl h) e = omega arith
    other b (inr h) e = omega arith

digits-none : (ds : List ℕ) → Each Digit ds → NoLF ds
digits-none ds h = each_none Digit (λ b h e. omega arith) ds h

pub num-none : (q : Num) → IsNum q → NoLF (print_num q)
unfolding count_lf
num-none q h = signed q.minus also (digits-none q.whole h.0 also pointed q.part h.3)
  where
    signed : (m : Bool) → NoLF (sign m)
    signed true = text "-" refl
    signed false = text "" refl

    pointed : (t : List ℕ) → Each Digit t → NoLF (point t)
    pointed [] h = text "" refl
    pointed (c ∷ t) h = text "." refl also digits-none (c ∷ t) h

mutual
  unfolding count_lf

  expr-none : (d : ℕ) (x : Expr) → IsExpr d x → NoLF (print x)
  expr-none d (word_expr w) h = word_none w h
  expr-none d (num_expr q) h = num-none q h
  expr-none zero (form_expr w xs) h = absurd h
  expr-none (suc d) (form_expr w xs) h = text "(" refl also word_none w h.0 also args_none d 5 xs h.1

  args_none : (d k : ℕ) (xs : Exprs) → AreArgs d k xs → NoLF (print_args xs)
  args_none d k nil h = text ")" refl
  args_none d zero (x ▸ xs) h = absurd h
  args_none d (suc k) (x ▸ xs) h = text " " refl also expr-none d x h.0 also args_none d k xs h.1

-- ---- a line holds one, its last byte
abbrev pub OneLF : List ℕ → Type 0
OneLF s = (t : List ℕ) × (s ≡ t ⌢ lf) × (count_lf t ≡ 0)

pub one-count : (s : List ℕ) → OneLF s → count_lf s ≡ 1
unfolding count_lf
one-count s h = let (t, e, z) = h in ap count_lf e ∙ count-append t lf ∙ omega (arith, z)

ended-lf : (x : Expr) → IsEnded x → OneLF (ended x)
ended-lf x h = (print x, refl, (expr-none 12 x h.0).zero_lf)

pub line-lf : (l : Line) → IsLine l → OneLF (print_line l)
line-lf l h = ended-lf (line_bracket l) h

-- ---- a sheet holds as many as it has lines
lines-lf : (p : ℕ) (ls : List Line) → AreLines p ls → count_lf (print_lines ls) ≡ length ls
unfolding count_lf
lines-lf p [] h = refl
lines-lf p (l ∷ ls) h = count-append (print_line l) (print_lines ls) ∙ omega (arith, one-count (print_line l) (line-lf l h.0), lines-lf (after p l) ls h.2)

pub sheet-lf : (c : Sheet) → IsSheet c → count_lf (print_sheet c) ≡ length c.lines + 1
sheet-lf c h = count-append (print_head c.head) (print_lines c.lines) ∙ omega (arith, one-count (print_head c.head) (ended-lf (head_bracket c.head) h.0), lines-lf 0 c.lines h.1)

-- ---- what begins behind whole lines has one more for its number than they hold LFs

-- the bytes are whole lines: there are none, or the last is LF
abbrev pub WholeLines : List ℕ → Type 0
WholeLines t = (t ≡ []) ⊎ ((u : List ℕ) × (t ≡ u ⌢ lf))

-- the bytes s have a line j, whatever it says: a byte stands at a place, whole lines before it, and j is one more than their LFs
abbrev pub HasLine : List ℕ → ℕ → Type 0
HasLine s j = (at : ℕ) × (at < length s) × WholeLines (take at s) × (j ≡ line_number s at)

pub begins : (s t : List ℕ) (b : ℕ) (r : List ℕ) → s ≡ t ++ (b ∷ r) → WholeLines t → HasLine s (count_lf t + 1)
begins s t b r e w =
    let n : length s ≡ length t + suc (length r) = ap length e ∙ length-append t (b ∷ r) in
    let f : take (length t) s ≡ t = ap (take (length t)) e ∙ take-append_seam t (b ∷ r) in
    (length t, omega arith, subst WholeLines (sym f) w, ap (λ z. count_lf z + 1) (sym f))

ends-lf : (u : List ℕ) (p : ℕ) (ls : List Line) → AreLines p ls → (v : List ℕ) × ((u ⌢ lf) ++ print_lines ls ≡ v ⌢ lf)
ends-lf u p [] h = (u, append-nil (u ⌢ lf))
ends-lf u p (l ∷ ls) h =
    let (t, e, z) = line-lf l h.0 in
    let (v, g) = ends-lf ((u ⌢ lf) ++ t) (after p l) ls h.2 in
    (v, sym (append_assoc (u ⌢ lf) (print_line l) (print_lines ls)) ∙ ap (λ x. ((u ⌢ lf) ++ x) ++ print_lines ls) e ∙ ap (λ x. x ++ print_lines ls) (sym (append_assoc (u ⌢ lf) t lf)) ∙ g)

sheet-ends : (c : Sheet) → IsSheet c → WholeLines (print_sheet c)
sheet-ends c h =
    let (t, e, z) = ended-lf (head_bracket c.head) h.0 in
    let (v, g) = ends-lf t 0 c.lines h.1 in
    inr (v, ap (λ x. x ++ print_lines c.lines) e ∙ g)

-- ---- the lines of a sheet

-- the bytes of the first k lines, so that line k + 1 begins after them
unfoldable pub first_lines : ℕ → Sheet → List ℕ
first_lines zero c = []
first_lines (suc k) c = print_head c.head ⌢ print_lines (take k c.lines)

lines-take : (p k : ℕ) (ls : List Line) → AreLines p ls → AreLines p (take k ls)
lines-take p zero ls h = tt
lines-take p (suc k) [] h = tt
lines-take p (suc k) (l ∷ ls) h = (h.0, h.1, lines-take (after p l) k ls h.2)

lines_split : (k : ℕ) (ls : List Line) → print_lines ls ≡ print_lines (take k ls) ++ print_lines (drop k ls)
lines_split zero ls = refl
lines_split (suc k) [] = refl
lines_split (suc k) (l ∷ ls) = ap (λ t. print_line l ++ t) (lines_split k ls) ∙ sym (append_assoc (print_line l) (print_lines (take k ls)) (print_lines (drop k ls)))

module _ (s : List ℕ) (c : Sheet) (h : Written s c) where
  -- the first lines are a sheet
  module _ (k : ℕ) where
    abbrev firsts : Sheet
    firsts = record { head = c.head; lines = take k c.lines }

    are-sheet : k ≤ length c.lines → IsSheet firsts
    are-sheet le = let n : length (take k c.lines) ≡ k = length-take-le k c.lines le in (h.1.0, lines-take 0 k c.lines h.1.1, omega (arith, h.1.2))

    split : s ≡ print_sheet firsts ++ print_lines (drop k c.lines)
    split = h.0 ∙ ap (λ t. print_head c.head ++ t) (lines_split k c.lines) ∙ sym (append_assoc (print_head c.head) (print_lines (take k c.lines)) (print_lines (drop k c.lines)))

  -- the bytes before line k + 1 are the first k lines
  pub line-begins : (k : ℕ) → take (length (first_lines k c)) s ≡ first_lines k c
  unfolding first_lines
  line-begins zero = refl
  line-begins (suc k) = ap (take (length (first_lines (suc k) c))) (split k) ∙ take-append_seam (first_lines (suc k) c) (print_lines (drop k c.lines))

  first-lf : (k : ℕ) → k ≤ length c.lines + 1 → count_lf (first_lines k c) ≡ k
  unfolding first_lines count_lf
  first-lf zero le = refl
  first-lf (suc k) le = let n : length (take k c.lines) ≡ k = length-take-le k c.lines (omega arith) in sheet-lf (firsts k) (are-sheet k (omega arith)) ∙ omega arith

  -- and k LFs stand among them: a line's number is one more than the LFs before it
  pub line-number : (k : ℕ) → k ≤ length c.lines + 1 → line_number s (length (first_lines k c)) ≡ k + 1
  line-number k le = ap (λ t. count_lf t + 1) (line-begins k) ∙ ap (λ n. n + 1) (first-lf k le)

-- ---- the first bad line: the bytes before it are whole lines, and hold one LF less
first-there : (s : List ℕ) → 0 < length s → HasLine s 1
unfolding count_lf
first-there [] n = absurd (omega arith)
first-there (b ∷ s) n = begins (b ∷ s) [] b s refl (inl refl)

pub bad-number : (s : List ℕ) (j : ℕ) → 0 < length s → FirstBad s j → HasLine s j
bad-number s j n (at_head h) = first-there s n
bad-number s j n (at_line c b r e h w) = subst (HasLine s) (omega (arith, sheet-lf c h)) (begins s (print_sheet c) b r e (sheet-ends c h))
bad-number s j n (at_97 c b r e h l) = subst (HasLine s) (omega (arith, sheet-lf c h, l)) (begins s (print_sheet c) b r e (sheet-ends c h))

-- ---- from each line to the next, as the reader goes: what every loop over lines steps its number by
spans-count : (s x : List ℕ) (at n : ℕ) → Spans s x at n → n ≤ length s → count_lf (take n s) ≡ count_lf (take at s) + count_lf x
spans-count s x at n p h =
    let a : count_lf (take at s) + count_lf (drop at s) ≡ count_lf s = sym (count-append (take at s) (drop at s)) ∙ ap count_lf (take-append-drop at s) in
    let b : count_lf (take n s) + count_lf (drop n s) ≡ count_lf s = sym (count-append (take n s) (drop n s)) ∙ ap count_lf (take-append-drop n s) in
    let d : count_lf (drop at s) ≡ count_lf x + count_lf (drop n s) = ap count_lf (spans-drop s x at n p h) ∙ count-append x (drop n s) in
    omega arith

pub one_further : (s x : List ℕ) (at n : ℕ) → Spans s x at n → n ≤ length s → OneLF x → (i : ℕ) → i ≡ line_number s at → i + 1 ≡ line_number s n
one_further s x at n p h o i e = omega (arith, e, spans-count s x at n p h, one-count x o)

pub number-next : (s : List ℕ) (l : Line) (at n : ℕ) → read_line s at ≡ got l n → (i : ℕ) → i ≡ line_number s at → i + 1 ≡ line_number s n
number-next s l at n e =
    let p = holds_at (LineStands s at) (read_line s at) l n (line-sound s at) e in
    one_further s (print_line l) at n p.0 p.2 (line-lf l p.1)

pub number-two : (s : List ℕ) (h : Head) (n : ℕ) → read_head s ≡ got h n → 2 ≡ line_number s n
unfolding count_lf
number-two s h n e =
    let p = holds_at (HeadStands s) (read_head s) h n (head-sound s) e in
    one_further s (print_head h) 0 n p.0 p.2 (ended-lf (head_bracket h) p.1) 1 refl
