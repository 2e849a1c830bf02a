-- The pieces of the run over the lines: a law for each way out of `put_readings` and `let_value`. Assumes nothing.
use Rattle.std.specs.Prelude.{Option, Some, None, Result, Ok, Err}
use Rattle.std.specs.Option.{ok_or}
use Prim.Native.Nat.{ℕ, ◌+◌, ◌-◌, ◌<◌, ◌≤◌}
use native.Mathlib.Omega.{arith}
use mathlib.Core.Path.{◌≡◌, refl, sym, ap, subst, ◌∙◌}
use mathlib.Core.Bool.{Bool, true, false}
use mathlib.Core.List.{List, ◌++◌}
use lib.Dec.{ltb}
use lib.ListN.{length, get_or, take, drop, replicate, length-append, length-drop, length-replicate, get_or-replicate, get_or-eq_default, get_or-append}
use lib.Seq.{length-take-le}
use Rattle.std.proofs.lemmas.List.{get_or-take, get_or-drop, get_or-append_right}
use lib.Ieee.{Float, nan}
use borrow.Author.Tests.{ltb-true, ltb-false}
use Rattle.numbers.specs.Ops.{num}
use Rattle.frames.specs.declared.Ellipsoid.{Ellipsoid}
use Rattle.sheets.specs.declared.Value.{Value}
use Rattle.sheets.specs.declared.Halt.{Halt}
use Rattle.sheets.specs.Trees.{let_line}
use Rattle.sheets.specs.Machine.{Out, eval}
use Rattle.sheets.specs.code.reader.Reader.{read_expr, closing, rest}
use Rattle.sheets.specs.code.reader.Views.{closed}
use Rattle.sheets.specs.code.run.Floats.{float_at}
use Rattle.sheets.specs.declared.check.names.Names.{Names}
use Rattle.sheets.specs.code.run.Evaluating.{Evaluated, Answers, AnswersTo, EvalsWith}
use Rattle.sheets.specs.code.run.Running.{WithReadings, LetWith}
use Rattle.sheets.proofs.reader.Inverse.{then-read, closing-read}
use Rattle.sheets.proofs.run.KnownLaws.{get_or-inside}

-- ---- the readings among the floats

-- the first n of them are stored, which are all or sixteen, where there were only zeros
pub readings-put : (rs f : List Float) (n : ℕ) {x : List Float} → n ≤ 16 → n ≤ length rs → ((j : ℕ) → n ≤ j → j < 16 → length rs ≤ j) → x ≡ take n rs → WithReadings rs f (x ++ drop n f)
readings-put rs f n {x} few inside all ex = record { is = λ e. (size e, λ j h. go e j h (ltb j n) refl) }
  where
    l : length x ≡ n
    l = ap length ex ∙ length-take-le n rs inside

    size : f ≡ replicate 2940 (num 0) → length (x ++ drop n f) ≡ 2940
    size e = omega (arith, length-append x (drop n f), length-drop n f, ap length e, length-replicate 2940 (num 0), l, few)

    go : f ≡ replicate 2940 (num 0) → (j : ℕ) → j < 16 → (b : Bool) → ltb j n ≡ b → float_at (x ++ drop n f) j ≡ get_or rs j (num 0)
    go e j h true q =
        let i : j < n = ltb-true j n q in
        get_or-append x (drop n f) nan j (omega (arith, l)) ∙ ap (λ y. get_or y j nan) ex ∙ get_or-take n rs j nan i ∙ get_or-inside rs j nan (num 0) (omega (arith, inside))
    go e j h false q =
        let i : n ≤ j = ltb-false j n q in
        get_or-append_right x (drop n f) n j nan l i
        ∙ get_or-drop n f (j - n) nan
        ∙ ap (λ y. float_at y (n + (j - n))) e
        ∙ get_or-replicate 2940 (n + (j - n)) (num 0) nan (omega arith)
        ∙ sym (get_or-eq_default rs (num 0) (all j i h))

-- ---- a value, or none

pub same-ok : {j k : ℕ} → ◌≡◌ {A = Evaluated} (Ok j) (Ok k) → j ≡ k
same-ok e = cc

pub not-ok : {C : Type 0} (h : Halt) (k : ℕ) → ◌≡◌ {A = Evaluated} (Err h) (Ok k) → C
not-ok h k e = let z : ◌≡◌ {A = ℕ} 0 1 = cc in absurd (omega arith)

-- a place that may be lacking, where the machine sticks without it
pub or-stuck : (c : Option ℕ) (r : Result ℕ Halt) → r ≡ ok_or c Halt.Sticks → (i : Halt) → r ≡ Err i → c ≡ None
or-stuck None r e i ei = refl
or-stuck (Some n) r e i ei = let z : ◌≡◌ {A = ℕ} 0 1 = cc in absurd (omega arith)

pub or-place : (c : Option ℕ) (r : Result ℕ Halt) → r ≡ ok_or c Halt.Sticks → (n : ℕ) → r ≡ Ok n → c ≡ Some n
or-place None r e n en = let z : ◌≡◌ {A = ℕ} 0 1 = cc in absurd (omega arith)
or-place (Some m) r e n en = let i : m ≡ n = cc in ap (λ z. Some z) i

-- ---- what is left of a let

module _ (s : List ℕ) (at : ℕ) (e : Ellipsoid) (names : Names) (f : List Float) (top : ℕ) (r : Evaluated) (end : ℕ) (g : List Float) (h : EvalsWith s at 11 e names f top r end g) where
  let_by : (q : Evaluated) (next : ℕ) → ((o : Out Value) (j n : ℕ) → AnswersTo o j top f r end g → closed s j ≡ Some n → AnswersTo o n top f q next g) → LetWith s at e names f top q next g
  unfolding rest
  let_by q next k = record {
    is = λ ps rd w l n er.
        let (x, j, ex, ez) = then-read (read_expr 11 s at) (λ x m. closing (let_line w x) s m) l n er in
        let (el, et) = closing-read (let_line w x) l s j n ez in
        (x, el, k (eval x e ps) j n ((h.is ps rd).is x j ex) et);
  }

  pub let-not : (i : Halt) → r ≡ Err i → (next : ℕ) → LetWith s at e names f top (Err i) next g
  let-not i ei next = let_by (Err i) next (λ o j n a et. record { answers = subst (λ z. Answers o top f z g) ei a.answers; ends = λ k ek. not-ok i k ek })

  module _ (kind : ℕ) (er : r ≡ Ok kind) (c : Option ℕ) (ec : c ≡ closed s end) where
    ended : (o : Out Value) (j n : ℕ) → AnswersTo o j top f r end g → closed s j ≡ Some n → c ≡ Some n
    ended o j n a et = ec ∙ ap (closed s) (a.ends kind er) ∙ et

    pub let-is : (next : ℕ) → c ≡ Some next → LetWith s at e names f top (Ok kind) next g
    let-is next en = let_by (Ok kind) next (λ o j n a et.
        let i : ◌≡◌ {A = Option ℕ} (Some next) (Some n) = sym en ∙ ended o j n a et in
        record { answers = subst (λ z. Answers o top f z g) er a.answers; ends = λ k ek. cc })

    pub let-unended : c ≡ None → (q : Evaluated) (next : ℕ) → LetWith s at e names f top q next g
    let-unended en q next = let_by q next (λ o j n a et.
        let i : ◌≡◌ {A = Option ℕ} None (Some n) = sym en ∙ ended o j n a et in
        let z : ◌≡◌ {A = ℕ} 0 1 = cc in absurd (omega arith))
