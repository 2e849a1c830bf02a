-- The check's walk passes a sheet's lines exactly where the rules admit them, with their kind codes. Assumes nothing.
use mathlib.Core.Path.{◌≡◌, refl, sym, ap, ap₂, ◌∙◌, subst}
use mathlib.Core.List.{List, [], ◌∷◌, ◌++◌, append_assoc, append-nil}
use mathlib.Core.Option.{Option, none, some}
use mathlib.Core.Bool.{Bool, true, false, ◌||◌}
use Prim.Native.Nat.{ℕ, suc}
use Rattle.sheets.specs.Trees.{Line, let_line, show_line, total_line, Sheet, numbered, apart_line}
use Rattle.sheets.specs.Kinds.{Kind, kind_code}
use Rattle.sheets.specs.Table.{table}
use Rattle.sheets.specs.Lookup.{opens}
use Rattle.sheets.specs.Names.{Known, lookup, knows, given_on}
use Rattle.sheets.specs.Scopes.{Scope, with_name, give_if, give}
use Rattle.sheets.specs.Refusals.{name, Checked, fine, bad, thenᶜ, known?}
use Rattle.sheets.specs.Check.{kind_of_expr, Stateᶜ, lineᶜ, noted, stepᶜ, Walked, passes, refuses, onwardᶜ, stepsᶜ, reading_kinds, startᶜ, walk}
use Rattle.sheets.specs.Admitted.{HasKind, LineFits, LinesFit}
use Rattle.sheets.proofs.check.KindExact.{kind-exact}

-- ---- a line

-- a line that is passed fits
abbrev pub Leaves : ℕ → Scope Kind → Line → Checked (ℕ × Scope Kind) → Type 0
Leaves i c l (fine p) = LineFits i c.known l p.1.known p.0
Leaves i c l (bad f) = Unit {0}

pub leaves : (i : ℕ) (c : Scope Kind) (l : Line) → Leaves i c l (lineᶜ i c l)
unfolding lineᶜ
leaves i c (let_line w x) = go (kind_of_expr x c.known) (λ k e. (kind-exact x c.known k).0 e)
  where
    next : (k : Kind) → HasKind x c.known k → (a b : Bool) → opens table w ≡ a → knows w c.known ≡ b → Leaves i c (let_line w x) (thenᶜ (give_if (a || b) (given_on i w k) c) (λ d. fine (kind_code k, d)))
    next k h true b p q = tt
    next k h false true p q = tt
    next k h false false p q = (k, h, p, q, refl, refl)

    go : (o : Checked Kind) → ((k : Kind) → o ≡ fine k → HasKind x c.known k) → Leaves i c (let_line w x) (thenᶜ o (λ k. thenᶜ (give (given_on i w k) c) (λ d. fine (kind_code k, d))))
    go (bad f) h = tt
    go (fine k) h = next k (h k refl) (opens table w) (knows w c.known) refl refl
leaves i c (show_line w) = go (lookup w c.known) refl
  where
    go : (o : Option Kind) → lookup w c.known ≡ o → Leaves i c (show_line w) (thenᶜ (known? name o) (λ k. fine (kind_code k, c)))
    go none e = tt
    go (some k) e = (k, e, refl, refl)
leaves i c total_line = (refl, refl)
leaves i c (apart_line q) = (refl, refl)

-- and one that fits is passed
takes : (i : ℕ) (c : Scope Kind) (l : Line) (js : Known Kind) (n : ℕ) → LineFits i c.known l js n → (d : Scope Kind) × (lineᶜ i c l ≡ fine (n, d)) × (d.known ≡ js)
unfolding lineᶜ
takes i c (let_line w x) js n (k, has, free, new, e, en) = (
  with_name (given_on i w k) c,
  ap (λ o. thenᶜ o (λ j. thenᶜ (give (given_on i w j) c) (λ d. fine (kind_code j, d)))) ((kind-exact x c.known k).1 has)
      ∙ ap (λ b. thenᶜ (give_if b (given_on i w k) c) (λ d. fine (kind_code k, d))) (ap₂ (λ a b. a || b) free new)
      ∙ ap (λ (m : ℕ). fine (m, with_name (given_on i w k) c)) en,
  e,
)
takes i c (show_line w) js n (k, has, e, en) = (
  c,
  ap (λ o. thenᶜ (known? name o) (λ j. fine (kind_code j, c))) has ∙ ap (λ (m : ℕ). fine (m, c)) en,
  e,
)
takes i c total_line js n (e, en) = (c, ap (λ (m : ℕ). fine (m, c)) en, e)
takes i c (apart_line q) js n (e, en) = (c, ap (λ (m : ℕ). fine (m, c)) en, e)

-- ---- lines: what passes is admitted

abbrev Passing : ℕ → Stateᶜ → List Line → Walked → Type 0
Passing i s xs (passes all) = (cs : List ℕ) × (all ≡ s.codes ++ cs) × LinesFit i s.scope.known xs cs
Passing i s xs (refuses f j) = Unit {0}

passing : (xs : List Line) (i : ℕ) (s : Stateᶜ) → Passing i s xs (stepsᶜ (numbered i xs) s)
unfolding stepsᶜ stepᶜ
passing [] i s = ([], sym (append-nil s.codes), refl)
passing (l ∷ xs) i s = go (λ t. passing xs (suc i) t) (lineᶜ i s.scope l) (leaves i s.scope l)
  where
    next : (p : ℕ × Scope Kind) → Leaves i s.scope l (fine p) → (o : Walked) → Passing (suc i) (noted s p) xs o → Passing i s (l ∷ xs) o
    next p f (passes all) (cs, e, h) = (p.0 ∷ cs, e ∙ append_assoc s.codes (p.0 ∷ []) cs, (p.1.known, p.0, cs, f, h, refl))
    next p f (refuses g j) h = tt

    go : ((t : Stateᶜ) → Passing (suc i) t xs (stepsᶜ (numbered (suc i) xs) t)) → (o : Checked (ℕ × Scope Kind)) → Leaves i s.scope l o
        → Passing i s (l ∷ xs) (onwardᶜ (thenᶜ o (λ p. fine (noted s p))) i (λ t. stepsᶜ (numbered (suc i) xs) t))
    go rest (bad f) h = tt
    go rest (fine p) h = next p h (stepsᶜ (numbered (suc i) xs) (noted s p)) (rest (noted s p))

-- ---- what is admitted passes

admitted-passes : (xs : List Line) (i : ℕ) (s : Stateᶜ) (cs : List ℕ) → LinesFit i s.scope.known xs cs → stepsᶜ (numbered i xs) s ≡ passes (s.codes ++ cs)
unfolding stepsᶜ stepᶜ
admitted-passes [] i s cs h = ap passes (sym (append-nil s.codes) ∙ ap (λ (ds : List ℕ). s.codes ++ ds) h)
admitted-passes (l ∷ xs) i s cs (js, n, ds, f, rest, e) =
    let (d, ed, ek) = takes i s.scope l js n f in
    ap (λ o. onwardᶜ (thenᶜ o (λ p. fine (noted s p))) i (λ t. stepsᶜ (numbered (suc i) xs) t)) ed
    ∙ admitted-passes xs (suc i) (noted s (n, d)) ds (subst (λ ks. LinesFit (suc i) ks xs ds) (sym ek) rest)
    ∙ ap passes (append_assoc s.codes (n ∷ []) ds ∙ ap (λ (ms : List ℕ). s.codes ++ ms) e)

-- ---- a whole sheet

pub walk-passes : (c : Sheet) (cs : List ℕ) → walk c ≡ passes cs → LinesFit 2 reading_kinds c.lines cs
unfolding walk
walk-passes c cs e =
    let p = subst (Passing 2 startᶜ c.lines) e (passing c.lines 2 startᶜ) in
    subst (LinesFit 2 reading_kinds c.lines) (sym p.1) p.2

pub walk-admits : (c : Sheet) (cs : List ℕ) → LinesFit 2 reading_kinds c.lines cs → walk c ≡ passes cs
unfolding walk
walk-admits c cs h = admitted-passes c.lines 2 startᶜ cs h
