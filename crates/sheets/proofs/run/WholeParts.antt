-- A line that is read whole: a law for each way out of `named`, `tested_line`, `show_value`, `show` and `whole_line`. Assumes nothing.
use Rattle.std.specs.Prelude.{Result, Ok, Err}
use Prim.Native.Nat.{ℕ, ◌<◌, ◌≤◌}
use native.Mathlib.Omega.{arith}
use mathlib.Core.Path.{◌≡◌, refl, ap, subst}
use mathlib.Core.Bool.{Bool, true, false}
use mathlib.Core.Option.{some}
use mathlib.Core.List.{List, [], ◌∷◌}
use lib.Ieee.{Float}
use types.Run.{OneOf, miss}
use denote.Enum.Declared.{tag_of}
use borrow.Author.Tests.{eq-eqb, ne_eqb, le-leb, lt-leb}
use Rattle.sheets.specs.declared.Value.{Value}
use Rattle.sheets.specs.declared.Value.TheVariants.{Number}
use Rattle.sheets.specs.declared.reader.lines.NameAt.{NameAt}
use Rattle.sheets.specs.declared.reader.lines.WholeLine.{WholeLine}
use Rattle.sheets.specs.declared.refusals.Refusal.{Refusal as Code}
use Rattle.sheets.specs.declared.Halt.{Halt}
use Rattle.sheets.specs.declared.run.shown.Shown.{Shown}
use Rattle.sheets.specs.Letters.{𝐥, 𝐠, held}
use Rattle.sheets.specs.Limits.{in_limit}
use Rattle.sheets.specs.Entries.{plus}
use Rattle.sheets.specs.Machine.{goes, met}
use Rattle.sheets.specs.code.run.Floats.{float_at}
use Rattle.sheets.specs.code.run.Known.{reading_index, found_at}
use Rattle.sheets.specs.code.run.Writing.{Written, line_if, room}
use Rattle.sheets.specs.code.run.Keeping.{keep}
use Rattle.sheets.specs.code.run.Apart.{apart_answer}
use Rattle.sheets.specs.code.run.Evaluating.{evaluated}
use Rattle.sheets.specs.code.run.Wholes.{Names, TestedIf, TestedLine, KeptIf, ShownIf, ShownAs, TotalLine, Does, LineDoes}
use Rattle.sheets.specs.contracts.reader.lines.WholeLine as wholes

-- ---- the word of a show

pub names-show : (line : WholeLine) (name : NameAt) → line ≡ WholeLine.Show name → Names line name.code
names-show line name e = record { is = λ other o. let i : name ≡ other = cc in ap (λ (z : NameAt). z.code) i }

pub names-other : (line : WholeLine) (c : ℕ) → OneOf (1 ∷ 2 ∷ []) (tag_of wholes.the_type line) → Names line c
names-other line c h = record { is = λ name o. absurd (miss (1 ∷ 2 ∷ []) 0 tt (subst (λ line. OneOf (1 ∷ 2 ∷ []) (tag_of wholes.the_type line)) o h)) }

-- ---- a tested line

module _ (s : List ℕ) (from end : ℕ) (v : Value) (out : List ℕ) (written : ℕ) where
  abbrev LineAt : List ℕ → ℕ → Type 0
  LineAt d m = Written out written (line_if (room s from end out written) s from end v) d m

  module _ (b : Bool) (eb : b ≡ in_limit v) where
    pub tested-out : b ≡ false → TestedLine s from end v out written (Err (Halt.Refused Code.Limit)) out
    unfolding TestedIf
    tested-out h = record { is = rw (← eb, h) (refl, refl) }

    pub tested-in : b ≡ true → (m : ℕ) (d : List ℕ) → LineAt d m → TestedLine s from end v out written (Ok m) d
    unfolding TestedIf
    tested-in h m d w = record { is = rw (← eb, h) (m, refl, w) }

  module _ (r : Result ℕ Halt) (d : List ℕ) (h : TestedLine s from end v out written r d) where
    pub tested-not : (i : Halt) → r ≡ Err i → (Err i ≡ evaluated (met v)) × (d ≡ out) × (in_limit v ≡ false)
    unfolding TestedIf evaluated
    tested-not i ei = go (in_limit v) refl h.is
      where
        go : (b : Bool) → in_limit v ≡ b → TestedIf b s from end v out written r d → (Err i ≡ evaluated (met v)) × (d ≡ out) × (in_limit v ≡ false)
        go true e (m, er, w) = let z : ◌≡◌ {A = ℕ} 0 1 = cc in absurd (omega arith)
        go false e (er, ed) = let same : i ≡ Halt.Refused Code.Limit = cc in rw e (ap (λ z. Err z) same, ed, refl)

    pub tested-is : (m : ℕ) → r ≡ Ok m → (met v ≡ goes [] v) × (in_limit v ≡ true) × LineAt d m
    unfolding TestedIf
    tested-is m e = go (in_limit v) refl h.is
      where
        go : (b : Bool) → in_limit v ≡ b → TestedIf b s from end v out written r d → (met v ≡ goes [] v) × (in_limit v ≡ true) × LineAt d m
        go true eb (n, er, w) = let i : n ≡ m = cc in rw eb (refl, refl, subst (LineAt d) i w)
        go false eb (er, ed) = let z : ◌≡◌ {A = ℕ} 0 1 = cc in absurd (omega arith)

-- ---- a show

module _ (s : List ℕ) (name : NameAt) (v : Value) (j : ℕ) (k : Shown) (out : List ℕ) (written : ℕ) (r : Result ℕ Halt) (d : List ℕ) (h : TestedLine s name.from name.end v out written r d) where
  pub show-out : (i : Halt) → r ≡ Err i → ShownAs s name (some v) j k out written (Err i) k d
  unfolding ShownIf KeptIf
  show-out i e = record { is = (subst (λ r. TestedLine s name.from name.end v out written r d) e h, rw (tested-not s name.from name.end v out written r d h i e).2 refl) }

  pub show-in : (m : ℕ) → r ≡ Ok m → (k' : Shown) → k'.places ≡ keep k.places j (held 𝐠 v) → k'.sum ≡ plus k.sum (held 𝐥 v) → ShownAs s name (some v) j k out written (Ok m) k' d
  unfolding ShownIf KeptIf
  show-in m e k' ep es = record { is = (subst (λ r. TestedLine s name.from name.end v out written r d) e h, rw (tested-is s name.from name.end v out written r d h m e).1 (ep, es)) }

-- by the word's place
module _ (s : List ℕ) (name : NameAt) (v : Value) (f : List Float) (j : ℕ) (k : Shown) (out : List ℕ) (written : ℕ) where
  module _ (z : j ≡ 0) (i : ℕ) (ei : i ≡ reading_index name.code) where
    pub show-unknown : 16 ≤ i → ShownAs s name (found_at v f name.code j) j k out written (Err Halt.Sticks) k out
    unfolding found_at ShownIf
    show-unknown h = rw (eq-eqb j 0 z, ← ei, le-leb 16 i h) (record { is = (refl, refl, refl) })

    pub show-reading : i < 16 → (u : Value) → u ≡ Number (float_at f i) → (r : Result ℕ Halt) (k' : Shown) (d : List ℕ) → ShownAs s name (some u) j k out written r k' d → ShownAs s name (found_at v f name.code j) j k out written r k' d
    unfolding found_at
    show-reading h u eu r k' d g = rw (eq-eqb j 0 z, ← ei, lt-leb 16 i h, ← eu) g

  pub show-name : (j ≡ 0 → ⊥) → (u : Value) → u ≡ v → (r : Result ℕ Halt) (k' : Shown) (d : List ℕ) → ShownAs s name (some u) j k out written r k' d → ShownAs s name (found_at v f name.code j) j k out written r k' d
  unfolding found_at
  show-name z u eu r k' d h = rw (ne_eqb j 0 z, ← eu) h

-- ---- a line by its form

module _ (s : List ℕ) (line : WholeLine) (j : ℕ) (v : Value) (f : List Float) (k : Shown) (out : List ℕ) (written : ℕ) (r : Result ℕ Halt) (k' : Shown) (d : List ℕ) where
  pub does-show : (name : NameAt) → line ≡ WholeLine.Show name → ShownAs s name (found_at v f name.code j) j k out written r k' d → LineDoes s line j v f k out written r k' d
  unfolding Does
  does-show name e h = rw e (record { is = h })

  pub does-total : line ≡ WholeLine.Total → TotalLine k.sum out written r d → k' ≡ k → LineDoes s line j v f k out written r k' d
  unfolding Does
  does-total e h ek = rw e (record { is = (h, ek) })

  pub does-apart : (x : Float) → line ≡ WholeLine.Apart x → r ≡ apart_answer x f k.places written → k' ≡ k → d ≡ out → LineDoes s line j v f k out written r k' d
  unfolding Does
  does-apart x e er ek ed = rw e (record { is = (er, ek, ed) })
