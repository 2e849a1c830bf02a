-- The row by the key that its arguments' kinds made: the row over those kinds, and none for a key that no row has. Assumes nothing.
use Rattle.std.specs.Prelude.{Err}
use Prim.Native.Nat.{ℕ}
use native.Mathlib.Omega.{arith}
use mathlib.Core.Path.{◌≡◌, refl, sym, ap, subst, ◌∙◌}
use mathlib.Core.List.{List, [], map}
use mathlib.Core.Option.{Option as Maybe, none, some}
use lib.Dec.{T}
use lib.Ieee.{Float}
use types.Run.{OneOf}
use Rattle.std.specs.Prelude.{None}
use Rattle.frames.specs.declared.Ellipsoid.{Ellipsoid}
use Rattle.frames.specs.declared.Orientation.{Orientation}
use Rattle.sheets.specs.declared.Halt.{Halt}
use Rattle.sheets.specs.Kinds.{Kind}
use Rattle.sheets.specs.Table.{table}
use Rattle.sheets.specs.Lookup.{Hit, find, kind_rows, find_kind}
use Rattle.sheets.specs.Machine.{apply_row}
use Rattle.sheets.specs.Claim.{All}
use Rattle.sheets.specs.code.rows.KindCodes.{key_of, code_if, Missed}
use Rattle.sheets.specs.code.run.Floats.{values_at}
use Rattle.sheets.specs.code.run.Evaluating.{Evaluated, Answers, RowLaid, ForKinds}
use Rattle.sheets.proofs.rows.FindKind.{given, mapped, find-kind}
use Rattle.sheets.proofs.rows.KindRowLaws.{key-same, row-kind, all_among, no_key}
use Rattle.sheets.proofs.run.FloatLaws.{kinds-of-at}
use Rattle.sheets.proofs.run.LaidSteps.{answers-none}
use Rattle.sheets.proofs.run.ArmSteps.{named}

found_none : (o : Maybe Hit) → None ≡ code_if (mapped given o) → o ≡ none
found_none none h = refl
found_none (some x) h = let z : ◌≡◌ {A = ℕ} 0 1 = cc in absurd (omega arith)

module _ {e : Ellipsoid} {code key : ℕ} {f : List Float} {at : ℕ} where
  -- an arm: the kinds js have the key
  pub by-kinds : (js : List Kind) {q : Evaluated} {f' : List Float} → key ≡ key_of js → RowLaid e code js f at q f' → ForKinds e code key f at q f'
  by-kinds js {q} {f'} k r = record { is = λ ks h. subst (λ z. RowLaid e code z f at q f') (sym (key-same ks js (h ∙ k))) r }

  -- an arm of several orientations: o is that of the key
  pub by-orientation : (kinds : Orientation → List Kind) (back : ℕ → Orientation) (us : List Orientation) → All (λ u. back (key_of (kinds u)) ≡ u) us → {o : Orientation} → OneOf (map (λ u. key_of (kinds u)) us) key → o ≡ back key
      → {q : Evaluated} {f' : List Float} → RowLaid e code (kinds o) f at q f' → ForKinds e code key f at q f'
  by-orientation kinds back us t {o} m h r = by-kinds (kinds o) (named (λ u. key_of (kinds u)) back us t m h) r

  -- the last arm: no row has the key
  pub no-kinds : (js ks : List ℕ) → T (all_among (λ p. key_of p.takes) (kind_rows table) js ks) → Missed js key → Missed ks key → ForKinds e code key f at (Err Halt.Sticks) f
  no-kinds js ks t mj mk = record {
    is = λ zs k. record {
      is = λ lf w hw c.
          let r = row-kind code key None (no_key js ks t code key mj mk) w hw c zs k in
          let s = find-kind table w (values_at zs f at) ∙ ap (find_kind table w) (kinds-of-at zs f at) in
          subst (λ o. Answers (apply_row e o) at f (Err Halt.Sticks) f) (sym (found_none (find table w (values_at zs f at)) (r ∙ ap code_if (sym s)))) (answers-none at f []);
    };
  }
