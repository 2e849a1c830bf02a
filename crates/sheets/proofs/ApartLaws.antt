-- Names that stand apart, by pairs: every two of the g values shown are clear of each other, or some two are not. Assumes nothing.
use mathlib.Core.Path.{◌≡◌, refl, sym, ap, ap₂, ◌∙◌}
use mathlib.Core.Logic.{inl, inr}
use mathlib.Core.List.{List, [], ◌∷◌, ◌++◌}
use mathlib.Core.Option.{Option, none, some}
use mathlib.Core.Bool.{Bool, true, false, ◌||◌, true≢false}
use Prim.Native.Nat.{ℕ}
use native.Mathlib.Omega.{arith}
use lib.Ieee as Ieee
use lib.Ieee.{Float}
use borrow.Author.Tests.{eq-eqb, ne_eqb}
use Rattle.numbers.proofs.DifferenceLaws.{norm-difference}
use Rattle.frames.specs.Positions.{geocentric_as_metres}
use Rattle.frames.specs.declared.GeocentricPosition.{GeocentricPosition}
use Rattle.sheets.specs.declared.Value.{Value}
use Rattle.sheets.specs.declared.Value.TheVariants.{Geocentric}
use Rattle.sheets.specs.Letters.{𝐠, held}
use Rattle.sheets.specs.Names.{Given}
use Rattle.sheets.specs.Entries.{Entry, shown, summed}
use Rattle.sheets.specs.Aparts.{Fix, fix_then, fixes, distance, clear, clear_of, stand_apart}
use Rattle.sheets.specs.Admitted.{In}
use Rattle.sheets.proofs.run.KnownLaws.{eqb_comm}
use Rattle.sheets.proofs.ByCases.{by_cases}
use Rattle.sheets.proofs.Bools.{and_both, and-some}

-- ---- two positions, in either order

pub distance-comm : (a b : GeocentricPosition) → distance a b ≡ distance b a
unfolding distance
distance-comm a b = norm-difference (geocentric_as_metres a) (geocentric_as_metres b)

clear_comm : (least : Float) (a b : Fix) → clear least a b ≡ clear least b a
clear_comm least a b = ap₂ (λ (s : Bool) (x : Float). s || Ieee.le least x) (eqb_comm a.line b.line) (distance-comm a.position b.position)

-- of one name
clear-one : (least : Float) (a b : Fix) → a.line ≡ b.line → clear least a b ≡ true
clear-one least a b e = ap (λ (s : Bool). s || Ieee.le least (distance a.position b.position)) (eq-eqb a.line b.line e)

-- of two
pub clear-two : (least : Float) (a b : Fix) → ¬ (a.line ≡ b.line) → clear least a b ≡ Ieee.le least (distance a.position b.position)
clear-two least a b n = ap (λ (s : Bool). s || Ieee.le least (distance a.position b.position)) (ne_eqb a.line b.line n)

pub not-clear : (least : Float) (a b : Fix) → clear least a b ≡ false → ¬ (a.line ≡ b.line)
not-clear least a b h e = true≢false (sym (clear-one least a b e) ∙ h)

-- ---- every two, and some two

module _ (least : Float) where
  clear_of_lem : (a : Fix) (fs : List Fix) → clear_of least a fs ≡ true → (b : Fix) → In b fs → clear least a b ≡ true
  clear_of_lem a (c ∷ fs) h b (inl e) = ap (clear least a) e ∙ (and_both (clear least a c) (clear_of least a fs) h).0
  clear_of_lem a (c ∷ fs) h b (inr i) = clear_of_lem a fs (and_both (clear least a c) (clear_of least a fs) h).1 b i
  clear_of_lem a [] h b x'' = elim x'' [ ]

  -- where they stand apart every two are clear of each other, in either order
  pub every_two : (fs : List Fix) → stand_apart least fs ≡ true → (a b : Fix) → In a fs → In b fs → clear least a b ≡ true
  unfolding stand_apart
  every_two (c ∷ fs) h a b (inl e) (inl i) = clear-one least a b (ap (λ (x : Fix). x.line) (e ∙ sym i))
  every_two (c ∷ fs) h a b (inl e) (inr j) = ap (λ x. clear least x b) e ∙ clear_of_lem c fs (and_both (clear_of least c fs) (stand_apart least fs) h).0 b j
  every_two (c ∷ fs) h a b (inr j) (inl e) = clear_comm least a b ∙ ap (λ x. clear least x a) e ∙ clear_of_lem c fs (and_both (clear_of least c fs) (stand_apart least fs) h).0 a j
  every_two (c ∷ fs) h a b (inr i) (inr j) = every_two fs (and_both (clear_of least c fs) (stand_apart least fs) h).1 a b i j
  every_two [] h a b x3 _ = elim x3 [ ]

  some_of : (a : Fix) (fs : List Fix) → clear_of least a fs ≡ false → (b : Fix) × In b fs × (clear least a b ≡ false)
  some_of a [] h = absurd (true≢false h)
  some_of a (c ∷ fs) h = elim (and-some (clear least a c) (clear_of least a fs) h) [
    | inl e ↦ (c, inl refl, e)
    | inr e ↦ let (b, i, k) = some_of a fs e in (b, inr i, k)
  ]

  -- where they do not, some two are not
  pub some-two : (fs : List Fix) → stand_apart least fs ≡ false → (a b : Fix) × In a fs × In b fs × (clear least a b ≡ false)
  unfolding stand_apart
  some-two [] h = absurd (true≢false h)
  some-two (c ∷ fs) h = elim (and-some (clear_of least c fs) (stand_apart least fs) h) [
    | inl e ↦ let (b, i, k) = some_of c fs e in (c, b, inl refl, inr i, k)
    | inr e ↦ let (a, b, i, j, k) = some-two fs e in (a, b, inr i, inr j, k)
  ]

-- ---- the g values shown are those of the entries

-- a value holds a position exactly where it is that g
pub held-position : (v : Value) (p : GeocentricPosition) → held 𝐠 v ≡ some p → v ≡ Geocentric p
unfolding held
held-position v p = by_cases (λ v. held 𝐠 v ≡ some p → v ≡ Geocentric p) (λ x. other) (λ x. other) (λ x. other) (λ x h. let e : x ≡ p = cc in ap Geocentric e) (λ x. other) (λ x. other) (λ x. other) v
  where
    other : {A : Type 0} → none ≡ some p → A
    other h = let z : ◌≡◌ {A = ℕ} 0 1 = cc in absurd (omega arith)

pub fixes-append : (es ds : List Entry) → fixes (es ++ ds) ≡ fixes es ++ fixes ds
unfolding fixes
fixes-append [] ds = refl
fixes-append (shown i g ∷ es) ds = go (held 𝐠 g.value) (fixes-append es ds)
  where
    go : (o : Option GeocentricPosition) → fixes (es ++ ds) ≡ fixes es ++ fixes ds → fix_then g.line o (fixes (es ++ ds)) ≡ fix_then g.line o (fixes es) ++ fixes ds
    go none e = e
    go (some p) e = ap (λ (fs : List Fix). record { line = g.line; position = p } ∷ fs) e
fixes-append (summed t ∷ es) ds = fixes-append es ds

pub shown-fix : (es : List Entry) (i : ℕ) (g : Given Value) (p : GeocentricPosition) → In (shown i g) es → g.value ≡ Geocentric p → In (record { line = g.line; position = p }) (fixes es)
unfolding fixes held
shown-fix (shown j h ∷ es) i g p (inl e) ev =
    let s : g ≡ h = cc in
    rw (← s, ev) (inl refl)
shown-fix (summed t ∷ es) i g p (inl e) ev = let z : ◌≡◌ {A = ℕ} 0 1 = cc in absurd (omega arith)
shown-fix (shown j h ∷ es) i g p (inr k) ev = go (held 𝐠 h.value) (shown-fix es i g p k ev)
  where
    go : (o : Option GeocentricPosition) → In (record { line = g.line; position = p }) (fixes es) → In (record { line = g.line; position = p }) (fix_then h.line o (fixes es))
    go none m = m
    go (some q) m = inr m
shown-fix (summed t ∷ es) i g p (inr k) ev = shown-fix es i g p k ev
shown-fix [] i g p x'' ev = elim x'' [ ]

abbrev ShowOf : List Entry → Fix → Type 0
ShowOf es x = (i : ℕ) × (g : Given Value) × In (shown i g) es × (g.line ≡ x.line) × (g.value ≡ Geocentric x.position)

pub fix-shown : (es : List Entry) (x : Fix) → In x (fixes es) → ShowOf es x
unfolding fixes
fix-shown (shown j h ∷ es) x m = go (held 𝐠 h.value) refl (fix-shown es x) m
  where
    later : ShowOf es x → ShowOf (shown j h ∷ es) x
    later (i, g, k, e, ev) = (i, g, inr k, e, ev)

    go : (o : Option GeocentricPosition) → held 𝐠 h.value ≡ o → (In x (fixes es) → ShowOf es x) → In x (fix_then h.line o (fixes es)) → ShowOf (shown j h ∷ es) x
    go none eo ih m = later (ih m)
    go (some q) eo ih (inl e) = (j, h, inl refl, sym (ap (λ (f : Fix). f.line) e), held-position h.value q eo ∙ ap Geocentric (sym (ap (λ (f : Fix). f.position) e)))
    go (some q) eo ih (inr m) = later (ih m)
fix-shown (summed t ∷ es) x m = let (i, g, k, e, ev) = fix-shown es x m in (i, g, inr k, e, ev)
fix-shown [] x m = elim m [ ]
