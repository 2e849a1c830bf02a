-- The lists that the evaluator is lent: at the start, after a let, and after what is above them has changed; and what a word's place says. Assumes nothing.
use Prim.Native.Nat.{ℕ, zero, suc, ◌+◌, ◌*◌, ◌<◌, ◌≤◌}
use native.Mathlib.Omega.{arith}
use mathlib.Core.Path.{◌≡◌, refl, sym, ap, subst, ◌∙◌}
use mathlib.Core.Bool.{Bool, true, false}
use mathlib.Core.List.{List}
use mathlib.Core.Option.{none, some}
use lib.Dec.{eqb, leb}
use lib.ListN.{length, set, get_or, length-set}
use lib.Seq.{get_or-set_same, get_or-set_other}
use lib.Ieee.{Float}
use borrow.Author.Tests.{eqb-true, eqb-false, leb-false}
use Rattle.numbers.specs.Ops.{num}
use Rattle.frames.specs.declared.GeocentricPosition.{GeocentricPosition}
use Rattle.sheets.specs.declared.Value.{Value}
use Rattle.sheets.specs.declared.Value.TheVariants.{Number, Geocentric}
use Rattle.sheets.specs.declared.rows.value.Slot.{Slot}
use Rattle.sheets.specs.Kinds.{kind_of, kind_code}
use Rattle.sheets.specs.Table.{when}
use Rattle.sheets.specs.Names.{Known}
use Rattle.sheets.specs.declared.check.names.Names.{Names}
use Rattle.sheets.specs.code.check.Newest.{no_names, with_name, Newest, place_from}
use Rattle.sheets.specs.code.check.Newest as Search
use Rattle.sheets.specs.code.run.Slots.{empty_slot}
use Rattle.sheets.specs.code.run.Floats.{float_at, position_at, value_at, Lies, KeptBelow}
use Rattle.sheets.specs.code.run.Known.{word_found, reading_index, reading_found, found_at, SlotListed, Listed, Ready}
use Rattle.sheets.proofs.check.NewestLaws.{newest-none, newest-more, place_is, by_place, at_most}
use Rattle.sheets.proofs.run.FloatLaws.{kept-lies}
use Rattle.sheets.proofs.run.KnownLaws.{get_or-inside}

-- no name yet
pub listed_start : (t : List Slot) (rs f : List Float) → length t ≡ 96 → length f ≡ 2940 → ((i : ℕ) → i < 16 → float_at f i ≡ get_or rs i (num 0)) → Listed t rs no_names f 0
listed_start t rs f lt lf h = record {
  slots = lt;
  size = lf;
  place = λ i l. absurd (omega arith);
  reading = h;
  from = newest-none;
}

module _ (t : List Slot) (rs : List Float) (names : Names) (f : List Float) (n : ℕ) (h : Listed t rs names f n) where
  -- what lies below the place behind the last name is as it was
  listed_kept : (top : ℕ) (g : List Float) → KeptBelow f top g → 21 * n + 21 ≤ top → Listed t rs names g n
  listed_kept top g k below = record {
    slots = h.slots;
    size = k.size ∙ h.size;
    place = λ i l. record { word = (h.place i l).word; kind = (h.place i l).kind; lies = kept-lies f g top k (21 * suc i) _ (omega arith) (h.place i l).lies };
    reading = λ i l. k.below i (omega arith) ∙ h.reading i l;
    from = h.from;
  }

  -- a let fills the next slot, and its value lies at the next place
  pub listed-let : n < 95 → (x : Slot) (c k : ℕ) → x.word ≡ c → k ≡ kind_code (kind_of x.value) → (top : ℕ) → top ≡ 21 * n + 21 → (g : List Float) → KeptBelow f top g → Lies g top x.value
      → Listed (set t (n + 1) x) rs (with_name names c k (n + 1)) g (n + 1)
  listed-let room x c k ec ek top et g kept lies = record {
    slots = length-set t _ _ ∙ h.slots;
    size = kept.size ∙ h.size;
    place = λ i l. go i l (eqb i n) refl;
    reading = λ i l. kept.below i (omega arith) ∙ h.reading i l;
    from = newest-more names n h.from room c k;
  }
    where
      go : (i : ℕ) → i < n + 1 → (b : Bool) → eqb i n ≡ b → SlotListed (get_or (set t (n + 1) x) (suc i) empty_slot) (with_name names c k (n + 1)) g (suc i)
      go i l true q =
          let a : suc i ≡ n + 1 = omega (arith, eqb-true i n q) in
          let s : get_or (set t (n + 1) x) (suc i) empty_slot ≡ x = ap (λ j. get_or (set t (n + 1) x) j empty_slot) a ∙ get_or-set_same t (n + 1) x empty_slot (omega (arith, h.slots)) in
          subst (λ y. SlotListed y (with_name names c k (n + 1)) g (suc i)) (sym s) (record {
            word = ap (λ j. get_or (set names.words (n + 1) c) j 0) a ∙ get_or-set_same names.words (n + 1) c 0 (omega (arith, h.from.sizes.0)) ∙ sym ec;
            kind = ap (λ j. get_or (set names.kinds (n + 1) k) j 0) a ∙ get_or-set_same names.kinds (n + 1) k 0 (omega (arith, h.from.sizes.1)) ∙ ek;
            lies = subst (λ j. Lies g j x.value) (omega (arith, et)) lies;
          })
      go i l false q =
          let a : (i ≡ n → ⊥) = eqb-false i n q in
          let b : i < n = omega arith in
          subst (λ y. SlotListed y (with_name names c k (n + 1)) g (suc i)) (sym (get_or-set_other t (n + 1) (suc i) x empty_slot (λ z. omega arith))) (record {
            word = get_or-set_other names.words (n + 1) (suc i) c 0 (λ z. omega arith) ∙ (h.place i b).word;
            kind = get_or-set_other names.kinds (n + 1) (suc i) k 0 (λ z. omega arith) ∙ (h.place i b).kind;
            lies = kept-lies f g top kept (21 * suc i) _ (omega (arith, et)) (h.place i b).lies;
          })

  -- a word's place is that of a slot, or 0
  pub placed-few : (c j : ℕ) → Search.Placed names c j → j ≤ n
  placed-few c j p = omega (arith, place_is names n h.from c j p, at_most names.words c n)

  pub placed-slot : (j : ℕ) → (j ≡ 0 → ⊥) → j ≤ n → SlotListed (get_or t j empty_slot) names f j
  placed-slot zero z m = absurd (z refl)
  placed-slot (suc i) z m = h.place i (omega arith)

  -- what the slot at the word's place holds, or else the reading
  pub listed-is : (c j : ℕ) → Search.Placed names c j → when (eqb j 0) (reading_found c rs) (some (get_or t j empty_slot).value) ≡ word_found t rs n c
  unfolding word_found
  listed-is c j p =
      ap (λ k. when (eqb k 0) (reading_found c rs) (some (get_or t k empty_slot).value)) (place_is names n h.from c j p)
      ∙ sym (by_place names.words c (λ k. some (get_or t k empty_slot).value) (λ k. word_found t rs k c) n (λ k l. ap (λ z. when (eqb z c) (some (get_or t (suc k) empty_slot).value) (word_found t rs k c)) (sym (h.place k l).word)))

  -- the same of a slot read with another default, and of the reading among the floats
  pub listed_at : (c j : ℕ) → Search.Placed names c j → (d : Slot) → found_at (get_or t j d).value f c j ≡ word_found t rs n c
  unfolding found_at reading_found
  listed_at c j p d =
      ap (λ (x : Slot). found_at x.value f c j) (get_or-inside t j d empty_slot (omega (arith, p.most, h.slots)))
      ∙ ap (λ o. when (eqb j 0) o (some (get_or t j empty_slot).value)) (go (leb 16 (reading_index c)) refl)
      ∙ listed-is c j p
    where
      go : (b : Bool) → leb 16 (reading_index c) ≡ b → when b none (some (Number (float_at f (reading_index c)))) ≡ when b none (some (Number (get_or rs (reading_index c) (num 0))))
      go true q = refl
      go false q = ap (λ x. some (Number x)) (h.reading (reading_index c) (leb-false 16 (reading_index c) q))

  -- a g that was found at a place: its position lies there
  pub found-position : (c j : ℕ) → Search.Placed names c j → (d : Slot) (v : Value) → found_at (get_or t j d).value f c j ≡ some v → (p : GeocentricPosition) → v ≡ Geocentric p → position_at f (21 * j) ≡ p
  unfolding found_at value_at
  found-position c j pl d v e p ep = go (eqb j 0) refl (leb 16 (reading_index c)) (ap (λ (x : Slot). found_at x.value f c j) (get_or-inside t j empty_slot d (omega (arith, pl.most, h.slots))) ∙ e)
    where
      go : (b : Bool) → eqb j 0 ≡ b → (none-such : Bool) → when b (when none-such none (some (Number (float_at f (reading_index c))))) (some (get_or t j empty_slot).value) ≡ some v → position_at f (21 * j) ≡ p
      go true q true e = let z : ◌≡◌ {A = ℕ} 0 1 = cc in absurd (omega arith)
      go true q false e = let z : ◌≡◌ {A = ℕ} 0 1 = cc in absurd (omega arith)
      go false q u e =
          let ev : (get_or t j empty_slot).value ≡ Geocentric p = cc in
          let l = (subst (Lies f (21 * j)) ev (placed-slot j (eqb-false j 0 q) (placed-few c j pl)).lies).is in
          cc

-- the known words stay where only what is above them has changed
pub ready-kept : (ps : Known Value) (names : Names) (f : List Float) (top : ℕ) → Ready ps names f top → (above : ℕ) (g : List Float) → KeptBelow f above g → top ≤ above → Ready ps names g top
ready-kept ps names f top r above g k l = record {
  slots = r.slots;
  readings = r.readings;
  n = r.n;
  listed = listed_kept r.slots r.readings names f r.n r.listed above g k (omega (arith, r.below));
  tabled = r.tabled;
  below = r.below;
}

-- and so they do above a higher place
pub ready-above : (ps : Known Value) (names : Names) (f : List Float) (top : ℕ) → Ready ps names f top → (above : ℕ) → top ≤ above → Ready ps names f above
ready-above ps names f top r above l = record { slots = r.slots; readings = r.readings; n = r.n; listed = r.listed; tabled = r.tabled; below = omega (arith, r.below) }
