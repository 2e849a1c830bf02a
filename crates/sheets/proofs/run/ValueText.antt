-- The text of a value: its fields one by one, and a kind and fields from their parts. Assumes nothing.
use Prim.Native.Nat.{ℕ, ◌+◌, ◌*◌, ◌<◌}
use native.Mathlib.Numerals.{add-one}
use native.Mathlib.Omega.{arith}
use mathlib.Core.Path.{◌≡◌, sym, subst}
use mathlib.Core.List.{List, [], ◌∷◌, ◌++◌}
use lib.ListN.{length, get_or, take}
use lib.Seq.{take-suc}
use lib.Ieee.{Float, nan}
use Rattle.frames.specs.declared.Orientation.{Orientation}
use Rattle.sheets.specs.declared.Value.{Value}
use Rattle.sheets.specs.Kinds.{orientation_name}
use Rattle.sheets.specs.Output.{fields_text}
use Rattle.sheets.specs.code.run.Writing.{Written, value_text}
use Rattle.sheets.proofs.run.TextBound.{fields-length}
use Rattle.sheets.proofs.run.WritingLaws.{written_then, fields-then}

-- one field more
pub fields-turn : (xs : List Float) (i : ℕ) → i < length xs → {d e f : List ℕ} {at m r : ℕ} → m ≡ at + i * 17
    → Written d at (fields_text (take i xs)) e m → Written e m (fields_text (get_or xs i nan ∷ [])) f r
    → (r ≡ at + (i + 1) * 17) × Written d at (fields_text (take (i + 1) xs)) f r
fields-turn xs i h k p q = (omega (arith, q.end, fields-length (get_or xs i nan ∷ [])), rw (add-one, take-suc xs i nan h) (fields-then (take i xs) (get_or xs i nan ∷ []) p q))

pub plain-written : (b : ℕ) (xs : List Float) {d e f : List ℕ} {at i r : ℕ} → Written d at (b ∷ []) e i → Written e i (fields_text xs) f r → Written d at (b ∷ fields_text xs) f r
plain-written b xs p q = written_then (b ∷ []) (fields_text xs) p q

pub oriented-written : (b : ℕ) (o : Orientation) (xs : List Float) {d e m f : List ℕ} {at i j r : ℕ} → Written d at (b ∷ []) e i → Written e i (orientation_name o) m j → Written m j (fields_text xs) f r
    → Written d at (b ∷ (orientation_name o ++ fields_text xs)) f r
oriented-written b o xs p n q = written_then (b ∷ []) (orientation_name o ++ fields_text xs) p (written_then (orientation_name o) (fields_text xs) n q)

pub value-told : {v w : Value} {d f : List ℕ} {at r : ℕ} → v ≡ w → Written d at (value_text w) f r → Written d at (value_text v) f r
value-told {d = d} {f = f} {at = at} {r = r} e p = subst (λ v. Written d at (value_text v) f r) (sym e) p
