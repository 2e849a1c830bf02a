-- Where line 2 stands, as line 1 tells it and as the check of a sheet that passes answers it: behind one LF. Assumes nothing.
use Prim.Native.Nat.{ℕ}
use native.Mathlib.Omega.{arith}
use mathlib.Core.Path.{◌≡◌, refl, sym, ap, ◌∙◌}
use mathlib.Core.List.{List}
use lib.ListN.{length}
use Rattle.sheets.specs.Trees.{Head}
use Rattle.sheets.specs.LineNumbers.{line_number}
use Rattle.sheets.specs.Machine.{surface}
use Rattle.sheets.specs.Answers.{ranged, Verdict, admitted, refused}
use Rattle.sheets.specs.code.reader.Reader.{Got, none as no_got, got, read_head}
use Rattle.sheets.specs.code.check.FirstLines.{first_in, first_of}
use Rattle.sheets.specs.code.check.Walking.{Outcome, Admits}
use Rattle.sheets.specs.declared.check.first_line.FirstLine.{FirstLine}
use Rattle.sheets.specs.declared.check.admit.Admission.{Admission}
use Rattle.std.specs.Prelude.{Option, Some, Ok}
use Rattle.sheets.proofs.reader.LineNumbers.{number-two}

pub behind-first : (s : List ℕ) (q : Option FirstLine) → q ≡ first_of (read_head s) → (r : FirstLine) → q ≡ Some r → 2 ≡ line_number s r.next
unfolding first_of
behind-first s q eq r er = go (read_head s) refl (sym eq ∙ er)
  where
    go : (o : Got Head) → read_head s ≡ o → first_of o ≡ Some r → 2 ≡ line_number s r.next
    go no_got eo i = let z : ◌≡◌ {A = ℕ} 0 1 = cc in absurd (omega arith)
    go (got x m) eo i =
        let same : ◌≡◌ {A = FirstLine} (record { ellipsoid = first_in (ranged x) (surface x); next = m }) r = cc in
        number-two s x r.next (eo ∙ ap (λ (z : FirstLine). got x z.next) same)

pub passes-behind : (s : List ℕ) (v : Verdict) (a : Outcome) → Admits s v a → (p : Admission) → a ≡ Ok p → 2 ≡ line_number s p.start
unfolding Admits
passes-behind s (admitted c cs) a (m, eh, el, h) p e =
    let o = h.1 in
    let i : ◌≡◌ {A = Admission} (record { lines = length cs; ellipsoid = surface c.head; start = m; codes = h.0 }) p = cc in
    number-two s c.head p.start (eh ∙ ap (λ (x : Admission). got c.head x.start) i)
passes-behind s (refused r i) a o p e = let z : ◌≡◌ {A = ℕ} 0 1 = cc in absurd (omega arith)
