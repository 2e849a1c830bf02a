-- Line 1, as the code answers it: a law for each way out of `by_numbers` and `first_line`. Assumes nothing.
use Rattle.std.specs.Prelude.{Option, Some, None}
use Prim.Native.Nat.{ℕ}
use mathlib.Core.Path.{◌≡◌, sym, ap, ap₂, ◌∙◌}
use mathlib.Core.Bool.{Bool, true, false, ◌&&◌}
use mathlib.Core.List.{List}
use lib.Ieee.{Float}
use Rattle.numbers.specs.Ops.{num}
use Rattle.numbers.specs.Lengths.{metres}
use Rattle.numbers.specs.declared.Length.{Length}
use Rattle.frames.specs.Ellipsoids.{ellipsoid, wgs84 as surface_wgs84}
use Rattle.frames.specs.declared.Ellipsoid.{Ellipsoid}
use Rattle.sheets.specs.code.reader.Reader.{read_head}
use Rattle.sheets.specs.Limits.{between}
use Rattle.sheets.specs.Machine.{surface}
use Rattle.sheets.specs.Answers.{ranged}
use Rattle.sheets.specs.code.reader.Views.{head_of}
use Rattle.sheets.specs.declared.reader.head.HeadLine.{HeadLine}
use Rattle.sheets.proofs.reader.Told.{head-told}
use Rattle.sheets.specs.code.check.FirstLines.{first_in, first_of}
use Rattle.sheets.specs.declared.check.first_line.FirstLine.{FirstLine}

-- ---- line 1 with two numbers

module _ (x y : Float) (t : Bool) (et : t ≡ (between (num 1000000) (num 10000000) x && between (num 100) (num 1000) y)) where
  abbrev by_numbers : Option Ellipsoid
  by_numbers = first_in (between (num 1000000) (num 10000000) x && between (num 100) (num 1000) y) (ellipsoid (metres x) y)

  pub in-range : t ≡ true → (d : Length) → d ≡ metres x → (o : Ellipsoid) → o ≡ ellipsoid d y → Some o ≡ by_numbers
  in-range h d ed o eo = ap (λ z. Some z) (eo ∙ ap (λ z. ellipsoid z y) ed) ∙ ap (λ z. first_in z (ellipsoid (metres x) y)) (sym h ∙ et)

  pub out_of_range : t ≡ false → None ≡ by_numbers
  out_of_range h = ap (λ z. first_in z (ellipsoid (metres x) y)) (sym h ∙ et)

-- ---- line 1

module _ (s : List ℕ) (r : Option (HeadLine × ℕ)) (t : r ≡ head_of (read_head s)) where
  pub first-none : r ≡ None → None ≡ first_of (read_head s)
  unfolding first_of
  first-none h = ap first_of (sym (head-told (read_head s) r t _ h))

  -- o is the ellipsoid, where it is in range
  module _ (n : ℕ) (o : Option Ellipsoid) where
    abbrev line_1 : Option FirstLine
    line_1 = Some (record { ellipsoid = o; next = n })

    pub first-wgs : r ≡ Some (HeadLine.Wgs84, n) → o ≡ Some surface_wgs84 → line_1 ≡ first_of (read_head s)
    unfolding first_of ranged surface
    first-wgs h eo = rw eo (ap first_of (sym (head-told (read_head s) r t _ h)))

    pub first-custom : (x y : Float) → r ≡ Some (HeadLine.Custom x y, n)
        → o ≡ first_in (between (num 1000000) (num 10000000) x && between (num 100) (num 1000) y) (ellipsoid (metres x) y) → line_1 ≡ first_of (read_head s)
    unfolding first_of ranged surface
    first-custom x y h eo =
        let (p, q, el, ex, ey) = head-told (read_head s) r t _ h in
        let by : Float → Float → Option FirstLine = λ a b. Some (record { ellipsoid = first_in (between (num 1000000) (num 10000000) a && between (num 100) (num 1000) b) (ellipsoid (metres a) b); next = n }) in
        ap (λ z. Some (record { ellipsoid = z; next = n })) eo ∙ ap₂ by ex ey ∙ sym (ap first_of el)
