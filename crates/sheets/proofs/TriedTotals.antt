-- Sheets with totals, from bytes to bytes, by computation. Assumes nothing.
use mathlib.Core.Path.{refl}
use mathlib.Core.List.{List, [], ◌∷◌}
use Prim.Native.Nat.{ℕ}
use Prim.Native.String.{String}
use lib.Ieee.{Float, binary64, of_bits}
use Rattle.sheets.proofs.Computed.{computed}
use Rattle.sheets.proofs.Starred.{Runs, Computes, runs, Checks, checks}

pub record TriedTotals (P : String → List Float → ℕ → ℕ → String → Type 0) : Type 0 where
  -- no length was shown
  pub empty : P "(ellipsoid wgs84)\n(total)\n" [] 0 0 "total l 0000000000000000\n"
  -- a name that is shown twice counts twice
  pub twice : P "(ellipsoid wgs84)\n(let a (m 3))\n(show a)\n(show a)\n(total)\n" [] 0 0 "a l 4008000000000000\na l 4008000000000000\ntotal l 4018000000000000\n"
  -- a total is not counted by the next one
  pub after_a_total : P "(ellipsoid wgs84)\n(let a (m 3))\n(show a)\n(total)\n(total)\n" [] 0 0 "a l 4008000000000000\ntotal l 4008000000000000\ntotal l 4008000000000000\n"
  -- a sum over the limit is refused 7 on the total's line, and the text before it is left; where no total stands it is not tested
  pub over_limit : P "(ellipsoid wgs84)\n(let a (m 100000000))\n(show a)\n(total)\n(show a)\n(total)\n" [] 7 6 "a l 4197d78400000000\ntotal l 4197d78400000000\na l 4197d78400000000\n"
  pub over_between : P "(ellipsoid wgs84)\n(let a (m 100000000))\n(let b (m -100000000))\n(show a)\n(show a)\n(show b)\n(total)\n" [] 0 0 "a l 4197d78400000000\na l 4197d78400000000\nb l c197d78400000000\ntotal l 4197d78400000000\n"
  -- minus zero alone: the sum is from zero
  pub minus_zero : P "(ellipsoid wgs84)\n(let a (m -0))\n(show a)\n(total)\n" [] 0 0 "a l 8000000000000000\ntotal l 0000000000000000\n"
  -- other kinds do not count; a name may be `total`, and its shows do
  pub other_kinds : P "(ellipsoid wgs84)\n(let total (m 2))\n(let b (deg 90))\n(show r0)\n(show b)\n(show total)\n(total)\n" (of_bits binary64 0x4014_0000_0000_0000 ∷ []) 0 0 "r0 n 4014000000000000\nb a 3ff921fb54442d18\ntotal l 4000000000000000\ntotal l 4000000000000000\n"
  -- in line order: 2^-27 is lost behind 10^8, both times; added to each other first the two would count
  pub in_order : P "(ellipsoid wgs84)\n(let a (m 100000000))\n(let b (m r0))\n(show a)\n(show b)\n(show b)\n(total)\n" (of_bits binary64 0x3e40_0000_0000_0000 ∷ []) 0 0 "a l 4197d78400000000\nb l 3e40000000000000\nb l 3e40000000000000\ntotal l 4197d78400000000\n"
  -- it gives no name
  pub no_name : P "(ellipsoid wgs84)\n(total)\n(show total)\n" [] 5 3 ""
  -- near misses
  pub with_a_space : P "(ellipsoid wgs84)\n(total )\n" [] 3 2 ""
  pub with_a_word : P "(ellipsoid wgs84)\n(total a)\n" [] 3 2 ""

computes : TriedTotals Computes
unfolding computed
computes = record {
  empty = record { full = refl; is = λ out r out'. ((λ h. h), (λ h. h)) };
  twice = record { full = refl; is = λ out r out'. ((λ h. h), (λ h. h)) };
  after_a_total = record { full = refl; is = λ out r out'. ((λ h. h), (λ h. h)) };
  over_limit = record { full = refl; is = λ out r out'. ((λ h. h), (λ h. h)) };
  over_between = record { full = refl; is = λ out r out'. ((λ h. h), (λ h. h)) };
  minus_zero = record { full = refl; is = λ out r out'. ((λ h. h), (λ h. h)) };
  other_kinds = record { full = refl; is = λ out r out'. ((λ h. h), (λ h. h)) };
  in_order = record { full = refl; is = λ out r out'. ((λ h. h), (λ h. h)) };
  no_name = record { full = refl; is = λ out r out'. ((λ h. h), (λ h. h)) };
  with_a_space = record { full = refl; is = λ out r out'. ((λ h. h), (λ h. h)) };
  with_a_word = record { full = refl; is = λ out r out'. ((λ h. h), (λ h. h)) };
}

pub tried-totals : TriedTotals Runs
tried-totals = record {
  empty = runs computes.empty;
  twice = runs computes.twice;
  after_a_total = runs computes.after_a_total;
  over_limit = runs computes.over_limit;
  over_between = runs computes.over_between;
  minus_zero = runs computes.minus_zero;
  other_kinds = runs computes.other_kinds;
  in_order = runs computes.in_order;
  no_name = runs computes.no_name;
  with_a_space = runs computes.with_a_space;
  with_a_word = runs computes.with_a_word;
}

-- ---- the check: the kind code of a total is 2, whatever is shown

pub total-codes : Checks "(ellipsoid wgs84)\n(total)\n(let a 1)\n(show a)\n(total)\n" (255 ∷ 2 ∷ 0 ∷ 0 ∷ 2 ∷ [])
unfolding computed
total-codes = checks _ _ (λ kinds. (refl, refl))
