-- Sheets with aparts, from bytes to bytes, by computation. Assumes nothing.
use mathlib.Core.Path.{refl}
use mathlib.Core.List.{List, [], ◌∷◌}
use Prim.Native.Nat.{ℕ}
use Prim.Native.String.{String}
use lib.Ieee.{Float}
use Rattle.sheets.proofs.Computed.{computed}
use Rattle.sheets.proofs.Starred.{Runs, Computes, runs, Checks, checks}

pub record TriedAparts (P : String → List Float → ℕ → ℕ → String → Type 0) : Type 0 where
  -- fewer than two names never break the rule
  pub nothing_shown : P "(ellipsoid wgs84)\n(apart 5)\n" [] 0 0 ""
  -- nor does a name that is not shown
  pub one_name : P "(ellipsoid wgs84)\n(let a (geo (m 3) (m 4) (m 0)))\n(let o (geo (m 0) (m 0) (m 0)))\n(show a)\n(apart 100000000)\n" [] 0 0 "a g 4008000000000000 4010000000000000 0000000000000000\n"
  -- two at one place stand at least 0 metres apart, and no more
  pub at_zero : P "(ellipsoid wgs84)\n(let o (geo (m 0) (m 0) (m 0)))\n(let b o)\n(show o)\n(show b)\n(apart 0)\n" [] 0 0 "o g 0000000000000000 0000000000000000 0000000000000000\nb g 0000000000000000 0000000000000000 0000000000000000\n"
  -- `(let b a)` makes a second name at one place
  pub second_name : P "(ellipsoid wgs84)\n(let o (geo (m 0) (m 0) (m 0)))\n(let b o)\n(show o)\n(show b)\n(apart 0.000001)\n" [] 9 6 "o g 0000000000000000 0000000000000000 0000000000000000\nb g 0000000000000000 0000000000000000 0000000000000000\n"
  -- a name that is shown twice is a single position
  pub twice : P "(ellipsoid wgs84)\n(let a (geo (m 3) (m 4) (m 0)))\n(show a)\n(show a)\n(apart 5)\n" [] 0 0 "a g 4008000000000000 4010000000000000 0000000000000000\na g 4008000000000000 4010000000000000 0000000000000000\n"
  -- a pair exactly at NUM is far enough; at a millionth more it is not, and the text before it is left
  pub exactly : P "(ellipsoid wgs84)\n(let a (geo (m 3) (m 4) (m 0)))\n(let o (geo (m 0) (m 0) (m 0)))\n(show a)\n(show o)\n(apart 5)\n" [] 0 0 "a g 4008000000000000 4010000000000000 0000000000000000\no g 0000000000000000 0000000000000000 0000000000000000\n"
  pub just_under : P "(ellipsoid wgs84)\n(let a (geo (m 3) (m 4) (m 0)))\n(let o (geo (m 0) (m 0) (m 0)))\n(show a)\n(show o)\n(apart 5.000001)\n(show a)\n" [] 9 6 "a g 4008000000000000 4010000000000000 0000000000000000\no g 0000000000000000 0000000000000000 0000000000000000\n"
  -- the norm decides, and not its square: 79.5 squared and 28.16 squared add up to less than 84.34 squared, each rounded, and the root of the sum is 84.34
  pub by_norm : P "(ellipsoid wgs84)\n(let a (geo (m 79.5) (m 28.16) (m 0)))\n(let o (geo (m 0) (m 0) (m 0)))\n(show a)\n(show o)\n(apart 84.34)\n" [] 0 0 "a g 4053e00000000000 403c28f5c28f5c29 0000000000000000\no g 0000000000000000 0000000000000000 0000000000000000\n"
  -- every two, and not the neighbours alone
  pub first_and_third : P "(ellipsoid wgs84)\n(let a (geo (m 3) (m 4) (m 0)))\n(let b (geo (m 1000) (m 0) (m 0)))\n(let c (geo (m 3) (m 4) (m 1)))\n(show a)\n(show b)\n(show c)\n(apart 5)\n" [] 9 8 "a g 4008000000000000 4010000000000000 0000000000000000\nb g 408f400000000000 0000000000000000 0000000000000000\nc g 4008000000000000 4010000000000000 3ff0000000000000\n"
  -- what is shown after its line does not count
  pub shown_after : P "(ellipsoid wgs84)\n(let a (geo (m 3) (m 4) (m 0)))\n(let o (geo (m 0) (m 0) (m 0)))\n(show a)\n(apart 10)\n(show o)\n" [] 0 0 "a g 4008000000000000 4010000000000000 0000000000000000\no g 0000000000000000 0000000000000000 0000000000000000\n"
  -- what was shown before an earlier apart or a total counts on
  pub across_an_apart : P "(ellipsoid wgs84)\n(let a (geo (m 3) (m 4) (m 0)))\n(let o (geo (m 0) (m 0) (m 0)))\n(show a)\n(apart 10)\n(let l (m 1))\n(show l)\n(total)\n(show o)\n(apart 5.5)\n" [] 9 10 "a g 4008000000000000 4010000000000000 0000000000000000\nl l 3ff0000000000000\ntotal l 3ff0000000000000\no g 0000000000000000 0000000000000000 0000000000000000\n"
  -- other kinds do not count; a name may be `apart`
  pub other_kinds : P "(ellipsoid wgs84)\n(let apart (m 3))\n(let v (venu (m 3) (m 4) (m 0)))\n(let a (geo (m 3) (m 4) (m 0)))\n(show apart)\n(show v)\n(show a)\n(apart 5)\n" [] 0 0 "apart l 4008000000000000\nv venu 4008000000000000 4010000000000000 0000000000000000\na g 4008000000000000 4010000000000000 0000000000000000\n"
  -- refusal 7 comes before 9, and where fewer than two names were shown too; 10^8 is in the limit
  pub seven_first : P "(ellipsoid wgs84)\n(let o (geo (m 0) (m 0) (m 0)))\n(let b o)\n(show o)\n(show b)\n(apart 100000001)\n" [] 7 6 "o g 0000000000000000 0000000000000000 0000000000000000\nb g 0000000000000000 0000000000000000 0000000000000000\n"
  pub seven_alone : P "(ellipsoid wgs84)\n(apart 100000001)\n" [] 7 2 ""
  pub at_the_limit : P "(ellipsoid wgs84)\n(apart 100000000)\n" [] 0 0 ""
  -- a minus is 3, on zero too
  pub minus : P "(ellipsoid wgs84)\n(apart -5)\n" [] 3 2 ""
  pub minus_zero : P "(ellipsoid wgs84)\n(apart -0)\n" [] 3 2 ""
  -- near misses
  pub without_a_num : P "(ellipsoid wgs84)\n(apart)\n" [] 3 2 ""
  pub with_a_word : P "(ellipsoid wgs84)\n(let a 5)\n(apart a)\n" [] 3 3 ""

computes : TriedAparts Computes
unfolding computed
computes = record {
  nothing_shown = record { full = refl; is = λ out r out'. ((λ h. h), (λ h. h)) };
  one_name = record { full = refl; is = λ out r out'. ((λ h. h), (λ h. h)) };
  at_zero = record { full = refl; is = λ out r out'. ((λ h. h), (λ h. h)) };
  second_name = record { full = refl; is = λ out r out'. ((λ h. h), (λ h. h)) };
  twice = record { full = refl; is = λ out r out'. ((λ h. h), (λ h. h)) };
  exactly = record { full = refl; is = λ out r out'. ((λ h. h), (λ h. h)) };
  just_under = record { full = refl; is = λ out r out'. ((λ h. h), (λ h. h)) };
  by_norm = record { full = refl; is = λ out r out'. ((λ h. h), (λ h. h)) };
  first_and_third = record { full = refl; is = λ out r out'. ((λ h. h), (λ h. h)) };
  shown_after = record { full = refl; is = λ out r out'. ((λ h. h), (λ h. h)) };
  across_an_apart = record { full = refl; is = λ out r out'. ((λ h. h), (λ h. h)) };
  other_kinds = record { full = refl; is = λ out r out'. ((λ h. h), (λ h. h)) };
  seven_first = record { full = refl; is = λ out r out'. ((λ h. h), (λ h. h)) };
  seven_alone = record { full = refl; is = λ out r out'. ((λ h. h), (λ h. h)) };
  at_the_limit = record { full = refl; is = λ out r out'. ((λ h. h), (λ h. h)) };
  minus = record { full = refl; is = λ out r out'. ((λ h. h), (λ h. h)) };
  minus_zero = record { full = refl; is = λ out r out'. ((λ h. h), (λ h. h)) };
  without_a_num = record { full = refl; is = λ out r out'. ((λ h. h), (λ h. h)) };
  with_a_word = record { full = refl; is = λ out r out'. ((λ h. h), (λ h. h)) };
}

pub tried-aparts : TriedAparts Runs
tried-aparts = record {
  nothing_shown = runs computes.nothing_shown;
  one_name = runs computes.one_name;
  at_zero = runs computes.at_zero;
  second_name = runs computes.second_name;
  twice = runs computes.twice;
  exactly = runs computes.exactly;
  just_under = runs computes.just_under;
  by_norm = runs computes.by_norm;
  first_and_third = runs computes.first_and_third;
  shown_after = runs computes.shown_after;
  across_an_apart = runs computes.across_an_apart;
  other_kinds = runs computes.other_kinds;
  seven_first = runs computes.seven_first;
  seven_alone = runs computes.seven_alone;
  at_the_limit = runs computes.at_the_limit;
  minus = runs computes.minus;
  minus_zero = runs computes.minus_zero;
  without_a_num = runs computes.without_a_num;
  with_a_word = runs computes.with_a_word;
}

-- the kind code of an apart is 254
pub apart-codes : Checks "(ellipsoid wgs84)\n(apart 5)\n(let a 1)\n(apart 0.5)\n" (255 ∷ 254 ∷ 0 ∷ 254 ∷ [])
unfolding computed
apart-codes = checks _ _ (λ kinds. (refl, refl))
