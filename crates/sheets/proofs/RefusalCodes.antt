-- The code's refusals and those of documents 01 and 02 go into each other. Assumes nothing.
use mathlib.Core.Path.{◌≡◌, refl}
use Rattle.sheets.specs.Refusals.{name, kind, limit, centre, apart, Refusal, size, lent, form, ellipsoid, fault, stop}
use Rattle.sheets.specs.code.Refusals.{refusal_of, code_for}

-- the code's refusal is the one that it was made for
pub code-is : (r : Refusal) → refusal_of (code_for r) ≡ r
code-is size = refl
code-is lent = refl
code-is form = refl
code-is ellipsoid = refl
code-is (fault name) = refl
code-is (fault kind) = refl
code-is (stop limit) = refl
code-is (stop centre) = refl
code-is (stop apart) = refl
