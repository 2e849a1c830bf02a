-- The code's refusals, and those of documents 01 and 02 that they are.
-- No part of what must be believed: they only tie the code to the definitions.
use Rattle.sheets.specs.Refusals.{name, kind, limit, centre, apart, Refusal, size, lent, form, ellipsoid, fault, stop}
use Rattle.sheets.specs.declared.refusals.Refusal.{Refusal as Code}

-- the refusal that one of the code's is
abbrev pub refusal_of : Code → Refusal
refusal_of Code.Size = size
refusal_of Code.Lent = lent
refusal_of Code.Form = form
refusal_of Code.Ellipsoid = ellipsoid
refusal_of Code.Name = fault name
refusal_of Code.Kind = fault kind
refusal_of Code.Limit = stop limit
refusal_of Code.Centre = stop centre
refusal_of Code.Apart = stop apart

-- the code's for a refusal
abbrev pub code_for : Refusal → Code
code_for size = Code.Size
code_for lent = Code.Lent
code_for form = Code.Form
code_for ellipsoid = Code.Ellipsoid
code_for (fault name) = Code.Name
code_for (fault kind) = Code.Kind
code_for (stop limit) = Code.Limit
code_for (stop centre) = Code.Centre
code_for (stop apart) = Code.Apart
