-- What the code answers of line 1, said of what the reader of Reader.antt reads.
-- No part of what must be believed: they only tie the code to the definitions.
use Rattle.std.specs.Prelude.{Bool, Option, Some, None}
use Rattle.frames.specs.declared.Ellipsoid.{Ellipsoid}
use Rattle.sheets.specs.Trees.{Head}
use Rattle.sheets.specs.Table.{when}
use Rattle.sheets.specs.code.reader.Reader.{Got, none, got}
use Rattle.sheets.specs.Machine.{surface}
use Rattle.sheets.specs.Answers.{ranged}
use Rattle.sheets.specs.declared.check.first_line.FirstLine.{FirstLine}

-- the ellipsoid, where refusal 4 lets it pass
abbrev pub first_in : Bool → Ellipsoid → Option Ellipsoid
first_in b e = when b (Some e) None

-- with the place of line 2
unfoldable pub first_of : Got Head → Option FirstLine
first_of none = None
first_of (got h n) = Some (record { ellipsoid = first_in (ranged h) (surface h); next = n })
