-- What each line writes: one output line, a show's under its word or a total's; or none.
use Rattle.sheets.specs.Text.{Word}
use Rattle.sheets.specs.Trees.{Line, let_line, show_line, total_line, apart_line}

pub data Writes : Type 0 where
  a_show : Word → Writes
  a-total nothing : Writes

abbrev pub writes : Line → Writes
writes (let_line w x) = nothing
writes (show_line w) = a_show w
writes total_line = a-total
writes (apart_line q) = nothing
