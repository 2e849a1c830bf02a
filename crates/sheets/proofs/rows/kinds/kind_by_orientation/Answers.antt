-- `sheets::rows::kinds::kind_by_orientation` meets its contract. Assumes nothing.
use mathlib.Core.Path.{ap₂, ◌∙◌}
use mathlib.Core.List.{List, [], ◌∷◌}
use Prim.Native.Nat.{ℕ}
use Rattle.std.specs.Option.{option_or}
use Rattle.sheets.specs.Text.{ascii}
use Rattle.sheets.specs.code.reader.Codes.{word_char, code_from}
use Rattle.sheets.specs.Table.{table}
use Rattle.sheets.specs.Lookup.{oriented, kind_rows}
use Rattle.sheets.specs.code.rows.KindCodes.{search_num, key_from, codes_for, plain_codes}
use Rattle.sheets.proofs.rows.KindRowLaws.{row-or, kind-arm, no_kind}
use Rattle.sheets.proofs.rows.kinds.kind_by_orientation.Goals as goal

-- the codes of the arms, the last first
abbrev codes : List ℕ
codes = codes_for (λ r. oriented r.takes) table []

pub returns-in-1042489 : goal.returns-in-1042489
unfolding search_num kind_rows table word_char code_from key_from
returns-in-1042489 c = record { is = λ m. kind-arm (ascii "turn") _ _ _ c.in-1042489.is c.row.ensures }

pub returns-in-679843 : goal.returns-in-679843
unfolding search_num kind_rows table word_char code_from key_from
returns-in-679843 c = record { is = λ m. kind-arm (ascii "move") _ _ _ c.in-679843.is c.row-in-679843.ensures }

pub returns-in-755 : goal.returns-in-755
unfolding search_num kind_rows table word_char code_from key_from
returns-in-755 c = record { is = λ m. kind-arm (ascii "to") _ _ _ c.in-755.is c.vector.ensures }

pub returns-in-57 : goal.returns-in-57
unfolding search_num kind_rows table word_char code_from key_from
returns-in-57 c = record { is = λ m. kind-arm (ascii "at") _ _ _ c.in-57.is c.row-in-57.ensures }

pub returns-in-19358 : goal.returns-in-19358
unfolding search_num kind_rows table word_char code_from key_from
returns-in-19358 c = record { is = λ m. kind-arm (ascii "neg") _ _ _ c.in-19358.is c.vector-in-19358.ensures }

pub returns-in-1521 : goal.returns-in-1521
unfolding search_num kind_rows table word_char code_from key_from
returns-in-1521 c = record { is = λ m. kind-arm (ascii "add") _ _ _ c.in-1521.is c.vector-in-1521.ensures }

pub returns-in-26790 : goal.returns-in-26790
unfolding search_num kind_rows table word_char code_from key_from
returns-in-26790 c = record { is = λ m. kind-arm (ascii "sub") _ _ _ c.in-26790.is c.vector-in-26790.ensures }

pub returns-in-35762836 : goal.returns-in-35762836
unfolding search_num kind_rows table word_char code_from key_from
returns-in-35762836 c = record { is = λ m. kind-arm (ascii "scale") _ _ _ c.in-35762836.is c.vector-in-35762836.ensures }

pub returns-in-993947 : goal.returns-in-993947
unfolding search_num kind_rows table word_char code_from key_from
returns-in-993947 c = record { is = λ m. kind-arm (ascii "swap") _ _ _ c.in-993947.is (c.or.ensures ∙ ap₂ option_or c.row-in-993947.ensures c.row-in-993947-2.ensures ∙ row-or (6 ∷ []) 6 c.args.key _) }

pub returns-in-5480971364 : goal.returns-in-5480971364
unfolding search_num kind_rows table word_char code_from key_from
returns-in-5480971364 c = record { is = λ m. kind-arm (ascii "bearing") _ _ _ c.in-5480971364.is c.row-in-5480971364.ensures }

pub returns-in-269900 : goal.returns-in-269900
unfolding search_num kind_rows table word_char code_from key_from
returns-in-269900 c = record { is = λ m. kind-arm (ascii "elev") _ _ _ c.in-269900.is c.row-in-269900.ensures }

pub returns-in-33804981 : goal.returns-in-33804981
unfolding search_num kind_rows table word_char code_from key_from
returns-in-33804981 c = record { is = λ m. kind-arm (ascii "range") _ _ _ c.in-33804981.is c.row-in-33804981.ensures }

pub returns-in-1074360060 : goal.returns-in-1074360060
unfolding search_num kind_rows table word_char code_from key_from
returns-in-1074360060 c = record { is = λ m. kind-arm (ascii "origin") _ _ _ c.in-1074360060.is c.row-in-1074360060.ensures }

pub returns-in-692 : goal.returns-in-692
unfolding search_num kind_rows table word_char code_from key_from
returns-in-692 c = record { is = λ m. kind-arm (ascii "rz") _ _ _ c.in-692.is c.row-in-692.ensures }

pub returns-in-691 : goal.returns-in-691
unfolding search_num kind_rows table word_char code_from key_from
returns-in-691 c = record { is = λ m. kind-arm (ascii "ry") _ _ _ c.in-691.is c.row-in-691.ensures }

pub returns-in-690 : goal.returns-in-690
unfolding search_num kind_rows table word_char code_from key_from
returns-in-690 c = record { is = λ m. kind-arm (ascii "rx") _ _ _ c.in-690.is c.row-in-690.ensures }

pub returns-in_default : goal.returns-in_default
unfolding kind_rows plain_codes codes_for table word_char code_from
returns-in_default c = record { is = λ m. no_kind plain_codes codes tt c.args.code c.args.key m c.in_default.in_default-own.rest }
