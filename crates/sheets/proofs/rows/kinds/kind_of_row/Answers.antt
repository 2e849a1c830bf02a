-- `sheets::rows::kinds::kind_of_row` meets its contract. Assumes nothing.
use Rattle.sheets.specs.Text.{ascii}
use Rattle.sheets.specs.code.reader.Codes.{word_char, code_from}
use Rattle.sheets.specs.Table.{table}
use Rattle.sheets.specs.Lookup.{kind_rows}
use Rattle.sheets.specs.code.rows.KindCodes.{search_num, key_from, codes_for, plain_codes}
use Rattle.sheets.proofs.rows.KindRowLaws.{kind-arm}
use Rattle.sheets.proofs.rows.kinds.kind_of_row.Goals as goal

pub returns-in-5668 : goal.returns-in-5668
unfolding search_num kind_rows table word_char code_from key_from
returns-in-5668 c = kind-arm (ascii "deg") _ _ _ c.in-5668.is c.row.ensures

pub returns-in-13 : goal.returns-in-13
unfolding search_num kind_rows table word_char code_from key_from
returns-in-13 c = kind-arm (ascii "m") _ _ _ c.in-13.is c.row-in-13.ensures

pub returns-in-9783 : goal.returns-in-9783
unfolding search_num kind_rows table word_char code_from key_from
returns-in-9783 c = kind-arm (ascii "geo") _ _ _ c.in-9783.is c.row-in-9783.ensures

pub returns-in-16873 : goal.returns-in-16873
unfolding search_num kind_rows table word_char code_from key_from
returns-in-16873 c = kind-arm (ascii "lla") _ _ _ c.in-16873.is c.row-in-16873.ensures

pub returns-in-38252798 : goal.returns-in-38252798
unfolding search_num kind_rows table word_char code_from key_from
returns-in-38252798 c = kind-arm (ascii "togeo") _ _ _ c.in-38252798.is c.row-in-38252798.ensures

pub returns-in-38259888 : goal.returns-in-38259888
unfolding search_num kind_rows table word_char code_from key_from
returns-in-38259888 c = kind-arm (ascii "tolla") _ _ _ c.in-38259888.is c.row-in-38259888.ensures

pub returns-in-1121750 : goal.returns-in-1121750
unfolding search_num kind_rows table word_char code_from key_from
returns-in-1121750 c = kind-arm (ascii "venu") _ _ _ c.in-1121750.is c.row-in-1121750.ensures

pub returns-in-1133721 : goal.returns-in-1133721
unfolding search_num kind_rows table word_char code_from key_from
returns-in-1133721 c = kind-arm (ascii "vned") _ _ _ c.in-1133721.is c.row-in-1133721.ensures

pub returns-in-41353556 : goal.returns-in-41353556
unfolding search_num kind_rows table word_char code_from key_from
returns-in-41353556 c = kind-arm (ascii "vbody") _ _ _ c.in-41353556.is c.row-in-41353556.ensures

pub returns-in-1145904 : goal.returns-in-1145904
unfolding search_num kind_rows table word_char code_from key_from
returns-in-1145904 c = kind-arm (ascii "vwan") _ _ _ c.in-1145904.is c.row-in-1145904.ensures

pub returns-in-58037 : goal.returns-in-58037
unfolding search_num kind_rows table word_char code_from key_from
returns-in-58037 c = kind-arm (ascii "aenu") _ _ _ c.in-58037.is c.row-in-58037.ensures

pub returns-in-70008 : goal.returns-in-70008
unfolding search_num kind_rows table word_char code_from key_from
returns-in-70008 c = kind-arm (ascii "aned") _ _ _ c.in-70008.is c.row-in-70008.ensures

pub returns-in-1996175 : goal.returns-in-1996175
unfolding search_num kind_rows table word_char code_from key_from
returns-in-1996175 c = kind-arm (ascii "abody") _ _ _ c.in-1996175.is c.row-in-1996175.ensures

pub returns-in-82191 : goal.returns-in-82191
unfolding search_num kind_rows table word_char code_from key_from
returns-in-82191 c = kind-arm (ascii "awan") _ _ _ c.in-82191.is c.row-in-82191.ensures

pub returns-in-7384 : goal.returns-in-7384
unfolding search_num kind_rows table word_char code_from key_from
returns-in-7384 c = kind-arm (ascii "enu") _ _ _ c.in-7384.is c.row-in-7384.ensures

pub returns-in-19355 : goal.returns-in-19355
unfolding search_num kind_rows table word_char code_from key_from
returns-in-19355 c = kind-arm (ascii "ned") _ _ _ c.in-19355.is c.row-in-19355.ensures

pub returns-in-31538 : goal.returns-in-31538
unfolding search_num kind_rows table word_char code_from key_from
returns-in-31538 c = kind-arm (ascii "wan") _ _ _ c.in-31538.is c.row-in-31538.ensures

pub returns-in-122014 : goal.returns-in-122014
unfolding search_num kind_rows table word_char code_from key_from
returns-in-122014 c = kind-arm (ascii "body") _ _ _ c.in-122014.is c.row-in-122014.ensures

pub returns-in-628937 : goal.returns-in-628937
unfolding search_num kind_rows table word_char code_from key_from
returns-in-628937 c = kind-arm (ascii "look") _ _ _ c.in-628937.is c.row-in-628937.ensures

pub returns-in_default : goal.returns-in_default
unfolding plain_codes codes_for table word_char code_from
returns-in_default c = c.kind_by_orientation.ensures.is c.in_default.in_default-own.rest
