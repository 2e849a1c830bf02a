-- The lines on standard error, spelled out for three refusals and for two files of readings. Assumes nothing.
use mathlib.Core.Path.{◌≡◌, refl}
use Rattle.sheets.specs.Text.{ascii, ◌⌢◌, lf}
use Rattle.boresheet.specs.Messages.{decimal_if, decimal, refusal_name, place_text, refusal_line, bad_line_text, short_text}

pub spelled : (refusal_line 1 0 ≡ ascii "boresheet: refusal 1 (size)" ⌢ lf)
    × (refusal_line 8 4 ≡ ascii "boresheet: refusal 8 (centre) at line 4" ⌢ lf)
    × (refusal_line 3 97 ≡ ascii "boresheet: refusal 3 (form) at line 97" ⌢ lf)
    × (bad_line_text 16 ≡ ascii "boresheet: readings: line 16 is neither a number nor 16 hexadecimal digits" ⌢ lf)
    × (short_text 9 ≡ ascii "boresheet: readings: the file ends after 9 of 16 lines" ⌢ lf)
unfolding decimal_if decimal refusal_name place_text refusal_line bad_line_text short_text
spelled = (refl, refl, refl, refl, refl)
