-- What the program's one argument asks for.
use Rattle.std.specs.Prelude.{Bool, ◌||◌}
use Rattle.sheets.specs.Text.{Word, ascii}
use Rattle.sheets.specs.Lookup.{same_word}

-- the help, by `-h` or `--help`; any other word is a file's name
unfoldable pub asks_help : Word → Bool
asks_help w = same_word w (ascii "-h") || same_word w (ascii "--help")
