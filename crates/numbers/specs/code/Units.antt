-- The bits of a number as units of 2 ^ -1074, and what the functions of src/units.rt promise of them. Nothing that a caller of `rem` or of `sqrt` relies on stands here.
use Rattle.std.specs.Prelude.{◌≡◌, ℕ, zero, suc, ◌+◌, ◌-◌, ◌*◌, ◌/◌, ◌%◌, ◌^◌, ◌<◌}

-- the value of the bits b of a positive number, in units of 2 ^ -1074: by the exponent's field and the digits, and by the bits
abbrev pub units_at : ℕ → ℕ → ℕ
units_at zero t = t
units_at (suc x) t = (4503599627370496 + t) * 2 ^ x

unfoldable pub units_of : ℕ → ℕ
units_of b = units_at (b / 4503599627370496) (b % 4503599627370496)

-- the bits b are m * 2 ^ e units, with the m and e that stand in them
pub record Parted (b m e : ℕ) : Type 0 where
  pub is : units_of b ≡ m * 2 ^ e
  pub short : m < 2 ^ 53
  pub some : 0 < b → 0 < m
  pub field : e ≡ b / 4503599627370496 - 1

-- r are the bits of 2 ^ e units
pub record UnitBits (e r : ℕ) : Type 0 where
  pub is : units_of r ≡ 2 ^ e
  pub finite : r < 0x7ff0_0000_0000_0000
