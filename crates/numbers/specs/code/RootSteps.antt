-- What the inner functions of src/root.rt promise each other. Nothing that a caller of `sqrt` relies on stands here.
use Rattle.std.specs.Prelude.{◌≡◌, ℕ, ◌+◌, ◌*◌, ◌^◌, ◌<◌, ◌≤◌, from_bits}
use Rattle.std.specs.Float.{binary64}
use Rattle.numbers.specs.Root.{sqrt}

-- root is the whole part of the root of w * 2 ^ 52, and rest is what is left
pub record Squared (w root rest : ℕ) : Type 0 where
  pub whole : root * root + rest ≡ w * 4503599627370496
  pub less : rest ≤ 2 * root
  pub short : root < 2 ^ 53

-- r is the root of w * 2 ^ 52 to the nearest whole number: w * 2 ^ 52 lies between (r - 1/2)² and (r + 1/2)²
pub record Rounds (w r : ℕ) : Type 0 where
  pub under : r * r < w * 4503599627370496 + r
  pub over : w * 4503599627370496 ≤ r * r + r

-- n is w * 4 ^ g, with a w of 53 or 54 digits, and g at most top
pub record Lifted (n top w g : ℕ) : Type 0 where
  pub same : w * 4 ^ g ≡ n
  pub low : 4503599627370496 ≤ w
  pub high : w < 2 ^ 54
  pub under : g ≤ top
  pub over : 1 ≤ g

-- r are the bits of the root of the value of the bits b
pub record RootOf (b r : ℕ) : Type 0 where
  pub is : from_bits binary64 r ≡ sqrt (from_bits binary64 b)
  pub finite : r < 0x7ff0_0000_0000_0000
