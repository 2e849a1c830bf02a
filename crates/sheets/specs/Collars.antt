-- Document 02, request Three, by its sentences: a run that passes has no close pair among the names shown before an apart, and one that is refused there has some.
-- It goes by the machine's entries: which line showed a name, which let gave it, and its position.
use Rattle.std.specs.Prelude.{ℕ, ◌<◌, ◌≡◌, List, Bool, true, false, Float}
use Rattle.std.specs.Float.Ieee as Ieee
use Rattle.frames.specs.declared.GeocentricPosition.{GeocentricPosition}
use Rattle.sheets.specs.declared.Value.{Value}
use Rattle.sheets.specs.declared.Value.TheVariants.{Geocentric}
use Rattle.sheets.specs.Trees.{Unsigned, signless, apart_line, Sheet, numbered}
use Rattle.sheets.specs.Grammar.{Written}
use Rattle.sheets.specs.Names.{Given}
use Rattle.sheets.specs.Limits.{num_value}
use Rattle.sheets.specs.Entries.{Entry, shown}
use Rattle.sheets.specs.Aparts.{distance}
use Rattle.sheets.specs.Machine.{last_state, machine}
use Rattle.sheets.specs.Admitted.{In}
use Rattle.sheets.specs.Answers.{RunAnswer}

-- the apart on line k asks for this NUM
abbrev pub AsksOn : Sheet → ℕ → Unsigned → Type 0
AsksOn c k q = In (k, apart_line q) (numbered 2 c.lines)

-- before line k the name that the let on line j gave was shown, at the position p
abbrev pub ShownBefore : List Entry → ℕ → ℕ → GeocentricPosition → Type 0
ShownBefore es k j p = (i : ℕ) × (g : Given Value) × In (shown i g) es × (i < k) × (g.line ≡ j) × (g.value ≡ Geocentric p)

-- two positions are at least NUM metres apart
abbrev pub far_enough : Unsigned → GeocentricPosition → GeocentricPosition → Bool
far_enough q a b = Ieee.le (num_value (signless q)) (distance a b)

-- the output lines of the machine over a sheet and its readings
abbrev pub entries_of : Sheet → List Float → List Entry
entries_of c R = (last_state (machine c R)).entries

-- of the run of the bytes S over the readings R, which answers r
pub record StandApart (S : List ℕ) (R : List Float) (r : RunAnswer) : Type 0 where
  -- it passes: any two names shown before an apart, which the lets on the lines i and j gave, are far enough from each other
  pub passed : r.number ≡ 0 → (c : Sheet) → Written S c → (k : ℕ) (q : Unsigned) → AsksOn c k q → (i j : ℕ) (a b : GeocentricPosition)
      → ShownBefore (entries_of c R) k i a → ShownBefore (entries_of c R) k j b → ¬ (i ≡ j) → far_enough q a b ≡ true
  -- it is refused 9: an apart stands on the line that it answers, and two names shown before it, which the lets on the lines i and j gave, are not
  pub refused : r.number ≡ 9 → (c : Sheet) → Written S c → (q : Unsigned) × AsksOn c r.line q × ((i j : ℕ) × (a b : GeocentricPosition)
      × ShownBefore (entries_of c R) r.line i a × ShownBefore (entries_of c R) r.line j b × ¬ (i ≡ j) × (far_enough q a b ≡ false))
