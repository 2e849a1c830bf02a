-- `frames::rotation::r2xyz` meets its contract. Assumes nothing.
use lib.Ieee.{of_bits}
use Rattle.numbers.specs.Ops.{decimal}
use Rattle.frames.specs.Rotations.{r2xyz}
use Rattle.frames.proofs.rotation.r2xyz.Goals as goal

pub returns : goal.returns
unfolding of_bits decimal r2xyz
returns c = simp (c.atan2-y.ensures, c.sqrt-cy.ensures, c.atan2-x.ensures, c.atan2-z.ensures)
