-- `boresheet::run_sheet` is safe and ends: the text that the run counts is within the output. Assumes nothing.
use Rattle.boresheet.proofs.Written.{run-counts}
use Rattle.boresheet.proofs.run_sheet.Goals as goal

pub slice_bounds-write_all-end : goal.slice_bounds-write_all-end
slice_bounds-write_all-end c = (run-counts _ _ _ _ _ c.run-a.ensures).1
