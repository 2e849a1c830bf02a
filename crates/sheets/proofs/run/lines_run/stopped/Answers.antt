-- `sheets::run::lines_run::stopped` meets its contract. Assumes nothing.
use Rattle.sheets.specs.code.run.Running.{stopped_at}
use Rattle.sheets.proofs.run.lines_run.stopped.Goals as goal

pub returns-in-Refused : goal.returns-in-Refused
unfolding stopped_at
returns-in-Refused c = rw (c.in-Refused.is, ← c.number.ensures) c.run_answer.ensures

pub returns-in-Sticks : goal.returns-in-Sticks
unfolding stopped_at
returns-in-Sticks c = rw c.in-Sticks.is c.run_answer-in-Sticks.ensures
