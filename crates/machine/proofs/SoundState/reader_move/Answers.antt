-- `machine::SoundState::reader_move` meets its contract.
use Rattle.control.specs.Simpson.{Reader}
use Rattle.machine.specs.Machine.{reader_after}
use Rattle.machine.proofs.Words.{step_below}
use Rattle.machine.proofs.SoundState.reader_move.Goals as goal

pub returns-clause-state : goal.returns-clause-state
unfolding reader_after
returns-clause-state c = rw (c.load.ensures, ← c.reader_move-told.ensures)

pub returns-clause-happened : goal.returns-clause-happened
unfolding reader_after
returns-clause-happened c = rw (← c.reader_move-told.ensures)

pub load-requires : goal.load-requires
load-requires c = rw (← c.reader_move-told.ensures) at (step_below Reader c.args.self.now.control.control)
