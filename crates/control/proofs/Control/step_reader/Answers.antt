-- `control::Control::step_reader` meets its contract.
use native.Mathlib.Omega.{arith}
use mathlib.Core.Path.{refl}
use Rattle.control.specs.Simpson.{Reader, simpson}
use Rattle.control.proofs.Lists.{read_length, reading_takes_pair, reading_announce, reading_index, reading_word}
use Rattle.control.proofs.Sound.{sound_is}
use Rattle.control.proofs.Steps.{step_first, step_between, step_last}
use Rattle.control.proofs.Control.step_reader.Goals as goal

pub returns-in-0 : goal.returns-in-0
returns-in-0 c =
    rw (c.reader_at.ensures, c.pair_latest.ensures)
    (step_first simpson Reader _ c.requires (reading_takes_pair _ _ (omega arith)) (read_length _) (omega arith) (omega arith))

pub returns-in-1 : goal.returns-in-1
returns-in-1 c =
    rw (c.reader_at-in-1.ensures, c.reading_pair.ensures)
    (step_between simpson Reader _ c.requires (reading_announce _ _ (omega arith)) (read_length _) 2 (omega arith) (omega arith) (omega arith))

pub returns-in-2 : goal.returns-in-2
returns-in-2 c =
    let s = sound_is _ c.requires in
    rw (c.reader_at-in-2.ensures, c.index_slot.ensures)
    (step_between simpson Reader _ c.requires (reading_index _ _ (omega arith)) (read_length _) 3 (omega arith) (omega arith) (omega (arith, s)))

pub returns-then-word-self : goal.returns-then-word-self
returns-then-word-self c =
    rw c.reader_at-then-word-self.ensures
    (step_between simpson Reader _ c.requires (reading_word _ _ _ (omega arith) (omega arith)) (read_length _) _ refl (omega arith) (omega arith))

pub returns-else-word-self : goal.returns-else-word-self
returns-else-word-self c =
    let s = sound_is _ c.requires in
    rw c.reader_at-else-word-self.ensures
    (step_last simpson Reader _ c.requires (reading_word _ _ _ (omega arith) (omega (arith, s))) (read_length _) (omega (arith, s)) (omega arith))

pub overflow_add-phase : goal.overflow_add-phase
overflow_add-phase c = omega (arith, sound_is _ c.requires)
