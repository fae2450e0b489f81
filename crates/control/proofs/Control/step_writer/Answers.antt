-- `control::Control::step_writer` meets its contract.
use native.Mathlib.Omega.{arith}
use mathlib.Core.Path.{refl}
use Rattle.control.specs.Simpson.{Writer, simpson}
use Rattle.control.proofs.Lists.{write_length, writing_pair, writing_index, writing_word, writing_slot, writing_latest}
use Rattle.control.proofs.Sound.{sound_is}
use Rattle.control.proofs.Steps.{step_first, step_between, step_last}
use Rattle.control.proofs.Control.step_writer.Goals as goal

pub returns-in-0 : goal.returns-in-0
returns-in-0 c =
    rw (c.writer_at.ensures, c.pair_not_reading.ensures)
    (step_first simpson Writer _ c.requires (writing_pair _ _ (omega arith)) (write_length _) (omega arith) (omega arith))

pub returns-in-1 : goal.returns-in-1
returns-in-1 c =
    rw (c.writer_at-in-1.ensures, c.index_not_slot.ensures)
    (step_between simpson Writer _ c.requires (writing_index _ _ (omega arith)) (write_length _) 2 (omega arith) (omega arith) (omega arith))

pub returns-then-word-self : goal.returns-then-word-self
returns-then-word-self c =
    rw c.writer_at-then-word-self.ensures
    (step_between simpson Writer _ c.requires (writing_word _ _ _ (omega arith) (omega arith)) (write_length _) _ refl (omega arith) (omega arith))

pub returns-then-word-self-2 : goal.returns-then-word-self-2
returns-then-word-self-2 c =
    rw (c.writer_at-then-word-self-2.ensures, c.slot_index.ensures)
    (step_between simpson Writer _ c.requires (writing_slot _ _ (omega arith)) (write_length _) _ refl (omega arith) (omega arith))

pub returns-else-word-self-2 : goal.returns-else-word-self-2
returns-else-word-self-2 c =
    let s = sound_is _ c.requires in
    rw (c.writer_at-else-word-self-2.ensures, c.latest_pair.ensures)
    (step_last simpson Writer _ c.requires (writing_latest _ _ (omega (arith, s))) (write_length _) (omega (arith, s)) (omega arith))

pub overflow_add-phase : goal.overflow_add-phase
overflow_add-phase c = omega (arith, sound_is _ c.requires)

pub overflow_add-phase-then-word-self-2 : goal.overflow_add-phase-then-word-self-2
overflow_add-phase-then-word-self-2 c = omega (arith, sound_is _ c.requires)
