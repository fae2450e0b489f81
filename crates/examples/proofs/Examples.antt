-- The marked examples hold, by computation.
-- Assumes nothing.
use mathlib.Core.Path.{refl}
use Rattle.refusals.specs.Output.{room_answer}
use Rattle.numbers.specs.Number.{bytes_in}
use Rattle.numbers.specs.Reading.{Every, bytes_of_all}
use Rattle.numbers.proofs.Parts.{◌and◌}
use Rattle.items.specs.Item.{all_bytes}
use Rattle.control.specs.Simpson.{simpson, each_word}
use Rattle.control.specs.Step.{sound, step}
use Rattle.machine.specs.Machine.{writer_after, reader_after, in_all_four, fresh}
use Rattle.moves.specs.MoveFile.{move_file_of, after_head, after_items, track_of, moves_at}
use Rattle.placing.proofs.Told.{told_of, judges_told}
use Rattle.runs.specs.Run.{run, outcome, run_log, run_answer}
use Rattle.examples.specs.Examples.{Holds, marked}

pub marked_hold : Every Holds marked
unfolding told_of bytes_in bytes_of_all all_bytes room_answer run_answer run_log outcome move_file_of after_head after_items track_of moves_at run simpson
    each_word sound step writer_after reader_after in_all_four fresh
marked_hold =
    -- P1
    (refl, refl)
    and (refl, refl)
    and (refl, refl)
    and (refl, refl)
    -- P2
    and refl
    and refl
    and refl
    and refl
    -- P3
    and refl
    and ((refl, refl), judges_told refl refl)
    -- P4 to P6
    and (refl, (refl, refl), judges_told refl refl)
    and (refl, (refl, refl), judges_told refl refl)
    and (refl, (refl, refl), judges_told refl refl)
    -- P7 to P12
    and (refl, judges_told refl refl)
    and (refl, judges_told refl refl)
    and (refl, judges_told refl refl)
    and (refl, judges_told refl refl)
    and (refl, judges_told refl refl)
    and (refl, judges_told refl refl)
    and record {}
