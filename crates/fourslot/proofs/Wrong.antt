-- Each of the wrong procedures goes wrong on its move file, by computation.
-- Assumes nothing.
use mathlib.Core.Path.{refl}
use Rattle.numbers.specs.Number.{bytes_in}
use Rattle.numbers.specs.Reading.{bytes_of_all}
use Rattle.numbers.proofs.Parts.{◌and◌}
use Rattle.items.specs.Item.{all_bytes}
use Rattle.control.specs.Simpson.{simpson, each_word}
use Rattle.control.specs.Step.{sound, step}
use Rattle.machine.specs.Machine.{writer_after, reader_after, in_all_four, fresh}
use Rattle.moves.specs.MoveFile.{move_file_of, after_head, after_items, track_of, moves_at}
use Rattle.runs.specs.Run.{run, outcome, run_log}
use Rattle.placing.proofs.Told.{told_of, judges_told}
use Rattle.fourslot.specs.Wrong.{latest_first, reading_in_second, reading_again, unannounced, two_slots, AllGoWrong}

pub all_go_wrong : AllGoWrong
unfolding latest_first reading_in_second reading_again unannounced two_slots told_of bytes_in bytes_of_all all_bytes run_log outcome move_file_of
    after_head after_items track_of moves_at run simpson each_word sound step writer_after reader_after in_all_four fresh
all_go_wrong =
    (refl, judges_told refl refl)
    and (refl, judges_told refl refl)
    and (refl, judges_told refl refl)
    and (refl, judges_told refl refl)
    and (refl, judges_told refl refl)
    and record {}
