-- The run that is printed in full is the text of its move file, by computation.
-- Assumes nothing.
use Prim.Native.Nat.{ℕ}
use mathlib.Core.Path.{refl}
use mathlib.Core.List.{List, [], ◌∷◌}
use Rattle.std.specs.Prelude.{Ok}
use Rattle.words.specs.Words.{eight}
use Rattle.numbers.specs.Number.{bytes_in}
use Rattle.numbers.specs.Reading.{bytes_of_all}
use Rattle.items.specs.Item.{all_bytes}
use Rattle.control.specs.Simpson.{simpson, each_word}
use Rattle.control.specs.Step.{sound, step}
use Rattle.machine.specs.Machine.{writer_after, reader_after, in_all_four, fresh}
use Rattle.history.specs.Reads.{Read}
use Rattle.history.specs.Verdict.{Judgement, lawful}
use Rattle.history.proofs.FirstFits.{told_right}
use Rattle.history.proofs.Verdicts.{judgement_earliest}
use Rattle.moves.specs.MoveFile.{move_file_of, after_head, after_items, track_of, moves_at}
use Rattle.placing.proofs.Told.{told_of}
use Rattle.runs.specs.Run.{run, outcome}
use Rattle.text.specs.Line.{digits_in}
use Rattle.text.specs.Text.{event_lines}
use Rattle.bench.specs.Bench.{BenchText, ran}
use Rattle.bench.specs.Printed.{sixth, sixth_text}

-- Its items, its one read, and the judgement of these.
abbrev items : List (List ℕ)
items = eight (0 ∷ []) ∷ eight (7 ∷ []) ∷ eight (8 ∷ []) ∷ []

abbrev reads : List Read
reads = record { number = 1; low = 1; high = 2; item = eight (8 ∷ []) } ∷ []

judged : Judgement (Ok 0) items reads 2048 (Ok 1) (2 ∷ [])
unfolding told_of
judged = lawful 0 refl (told_right items reads 2048)

pub sixth_printed : BenchText sixth sixth_text
unfolding told_of bytes_in bytes_of_all all_bytes outcome move_file_of after_head after_items track_of moves_at run simpson each_word sound step
    writer_after reader_after in_all_four fresh event_lines digits_in
sixth_printed = ran _ (2 ∷ []) refl (judgement_earliest refl judged).1 refl
