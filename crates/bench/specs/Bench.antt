-- What the bench program prints of the move file that it reads.
use Rattle.std.specs.Prelude.{ℕ, ◌≡◌, List, [], length, Ok}
use Rattle.refusals.specs.declared.Fault.{Fault}
use Rattle.refusals.specs.Table.{refusal_at}
use Rattle.history.specs.declared.Event.{Event}
use Rattle.history.specs.Reads.{numbered, reads_of}
use Rattle.history.specs.Placing.{Earliest}
use Rattle.control.specs.Simpson.{simpson}
use Rattle.moves.specs.MoveFile.{move_file_of}
use Rattle.runs.specs.Run.{Stopped, Ran, four_slots, outcome}
use Rattle.text.specs.Text.{none, event_lines, text_of}

-- a move file is refused as its run is, or the events of its run are printed with the earliest
-- placing of its finished reads
pub data BenchText (moves text : List ℕ) : Type 0 where
  stopped : (fault : Fault) (place : ℕ) → outcome (four_slots simpson) 1 moves ≡ Stopped fault place
      → text ≡ text_of [] (refusal_at fault place) → BenchText moves text
  ran : (es : List Event) (ps : List ℕ) → outcome (four_slots simpson) 1 moves ≡ Ran es
      → Earliest (numbered (move_file_of 24576 1 moves).initial es) (reads_of es)
      (length (reads_of es)) ps
      → text ≡ text_of (event_lines (move_file_of 24576 1 moves).n ps none es)
      (Ok (length (reads_of es)))
      → BenchText moves text
