-- What is shown of every run of the four slots from fresh, for every width, initial item, items and list of moves.
use Rattle.std.specs.Prelude.{ℕ, ◌≤◌, ◌<◌, ◌≡◌, true, List, [], map, length, get_or, take, Some, Ok}
use Rattle.refusals.specs.Table.{Answer}
use Rattle.words.specs.Words.{Below, is_width}
use Rattle.control.specs.declared.Control.{Control}
use Rattle.control.specs.Simpson.{Writer, Reader, simpson}
use Rattle.control.specs.Step.{step, occupies}
use Rattle.machine.specs.Machine.{first_words}
use Rattle.history.specs.declared.Event.{Event}
use Rattle.history.specs.Event.{kind_of}
use Rattle.history.specs.Reads.{written, numbered, reads_of}
use Rattle.history.specs.Placing.{read_at, Placing, Earliest}
use Rattle.moves.specs.MoveFile.{move_file_of}
use Rattle.runs.specs.Run.{Ran, run, last_state, four_slots, run_of, Runs}
use Rattle.placing.specs.Judgement.{events_from, Judges}
use Rattle.fourslot.specs.Tags.{with_tags, TrueNumbers}

-- The moves of a list, from fresh, run to their end with these events; and, with the numbers beside the words, with these.
abbrev pub RunsTo : ℕ → List ℕ → List (List ℕ) → List ℕ → List Event → Type 0
RunsTo n initial items codes es = run (four_slots simpson) ((four_slots simpson).start n initial) 0 items codes ≡ Ran es

abbrev pub TagsTo : ℕ → List ℕ → List (List ℕ) → List ℕ → List Event → Type 0
TagsTo n initial items codes tagged = run (with_tags simpson) ((with_tags simpson).start n initial) 0 items codes ≡ Ran tagged

-- The item of each write number of a run, from 0.
abbrev pub writes_of : ℕ → List ℕ → List Event → List (List ℕ)
writes_of n initial es = numbered (first_words n initial) es

-- A run's events stand beside those with numbers, event by event; its finished reads have true numbers, and these are a placing of its
-- events.
pub record TrulyPlaced (n : ℕ) (initial : List ℕ) (items : List (List ℕ)) (codes : List ℕ) (es : List Event) : Type 0 where
  pub tagged : List Event
  pub beside : TagsTo n initial items codes tagged
  pub same_kinds : map kind_of tagged ≡ map kind_of es
  pub numbers : List ℕ
  pub true_numbers : TrueNumbers n tagged numbers
  pub placing : Placing (writes_of n initial es) (reads_of es) (length (reads_of es)) numbers

-- Every accepted run of the four slots from fresh gets a placing, in every order of moves.
abbrev pub EveryRunPlaced : Type 0
EveryRunPlaced =
    (n : ℕ) (initial : List ℕ) (items : List (List ℕ)) (codes : List ℕ) (es : List Event) → is_width n ≡ true
    → RunsTo n initial items codes es → TrulyPlaced n initial items codes es

-- What a finished read returns is, in all n words, the item of one write or the initial item.
abbrev pub EveryReadWhole : Type 0
EveryReadWhole =
    (n : ℕ) (initial : List ℕ) (items : List (List ℕ)) (codes : List ℕ) (es : List Event) → is_width n ≡ true
    → RunsTo n initial items codes es → (j : ℕ) → j < length (reads_of es)
    → (w : ℕ) × (w ≤ length (written es)) × (get_or (writes_of n initial es) w [] ≡ (read_at (reads_of es) j).item)

-- The earliest placing is at most the true numbers, read by read.
abbrev pub EarliestAtMostTrue : Type 0
EarliestAtMostTrue =
    (n : ℕ) (initial : List ℕ) (items : List (List ℕ)) (codes : List ℕ) (es tagged : List Event) (numbers entries : List ℕ)
    → is_width n ≡ true → RunsTo n initial items codes es → TagsTo n initial items codes tagged → TrueNumbers n tagged numbers
    → Earliest (writes_of n initial es) (reads_of es) (length (reads_of es)) entries → (j : ℕ) → j < length (reads_of es)
    → get_or entries j 0 ≤ get_or numbers j 0

-- Both cores have the same slot.
abbrev pub SameSlot : Control → Type 0
SameSlot c = (c.writer.pair ≡ c.reader.pair) × (c.writer.index ≡ c.reader.index)

-- "Both never occupy the same slot in a run from fresh." With one word nobody occupies a slot, so also: no store falls into the slot of a
-- read that has its index, which it has after its opening moves.
pub record Apart (c : Control) : Type 0 where
  pub occupied : occupies simpson Writer c ≡ true → occupies simpson Reader c ≡ true → SameSlot c → ⊥
  pub stored : (k : ℕ) → (step simpson Writer c).touched ≡ Some k → length (simpson Reader c.n).opening ≤ c.reader.phase
      → SameSlot (step simpson Writer c).control → ⊥

abbrev pub CoresApart : Type 0
CoresApart =
    (n : ℕ) (initial : List ℕ) (items : List (List ℕ)) (codes : List ℕ) → is_width n ≡ true
    → Apart (last_state (four_slots simpson) ((four_slots simpson).start n initial) items codes).control

-- Where `run` accepts a move file and writes its log, `judge` of that log, with an entry for each finished read, accepts.
abbrev pub RunJudged : Type 0
RunJudged =
    (moves out filled entries after : List ℕ) (k : ℕ) (answer : Answer) → Below 256 moves → Runs moves out (Ok k) filled
    → Judges (take k filled) entries answer after → length (reads_of (events_from (take k filled))) ≤ length entries
    → answer ≡ Ok (length (reads_of (events_from (take k filled))))

-- The true numbers of the run of a move file.
pub record TrueNumbersOf (moves numbers : List ℕ) : Type 0 where
  pub tagged : List Event
  pub beside : run_of (with_tags simpson) 1 (move_file_of 24576 1 moves) moves ≡ Ran tagged
  pub true_numbers : TrueNumbers (move_file_of 24576 1 moves).n tagged numbers

-- Such a run has true numbers, and 02, #104: "the judge's entry never exceeds the true one".
abbrev pub EntriesAtMostTrue : Type 0
EntriesAtMostTrue =
    (moves out filled entries after : List ℕ) (k r : ℕ) → Below 256 moves → Runs moves out (Ok k) filled
    → Judges (take k filled) entries (Ok r) after
    → (numbers : List ℕ) × TrueNumbersOf moves numbers × ((j : ℕ) → j < r → get_or after j 0 ≤ get_or numbers j 0)
