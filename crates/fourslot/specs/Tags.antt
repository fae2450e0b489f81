-- Which write a read took: beside each word of the slots, and beside each word that the reader has loaded, stands the number of the write
-- that stored it. "Writes are numbered from 1 in order of call; the initial item is number 0" (01, "Placing reads").
use Rattle.std.specs.Prelude.{ℕ, suc, ◌<◌, ◌≡◌, cond, List, map, length, get_or, replicate, eqb}
use Rattle.control.specs.declared.Control.{Control}
use Rattle.control.specs.declared.Step.{Step}
use Rattle.control.specs.Simpson.{Writer, Reader, Procedures}
use Rattle.control.specs.Step.{step}
use Rattle.machine.specs.declared.State.{State}
use Rattle.machine.specs.Machine.{is_call, stored, loaded}
use Rattle.history.specs.declared.Event.{Event}
use Rattle.history.specs.Event.{event, kind_of}
use Rattle.history.specs.Reads.{reads_of}
use Rattle.history.specs.Placing.{read_at}
use Rattle.runs.specs.Run.{Bench, four_slots}

-- How many writes were called, and the number beside each word of the slots and beside each word loaded.
pub record Tags : Type 0 where
  pub called : ℕ
  pub slots : List ℕ
  pub loaded : List ℕ

-- 0 stands beside each word at the start.
abbrev pub untouched : Tags
untouched = record { called = 0; slots = replicate 32 0; loaded = replicate 8 0 }

-- A store puts the number of its write beside the word.
abbrev pub tag_store : Step → Tags → Tags
tag_store t g =
    let called = cond (is_call t.happened) (suc g.called) g.called in
    record { called = called; slots = stored t.touched t.control.writer g.slots (replicate 8 called); loaded = g.loaded }

-- A load takes the number beside the word along.
abbrev pub tag_load : Step → Tags → Tags
tag_load t g = record { called = g.called; slots = g.slots; loaded = loaded t.touched t.control.reader g.slots g.loaded }

-- The numbers after a move: "Move 0 is the writer's, 1 the reader's."
abbrev pub tag_move : Procedures → Control → ℕ → Tags → Tags
tag_move ps c code g = cond (eqb code 0) (tag_store (step ps Writer c) g) (tag_load (step ps Reader c) g)

-- The machine with the numbers beside it.
pub record Tagged : Type 0 where
  pub state : State
  pub tags : Tags

-- Its events are the machine's own, with numbers in place of the words: a write's own number, and those that a read loaded.
abbrev pub with_tags : Procedures → Bench Tagged
with_tags ps =
    record {
      start = λ n initial. record { state = (four_slots ps).start n initial; tags = untouched };
      takes = λ m code. (four_slots ps).takes m.state code;
      move =
          λ m code x.
          let done = (four_slots ps).move m.state code x in
          let tags = tag_move ps m.state.control code m.tags in
          let beside = cond (eqb code 0) (replicate 8 tags.called) tags.loaded in
          record { state = record { state = done.state; tags = tags }; events = map (λ e. event (kind_of e) beside) done.events };
    }

-- The true number of a finished read: "the number of the write whose words were loaded" (02, #104), the same one beside all n words. The
-- events are those of a run with the numbers beside it.
pub record TrueNumbers (n : ℕ) (tagged : List Event) (numbers : List ℕ) : Type 0 where
  pub one_each : length numbers ≡ length (reads_of tagged)
  pub common : (j k : ℕ) → j < length numbers → k < n → get_or (read_at (reads_of tagged) j).item k 0 ≡ get_or numbers j 0
