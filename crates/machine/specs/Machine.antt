-- 01, "The machine": the control part with the four slots and the two cores' items beside it, its start and its moves.
use Rattle.std.specs.Prelude.{Option, Some, None, ℕ, ◌+◌, Bool, true, false, cond, List, [], ◌++◌, get_or, set, take, replicate, Ok}
use Rattle.refusals.specs.declared.Fault.TheVariants as fault
use Rattle.refusals.specs.declared.Fault.TheVariants.{Width}
use Rattle.refusals.specs.Table.{refusal_at}
use Rattle.words.specs.Words.{is_width, eight}
use Rattle.control.specs.declared.Core.{Core}
use Rattle.control.specs.declared.Control.{Control}
use Rattle.control.specs.declared.Step.{Step}
use Rattle.control.specs.declared.Happened.{Happened}
use Rattle.control.specs.declared.Happened.TheVariants.{Called, Returned}
use Rattle.control.specs.Simpson.{Writer, Reader, Procedures}
use Rattle.control.specs.Step.{step, idle}
use Rattle.machine.specs.declared.State.{State}
use Rattle.machine.specs.declared.Moved.{Moved}
use Rattle.machine.specs.declared.Started.{Started}
use Rattle.machine.specs.declared.SoundState.{SoundState}

-- "words past n are ignored and count as 0"
abbrev pub first_words : ℕ → List ℕ → List ℕ
first_words n v = eight (take n v)

-- "Four slots are named by a pair bit and an index bit": where word k of the slot (pair, index) stands.
abbrev pub slot_word : Bool → Bool → ℕ → ℕ
slot_word false false k = k
slot_word false true k = 8 + k
slot_word true false k = 16 + k
slot_word true true k = 24 + k

-- The slots after a move that leaves the writer so: the word that is touched is stored.
abbrev pub stored : Option ℕ → Core → List ℕ → List ℕ → List ℕ
stored None c slots item = slots
stored (Some k) c slots item = set slots (slot_word c.pair c.index k) (get_or item k 0)

-- The reader's item after a move that leaves the reader so: "each load replaces one word".
abbrev pub loaded : Option ℕ → Core → List ℕ → List ℕ → List ℕ
loaded None c slots item = item
loaded (Some k) c slots item = set item k (get_or slots (slot_word c.pair c.index k) 0)

-- "CW (write called, with its item), RW (write returned), CR (read called), RR (read returned, with its item)": where the two items stand.
abbrev pub is_call : Option Happened → Bool
is_call None = false
is_call (Some Called) = true
is_call (Some Returned) = false

abbrev pub is_return : Option Happened → Bool
is_return None = false
is_return (Some Called) = false
is_return (Some Returned) = true

-- The state after a move of the writer, and after one of the reader.
abbrev pub with_writer : State → Control → List ℕ → List ℕ → State
with_writer s control slots taken = record { control = control; slots = slots; taken = taken; loaded = s.loaded }

abbrev pub with_reader : State → Control → List ℕ → State
with_reader s control loaded = record { control = control; slots = s.slots; taken = s.taken; loaded = loaded }

-- What a step of the control part makes of a state: the writer "take[s] the item in" at a call, and CW has the copy taken.
unfoldable pub writer_after : Step → State → List ℕ → Moved
writer_after t s v =
    let taken = cond (is_call t.happened) (first_words s.control.n v) s.taken in
    let slots = stored t.touched t.control.writer s.slots taken in
    let item = cond (is_call t.happened) (Some taken) None in
    record { answer = t.answer; happened = t.happened; item = item; state = with_writer s t.control slots taken }

-- RR has the first n words loaded.
unfoldable pub reader_after : Step → State → Moved
reader_after t s =
    let read = loaded t.touched t.control.reader s.slots s.loaded in
    let item = cond (is_return t.happened) (Some (first_words s.control.n read)) None in
    record { answer = t.answer; happened = t.happened; item = item; state = with_reader s t.control read }

-- A move of the writer, to which an item is handed, and a move of the reader.
abbrev pub writer_move : Procedures → State → List ℕ → Moved
writer_move ps s v = writer_after (step ps Writer s.control) s v

abbrev pub reader_move : Procedures → State → Moved
reader_move ps s = reader_after (step ps Reader s.control) s

-- A sound state, as any state is.
abbrev pub plain : SoundState → State
plain s =
    record { control = s.control.control; slots = s.slots; taken = s.taken; loaded = s.loaded }

-- "STATE returns the state that came in, with no event."
abbrev pub refused_move : State → Moved
refused_move s =
    record { answer = refusal_at fault.State 0; happened = None; item = None; state = s }

-- The state after a writer that is called has taken this item in.
abbrev pub after_taking : Option Happened → List ℕ → State → State
after_taking h v s =
    with_writer s s.control s.slots (cond (is_call h) (first_words s.control.n v) s.taken)

-- The state after the word that is touched was stored, and after it was loaded.
abbrev pub after_storing : Option ℕ → State → State
after_storing w s =
    with_writer s s.control (stored w s.control.writer s.slots s.taken) s.taken

abbrev pub after_loading : Option ℕ → State → State
after_loading w s = with_reader s s.control (loaded w s.control.reader s.slots s.loaded)

-- "all bits 0, both cores idle, .. all locals 0"
abbrev pub idle_state : ℕ → List ℕ → State
idle_state n slots = record { control = idle n; slots = slots; taken = eight []; loaded = eight [] }

-- "all four slots hold the initial item"
unfoldable pub in_all_four : List ℕ → List ℕ
in_all_four v = v ++ (v ++ (v ++ v))

-- "Starting a machine with a bad width gives WIDTH, place 0, and a state that is all zeros."
unfoldable pub fresh : ℕ → List ℕ → Started
fresh n initial =
    cond (is_width n) (record { answer = Ok 0; state = idle_state n (in_all_four (first_words n initial)) })
    (record { answer = refusal_at Width 0; state = idle_state 0 (replicate 32 0) })
