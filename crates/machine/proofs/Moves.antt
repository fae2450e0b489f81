-- What holds of the moves of a whole machine, whatever its two procedures are; and that the fresh one is sound.
-- Assumes nothing.
use Prim.Native.Nat.{ℕ, ◌+◌}
use mathlib.Core.Path.{◌≡◌, refl}
use mathlib.Core.Bool.{Bool, true, false, cond}
use mathlib.Core.List.{List, []}
use lib.ListN.{length, take}
use lib.Dec.{eqb}
use borrow.Table.Steps.{cases}
use borrow.Author.Tests.{ne_eqb}
use Rattle.std.specs.Prelude.{Ok, Option, Some, None}
use Rattle.words.specs.Words.{is_width, eight}
use Rattle.control.specs.declared.Happened.{Happened}
use Rattle.control.specs.declared.Happened.TheVariants.{Returned}
use Rattle.control.specs.Simpson.{moves, Writer, Reader, Procedures, simpson}
use Rattle.control.specs.Step.{sound, step}
use Rattle.control.proofs.Always.{always_moves, else_refused, stays_sound, reader_kept, writer_kept}
use Rattle.control.proofs.Moves.{idle_sound}
use Rattle.machine.specs.declared.State.{State}
use Rattle.machine.specs.Machine.{first_words, is_call, is_return, refused_move, writer_after, reader_after, writer_move, reader_move, fresh}

-- Each side can always move (001's asynchrony): a sound state is never refused, and stays sound.
pub writer_always : (ps : Procedures) (s : State) (v : List ℕ) → sound ps s.control ≡ true
    → ((writer_move ps s v).answer ≡ Ok 0) × (sound ps (writer_move ps s v).state.control ≡ true)
unfolding writer_after
writer_always ps s v h = (always_moves ps Writer s.control h, stays_sound ps Writer s.control h)

pub reader_always : (ps : Procedures) (s : State) → sound ps s.control ≡ true
    → ((reader_move ps s).answer ≡ Ok 0) × (sound ps (reader_move ps s).state.control ≡ true)
unfolding reader_after
reader_always ps s h = (always_moves ps Reader s.control h, stays_sound ps Reader s.control h)

-- A move that is not refused, from the state that it leaves and its event.
pub writer_moved : (s : State) (v : List ℕ) (after : State) {h : Option Happened} → sound simpson s.control ≡ true
    → after ≡ (writer_move simpson s v).state → h ≡ (writer_move simpson s v).happened
    → record { answer = Ok 0; happened = h; item = cond (is_call h) (Some after.taken) None; state = after } ≡ writer_move simpson s v
unfolding writer_after
writer_moved s v after is_sound is_after is_event = rw (is_after, is_event, always_moves simpson Writer s.control is_sound)

pub reader_moved : (s : State) (after : State) {h : Option Happened} → sound simpson s.control ≡ true
    → after ≡ (reader_move simpson s).state → h ≡ (reader_move simpson s).happened
    → record { answer = Ok 0; happened = h; item = cond (is_return h) (Some (first_words s.control.n after.loaded)) None; state = after }
    ≡ reader_move simpson s
unfolding reader_after
reader_moved s after is_sound is_after is_event = rw (is_after, is_event, always_moves simpson Reader s.control is_sound)

-- A move on any other state is refused, and the state that came in is handed back.
pub writer_refused : (ps : Procedures) (s : State) (v : List ℕ) → sound ps s.control ≡ false → writer_move ps s v ≡ refused_move s
unfolding writer_after
writer_refused ps s v h = rw (else_refused ps Writer s.control h)

pub reader_refused : (ps : Procedures) (s : State) → sound ps s.control ≡ false → reader_move ps s ≡ refused_move s
unfolding reader_after
reader_refused ps s h = rw (else_refused ps Reader s.control h)

-- "for a writer that is idle, the item": the item handed to any other is ignored.
not_called : (ps : Procedures) (s : State) → (s.control.writer.phase ≡ 0 → ⊥) → is_call (step ps Writer s.control).happened ≡ false
unfolding step
not_called ps s busy =
    let p = s.control.writer.phase in
    let m = length (moves (ps Writer s.control.n)) in
    cases (sound ps s.control) (λ h. rw (h, ne_eqb p 0 busy) (later (eqb (p + 1) m))) (λ h. rw h)
  where
    later : (b : Bool) → is_call (cond b (Some Returned) None) ≡ false
    later true = refl
    later false = refl

pub item_ignored : (ps : Procedures) (s : State) (v w : List ℕ) → (s.control.writer.phase ≡ 0 → ⊥)
    → writer_move ps s v ≡ writer_move ps s w
unfolding writer_after
item_ignored ps s v w busy = rw (not_called ps s busy)

-- "words past n are ignored"
pub past_ignored : (ps : Procedures) (s : State) (v w : List ℕ) → take s.control.n v ≡ take s.control.n w
    → writer_move ps s v ≡ writer_move ps s w
unfolding writer_after
past_ignored ps s v w e = rw e

-- A move leaves alone what is not its side's: the other core, its item and, a reader's, the slots.
pub writer_keeps : (ps : Procedures) (s : State) (v : List ℕ)
    → ((writer_move ps s v).state.control.reader ≡ s.control.reader) × ((writer_move ps s v).state.loaded ≡ s.loaded)
unfolding writer_after
writer_keeps ps s v = (reader_kept ps s.control, refl)

pub reader_keeps : (ps : Procedures) (s : State)
    → ((reader_move ps s).state.control.writer ≡ s.control.writer) × ((reader_move ps s).state.taken ≡ s.taken)
    × ((reader_move ps s).state.slots ≡ s.slots)
unfolding reader_after
reader_keeps ps s = (writer_kept ps s.control, refl, refl)

-- The fresh machine is sound.
pub fresh_sound : (n : ℕ) (v : List ℕ) → is_width n ≡ true → sound simpson (fresh n v).state.control ≡ true
unfolding fresh
fresh_sound n v w = rw w (idle_sound n w)
