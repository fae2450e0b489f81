-- Both cores never occupy the same slot, and no store falls into the slot of a read that has its index, in every state that a run reaches.
-- Assumes nothing.
use Prim.Native.Nat.{ℕ, ◌+◌, ◌-◌, ◌≤◌, ◌<◌}
use Rattle.std.specs.Prelude.{Some}
use native.Mathlib.Omega.{arith}
use native.Mathlib.Decide.{dec_lt}
use mathlib.Core.Path.{◌≡◌, refl, sym}
use mathlib.Core.Bool.{true}
use mathlib.Core.List.{List}
use lib.Dec.{eqb}
use borrow.Table.Steps.{cases}
use Rattle.refusals.proofs.Apart.{apart}
use Rattle.words.specs.Words.{is_width}
use Rattle.words.proofs.Bounds.{between_true}
use Rattle.control.specs.declared.Control.{Control}
use Rattle.control.specs.Simpson.{Writer, Reader, simpson}
use Rattle.control.specs.Step.{step}
use Rattle.control.proofs.Occupied.{writer_occupies, reader_occupies}
use Rattle.machine.specs.declared.State.{State}
use Rattle.machine.specs.Machine.{writer_after, reader_after, fresh}
use Rattle.runs.specs.Run.{four_slots}
use Rattle.runs.proofs.Runs.{last_all}
use Rattle.fourslot.specs.Theorem.{SameSlot, Apart, CoresApart}
use Rattle.fourslot.proofs.Control.{WriterStage, w_idle, w_pair, w_index, w_set, ReaderStage, r_idle, r_pair, r_announced, r_index, never_met, at_start}
use Rattle.fourslot.proofs.Moves.{pair_move, index_move, store_move, slot_move, latest_move, take_move, announce_move, point_move, load_move, last_move}
use Rattle.fourslot.proofs.Words.{met}
use Rattle.fourslot.proofs.Stages.{At, at_sound, at_pair, at_index, at_store, at_slot, at_latest, at_take, at_announce, at_point, at_load, at_done}

-- A control part of which the invariant holds, at some stages.
abbrev Steady : Control → Type 0
Steady c = (ws : WriterStage) × (rs : ReaderStage) × At ws rs c

writer_steady : (ws : WriterStage) (rs : ReaderStage) (c : Control) → At ws rs c → Steady (step simpson Writer c).control
writer_steady w_idle rs c a = rw (pair_move c (at_sound a) a.writer) (w_pair, rs, at_pair a)
writer_steady w_pair rs c a = rw (index_move c (at_sound a) a.writer) (w_index, rs, at_index a)
writer_steady w_index rs c a = go (dec_lt c.writer.phase (2 + c.n))
  where
    go : Dec (c.writer.phase < 2 + c.n) → Steady (step simpson Writer c).control
    go (yes l) =
        rw (store_move c (at_sound a) (c.writer.phase - 2) (omega (arith, a.writer.0)) (omega (arith, a.writer.0)))
        (w_index, rs, at_store c l a)
    go (no m) = rw (slot_move c (at_sound a) (omega (arith, a.writer.1))) (w_set, rs, at_slot c a)
writer_steady w_set rs c a = rw (latest_move c (at_sound a) a.writer) (w_idle, rs, at_latest a)

reader_steady : (ws : WriterStage) (rs : ReaderStage) (c : Control) → At ws rs c → Steady (step simpson Reader c).control
reader_steady ws r_idle c a = rw (take_move c (at_sound a) a.reader) (ws, r_pair, at_take a)
reader_steady ws r_pair c a = rw (announce_move c (at_sound a) a.reader) (ws, r_announced, at_announce a)
reader_steady ws r_announced c a = rw (point_move c (at_sound a) a.reader a.low) (ws, r_index, at_point c a)
reader_steady ws r_index c a = go (dec_lt c.reader.phase (2 + c.n))
  where
    go : Dec (c.reader.phase < 2 + c.n) → Steady (step simpson Reader c).control
    go (yes l) =
        rw (load_move c (at_sound a) (c.reader.phase - 3) (omega (arith, a.reader.0)) (omega (arith, a.reader.0)))
        (ws, r_index, at_load c l a)
    go (no m) =
        rw (last_move c (at_sound a) (c.reader.phase - 3) (omega (arith, a.reader.0)) (omega (arith, a.reader.0, a.reader.1)))
        (ws, r_idle, at_done a)

move_steady : (s : State) (code : ℕ) (x : List ℕ) → Steady s.control → Steady ((four_slots simpson).move s code x).state.control
unfolding writer_after reader_after
move_steady s code x i =
    cases (eqb code 0) (λ e. rw e (writer_steady i.0 i.1 s.control i.2))
    (λ e. rw e (reader_steady i.0 i.1 s.control i.2))

-- A writer at its words and a reader at its words have not the same slot.
words_apart : (ws : WriterStage) (rs : ReaderStage) (c : Control) → At ws rs c → 2 ≤ c.writer.phase → c.writer.phase < 2 + c.n
    → 3 ≤ c.reader.phase → SameSlot c → ⊥
words_apart w_idle rs c a l m r same = absurd (omega (arith, a.writer))
words_apart w_pair rs c a l m r same = absurd (omega (arith, a.writer))
words_apart w_set rs c a l m r same = absurd (omega (arith, a.writer))
words_apart w_index r_idle c a l m r same = absurd (omega (arith, a.reader))
words_apart w_index r_pair c a l m r same = absurd (omega (arith, a.reader))
words_apart w_index r_announced c a l m r same = absurd (omega (arith, a.reader))
words_apart w_index r_index c a l m r same =
    met _ _ _ _ (sym same.0) (sym same.1) (never_met w_index r_index _ _ _ _ _ _ _ _ a.test)

-- A move that stores is made by a writer at its words, and leaves it its slot.
store_within : (ws : WriterStage) (rs : ReaderStage) (c : Control) (k : ℕ) → At ws rs c → (step simpson Writer c).touched ≡ Some k
    → (2 ≤ c.writer.phase) × (c.writer.phase < 2 + c.n) × (SameSlot (step simpson Writer c).control → SameSlot c)
store_within w_idle rs c k a e = let t = rw (pair_move c (at_sound a) a.writer) at e in apart cc
store_within w_pair rs c k a e = let t = rw (index_move c (at_sound a) a.writer) at e in apart cc
store_within w_set rs c k a e = let t = rw (latest_move c (at_sound a) a.writer) at e in apart cc
store_within w_index rs c k a e = go (dec_lt c.writer.phase (2 + c.n))
  where
    go : Dec (c.writer.phase < 2 + c.n)
        → (2 ≤ c.writer.phase) × (c.writer.phase < 2 + c.n) × (SameSlot (step simpson Writer c).control → SameSlot c)
    go (yes l) =
        let q = store_move c (at_sound a) (c.writer.phase - 2) (omega (arith, a.writer.0)) (omega (arith, a.writer.0)) in
        (a.writer.0, l, rw q (λ same. same))
    go (no m) = let t = rw (slot_move c (at_sound a) (omega (arith, a.writer.1))) at e in apart cc

steady_apart : (c : Control) → Steady c → Apart c
unfolding simpson
steady_apart c (ws, rs, a) =
    record {
      occupied =
          λ w r.
          let u = (writer_occupies c).0 w in
          let v = (reader_occupies c).0 r in
          words_apart ws rs c a (omega (arith, u.0)) u.1 (omega (arith, v.0));
      stored = λ k e r same. let u = store_within ws rs c k a e in words_apart ws rs c a u.0 u.1 r (u.2 same);
    }

fresh_steady : (n : ℕ) (initial : List ℕ) → is_width n ≡ true → Steady (fresh n initial).state.control
unfolding fresh
fresh_steady n initial w =
    let h = between_true 1 8 n w in
    rw w (w_idle, r_idle, record { low = h.0; high = h.1; writer = refl; reader = refl; test = at_start })

pub cores_apart : CoresApart
cores_apart n initial items codes w =
    steady_apart _
    (last_all (four_slots simpson) (λ s. Steady s.control) move_steady codes (fresh n initial).state items (fresh_steady n initial w))
