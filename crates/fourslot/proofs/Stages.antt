-- How far each core is, by its phase, with the control invariant; and how each move takes it on.
-- Assumes nothing.
use Prim.Native.Nat.{ℕ, ◌+◌, ◌≤◌, ◌<◌}
use native.Mathlib.Omega.{arith}
use mathlib.Core.Path.{◌≡◌, refl}
use mathlib.Core.Bool.{Bool, true}
use lib.Dec.{T}
use Rattle.control.specs.declared.Control.{Control}
use Rattle.control.specs.Simpson.{simpson}
use Rattle.control.specs.Step.{sound}
use Rattle.control.proofs.Sound.{sound_yes}
use Rattle.fourslot.proofs.Every.{Test}
use Rattle.fourslot.proofs.Control.{WriterStage, w_idle, w_pair, w_index, w_set, ReaderStage, r_idle, r_pair, r_announced, r_index, inv, inv_after_writer, inv_after_reader, writer_keeps, reader_keeps}
use Rattle.fourslot.proofs.Moves.{paired, indexed, word_stored, slot_set, latest_set, latest_taken, pair_announced, pointed, word_loaded, read_done}

-- The phases of each stage of a call.
abbrev pub WriterAt : ℕ → WriterStage → ℕ → Type 0
WriterAt n w_idle p = p ≡ 0
WriterAt n w_pair p = p ≡ 1
WriterAt n w_index p = (2 ≤ p) × (p ≤ 2 + n)
WriterAt n w_set p = p ≡ 3 + n

abbrev pub ReaderAt : ℕ → ReaderStage → ℕ → Type 0
ReaderAt n r_idle p = p ≡ 0
ReaderAt n r_pair p = p ≡ 1
ReaderAt n r_announced p = p ≡ 2
ReaderAt n r_index p = (3 ≤ p) × (p < 3 + n)

-- A test of the bits and of the cores' pairs and indexes.
abbrev pub on : Control → Test → Bool
on c f =
    f c.bits.latest c.bits.reading c.bits.slot0 c.bits.slot1 c.writer.pair c.writer.index c.reader.pair
    c.reader.index

pub record At (ws : WriterStage) (rs : ReaderStage) (c : Control) : Type 0 where
  pub low : 1 ≤ c.n
  pub high : c.n ≤ 8
  pub writer : WriterAt c.n ws c.writer.phase
  pub reader : ReaderAt c.n rs c.reader.phase
  pub test : T (on c (inv ws rs))

writer_within : (ws : WriterStage) (n p : ℕ) → WriterAt n ws p → p ≤ n + 3
writer_within w_idle n p h = omega arith
writer_within w_pair n p h = omega arith
writer_within w_index n p h = omega (arith, h.1)
writer_within w_set n p h = omega arith

reader_within : (rs : ReaderStage) (n p : ℕ) → 1 ≤ n → ReaderAt n rs p → p ≤ n + 2
reader_within r_idle n p l h = omega arith
reader_within r_pair n p l h = omega arith
reader_within r_announced n p l h = omega arith
reader_within r_index n p l h = omega (arith, h.1)

module _ {ws : WriterStage} {rs : ReaderStage} {c : Control} (a : At ws rs c) where
  pub at_sound : sound simpson c ≡ true
  at_sound =
      sound_yes c
      (record {
        low = a.low;
        high = a.high;
        writing = writer_within ws c.n c.writer.phase a.writer;
        reading = reader_within rs c.n c.reader.phase a.low a.reader;
      })

  writer_next : T (on c (inv_after_writer ws rs))
  writer_next = writer_keeps ws rs _ _ _ _ _ _ _ _ a.test

  reader_next : T (on c (inv_after_reader ws rs))
  reader_next = reader_keeps ws rs _ _ _ _ _ _ _ _ a.test

-- The writer's moves.
pub at_pair : {rs : ReaderStage} {c : Control} → At w_idle rs c → At w_pair rs (paired c)
at_pair a = record { low = a.low; high = a.high; writer = refl; reader = a.reader; test = writer_next a }

pub at_index : {rs : ReaderStage} {c : Control} → At w_pair rs c → At w_index rs (indexed c)
at_index a = record { low = a.low; high = a.high; writer = (omega arith, omega arith); reader = a.reader; test = writer_next a }

pub at_store : {rs : ReaderStage} (c : Control) → c.writer.phase < 2 + c.n → At w_index rs c → At w_index rs (word_stored c)
at_store c l a =
    record {
      low = a.low;
      high = a.high;
      writer = (omega (arith, a.writer.0), omega arith);
      reader = a.reader;
      test = a.test;
    }

pub at_slot : {rs : ReaderStage} (c : Control) → At w_index rs c → At w_set rs (slot_set c)
at_slot c a = record { low = a.low; high = a.high; writer = omega arith; reader = a.reader; test = writer_next a }

pub at_latest : {rs : ReaderStage} {c : Control} → At w_set rs c → At w_idle rs (latest_set c)
at_latest a = record { low = a.low; high = a.high; writer = refl; reader = a.reader; test = writer_next a }

-- The reader's.
pub at_take : {ws : WriterStage} {c : Control} → At ws r_idle c → At ws r_pair (latest_taken c)
at_take a = record { low = a.low; high = a.high; writer = a.writer; reader = refl; test = reader_next a }

pub at_announce : {ws : WriterStage} {c : Control} → At ws r_pair c → At ws r_announced (pair_announced c)
at_announce a = record { low = a.low; high = a.high; writer = a.writer; reader = refl; test = reader_next a }

pub at_point : {ws : WriterStage} (c : Control) → At ws r_announced c → At ws r_index (pointed c)
at_point c a =
    record {
      low = a.low;
      high = a.high;
      writer = a.writer;
      reader = (omega arith, omega (arith, a.low));
      test = reader_next a;
    }

pub at_load : {ws : WriterStage} (c : Control) → c.reader.phase < 2 + c.n → At ws r_index c → At ws r_index (word_loaded c)
at_load c l a =
    record {
      low = a.low;
      high = a.high;
      writer = a.writer;
      reader = (omega (arith, a.reader.0), omega arith);
      test = a.test;
    }

pub at_done : {ws : WriterStage} {c : Control} → At ws r_index c → At ws r_idle (read_done c)
at_done a = record { low = a.low; high = a.high; writer = a.writer; reader = refl; test = reader_next a }
