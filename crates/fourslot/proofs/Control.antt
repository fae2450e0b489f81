-- The control invariant: what the four bits and both cores' pairs and indexes satisfy in every run from fresh, by how far each core is. It
-- is a test on bits, and one test computed at all stages and bits shows that each move keeps it and what follows from it.
-- Assumes nothing.
use mathlib.Core.Bool.{Bool, true, false, not, cond, ◌&&◌, beq}
use lib.Dec.{T}
use Rattle.fourslot.proofs.Every.{Test, and_left, and_right, imp, imp_use, all8, at8}

-- How far the writer is: idle, it has its pair, it has its index (and is at its words), it has set slot[pair].
pub data WriterStage : Type 0 where
  w_idle w_pair w_index w_set : WriterStage

-- How far the reader is: idle, it has its pair, it has announced it, it has its index (and is at its words).
pub data ReaderStage : Type 0 where
  r_idle r_pair r_announced r_index : ReaderStage

-- A write is open.
abbrev pub writing : WriterStage → Bool
writing w_idle = false
writing w_pair = true
writing w_index = true
writing w_set = true

-- The writer is at its words.
abbrev pub storing : WriterStage → Bool
storing w_idle = false
storing w_pair = false
storing w_index = true
storing w_set = false

-- The writer has set slot[pair].
abbrev pub committed : WriterStage → Bool
committed w_idle = false
committed w_pair = false
committed w_index = false
committed w_set = true

-- The reader has its pair and has not announced it.
abbrev selected : ReaderStage → Bool
selected r_idle = false
selected r_pair = true
selected r_announced = false
selected r_index = false

-- The reader has its pair and not yet its index.
abbrev pub opening : ReaderStage → Bool
opening r_idle = false
opening r_pair = true
opening r_announced = true
opening r_index = false

-- The reader has announced its pair.
abbrev announced : ReaderStage → Bool
announced r_idle = false
announced r_pair = false
announced r_announced = true
announced r_index = true

-- The reader is at its words.
abbrev pub loading : ReaderStage → Bool
loading r_idle = false
loading r_pair = false
loading r_announced = false
loading r_index = true

abbrev same : Bool → Bool → Bool
same = beq

-- The bits are latest, reading, slot[0], slot[1], the writer's pair and index, the reader's pair and index.
-- 1. A pair that was announced is still in reading. 2. The slot that is written is not the one that its pair shows. 3. The slot that is
-- read is the one that its pair shows, beside a writer of that pair that has not set slot[pair] yet. With the first, the last two forbid
-- that a read goes back behind the one before: 4. a pair that was just taken and is no longer the latest is in reading; 5. while a write
-- goes into the pair that is not the latest, the latest is in reading.
pub inv : WriterStage → ReaderStage → Test
inv ws rs l r s0 s1 wp wi rp ri =
    imp (announced rs) (same r rp)
    && (imp (storing ws) (same wi (not (cond wp s1 s0)))
    && (imp (loading rs && writing ws && not (committed ws) && same rp wp) (same ri (cond rp s1 s0))
    && (imp (selected rs && not (same rp l)) (same r rp)
    && imp (writing ws && not (same wp l)) (same r l))))

-- The invariant after the writer's move to its next stage, and after the reader's; a move at a word changes no bit.
abbrev pub inv_after_writer : WriterStage → ReaderStage → Test
inv_after_writer w_idle rs l r s0 s1 wp wi rp ri = inv w_pair rs l r s0 s1 (not r) wi rp ri
inv_after_writer w_pair rs l r s0 s1 wp wi rp ri = inv w_index rs l r s0 s1 wp (not (cond wp s1 s0)) rp ri
inv_after_writer w_index rs l r s0 s1 wp wi rp ri = inv w_set rs l r (cond wp s0 wi) (cond wp wi s1) wp wi rp ri
inv_after_writer w_set rs l r s0 s1 wp wi rp ri = inv w_idle rs wp r s0 s1 wp wi rp ri

abbrev pub inv_after_reader : WriterStage → ReaderStage → Test
inv_after_reader ws r_idle l r s0 s1 wp wi rp ri = inv ws r_pair l r s0 s1 wp wi l ri
inv_after_reader ws r_pair l r s0 s1 wp wi rp ri = inv ws r_announced l rp s0 s1 wp wi rp ri
inv_after_reader ws r_announced l r s0 s1 wp wi rp ri = inv ws r_index l r s0 s1 wp wi rp (cond rp s1 s0)
inv_after_reader ws r_index l r s0 s1 wp wi rp ri = inv ws r_idle l r s0 s1 wp wi rp ri

-- While the reader has its pair and not its index, a write that is about to set slot[.] of that pair has it for the latest.
abbrev pub safe : WriterStage → ReaderStage → Test
safe ws rs l r s0 s1 wp wi rp ri = imp (storing ws && opening rs && same rp wp) (same rp l)

-- The slot being stored to is not the one being loaded from.
abbrev pub unmet : WriterStage → ReaderStage → Test
unmet ws rs l r s0 s1 wp wi rp ri = not (storing ws && loading rs && same rp wp && same ri wi)

-- Nor is it the one that slot[.] shows, of either pair.
abbrev pub unshown : WriterStage → ReaderStage → Test
unshown ws rs l r s0 s1 wp wi rp ri = imp (storing ws) (not (same false wp && same s0 wi) && not (same true wp && same s1 wi))

-- Where the invariant holds, it holds after each move, and so do the three facts.
abbrev kept : WriterStage → ReaderStage → Test
unfolding inv
kept ws rs l r s0 s1 wp wi rp ri =
    imp (inv ws rs l r s0 s1 wp wi rp ri)
    (inv_after_writer ws rs l r s0 s1 wp wi rp ri
    && (inv_after_reader ws rs l r s0 s1 wp wi rp ri
    && (safe ws rs l r s0 s1 wp wi rp ri
    && (unmet ws rs l r s0 s1 wp wi rp ri
    && unshown ws rs l r s0 s1 wp wi rp ri))))

-- A test at every stage of the writer, and of the reader.
abbrev each_writer : (WriterStage → Bool) → Bool
each_writer f = f w_idle && (f w_pair && (f w_index && f w_set))

at_writer : (f : WriterStage → Bool) → T (each_writer f) → (ws : WriterStage) → T (f ws)
at_writer f t w_idle = and_left (f w_idle) _ t
at_writer f t w_pair = and_left (f w_pair) _ (and_right (f w_idle) _ t)
at_writer f t w_index = and_left (f w_index) _ (and_right (f w_pair) _ (and_right (f w_idle) _ t))
at_writer f t w_set = and_right (f w_index) _ (and_right (f w_pair) _ (and_right (f w_idle) _ t))

abbrev each_reader : (ReaderStage → Bool) → Bool
each_reader f = f r_idle && (f r_pair && (f r_announced && f r_index))

at_reader : (f : ReaderStage → Bool) → T (each_reader f) → (rs : ReaderStage) → T (f rs)
at_reader f t r_idle = and_left (f r_idle) _ t
at_reader f t r_pair = and_left (f r_pair) _ (and_right (f r_idle) _ t)
at_reader f t r_announced = and_left (f r_announced) _ (and_right (f r_pair) _ (and_right (f r_idle) _ t))
at_reader f t r_index = and_right (f r_announced) _ (and_right (f r_pair) _ (and_right (f r_idle) _ t))

-- The computed test: 16 pairs of stages, each with 256 values of the bits.
tested : T (each_writer (λ ws. each_reader (λ rs. all8 (kept ws rs))))
unfolding inv
tested = tt

module _ (ws : WriterStage) (rs : ReaderStage) (l r s0 s1 wp wi rp ri : Bool) (h : T (inv ws rs l r s0 s1 wp wi rp ri)) where
  abbrev here : (WriterStage → ReaderStage → Test) → Bool
  here g = g ws rs l r s0 s1 wp wi rp ri

  all : T (here inv_after_writer && (here inv_after_reader && (here safe && (here unmet && here unshown))))
  unfolding inv
  all =
      let at_stages = at_reader (λ rs. all8 (kept ws rs)) (at_writer (λ ws. each_reader (λ rs. all8 (kept ws rs))) tested ws) rs in
      imp_use (inv ws rs l r s0 s1 wp wi rp ri) _ (at8 (kept ws rs) at_stages l r s0 s1 wp wi rp ri) h

  facts : T (here safe && (here unmet && here unshown))
  facts = and_right (here inv_after_reader) _ (and_right (here inv_after_writer) _ all)

  pub writer_keeps : T (here inv_after_writer)
  writer_keeps = and_left (here inv_after_writer) _ all

  pub reader_keeps : T (here inv_after_reader)
  reader_keeps = and_left (here inv_after_reader) _ (and_right (here inv_after_writer) _ all)

  pub set_safe : T (here safe)
  set_safe = and_left (here safe) _ facts

  pub never_met : T (here unmet)
  never_met = and_left (here unmet) _ (and_right (here safe) _ facts)

  pub not_shown : T (here unshown)
  not_shown = and_right (here unmet) _ (and_right (here safe) _ facts)

-- It holds at the start.
pub at_start : T (inv w_idle r_idle false false false false false false false false)
unfolding inv
at_start = tt
