-- Each move of Simpson's procedures, by the phase at which it is made: its event, the word that it touches, and the control part after it.
-- Assumes nothing.
use Prim.Native.Nat.{ℕ, ◌+◌, ◌<◌, ◌≤◌}
use Rattle.std.specs.Prelude.{Some, None}
use native.Mathlib.Omega.{arith}
use mathlib.Core.Path.{◌≡◌, sym}
use mathlib.Core.Bool.{true, not}
use Rattle.control.specs.declared.Control.{Control}
use Rattle.control.specs.declared.Happened.TheVariants.{Called, Returned}
use Rattle.control.specs.Simpson.{slot_at, set_pair, set_index, set_slot, set_latest, set_reading, Writer, Reader, simpson}
use Rattle.control.specs.Step.{does, at_phase, sound, accepted, step}
use Rattle.control.proofs.Lists.{write_length, read_length, writing_pair, writing_index, writing_word, writing_slot, writing_latest, reading_takes_pair, reading_announce, reading_index, reading_word}
use Rattle.control.proofs.Steps.{step_first, step_between, step_last}

-- The control part after each move of a write: pair, index, word, slot, latest.
abbrev pub paired : Control → Control
paired c = at_phase Writer 1 (does Writer (set_pair (λ b x. not b.reading)) c)

abbrev pub indexed : Control → Control
indexed c = at_phase Writer 2 (does Writer (set_index (λ b x. not (slot_at b x.pair))) c)

abbrev pub word_stored : Control → Control
word_stored c = at_phase Writer (c.writer.phase + 1) c

abbrev pub slot_set : Control → Control
slot_set c = at_phase Writer (c.n + 3) (does Writer (set_slot (λ b x. x.index)) c)

abbrev pub latest_set : Control → Control
latest_set c = at_phase Writer 0 (does Writer (set_latest (λ b x. x.pair)) c)

-- And after each move of a read: pair, reading, index, word, the last word.
abbrev pub latest_taken : Control → Control
latest_taken c = at_phase Reader 1 (does Reader (set_pair (λ b x. b.latest)) c)

abbrev pub pair_announced : Control → Control
pair_announced c = at_phase Reader 2 (does Reader (set_reading (λ b x. x.pair)) c)

abbrev pub pointed : Control → Control
pointed c = at_phase Reader 3 (does Reader (set_index (λ b x. slot_at b x.pair)) c)

abbrev pub word_loaded : Control → Control
word_loaded c = at_phase Reader (c.reader.phase + 1) c

abbrev pub read_done : Control → Control
read_done c = at_phase Reader 0 c

module _ (c : Control) (h : sound simpson c ≡ true) where
  pub pair_move : c.writer.phase ≡ 0 → step simpson Writer c ≡ accepted (Some Called) None (paired c)
  pair_move e = sym (step_first simpson Writer c h (writing_pair c.n c.writer.phase e) (write_length c.n) e (omega arith))

  pub index_move : c.writer.phase ≡ 1 → step simpson Writer c ≡ accepted None None (indexed c)
  index_move e =
      let action = writing_index c.n c.writer.phase e in
      sym (step_between simpson Writer c h action (write_length c.n) 2 (omega arith) (omega arith) (omega arith))

  pub store_move : (k : ℕ) → c.writer.phase ≡ 2 + k → k < c.n → step simpson Writer c ≡ accepted None (Some k) (word_stored c)
  store_move k e l =
      let action = writing_word c.n c.writer.phase k (omega arith) l in
      sym (step_between simpson Writer c h action (write_length c.n) (c.writer.phase + 1) (omega arith) (omega arith) (omega arith))

  pub slot_move : c.writer.phase ≡ 2 + c.n → step simpson Writer c ≡ accepted None None (slot_set c)
  slot_move e =
      let action = writing_slot c.n c.writer.phase (omega arith) in
      sym (step_between simpson Writer c h action (write_length c.n) (c.n + 3) (omega arith) (omega arith) (omega arith))

  pub latest_move : c.writer.phase ≡ 3 + c.n → step simpson Writer c ≡ accepted (Some Returned) None (latest_set c)
  latest_move e =
      let action = writing_latest c.n c.writer.phase (omega arith) in
      sym (step_last simpson Writer c h action (write_length c.n) (omega arith) (omega arith))

  pub take_move : c.reader.phase ≡ 0 → step simpson Reader c ≡ accepted (Some Called) None (latest_taken c)
  take_move e = sym (step_first simpson Reader c h (reading_takes_pair c.n c.reader.phase e) (read_length c.n) e (omega arith))

  pub announce_move : c.reader.phase ≡ 1 → step simpson Reader c ≡ accepted None None (pair_announced c)
  announce_move e =
      let action = reading_announce c.n c.reader.phase e in
      sym (step_between simpson Reader c h action (read_length c.n) 2 (omega arith) (omega arith) (omega arith))

  -- With at least one word to come.
  pub point_move : c.reader.phase ≡ 2 → 1 ≤ c.n → step simpson Reader c ≡ accepted None None (pointed c)
  point_move e l =
      let action = reading_index c.n c.reader.phase e in
      sym (step_between simpson Reader c h action (read_length c.n) 3 (omega arith) (omega arith) (omega arith))

  pub load_move : (k : ℕ) → c.reader.phase ≡ 3 + k → 1 + k < c.n → step simpson Reader c ≡ accepted None (Some k) (word_loaded c)
  load_move k e l =
      let action = reading_word c.n c.reader.phase k (omega arith) (omega arith) in
      sym (step_between simpson Reader c h action (read_length c.n) (c.reader.phase + 1) (omega arith) (omega arith) (omega arith))

  pub last_move : (k : ℕ) → c.reader.phase ≡ 3 + k → 1 + k ≡ c.n → step simpson Reader c ≡ accepted (Some Returned) (Some k) (read_done c)
  last_move k e l =
      let action = reading_word c.n c.reader.phase k (omega arith) (omega arith) in
      sym (step_last simpson Reader c h action (read_length c.n) (omega arith) (omega arith))
