-- 01, "Marked examples": "Those marked P are proved. Bytes are in hex; logs have n = 1 and initial 0 where not stated."
use Rattle.std.specs.Prelude.{ℕ, ◌≡◌, List, [], ◌∷◌, ◌++◌, length, drop, replicate, Ok}
use Rattle.refusals.specs.declared.Fault.{Fault}
use Rattle.refusals.specs.declared.Fault.TheVariants.{Cut, Form, Turn, NoPlace}
use Rattle.refusals.specs.Table.{Answer, refusal_at}
use Rattle.words.specs.Words.{eight}
use Rattle.numbers.specs.Number.{number_of, answer_of, bytes_of}
use Rattle.history.specs.declared.Event.{Event}
use Rattle.history.specs.declared.Event.TheVariants.{
  WriteCalled,
  WriteReturned,
  ReadCalled,
  ReadReturned,
}
use Rattle.event_log.specs.Log.{log_bytes}
use Rattle.placing.specs.Judgement.{Judges}
use Rattle.runs.specs.Run.{Runs}

pub data Example : Type 0 where
  -- a number and its bytes
  number : ℕ → List ℕ → Example
  -- bytes that are no number, and the fault
  no_number : List ℕ → Fault → Example
  -- a file that is neither a move file nor a log, the fault and its place
  no_file : List ℕ → Fault → ℕ → Example
  -- a move file, the events of its run, the log that it writes, and the placing of that log
  ran : List ℕ → List Event → List ℕ → List ℕ → Example
  -- the one word of the initial item, some events, their log, what the judge answers, and the entries that it writes
  judged : ℕ → List Event → List ℕ → Answer → List ℕ → Example

-- An item of one word.
abbrev pub one : ℕ → List ℕ
one x = eight (x ∷ [])

-- What each call is lent: more bytes, or entries, than any of the examples needs.
abbrev pub lent : List ℕ
lent = replicate 16 9

-- The lent output with these at its front, and the rest as it was.
abbrev pub begun : List ℕ → List ℕ
begun front = front ++ drop (length front) lent

-- A number is written so and read back, with nothing left over; bytes that are no number are refused at place 0. `Runs` is what `run`
-- promises, and `Judges` what `judge` does; a refusal leaves what is lent as it was. Each allows one outcome only (`Judges` by the law
-- `judges_unique` of `placing`), so P8's entry is 2 and not 1.
abbrev pub Holds : Example → Type 0
Holds (number v bytes) = (bytes_of v ≡ bytes) × (number_of bytes ≡ Ok (v, length bytes))
Holds (no_number bytes fault) = answer_of (number_of bytes) ≡ refusal_at fault 0
Holds (no_file s fault place) = Runs s lent (refusal_at fault place) lent × Judges s lent (refusal_at fault place) lent
Holds (ran moves es log placing) =
    (log_bytes 1 (one 0) es ≡ log) × Runs moves lent (Ok (length log)) (begun log)
    × Judges log lent (Ok (length placing)) (begun placing)
Holds (judged initial es log answer entries) = (log_bytes 1 (one initial) es ≡ log) × Judges log lent answer (begun entries)

abbrev pub marked : List Example
marked =
    -- P1 "number 127 is 7f; 128 is 80 01; 16,384 is 80 80 01; 4,294,967,295 is ff ff ff ff 0f."
    number 127 (0x7f ∷ [])
    ∷ number 128 (0x80 ∷ 0x01 ∷ [])
    ∷ number 16384 (0x80 ∷ 0x80 ∷ 0x01 ∷ [])
    ∷ number 4294967295 (0xff ∷ 0xff ∷ 0xff ∷ 0xff ∷ 0x0f ∷ [])
    -- P2 "ff ff ff ff 10, 80 00 and 80 80 80 80 80 are FORM; 80 alone is CUT."
    ∷ no_number (0xff ∷ 0xff ∷ 0xff ∷ 0xff ∷ 0x10 ∷ []) Form
    ∷ no_number (0x80 ∷ 0x00 ∷ []) Form
    ∷ no_number (0x80 ∷ 0x80 ∷ 0x80 ∷ 0x80 ∷ 0x80 ∷ []) Form
    ∷ no_number (0x80 ∷ []) Cut
    -- P3 "empty input: CUT at 0."
    ∷ no_number [] Cut
    ∷ no_file [] Cut 0
    -- P4 "items 7 7, moves five writer, four reader: log 01 00 04 00 07 01 02 03 07, placing 1."
    ∷ ran
    (1 ∷ 0 ∷ 2 ∷ 7 ∷ 7 ∷ 9 ∷ 0 ∷ 0 ∷ 0 ∷ 0 ∷ 0 ∷ 1 ∷ 1 ∷ 1 ∷ 1 ∷ [])
    (WriteCalled (one 7) ∷ WriteReturned ∷ ReadCalled ∷ ReadReturned (one 7) ∷ [])
    (1 ∷ 0 ∷ 4 ∷ 0 ∷ 7 ∷ 1 ∷ 2 ∷ 3 ∷ 7 ∷ [])
    (1 ∷ [])
    -- P5 "item 7, moves reader, five writer, three reader: CR, CW 7, RW, RR 0; placing 0."
    ∷ ran
    (1 ∷ 0 ∷ 1 ∷ 7 ∷ 9 ∷ 1 ∷ 0 ∷ 0 ∷ 0 ∷ 0 ∷ 0 ∷ 1 ∷ 1 ∷ 1 ∷ [])
    (ReadCalled ∷ WriteCalled (one 7) ∷ WriteReturned ∷ ReadReturned (one 0) ∷ [])
    (1 ∷ 0 ∷ 4 ∷ 2 ∷ 0 ∷ 7 ∷ 1 ∷ 3 ∷ 0 ∷ [])
    (0 ∷ [])
    -- P6 "items 7 8, moves five writer, reader, three writer, reader, writer, reader, reader: log 01 00 05 00 07 01 02 00 08 03 08,
    -- placing 2 while write 2 is open."
    ∷ ran
    (1 ∷ 0 ∷ 2 ∷ 7 ∷ 8 ∷ 13 ∷ 0 ∷ 0 ∷ 0 ∷ 0 ∷ 0 ∷ 1 ∷ 0 ∷ 0 ∷ 0 ∷ 1 ∷ 0 ∷ 1 ∷ 1 ∷ [])
    (WriteCalled (one 7) ∷ WriteReturned ∷ ReadCalled ∷ WriteCalled (one 8) ∷ ReadReturned (one 8)
    ∷ [])
    (1 ∷ 0 ∷ 5 ∷ 0 ∷ 7 ∷ 1 ∷ 2 ∷ 0 ∷ 8 ∷ 3 ∷ 8 ∷ [])
    (2 ∷ [])
    -- P7 "CW 7, RW, CR, RR 0: NO PLACE, read 1."
    ∷ judged 0 (WriteCalled (one 7) ∷ WriteReturned ∷ ReadCalled ∷ ReadReturned (one 0) ∷ [])
    (1 ∷ 0 ∷ 4 ∷ 0 ∷ 7 ∷ 1 ∷ 2 ∷ 3 ∷ 0 ∷ [])
    (refusal_at NoPlace 1) []
    -- P8 "CW 7, RW, CW 7, RW, CR, RR 7: placing 2, not 1."
    ∷ judged 0 (WriteCalled (one 7) ∷ WriteReturned ∷ WriteCalled (one 7) ∷ WriteReturned
    ∷ ReadCalled ∷ ReadReturned (one 7) ∷ [])
    (1 ∷ 0 ∷ 6 ∷ 0 ∷ 7 ∷ 1 ∷ 0 ∷ 7 ∷ 1 ∷ 2 ∷ 3 ∷ 7 ∷ [])
    (Ok 1) (2 ∷ [])
    -- P9 "CW 7, CR, RR 7, CR, RR 0: NO PLACE, read 2."
    ∷ judged 0 (WriteCalled (one 7) ∷ ReadCalled ∷ ReadReturned (one 7) ∷ ReadCalled
    ∷ ReadReturned (one 0) ∷ [])
    (1 ∷ 0 ∷ 5 ∷ 0 ∷ 7 ∷ 2 ∷ 3 ∷ 7 ∷ 2 ∷ 3 ∷ 0 ∷ [])
    (refusal_at NoPlace 2) []
    -- P10 "initial 7: CR, CW 8, RW, CW 7, RR 7, CR, RR 8: placing 0 then 1. The newest fit for the first read spoils the second." (What
    -- the newest fit would answer is refuted by the law `newest_fit_refused` of `placing`.)
    ∷ judged 7 (ReadCalled ∷ WriteCalled (one 8) ∷ WriteReturned ∷ WriteCalled (one 7)
    ∷ ReadReturned (one 7) ∷ ReadCalled ∷ ReadReturned (one 8) ∷ [])
    (1 ∷ 7 ∷ 7 ∷ 2 ∷ 0 ∷ 8 ∷ 1 ∷ 0 ∷ 7 ∷ 3 ∷ 7 ∷ 2 ∷ 3 ∷ 8 ∷ [])
    (Ok 2) (0 ∷ 1 ∷ [])
    -- P11 "no events: accepted, no entries."
    ∷ judged 0 []
    (1 ∷ 0 ∷ 0 ∷ [])
    (Ok 0) []
    -- P12 "RR as first event: TURN at 0."
    ∷ judged 0 (ReadReturned (one 0) ∷ [])
    (1 ∷ 0 ∷ 1 ∷ 3 ∷ 0 ∷ [])
    (refusal_at Turn 0) []
    ∷ []
