-- The theorem is about Simpson's procedures. Here are others, that differ from them in one move, and those of the two slots (02, #113),
-- each with a move file whose log has NO PLACE.
use Rattle.std.specs.Prelude.{ℕ, ◌≡◌, not, List, [], ◌∷◌, ◌++◌, replicate}
use Rattle.refusals.specs.declared.Fault.TheVariants.{NoPlace}
use Rattle.refusals.specs.Table.{refusal_at}
use Rattle.numbers.specs.Reading.{Every}
use Rattle.control.specs.Simpson.{slot_at, set_pair, set_index, set_slot, set_latest, each_word, Writer, Reader, Procedures, simpson}
use Rattle.runs.specs.Run.{four_slots, run_log}
use Rattle.placing.specs.Judgement.{Judges}

-- 01, "Slips that tempt": "Setting latest before slot[pair]."
unfoldable pub latest_first : Procedures
latest_first Writer n =
    record {
      opening = (simpson Writer n).opening;
      words = (simpson Writer n).words;
      closing = set_latest (λ b c. c.pair) ∷ set_slot (λ b c. c.index) ∷ [];
    }
latest_first Reader n = simpson Reader n

-- "Letting the writer look at reading again after its first move": in its second.
unfoldable pub reading_in_second : Procedures
reading_in_second Writer n =
    record {
      opening = set_pair (λ b c. not b.reading) ∷ set_index (λ b c. not (slot_at b (not b.reading))) ∷ [];
      words = (simpson Writer n).words;
      closing = (simpson Writer n).closing;
    }
reading_in_second Reader n = simpson Reader n

-- And before slot[pair] is set.
unfoldable pub reading_again : Procedures
reading_again Writer n =
    record {
      opening = (simpson Writer n).opening;
      words = (simpson Writer n).words;
      closing = set_pair (λ b c. not b.reading) ∷ (simpson Writer n).closing;
    }
reading_again Reader n = simpson Reader n

-- The reader does not announce its pair: reading := pair is left out.
unfoldable pub unannounced : Procedures
unannounced Writer n = simpson Writer n
unannounced Reader n =
    record {
      opening = set_pair (λ b c. b.latest) ∷ set_index (λ b c. slot_at b c.pair) ∷ [];
      words = (simpson Reader n).words;
      closing = [];
    }

-- Two slots and the bit latest (02, #113): index := not latest, the words, latest := index; and index := latest, the words. The pair stays
-- 0, so only the slots (0, 0) and (0, 1) are used.
unfoldable pub two_slots : Procedures
two_slots Writer n =
    record {
      opening = set_index (λ b c. not b.latest) ∷ [];
      words = each_word 0 n;
      closing = set_latest (λ b c. c.index) ∷ [];
    }
two_slots Reader n = record { opening = set_index (λ b c. b.latest) ∷ []; words = each_word 0 n; closing = [] }

-- Procedures, a move file, the log of its run, and the read that has no place.
pub record Case : Type 0 where
  pub procedures : Procedures
  pub moves : List ℕ
  pub log : List ℕ
  pub read : ℕ

-- Two entries, more than the reads that finish, or as many; a refusal leaves them as they were.
abbrev pub lent : List ℕ
lent = replicate 2 9

-- The run writes this log, and `judge` answers NO PLACE to it.
abbrev pub GoesWrong : Case → Type 0
GoesWrong c = (run_log (four_slots c.procedures) 1 c.moves ≡ c.log) × Judges c.log lent (refusal_at NoPlace c.read) lent

abbrev pub wrongs : List Case
wrongs =
    -- CW 7, RW, CR, CW 8, RR 7, CR, RR 0: the second read goes back behind write 1, which returned before it was called.
    record {
      procedures = latest_first;
      moves = 1 ∷ 0 ∷ 2 ∷ 7 ∷ 8 ∷ 17 ∷ [] ++ replicate 5 0 ++ replicate 2 1 ++ replicate 4 0 ++ replicate 6 1;
      log = 1 ∷ 0 ∷ 7 ∷ 0 ∷ 7 ∷ 1 ∷ 2 ∷ 0 ∷ 8 ∷ 3 ∷ 7 ∷ 2 ∷ 3 ∷ 0 ∷ [];
      read = 2;
    }
    -- CW 7 7, RW, CW 8 8, CR, RR 8 7: one word of each write.
    ∷ record {
      procedures = reading_in_second;
      moves = 2 ∷ 0 ∷ 0 ∷ 2 ∷ 7 ∷ 7 ∷ 8 ∷ 8 ∷ 14 ∷ [] ++ replicate 7 0 ++ replicate 2 1 ++ replicate 2 0 ++ replicate 3 1;
      log = 2 ∷ 0 ∷ 0 ∷ 5 ∷ 0 ∷ 7 ∷ 7 ∷ 1 ∷ 0 ∷ 8 ∷ 8 ∷ 2 ∷ 3 ∷ 8 ∷ 7 ∷ [];
      read = 1;
    }
    -- CW 7, RW, CW 8, CR, RW, RR 7, CR, RR 0: the second read goes back behind both writes.
    ∷ record {
      procedures = reading_again;
      moves = 1 ∷ 0 ∷ 2 ∷ 7 ∷ 8 ∷ 20 ∷ [] ++ replicate 9 0 ++ replicate 2 1 ++ replicate 3 0 ++ replicate 6 1;
      log = 1 ∷ 0 ∷ 8 ∷ 0 ∷ 7 ∷ 1 ∷ 0 ∷ 8 ∷ 2 ∷ 1 ∷ 3 ∷ 7 ∷ 2 ∷ 3 ∷ 0 ∷ [];
      read = 2;
    }
    -- CW 7, RW, CW 8, CR, RW, CW 9, RR 9, CR, RR 8: the second read goes back behind the first.
    ∷ record {
      procedures = unannounced;
      moves = 1 ∷ 0 ∷ 3 ∷ 7 ∷ 8 ∷ 9 ∷ 19 ∷ [] ++ replicate 8 0 ++ replicate 2 1 ++ replicate 5 0 ++ replicate 4 1;
      log = 1 ∷ 0 ∷ 9 ∷ 0 ∷ 7 ∷ 1 ∷ 0 ∷ 8 ∷ 2 ∷ 1 ∷ 0 ∷ 9 ∷ 3 ∷ 9 ∷ 2 ∷ 3 ∷ 8 ∷ [];
      read = 2;
    }
    -- 02, #113: "n = 2, initial 0 0, items 7 7 and 8 8, moves two reader, seven writer, one reader, gives a read of 0 8 and NO PLACE at
    -- read 1".
    ∷ record {
      procedures = two_slots;
      moves = 2 ∷ 0 ∷ 0 ∷ 2 ∷ 7 ∷ 7 ∷ 8 ∷ 8 ∷ 10 ∷ [] ++ replicate 2 1 ++ replicate 7 0 ++ replicate 1 1;
      log = 2 ∷ 0 ∷ 0 ∷ 5 ∷ 2 ∷ 0 ∷ 7 ∷ 7 ∷ 1 ∷ 0 ∷ 8 ∷ 8 ∷ 3 ∷ 0 ∷ 8 ∷ [];
      read = 1;
    }
    ∷ []

abbrev pub AllGoWrong : Type 0
AllGoWrong = Every GoesWrong wrongs
