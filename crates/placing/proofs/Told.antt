-- A judge of the bytes of a log that computes, and that the promise allows what it tells: outcomes on given bytes are proved by it. It
-- lives in proofs alone, and no promise cites it.
-- Assumes nothing.
use Prim.Native.Nat.{ℕ}
use mathlib.Core.Path.{◌≡◌, refl, subst}
use mathlib.Core.List.{List}
use lib.ListN.{length}
use lib.Seq.{sets}
use Rattle.refusals.specs.Table.{Answer}
use Rattle.std.specs.Prelude.{Ok, Err}
use Rattle.history.specs.Event.{in_turn}
use Rattle.history.specs.Reads.{Read, written, reads_after, reads_of}
use Rattle.history.specs.Verdict.{faulty, lawful}
use Rattle.history.proofs.FirstFits.{Told, refusal, told, told_right}
use Rattle.numbers.specs.Number.{number_in, lead, value_of}
use Rattle.numbers.specs.Reading.{parts_end, parts_of}
use Rattle.items.specs.Item.{item_of, end_of, values_of}
use Rattle.items.specs.Head.{head_of, item_at, count_at}
use Rattle.event_log.specs.Log.{coded, event_of, after_head, log_of}
use Rattle.placing.specs.Judgement.{log_from, events_from, items_from, JudgementOf, Judges}

-- What is told of a log whose reader answers so.
abbrev pub told_after : Answer → List (List ℕ) → List Read → ℕ → Told
told_after (Ok end) items rs room = told items rs room
told_after (Err r) items rs room = refusal r.fault r.place

-- What is told of some bytes. Where this is unfolded, so is all that reads a log.
unfoldable pub told_of : List ℕ → ℕ → Told
unfolding log_of after_head coded event_of head_of item_at count_at item_of end_of values_of number_in lead value_of parts_end parts_of in_turn
    written reads_after
told_of s room = told_after (log_from s).answer (items_from s) (reads_of (events_from s)) room

-- It is the judgement.
told_of_right : (s : List ℕ) (room : ℕ) → JudgementOf s room (told_of s room).answer (told_of s room).entries
unfolding told_of
told_of_right s room = go (log_from s).answer refl
  where
    rs : List Read
    rs = reads_of (events_from s)

    go : (a : Answer) → (log_from s).answer ≡ a
        → JudgementOf s room (told_after a (items_from s) rs room).answer (told_after a (items_from s) rs room).entries
    go (Ok end) h = lawful end h (told_right (items_from s) rs room)
    go (Err r) h = faulty r.fault r.place h refl refl

-- So the promise allows the answer that is told, with the entries that are told at the front of the output.
pub judges_told : {s out : List ℕ} {answer : Answer} {after : List ℕ} → (told_of s (length out)).answer ≡ answer
    → after ≡ sets out 0 (told_of s (length out)).entries → Judges s out answer after
judges_told {s} {out} e left = record {
  entries = (told_of s (length out)).entries;
  judgement = subst (λ (a : Answer). JudgementOf s (length out) a (told_of s (length out)).entries) e (told_of_right s (length out));
  left = left;
}
