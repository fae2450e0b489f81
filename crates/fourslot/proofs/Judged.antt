-- The theorem over bytes: the judge accepts the log of an accepted run, with entries that are at most the true numbers.
-- Assumes nothing.
use Prim.Native.Nat.{ℕ, ◌≤◌, ◌<◌}
use native.Mathlib.Omega.{arith}
use mathlib.Core.Path.{◌≡◌, refl, sym, ap, ◌∙◌}
use mathlib.Core.List.{List}
use lib.ListN.{length, take}
use Rattle.refusals.specs.Table.{Answer}
use Rattle.std.specs.Prelude.{Ok}
use Rattle.refusals.proofs.Apart.{apart}
use Rattle.words.specs.Words.{Below, Fits}
use Rattle.history.specs.declared.Event.{Event}
use Rattle.history.specs.Reads.{reads_of}
use Rattle.history.specs.Placing.{Placing}
use Rattle.history.specs.Verdict.{faulty, lawful}
use Rattle.history.proofs.Verdicts.{verdict_placed, judgement_length, judgement_earliest}
use Rattle.moves.specs.MoveFile.{FileRead, move_file_of, items_of, moves_of}
use Rattle.moves.proofs.Forms.{file_form}
use Rattle.control.specs.Simpson.{simpson}
use Rattle.runs.specs.Run.{Ran, four_slots, outcome, four_log}
use Rattle.runs.proofs.Accepted.{RunLog, ran_of, run_log_accepted, run_is_accepted}
use Rattle.placing.specs.Judgement.{log_from, events_from, items_from, JudgementOf}
use Rattle.fourslot.specs.Theorem.{writes_of, RunJudged, TrueNumbersOf, EntriesAtMostTrue}
use Rattle.fourslot.proofs.Words.{sets_at}
use Rattle.fourslot.proofs.Theorem.{every_run_placed}

-- A run that ends with its events has true numbers, and they are a placing of the finished reads of its log.
pub record LogPlaced (s log : List ℕ) : Type 0 where
  pub numbers : List ℕ
  pub trues : TrueNumbersOf s numbers
  pub placing : Placing (items_from log) (reads_of (events_from log)) (length (reads_of (events_from log))) numbers

pub log_placed : (s : List ℕ) (es : List Event) → Below 256 s → outcome (four_slots simpson) 1 s ≡ Ran es → LogPlaced s (four_log s)
log_placed s es bs ran =
    let file = ran_of s es ran in
    let form = file_form 24576 1 file.0 s bs file.1 in
    let t = every_run_placed f.n f.initial (items_of f s) (moves_of 1 f s) es form.width file.2 in
    record {
      numbers = t.numbers;
      trues = record { tagged = t.tagged; beside = t.beside; true_numbers = t.true_numbers };
      placing = of_log (run_log_accepted s es bs ran) form.fits t.numbers t.placing;
    }
  where
    f : FileRead
    f = move_file_of 24576 1 s

    of_log : RunLog s es (four_log s) → Fits f.n f.initial → (qs : List ℕ)
        → Placing (writes_of f.n f.initial es) (reads_of es) (length (reads_of es)) qs
        → Placing (items_from (four_log s)) (reads_of (events_from (four_log s))) (length (reads_of (events_from (four_log s)))) qs
    of_log log fits qs p = rw (log.spells, log.initial, fits.zeros) p

pub judged : (log : List ℕ) {room : ℕ} {answer : Answer} {entries qs : List ℕ} → (log_from log).answer ≡ Ok (length log)
    → length (reads_of (events_from log)) ≤ room → Placing (items_from log) (reads_of (events_from log)) (length (reads_of (events_from log))) qs
    → JudgementOf log room answer entries → answer ≡ Ok (length (reads_of (events_from log)))
judged log e room q (faulty f p g _ _) = apart cc
judged log e room q (lawful end _ v) = verdict_placed room q v

pub run_judged : RunJudged
run_judged moves out filled entries after k answer bs (accepted, is) judges room =
    let told = run_is_accepted moves out k (sym accepted) in
    let same : take k filled ≡ four_log moves = ap (take k) is ∙ told.first in
    let kept = run_log_accepted moves told.es bs told.ran in
    let placed = log_placed moves told.es bs told.ran in
    judged (take k filled) {qs = placed.numbers} (rw same kept.accepted) room (rw same placed.placing) judges.judgement

pub entries_at_most_true : EntriesAtMostTrue
entries_at_most_true moves out filled entries after k r bs (accepted, is) judges =
    let told = run_is_accepted moves out k (sym accepted) in
    let same : take k filled ≡ four_log moves = ap (take k) is ∙ told.first in
    let placed = log_placed moves told.es bs told.ran in
    let given = judgement_earliest refl (rw same at judges.judgement) in
    let room = judgement_length judges.judgement in
    let many = given.1.placing.one_each in (
      placed.numbers,
      placed.trues,
      λ j l.
          let here : j < length (reads_of (events_from (four_log moves))) = omega (arith, given.0) in
          rw (judges.left, sets_at judges.entries entries j room (omega arith))
          (given.1.smallest placed.numbers placed.placing j here),
    )
