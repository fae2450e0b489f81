-- `bench::bench_text` meets its contract: the line of the run's refusal, or the text of its log.
use mathlib.Core.Path.{sym}
use native.Mathlib.Omega.{arith}
use lib.Seq.{length-take-le}
use Rattle.bench.proofs.Bench.{text_stopped, log_within, text_ran}
use Rattle.bench.proofs.bench_text.Goals as goal

pub returns-in_default : goal.returns-in_default
returns-in_default c =
    text_stopped _ (λ i. omega (arith, c.type_inv.moves i)) c.run-answer.ensures c.in_default.is c.answer_text.ensures

pub returns : goal.returns
returns c = text_ran _ (λ i. omega (arith, c.type_inv.moves i)) c.run-answer.ensures c.in-Ok.is c.log_text.ensures

pub slice_bounds-log-end : goal.slice_bounds-log-end
slice_bounds-log-end c = log_within _ (λ i. omega (arith, c.type_inv.moves i)) c.run-answer.ensures c.in-Ok.is

pub slice_bounds-log_text-end : goal.slice_bounds-log_text-end
slice_bounds-log_text-end c =
    sym (length-take-le _ _ (log_within _ (λ i. omega (arith, c.type_inv.moves i)) c.run-answer.ensures c.in-Ok.is))
