use Rattle.numbers.proofs.Parts.{PartsLeft}
use Rattle.moves.proofs.Steps.{code_part}
use Rattle.moves.proofs.skip_codes.Given as goal

abbrev pub invariant-loop : goal.invariant-loop
invariant-loop l = PartsLeft (code_part l.last) l.count l.counter l.fn.input l.rest
