use Rattle.numbers.proofs.Parts.{PartsLeft}
use Rattle.moves.proofs.Steps.{item_part}
use Rattle.moves.proofs.skip_items.Given as goal

abbrev pub invariant-loop : goal.invariant-loop
invariant-loop l = PartsLeft (item_part l.n) l.count l.counter l.fn.input l.rest
