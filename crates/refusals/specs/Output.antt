-- 01, "Refusal numbers", ROOM and the sentences below the table: what a call does with a lent output.
use Rattle.std.specs.Prelude.{ℕ, ◌+◌, cond, List, leb, length, Ok, Err}
use Rattle.std.proofs.lemmas.List.Edits.{sets}
use Rattle.refusals.specs.declared.Fault.TheVariants.{Room}
use Rattle.refusals.specs.Table.{Answer, refusal_at}

-- "the lent output is too short": ROOM with "bytes or entries needed" from a place of an output on, or accepted with them.
unfoldable pub room_answer : ℕ → ℕ → ℕ → Answer
room_answer len at needed = cond (leb (at + needed) len) (Ok needed) (refusal_at Room needed)

-- The answer of a writer of these bytes.
abbrev pub put_answer : List ℕ → ℕ → List ℕ → Answer
put_answer out at bytes = room_answer (length out) at (length bytes)

-- The output after an answer: a refusal "leaves the lent output unaltered", an accepted answer changes these bytes at their place.
abbrev pub leaves : Answer → List ℕ → ℕ → List ℕ → List ℕ
leaves (Ok place) out at bytes = sets out at bytes
leaves (Err r) out at bytes = out
