-- Laws of ROOM, and of what a writer leaves.
-- Assumes nothing.
use mathlib.Core.Path.{◌≡◌, ap, ◌∙◌}
use mathlib.Core.List.{List}
use Prim.Native.Nat.{ℕ, ◌+◌, ◌≤◌, ◌<◌}
use native.Mathlib.Decide.{dec_lt}
use native.Mathlib.Omega.{arith}
use lib.ListN.{length}
use lib.Seq.{sets}
use borrow.Author.Tests.{le-leb, lt-leb}
use Rattle.refusals.specs.declared.Fault.TheVariants.{Room}
use Rattle.refusals.specs.Table.{Answer, refusal_at, answer_place}
use Rattle.std.specs.Prelude.{Ok}
use Rattle.refusals.specs.Output.{room_answer, put_answer, leaves}
use Rattle.refusals.proofs.Apart.{apart}

pub room_enough : (len at needed : ℕ) → at + needed ≤ len → room_answer len at needed ≡ Ok needed
unfolding room_answer
room_enough len at needed h = rw (le-leb (at + needed) len h)

pub room_short : (len at needed : ℕ) → len < at + needed → room_answer len at needed ≡ refusal_at Room needed
unfolding room_answer
room_short len at needed h = rw (lt-leb (at + needed) len h)

-- What a writer of these bytes owes: its answer, and the output that it leaves.
abbrev pub Put : List ℕ → ℕ → List ℕ → Answer → List ℕ → Type 0
Put out at bytes answer left = (answer ≡ put_answer out at bytes) × (left ≡ leaves answer out at bytes)

-- A writer that asks for the room of its bytes, and stores them where that is accepted.
module _ (out : List ℕ) (at : ℕ) (bytes : List ℕ) {k : ℕ} {answer : Answer}
    (len : k ≡ length bytes) (asked : answer ≡ room_answer (length out) at k) where
  is_put : answer ≡ put_answer out at bytes
  is_put = asked ∙ ap (room_answer (length out) at) len

  pub put_room : {p : ℕ} → answer ≡ Ok p → at + length bytes ≤ length out
  put_room {p} is = elim (dec_lt (length out) (at + length bytes)) [
    | yes h ↦
        let short = room_short (length out) at (length bytes) h in
        let put = is_put in
        apart cc
    | no h ↦ omega arith
  ]

-- The output of a writer whose bytes are known to fit.
pub put_fits : (out : List ℕ) (at : ℕ) (bytes : List ℕ) {answer : Answer} {left : List ℕ} → at + length bytes ≤ length out
    → Put out at bytes answer left → left ≡ sets out at bytes
put_fits out at bytes {answer} h p = p.1 ∙ ap (λ (a : Answer). leaves a out at bytes) (p.0 ∙ room_enough (length out) at (length bytes) h)

-- Its answer's place is then their length.
pub put_place : (out : List ℕ) (at : ℕ) (bytes : List ℕ) {answer : Answer} {left : List ℕ} {k : ℕ} → at + length bytes ≤ length out
    → Put out at bytes answer left → k ≡ answer_place answer → k ≡ length bytes
put_place out at bytes h p e = e ∙ ap answer_place (p.0 ∙ room_enough (length out) at (length bytes) h)
