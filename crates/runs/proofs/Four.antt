-- What holds of every run of the four slots, whatever the two procedures are, is shown for a move of the writer and a move of the reader.
-- Assumes nothing.
use Prim.Native.Nat.{ℕ, suc, ◌<◌}
use native.Mathlib.Omega.{arith}
use mathlib.Core.Path.{◌≡◌}
use mathlib.Core.Bool.{true, false}
use mathlib.Core.List.{List, [], ◌∷◌, ◌++◌}
use lib.ListN.{length}
use lib.Dec.{eqb}
use borrow.Table.Steps.{cases}
use borrow.Author.Tests.{eqb-true, eqb-false}
use Rattle.refusals.proofs.Apart.{apart}
use Rattle.control.specs.Simpson.{Procedures}
use Rattle.machine.specs.declared.State.{State}
use Rattle.machine.specs.Machine.{writer_move, reader_move}
use Rattle.history.specs.declared.Event.{Event}
use Rattle.runs.specs.Run.{Ran, run, writes, reads, four_slots}
use Rattle.runs.proofs.Runs.{Deal, Took, Skipped, run_all}

-- How a move of the writer was dealt with: an idle writer took the next item, a busy one none.
pub data Dealt (s : State) (items : List (List ℕ)) (x : List ℕ) (left : List (List ℕ)) : Type 0 where
  Idle : s.control.writer.phase ≡ 0 → items ≡ x ∷ left → Dealt s items x left
  Busy : 0 < s.control.writer.phase → items ≡ left → Dealt s items x left

-- A claim on runs: of a state, the items left, how many moves are left, and the events to come.
abbrev pub Claim : Type 1
Claim = State → List (List ℕ) → ℕ → List Event → Type 0

pub run_four : (ps : Procedures) (I : State → List (List ℕ) → Type 0) (P : Claim)
    → ((s : State) (items : List (List ℕ)) → I s items → P s items 0 [])
    → ((s : State) (items : List (List ℕ)) (x : List ℕ) (left : List (List ℕ)) → I s items → Dealt s items x left
    → I (writer_move ps s x).state left
    × ((m : ℕ) (es : List Event) → P (writer_move ps s x).state left m es → P s items (suc m)
    ((writes (writer_move ps s x)).events ++ es)))
    → ((s : State) (items : List (List ℕ)) → I s items
    → I (reader_move ps s).state items
    × ((m : ℕ) (es : List Event) → P (reader_move ps s).state items m es → P s items (suc m)
    ((reads (reader_move ps s)).events ++ es)))
    → (s : State) (k : ℕ) (items : List (List ℕ)) (codes : List ℕ) (es : List Event) → I s items
    → run (four_slots ps) s k items codes ≡ Ran es → P s items (length codes) es
run_four ps I P none writer reader =
    run_all (four_slots ps) I (λ s items codes es. P s items (length codes) es) none
    (λ s items code x left i d. more s items code x left i d)
  where
    Step : State → List (List ℕ) → ℕ → List ℕ → List (List ℕ) → Type 0
    Step s items code x left =
        I ((four_slots ps).move s code x).state left
        × ((codes : List ℕ) (es : List Event) → P ((four_slots ps).move s code x).state left (length codes) es
        → P s items (suc (length codes)) (((four_slots ps).move s code x).events ++ es))

    dealing : (s : State) (items : List (List ℕ)) (code : ℕ) (x : List ℕ) (left : List (List ℕ)) → eqb code 0 ≡ true
        → Deal (four_slots ps) s code items x left → Dealt s items x left
    dealing s items code x left e (Took t l) =
        let idle : eqb s.control.writer.phase 0 ≡ true = rw e at t in
        Idle (eqb-true s.control.writer.phase 0 idle) l
    dealing s items code x left e (Skipped t z l) =
        let busy : eqb s.control.writer.phase 0 ≡ false = rw e at t in
        let some : s.control.writer.phase ≡ 0 → ⊥ = eqb-false s.control.writer.phase 0 busy in
        Busy (omega arith) l

    more : (s : State) (items : List (List ℕ)) (code : ℕ) (x : List ℕ) (left : List (List ℕ)) → I s items
        → Deal (four_slots ps) s code items x left → Step s items code x left
    more s items code x left i d =
        cases (eqb code 0)
        (λ e.
        let here = writer s items x left i (dealing s items code x left e d) in
        rw e (here.0, λ codes es h. here.1 (length codes) es h))
        (λ e. passing s items code x left i e d)
      where
        passing : (s : State) (items : List (List ℕ)) (code : ℕ) (x : List ℕ) (left : List (List ℕ)) → I s items → eqb code 0 ≡ false
            → Deal (four_slots ps) s code items x left → Step s items code x left
        passing s items code x left i e (Took t l) =
            let z : false ≡ true = rw e at t in
            apart cc
        passing s items code x left i e (Skipped t z l) =
            let here = reader s items i in
            rw (e, ← l) (here.0, λ codes es h. here.1 (length codes) es h)
