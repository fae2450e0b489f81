-- Runs that are computed: a write's first move, and a write without an item.
-- Assumes nothing.
use Prim.Native.Nat.{ℕ}
use mathlib.Core.Path.{◌≡◌, refl}
use mathlib.Core.List.{List, [], ◌∷◌}
use lib.ListN.{replicate}
use Rattle.refusals.specs.declared.Fault.TheVariants.{Items}
use Rattle.words.specs.Words.{eight}
use Rattle.control.specs.Simpson.{simpson, each_word}
use Rattle.control.specs.Step.{sound, step}
use Rattle.machine.specs.Machine.{writer_after, reader_after, in_all_four, fresh}
use Rattle.history.specs.declared.Event.TheVariants.{WriteCalled, ReadCalled, ReadReturned}
use Rattle.runs.specs.Run.{Outcome, Stopped, Ran, run, four_slots}

-- The run of these moves from fresh, with one word, initial item 0 and the item 7.
abbrev pub ran : List ℕ → Outcome
ran codes = run (four_slots simpson) (fresh 1 (eight [])).state 0 (eight (7 ∷ []) ∷ []) codes

-- The first move of a write stores nothing: a read after it returns the initial item.
pub first_move_stores_nothing : ran (0 ∷ replicate 4 1) ≡ Ran (WriteCalled (eight (7 ∷ [])) ∷ ReadCalled ∷ ReadReturned (eight (0 ∷ [])) ∷ [])
unfolding run simpson each_word sound step writer_after reader_after in_all_four fresh
first_move_stores_nothing = refl

-- A second write finds no item: ITEMS at move 5.
pub second_write_lacks : ran (replicate 6 0) ≡ Stopped Items 5
unfolding run simpson each_word sound step writer_after reader_after in_all_four fresh
second_write_lacks = refl
