-- `host::store_entries` meets its contract. The loop's invariant looks ahead: storing the entries
-- that are left gives what storing all of them gives.
use mathlib.Core.Path.{◌≡◌}
use Prim.Native.Nat.{◌*◌}
use lib.ListN.{drop}
use lib.Seq.{sets}
use Rattle.numbers.specs.Reading.{bytes_of_all}
use Rattle.host.specs.Entries.{four}
use Rattle.host.proofs.store_entries.Given as goal

abbrev pub invariant-loop-i : goal.invariant-loop-i
invariant-loop-i l =
    sets l.out (4 * l.i) (bytes_of_all four (drop l.i l.entries)) ≡ sets l.initial.out 0 (bytes_of_all four l.entries)
