use mathlib.Core.Path.{◌∙◌}
use native.Mathlib.Omega.{arith}
use lib.ListN.{drop_of_length-le}
use Rattle.numbers.specs.Reading.{bytes_of_all}
use Rattle.host.proofs.Entries.{entry_stored}
use Rattle.host.proofs.store_entries.Goals as goal

pub loop-i-preserved : goal.loop-i-preserved
loop-i-preserved c =
    let a = c.args in
    entry_stored c.loop-i.out a.entries.now c.loop-i.i _ (omega arith) (omega arith) (c.copy_from_slice.ensures.after ∙ c.to_le_bytes.ensures) (omega arith)
    ∙ c.loop-i.invariant

pub returns : goal.returns
unfolding bytes_of_all
returns c =
    let none = drop_of_length-le c.args.entries.now {i = c.loop-i.i} (omega arith) in
    rw none at c.loop-i.invariant
