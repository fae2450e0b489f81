-- `machine::first_words` meets its contract.
use lib.ListN.{length}
use mathlib.Core.Path.{◌≡◌}
use borrow.Author.Rules.{rules}
use Rattle.machine.proofs.Words.{first_laid}
use Rattle.machine.proofs.first_words.Goals as goal

pub returns : goal.returns
returns c =
    let long : length c.args.item.now ≡ 8 = search rules in
    first_laid _ c.args.item.now long c.min-n.ensures c.copy_from_slice.ensures.after
