-- `moves::skip_items` meets its contract: one that is refused ends it where the rest stands, and else the next is passed over.
use Rattle.std.proofs.lemmas.Result.{err_from_is_err_and}
use Rattle.numbers.proofs.Parts.{parts_left_more, parts_left_refused, parts_left_done}
use Rattle.items.specs.Item.{item_of}
use Rattle.items.proofs.Reading.{item_within}
use Rattle.moves.proofs.Steps.{item_part}
use Rattle.moves.proofs.skip_items.Goals as goal

pub returns-in_err-after : goal.returns-in_err-after
returns-in_err-after c =
    let p = c.loop in
    let e = c.in_err-after.field-0.0 in
    let same = err_from_is_err_and c.from_residual.result c.from_residual.ensures.1 in
    rw (same.1, same.2)
    (parts_left_refused (item_part c.args.n) c.args.count p.counter c.args.input.now p.rest.now p.invariant
    (item_of c.args.n p.rest.now).words (tt {0}) e.fault e.rest.now c.loop-test.true c.in_err-after.ensures.read)

pub returns : goal.returns
returns c =
    let p = c.loop in
    parts_left_done (item_part c.args.n) c.args.count p.counter c.args.input.now p.rest.now p.invariant (tt {0}) c.loop-test.false

pub loop-preserved : goal.loop-preserved
loop-preserved c =
    let p = c.loop in
    parts_left_more (item_part c.args.n) c.args.count p.counter c.args.input.now p.rest.now p.invariant
    (item_of c.args.n p.rest.now).words _ c.in_ok-after.after.now c.loop-test.true (item_within c.args.n p.rest.now) c.in_ok-after.ensures.read
