-- `control::Control::reader_move` meets its contract.
use mathlib.Core.Path.{sym, ap, ◌∙◌}
use Rattle.control.specs.Simpson.{Reader, simpson}
use Rattle.control.specs.Step.{step}
use Rattle.control.proofs.Always.{else_refused}
use Rattle.control.proofs.Control.reader_move.Goals as goal

pub returns : goal.returns
returns c = c.accepted.ensures ∙ c.reader_move-told.ensures ∙ ap (step simpson Reader) c.in-Some.ensures.same

pub returns-in_default : goal.returns-in_default
returns-in_default c = c.refused.ensures ∙ sym (else_refused simpson Reader c.args.self (sym c.in_default.ensures.tested))
