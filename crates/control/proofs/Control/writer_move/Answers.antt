-- `control::Control::writer_move` meets its contract.
use mathlib.Core.Path.{sym, ap, ◌∙◌}
use Rattle.control.specs.Simpson.{Writer, simpson}
use Rattle.control.specs.Step.{step}
use Rattle.control.proofs.Always.{else_refused}
use Rattle.control.proofs.Control.writer_move.Goals as goal

pub returns : goal.returns
returns c = c.accepted.ensures ∙ c.writer_move-told.ensures ∙ ap (step simpson Writer) c.in-Some.ensures.same

pub returns-in_default : goal.returns-in_default
returns-in_default c = c.refused.ensures ∙ sym (else_refused simpson Writer c.args.self (sym c.in_default.ensures.tested))
