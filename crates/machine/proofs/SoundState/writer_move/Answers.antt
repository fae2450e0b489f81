-- `machine::SoundState::writer_move` meets its contract.
use mathlib.Core.Path.{◌≡◌, ap, ◌∙◌}
use Rattle.control.specs.declared.Step.{Step}
use Rattle.control.specs.Simpson.{Writer, simpson}
use Rattle.control.proofs.Always.{width_kept}
use Rattle.machine.specs.Machine.{writer_after, after_storing}
use Rattle.machine.proofs.Words.{step_below}
use Rattle.machine.proofs.SoundState.writer_move.Goals as goal

pub returns-clause-state : goal.returns-clause-state
unfolding writer_after
returns-clause-state c =
    let e = c.writer_move-told.ensures in
    let same : c.writer_move-told.new.self.control.n ≡ c.args.self.now.control.control.n =
    ap (λ (t : Step). t.control.n) e ∙ width_kept simpson Writer _ in
    c.store.ensures ∙ ap (after_storing c.writer_move-told.result.touched) c.take_in.ensures ∙ rw (← e, same)

pub returns-clause-happened : goal.returns-clause-happened
unfolding writer_after
returns-clause-happened c = rw (← c.writer_move-told.ensures)

pub store-requires : goal.store-requires
store-requires c = rw (← c.writer_move-told.ensures) at (step_below Writer c.args.self.now.control.control)
