-- `refusals::room` meets its contract: what is needed fits behind the place, or does not, or the place lies past the end.
use mathlib.Core.Path.{sym}
use native.Mathlib.Omega.{arith}
use Rattle.refusals.proofs.Output.{room_enough, room_short}
use Rattle.refusals.proofs.room.Goals as goal

pub returns-then-needed-len : goal.returns-then-needed-len
returns-then-needed-len c = sym (room_enough _ _ _ (omega arith))

pub returns-else-at-len : goal.returns-else-at-len
returns-else-at-len c = sym (room_short _ _ _ (omega arith))
