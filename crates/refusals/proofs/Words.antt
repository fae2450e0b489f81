-- The word that a host is answered tells number and place, and the number tells the fault: no two answers have one word.
-- Assumes nothing.
use mathlib.Core.Path.{◌≡◌, refl, sym, ap, ap₂, ◌∙◌}
use mathlib.Core.List.{List, [], ◌∷◌}
use Prim.Native.Nat.{ℕ, ◌-◌, ◌^◌, ◌≤◌, ◌<◌}
use native.Mathlib.Omega.{arith}
use lib.ListN.{get_or}
use Rattle.refusals.specs.declared.Fault.{Fault}
use Rattle.refusals.specs.declared.Fault.TheVariants.{Long, Cut, Form, Width, Count, Code, Trailing, Items, Turn, Room, NoPlace, State}
use Rattle.refusals.specs.Table.{Answer, refusal_at, fault_number, answer_place, answer_word}
use Rattle.std.specs.Prelude.{Ok, Err}

-- The faults from number 1 on.
faults : List Fault
faults = Long ∷ Cut ∷ Form ∷ Width ∷ Count ∷ Code ∷ Trailing ∷ Items ∷ Turn ∷ Room ∷ NoPlace ∷ State ∷ []

fault_at : ℕ → Fault
fault_at k = get_or faults (k - 1) Long

-- Every fault stands at its number, which is not that of an accepted answer.
at_number : (f : Fault) → (fault_at (fault_number f) ≡ f) × (1 ≤ fault_number f)
unfolding faults fault_at
at_number Long = (refl, omega arith)
at_number Cut = (refl, omega arith)
at_number Form = (refl, omega arith)
at_number Width = (refl, omega arith)
at_number Count = (refl, omega arith)
at_number Code = (refl, omega arith)
at_number Trailing = (refl, omega arith)
at_number Items = (refl, omega arith)
at_number Turn = (refl, omega arith)
at_number Room = (refl, omega arith)
at_number NoPlace = (refl, omega arith)
at_number State = (refl, omega arith)

-- No two faults have one number.
pub number_tells : (f g : Fault) → fault_number f ≡ fault_number g → f ≡ g
number_tells f g e = sym (at_number f).0 ∙ ap fault_at e ∙ (at_number g).0

-- No two answers have one word.
pub word_tells : (a b : Answer) → answer_place a < 2 ^ 32 → answer_place b < 2 ^ 32 → answer_word a ≡ answer_word b → a ≡ b
word_tells (Ok p) (Ok q) hp hq e = ap Ok (omega arith)
word_tells (Ok p) (Err r) hp hq e = absurd (omega (arith, (at_number r.fault).1))
word_tells (Err r) (Ok q) hp hq e = absurd (omega (arith, (at_number r.fault).1))
word_tells (Err r) (Err q) hp hq e = ap₂ refusal_at (number_tells r.fault q.fault (omega arith)) (omega arith)
