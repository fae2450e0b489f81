-- 01, "Refusal numbers": the number of every fault, number and place of every answer, and the word that a host is answered.
use Rattle.std.specs.Prelude.{ℕ, ◌+◌, ◌*◌, ◌^◌, Result, Ok, Err}
use Rattle.refusals.specs.declared.Fault.{Fault}
use Rattle.refusals.specs.declared.Fault.TheVariants.{Long, Cut, Form, Width, Count, Code, Trailing, Items, Turn, Room, NoPlace, State}
use Rattle.refusals.specs.declared.Refusal.{Refusal}

-- "No."
abbrev pub fault_number : Fault → ℕ
fault_number Long = 1
fault_number Cut = 2
fault_number Form = 3
fault_number Width = 4
fault_number Count = 5
fault_number Code = 6
fault_number Trailing = 7
fault_number Items = 8
fault_number Turn = 9
fault_number Room = 10
fault_number NoPlace = 11
fault_number State = 12

-- what a call answers
abbrev pub Answer : Type 0
Answer = Result ℕ Refusal

-- refused for this fault, at this place
abbrev pub refusal_at : Fault → ℕ → Answer
refusal_at fault place = Err (record { fault = fault; place = place })

-- "accepted" is number 0.
abbrev pub answer_number : Answer → ℕ
answer_number (Ok place) = 0
answer_number (Err r) = fault_number r.fault

-- "Place"
abbrev pub answer_place : Answer → ℕ
answer_place (Ok place) = place
answer_place (Err r) = r.place

-- "the table's number times 2^32, plus the place"
abbrev pub answer_word : Answer → ℕ
answer_word a = answer_number a * 2 ^ 32 + answer_place a
