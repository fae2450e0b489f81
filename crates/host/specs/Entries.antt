-- The judge that a host program in C calls, on byte slices and numbers: an entry is four bytes,
-- lowest first, room counts whole entries only, and the answer is one 64-bit number.
use Rattle.std.specs.Prelude.{ℕ, ◌/◌, ◌%◌, ◌≡◌, List, [], ◌∷◌, length}
use Rattle.std.proofs.lemmas.List.Edits.{sets}
use Rattle.refusals.specs.Table.{Answer, answer_word}
use Rattle.numbers.specs.Reading.{bytes_of_all}
use Rattle.placing.specs.Judgement.{JudgementOf}

-- the four bytes of an entry, lowest first
abbrev pub four : ℕ → List ℕ
four entry =
    entry % 256
    ∷ entry / 256 % 256
    ∷ entry / 65536 % 256
    ∷ entry / 16777216 % 256
    ∷ []

-- the word that the judge of some bytes may answer, and what it leaves in a lent output
pub record JudgesBytes (s out : List ℕ) (word : ℕ) (after : List ℕ) : Type 0 where
  pub answer : Answer
  pub entries : List ℕ
  pub judgement : JudgementOf s (length out / 4) answer entries
  pub told : word ≡ answer_word answer
  pub left : after ≡ sets out 0 (bytes_of_all four entries)
