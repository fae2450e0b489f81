-- One run in full: a move file of one-word items, in which a read that begins after 7 is written
-- returns the 8 of a write that is called during it; and all that the bench program prints of it.
use Rattle.std.specs.Prelude.{ℕ, List, [], ◌∷◌}

abbrev pub sixth : List ℕ
sixth =
    0x01 ∷ 0x00 ∷ 0x02 ∷ 0x07 ∷ 0x08 ∷ 0x0d ∷ 0x00 ∷ 0x00 ∷ 0x00 ∷ 0x00 ∷ 0x00 ∷ 0x01 ∷ 0x00 ∷ 0x00
    ∷ 0x00 ∷ 0x01 ∷ 0x00 ∷ 0x01 ∷ 0x01 ∷ []

abbrev pub sixth_text : List ℕ
sixth_text =
    -- w 1 7
    119 ∷ 32 ∷ 49 ∷ 32 ∷ 55 ∷ 10
    -- W 1
    ∷ 87 ∷ 32 ∷ 49 ∷ 10
    -- r 1
    ∷ 114 ∷ 32 ∷ 49 ∷ 10
    -- w 2 8
    ∷ 119 ∷ 32 ∷ 50 ∷ 32 ∷ 56 ∷ 10
    -- R 1 2 8
    ∷ 82 ∷ 32 ∷ 49 ∷ 32 ∷ 50 ∷ 32 ∷ 56 ∷ 10
    -- ok 1
    ∷ 111 ∷ 107 ∷ 32 ∷ 49 ∷ 10
    ∷ []
