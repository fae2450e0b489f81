-- 01, "Numbers and files": "Move file: n, the initial item, the count of items (0 to 255), the items, the count of moves (0 to 4,096), the
-- moves. Move 0 is the writer's, 1 the reader's." "Refusal numbers": LONG, then the first fault of 2 to 7.
use Rattle.std.specs.Prelude.{ℕ, ◌+◌, ◌-◌, List, [], ◌++◌, length, drop, Result, Ok, Err}
use Rattle.refusals.specs.declared.Fault.{Fault}
use Rattle.refusals.specs.declared.Fault.TheVariants.{Code}
use Rattle.refusals.specs.declared.Refusal.{Refusal}
use Rattle.refusals.specs.Table.{Answer, refusal_at}
use Rattle.words.specs.Words.{eight}
use Rattle.numbers.specs.Number.{Num, number_of, within, answer_of, value_in, bytes_of}
use Rattle.numbers.specs.Reading.{after_number, after_part, parts_end, parts_of, unless_trailing, bytes_of_all}
use Rattle.numbers.specs.Handed.{Handed, handed}
use Rattle.items.specs.Item.{item_of, item_bytes}
use Rattle.items.specs.Head.{HeadRead, count_of, head_of, head_bytes}
use Rattle.moves.specs.declared.MoveFile.{MoveFile}

-- A move file that is read: its length or its first fault; n, the initial item, how many items and moves
-- there are, and where the first of each stands; zeros where it is refused.
pub record FileRead : Type 0 where
  pub answer : Answer
  pub n : ℕ
  pub initial : List ℕ
  pub items : ℕ
  pub stock : ℕ
  pub moves : ℕ
  pub track : ℕ

-- What stands after the items: where it ends or its first fault, how many moves there are, and where.
pub record Track : Type 0 where
  pub answer : Answer
  pub count : ℕ
  pub at : ℕ

-- How reading so many items of n words ends, and the items.
abbrev pub items_ending : ℕ → ℕ → List ℕ → Answer
items_ending n count s = parts_end (λ t. (item_of n t).answer) count 0 s

abbrev pub items_in : ℕ → ℕ → List ℕ → List (List ℕ)
items_in n count s = parts_of (λ t. (item_of n t).answer) (λ t. (item_of n t).words) count s

-- What a reader hands on that passes over parts, whose reading ends so: the rest alone.
abbrev pub passed : List ℕ → Answer → Handed (Unit {0})
passed s ending = handed s ending (tt {0})

-- CODE: "a move or event code not listed", here one above the last.
abbrev pub code_of : ℕ → List ℕ → Num
code_of last s = within 0 last Code (number_of s)

-- How reading so many codes ends, and the codes.
abbrev pub codes_ending : ℕ → ℕ → List ℕ → Answer
codes_ending last count s = parts_end (λ t. answer_of (code_of last t)) count 0 s

abbrev pub codes_in : ℕ → ℕ → List ℕ → List ℕ
codes_in last count s = parts_of (λ t. answer_of (code_of last t)) (λ t. value_in (code_of last t)) count s

-- The count of moves and the moves, where they are refused.
abbrev pub refused_track : Fault → ℕ → Track
refused_track fault at = record { answer = refusal_at fault at; count = 0; at = 0 }

-- "the moves", and nothing after them.
unfoldable pub moves_at : ℕ → ℕ → ℕ → List ℕ → Track
moves_at last count at s =
    after_part refused_track (codes_ending last count s) at s (λ end t.
    unless_trailing refused_track end t (record { answer = Ok end; count = count; at = at }))

-- "the count of moves (0 to 4,096), the moves"
unfoldable pub track_of : ℕ → List ℕ → Track
track_of last s = after_number refused_track (count_of 4096 s) 0 s (λ count at t. moves_at last count at t)

-- A move file that is refused.
abbrev pub refused_file : Fault → ℕ → FileRead
refused_file fault at =
    record { answer = refusal_at fault at; n = 0; initial = eight []; items = 0; stock = 0; moves = 0; track = 0 }

-- From the count of moves on, the items standing at a place before.
unfoldable pub after_items : ℕ → HeadRead → ℕ → ℕ → List ℕ → FileRead
after_items last h stock at s =
    let t = track_of last s in
    after_part refused_file t.answer at s (λ end rest.
    record { answer = Ok end; n = h.n; initial = h.initial; items = h.count; stock = stock; moves = t.count; track = at + t.at })

-- From the items on.
unfoldable pub after_head : ℕ → HeadRead → ℕ → List ℕ → FileRead
after_head last h at s = after_part refused_file (items_ending h.n h.count s) at s (after_items last h at)

-- A move file of at most so many bytes, whose codes are at most the last one listed.
unfoldable pub move_file_of : ℕ → ℕ → List ℕ → FileRead
move_file_of longest last s = let h = head_of longest 255 s in after_part refused_file h.answer 0 s (after_head last h)

-- A move file of the code, whose items and moves stand in these bytes, as what was read; and so a refusal.
abbrev pub parts_as : List ℕ → MoveFile → FileRead
parts_as s file = record {
  answer = Ok (length s);
  n = file.n;
  initial = file.initial;
  items = file.item_count;
  stock = length s - length file.items.now;
  moves = file.move_count;
  track = length s - length file.moves.now;
}

abbrev pub file_read : List ℕ → Result MoveFile Refusal → FileRead
file_read s (Ok file) = parts_as s file
file_read s (Err refusal) = refused_file refusal.fault refusal.place

-- The items of a move file that was read, and its moves.
abbrev pub items_of : FileRead → List ℕ → List (List ℕ)
items_of f s = items_in f.n f.items (drop f.stock s)

abbrev pub moves_of : ℕ → FileRead → List ℕ → List ℕ
moves_of last f s = codes_in last f.moves (drop f.track s)

-- The bytes of a move file.
abbrev pub file_bytes : ℕ → List ℕ → List (List ℕ) → List ℕ → List ℕ
file_bytes n initial items moves =
    head_bytes n initial (length items) ++ (bytes_of_all (item_bytes n) items ++ (bytes_of (length moves) ++ bytes_of_all bytes_of moves))
