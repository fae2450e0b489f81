-- What an accepted move file says of its bytes, and that it has one form: what is written is read back, and what is accepted is exactly
-- what would be written.
-- Assumes nothing.
use mathlib.Core.Path.{◌≡◌, refl, sym, ap, ap₂, ◌∙◌}
use mathlib.Core.Bool.{true}
use mathlib.Core.List.{List, [], ◌∷◌, ◌++◌, append-nil}
use Prim.Native.Nat.{ℕ, zero, suc, ◌+◌, ◌-◌, ◌^◌, ◌≤◌, ◌<◌}
use native.Mathlib.Nat.{sub-zero, zero-add}
use native.Mathlib.Omega.{arith}
use lib.ListN.{length, take, drop, length-append, length-drop, take-append-drop}
use lib.Seq.{drop-append_seam, take_all}
use Rattle.refusals.specs.declared.Fault.TheVariants.{Code}
use Rattle.refusals.specs.Table.{refusal_at}
use Rattle.std.specs.Prelude.{Ok, Err}
use Rattle.refusals.proofs.Apart.{apart}
use Rattle.words.specs.Words.{Below, is_width, Fits}
use Rattle.words.proofs.Bounds.{between_in}
use Rattle.words.proofs.Fits.{fits_length}
use Rattle.numbers.specs.Number.{Num, number_of, answer_of, value_in, bytes_of}
use Rattle.numbers.specs.Reading.{after_part, parts_end, parts_of, bytes_of_all, Every}
use Rattle.numbers.proofs.Laws.{in_cut}
use Rattle.numbers.proofs.Bounds.{within_value}
use Rattle.numbers.proofs.Bytes.{bytes_last}
use Rattle.numbers.proofs.Forms.{number_back, number_accepted}
use Rattle.numbers.proofs.Parts.{parts_back}
use Rattle.items.specs.Item.{item_of, item_bytes}
use Rattle.items.proofs.Fits.{fits_back}
use Rattle.items.specs.Head.{HeadRead, count_of, head_to, head_of, head_bytes}
use Rattle.items.proofs.HeadForms.{head_back}
use Rattle.moves.specs.MoveFile.{FileRead, items_ending, items_in, code_of, codes_ending, codes_in, track_of, after_items, after_head, move_file_of, items_of, moves_of, file_bytes}
use Rattle.moves.proofs.Steps.{track_to, file_to, item_part, code_part, moves_whole}
use Rattle.moves.proofs.Whole.{track_drop, head_fits, whole_form, track_place, moves_size, whole_items, whole_read, whole_moves, whole_reaches}

-- What a code below 128 says of the byte there.
one_byte : (last b : ℕ) (t : List ℕ) {v j : ℕ} → last < 128 → Below 256 (b ∷ t) → code_of last (b ∷ t) ≡ Ok (v, j)
    → (v ≡ b) × (j ≡ 1) × (v ≤ last)
one_byte last b t {v} {j} l bs is =
    let read = within_value 0 last Code (number_of (b ∷ t)) is in
    let bytes = bytes_last 4 v (omega (arith, read.2)) in
    let form = (number_accepted (b ∷ t) v j bs).0 read.0 in
    let one : j ≡ 1 = form.1 ∙ ap length bytes in
    let first : take 1 (b ∷ t) ≡ v ∷ [] = rw (one, bytes) at form.2 in
    (cc, one, read.2)

-- Codes that are accepted are one byte each where the last one listed is below 128.
pub codes_bytes : (last m at k : ℕ) (s : List ℕ) → last < 128 → Below 256 s
    → parts_end (λ (t : List ℕ). answer_of (code_of last t)) m at s ≡ Ok k
    → (k ≡ at + m) × (codes_in last m s ≡ take m s) × (m ≤ length s) × Every (λ (c : ℕ). c ≤ last) (codes_in last m s)
unfolding parts_end parts_of
codes_bytes last zero at k s l bs e =
    let same : at ≡ k = cc in
    (omega arith, refl, omega arith, tt)
codes_bytes last (suc m) at k [] l bs e =
    let none = in_cut 4 [] refl in
    apart cc
codes_bytes last (suc m) at k (b ∷ s) l bs e =
    go (code_of last (b ∷ s)) refl e (λ f. codes_bytes last m (at + 1) k s l (λ (i : ℕ). bs (suc i)) f)
  where
    go : (r : Num) → code_of last (b ∷ s) ≡ r → after_part refusal_at (answer_of r) at (b ∷ s) (parts_end (code_part last) m) ≡ Ok k
        → (parts_end (code_part last) m (at + 1) s ≡ Ok k
        → (k ≡ at + 1 + m) × (codes_in last m s ≡ take m s) × (m ≤ length s) × Every (λ (c : ℕ). c ≤ last) (codes_in last m s))
        → (k ≡ at + suc m) × (codes_in last (suc m) (b ∷ s) ≡ take (suc m) (b ∷ s)) × (suc m ≤ suc (length s))
        × Every (λ (c : ℕ). c ≤ last) (codes_in last (suc m) (b ∷ s))
    go (Ok (v, j)) is f rest =
        let first = one_byte last b s l bs is in
        let h = rest (rw first.1 at f) in
        rw (is, first.1, first.0)
        (omega (arith, h.0), ap (λ (t : List ℕ). b ∷ t) h.1, omega (arith, h.2), (rw first.0 at first.2, h.3))
    go (Err x) is f rest = apart cc

-- What a move file that was accepted says of the bytes that it was read from.
pub record FileForm (longest last k : ℕ) (s : List ℕ) (f : FileRead) : Type 0 where
  pub short : length s ≤ longest
  pub ends : k ≡ length s
  pub width : is_width f.n ≡ true
  pub fits : Fits f.n f.initial
  pub few_items : f.items ≤ 255
  pub few_moves : f.moves ≤ 4096
  pub stock : f.stock ≤ length s
  pub items_end_place : ℕ
  pub items_read : items_ending f.n f.items (drop f.stock s) ≡ Ok items_end_place
  pub items_fit : Every (Fits f.n) (items_of f s)
  pub items_count : length (items_of f s) ≡ f.items
  pub track : f.track ≤ length s
  pub moves_end : ℕ
  pub moves_read : codes_ending last f.moves (drop f.track s) ≡ Ok moves_end
  pub reaches : f.track + moves_end ≡ length s
  pub moves_count : length (moves_of last f s) ≡ f.moves
  pub moves_listed : Every (λ (c : ℕ). c ≤ last) (moves_of last f s)

-- An accepted move file ends where its bytes do; its parts are within their limits, and stand where it says.
pub file_form : (longest last k : ℕ) (s : List ℕ) → Below 256 s → (move_file_of longest last s).answer ≡ Ok k
    → FileForm longest last k s (move_file_of longest last s)
file_form longest last k s bs e =
    let w = whole_form longest last k s bs e in
    let items = whole_items longest last k s bs w in
    let moves = whole_moves longest last k s bs w in
    let reaches = whole_reaches longest last k s bs w in
    rw w.is (record {
      short = w.head.short;
      ends = reaches.0;
      width = w.head.width;
      fits = head_fits longest w.used s (head_of longest 255 s) w.head;
      few_items = w.head.few;
      few_moves = w.tail.after.track.few;
      stock = w.within;
      items_end_place = w.tail.used;
      items_read = w.tail.read;
      items_fit = items.good;
      items_count = items.count;
      track = omega (arith, reaches.1);
      moves_end = moves_size longest last k s bs w;
      moves_read = whole_read longest last k s bs w;
      reaches = reaches.1;
      moves_count = moves.count;
      moves_listed = moves.good;
    })

-- A list is what stands at its front, then the rest.
joined : (j : ℕ) (l : List ℕ) {p q : List ℕ} → take j l ≡ p → drop j l ≡ q → l ≡ p ++ q
joined j l e f = sym (take-append-drop j l) ∙ ap₂ ◌++◌ e f

-- The bytes that a move file was read from are those that write it: it has no other form.
pub file_bytes_read : (longest last k : ℕ) (s : List ℕ) → Below 256 s → (move_file_of longest last s).answer ≡ Ok k
    → let f = move_file_of longest last s in s ≡ file_bytes f.n f.initial (items_of f s) (moves_of last f s)
file_bytes_read longest last k s bs e =
    let w = whole_form longest last k s bs e in
    let track = w.tail.after.track in
    let items = whole_items longest last k s bs w in
    let moves = whole_moves longest last k s bs w in
    let size = moves_size longest last k s bs w in
    let from = track_place longest last k s bs w in
    let reaches = (whole_reaches longest last k s bs w).1 in
    let left : length (drop from s) ≤ size - 0 = omega (arith, length-drop from s) in
    let codes = track_drop w.used w.tail.used track.at s ∙ sym (take_all (size - 0) (drop from s) left) ∙ moves.form in
    let stock = rw sub-zero at items.form in
    let whole = joined w.used s w.head.form
    (joined w.tail.used (drop w.used s) stock (joined track.at (drop w.tail.used (drop w.used s)) track.form codes)) in
    rw (w.is, items.count, moves.count) whole

-- Codes that were written are read back, to the end.
codes_back : (last : ℕ) (moves : List ℕ) → last < 2 ^ 32 → Every (λ (c : ℕ). c ≤ last) moves
    → (codes_ending last (length moves) (bytes_of_all bytes_of moves) ≡ Ok (length (bytes_of_all bytes_of moves)))
    × (codes_in last (length moves) (bytes_of_all bytes_of moves) ≡ moves)
codes_back last moves l every =
    rw (append-nil, zero-add) at
    (parts_back (code_part last) (λ (t : List ℕ). value_in (code_of last t)) bytes_of (λ (c : ℕ). c ≤ last) one moves 0 [] every)
  where
    one : (c : ℕ) (t : List ℕ) → c ≤ last
        → (code_part last (bytes_of c ++ t) ≡ Ok (length (bytes_of c))) × (value_in (code_of last (bytes_of c ++ t)) ≡ c)
    one c t h = rw (number_back c t (omega arith), between_in 0 last c (omega arith) h) (refl, refl)

-- So are items, whatever follows.
items_back : (n : ℕ) (items : List (List ℕ)) (t : List ℕ) → is_width n ≡ true → Every (Fits n) items
    → (items_ending n (length items) (bytes_of_all (item_bytes n) items ++ t) ≡ Ok (length (bytes_of_all (item_bytes n) items)))
    × (items_in n (length items) (bytes_of_all (item_bytes n) items ++ t) ≡ items)
items_back n items t w every =
    rw zero-add at
    (parts_back (item_part n) (λ (u : List ℕ). (item_of n u).words) (item_bytes n) (Fits n) one items 0 t every)
  where
    one : (x u : List ℕ) → Fits n x → ((item_of n (item_bytes n x ++ u)).answer ≡ Ok (length (item_bytes n x)))
        × ((item_of n (item_bytes n x ++ u)).words ≡ x)
    one x u f = rw (fits_back n x u w f) (refl, refl)

-- The bytes of the count of moves and of the moves.
abbrev track_bytes : List ℕ → List ℕ
track_bytes moves = bytes_of (length moves) ++ bytes_of_all bytes_of moves

track_back : (last : ℕ) (moves : List ℕ) → last < 2 ^ 32 → length moves ≤ 4096 → Every (λ (c : ℕ). c ≤ last) moves
    → track_of last (track_bytes moves)
    ≡ track_to (length moves) (length (bytes_of (length moves))) (length (track_bytes moves))
unfolding track_of
track_back last moves l few every =
    let codes = bytes_of_all bytes_of moves in
    let m = length moves in
    let count : count_of 4096 (bytes_of m ++ codes) ≡ Ok (m, length (bytes_of m)) =
    rw (number_back m codes (omega arith), between_in 0 4096 m (omega arith) few) in
    let read = moves_whole last m (length (bytes_of m)) codes (codes_back last moves l every).0 (omega arith) in
    rw (count, zero-add, drop-append_seam (bytes_of m) codes, length-append (bytes_of m) codes) read

-- What reading back a move file that was written gives.
pub record FileBack (last n : ℕ) (initial : List ℕ) (items : List (List ℕ)) (moves s : List ℕ) (f : FileRead) : Type 0 where
  pub all : f.answer ≡ Ok (length s)
  pub same_n : f.n ≡ n
  pub same_counts : (f.items ≡ length items) × (f.moves ≡ length moves)
  pub same_initial : f.initial ≡ initial
  pub same_items : items_of f s ≡ items
  pub same_moves : moves_of last f s ≡ moves

-- The parts of a move file, and how it is read back.
module _ (longest last n : ℕ) (initial : List ℕ) (items : List (List ℕ)) (moves : List ℕ) (w : is_width n ≡ true) (fits : Fits n initial)
    (few : length items ≤ 255) (fit : Every (Fits n) items) (most : length moves ≤ 4096) (l : last < 2 ^ 32)
    (every : Every (λ (c : ℕ). c ≤ last) moves) where
  abbrev front : List ℕ
  front = head_bytes n initial (length items)

  abbrev stock : List ℕ
  stock = bytes_of_all (item_bytes n) items

  abbrev head : HeadRead
  head = head_to n initial (length items) (length front)

  abbrev moves_place : ℕ
  moves_place = length front + length stock + length (bytes_of (length moves))

  abbrev written : FileRead
  written = file_to head (length front) (length moves) moves_place (length front + length stock + length (track_bytes moves))

  tail_back : after_head last head (length front) (stock ++ track_bytes moves) ≡ written
  unfolding after_head after_items
  tail_back =
      rw ((items_back n items (track_bytes moves) w fit).0, drop-append_seam stock (track_bytes moves), track_back last moves l most every)

  whole_back : length (front ++ (stock ++ track_bytes moves)) ≤ longest
      → move_file_of longest last (front ++ (stock ++ track_bytes moves)) ≡ written
  unfolding move_file_of
  whole_back short =
      let rest = stock ++ track_bytes moves in
      let read = head_back longest 255 n initial (length items) rest w (fits_length n initial fits) fits.small few (omega arith) short in
      rw (read, ← fits.zeros, zero-add, drop-append_seam front rest) tail_back

-- What is written is read back.
pub file_back : (longest last n : ℕ) (initial : List ℕ) (items : List (List ℕ)) (moves : List ℕ)
    → is_width n ≡ true → Fits n initial → length items ≤ 255 → Every (Fits n) items
    → length moves ≤ 4096 → last < 2 ^ 32 → Every (λ (c : ℕ). c ≤ last) moves
    → length (file_bytes n initial items moves) ≤ longest
    → let s = file_bytes n initial items moves in FileBack last n initial items moves s (move_file_of longest last s)
file_back longest last n initial items moves w fits few fit most l every short =
    let front = head_bytes n initial (length items) in
    let stock = bytes_of_all (item_bytes n) items in
    let codes = bytes_of_all bytes_of moves in
    let count = bytes_of (length moves) in
    let rest = stock ++ (count ++ codes) in
    let at_items = drop-append_seam front rest in
    let seams : drop (length count) (drop (length stock) (drop (length front) (front ++ rest))) ≡ codes =
    rw (at_items, drop-append_seam stock (count ++ codes)) (drop-append_seam count codes) in
    let at_moves = sym (track_drop (length front) (length stock) (length count) (front ++ rest)) ∙ seams in
    let size : length front + length stock + length (count ++ codes) ≡ length (front ++ rest) =
    omega (arith, length-append front rest, length-append stock (count ++ codes)) in
    rw (whole_back longest last n initial items moves w fits few fit most l every short) (record {
      all = ap Ok size;
      same_n = refl;
      same_counts = (refl, refl);
      same_initial = refl;
      same_items = rw at_items (items_back n items (count ++ codes) w fit).1;
      same_moves = rw at_moves (codes_back last moves l every).1;
    })
