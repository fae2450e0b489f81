-- What an accepted move file says of its bytes, part by part, to where nothing is left.
-- Assumes nothing.
use mathlib.Core.Path.{◌≡◌, refl, ap, ◌∙◌}
use mathlib.Core.List.{List, [], ◌∷◌}
use Prim.Native.Nat.{ℕ, ◌+◌, ◌-◌, ◌^◌, ◌≤◌}
use native.Mathlib.Nat.{zero-add}
use native.Mathlib.Omega.{arith}
use lib.ListN.{length, take, drop, length-drop}
use lib.Seq.{drop-drop}
use Rattle.refusals.specs.declared.Fault.TheVariants.{Code, Count}
use Rattle.refusals.specs.Table.{Answer, answer_place}
use Rattle.std.specs.Prelude.{Ok, Err}
use Rattle.refusals.proofs.Apart.{apart}
use Rattle.words.specs.Words.{Below, eight, Fits}
use Rattle.words.proofs.Bounds.{below_drop}
use Rattle.words.proofs.Fits.{below_eight}
use Rattle.numbers.specs.Number.{Num, number_of, answer_of, value_in, bytes_of}
use Rattle.numbers.specs.Reading.{after_number, after_part, unless_trailing}
use Rattle.numbers.proofs.Bounds.{within_value, within_used}
use Rattle.numbers.proofs.Forms.{number_form}
use Rattle.numbers.proofs.Parts.{PartsForm, parts_form}
use Rattle.items.specs.Item.{item_of, item_bytes}
use Rattle.items.proofs.Forms.{item_form}
use Rattle.items.proofs.Fits.{item_fits}
use Rattle.items.specs.Head.{HeadRead, count_of, head_of}
use Rattle.items.proofs.HeadForms.{HeadForm, head_form}
use Rattle.moves.specs.MoveFile.{items_ending, items_in, code_of, codes_ending, codes_in, refused_track, moves_at, track_of, refused_file, after_items, after_head, move_file_of}
use Rattle.items.proofs.HeadPlaces.{head_inside}
use Rattle.moves.proofs.Steps.{track_to, file_to, item_part, code_part, codes_ends, items_ends}

-- What the moves that end a file say of it.
record MovesForm (last count at k : ℕ) (s : List ℕ) : Type 0 where
  pub is : moves_at last count at s ≡ track_to count at k
  pub read : codes_ending last count s ≡ Ok (length s)
  pub ends : k ≡ at + length s

moves_form : (last count at k : ℕ) (s : List ℕ) → (moves_at last count at s).answer ≡ Ok k → MovesForm last count at k s
unfolding moves_at
moves_form last count at k s e = go (codes_ending last count s) refl e
  where
    rest : (j : ℕ) (t : List ℕ) → codes_ending last count s ≡ Ok j → drop j s ≡ t
        → (unless_trailing refused_track (at + j) t (track_to count at (at + j))).answer ≡ Ok k
        → MovesForm last count at k s
    rest j [] is left f =
        let end : at + j ≡ k = cc in
        let all : j ≡ length s = omega (arith, codes_ends last count s is, length-drop j s, ap length left) in
        record { is = rw (is, left, end); read = is ∙ ap Ok all; ends = omega arith }
    rest j (b ∷ t) is left f = apart cc

    go : (a : Answer) → codes_ending last count s ≡ a
        → (after_part refused_track a at s (λ end t. unless_trailing refused_track end t (track_to count at end))).answer ≡ Ok k
        → MovesForm last count at k s
    go (Ok j) is f = rest j (drop j s) is refl f
    go (Err r) is f = apart cc

-- What the count of moves and the moves say of the bytes there.
pub record TrackForm (last k : ℕ) (s : List ℕ) : Type 0 where
  pub count : ℕ
  pub at : ℕ
  pub is : track_of last s ≡ track_to count at k
  pub few : count ≤ 4096
  pub within : at ≤ length s
  pub form : take at s ≡ bytes_of count
  pub read : codes_ending last count (drop at s) ≡ Ok (length s - at)
  pub ends : k ≡ length s

track_form : (last k : ℕ) (s : List ℕ) → Below 256 s → (track_of last s).answer ≡ Ok k → TrackForm last k s
unfolding track_of
track_form last k s bs e = go (count_of 4096 s) refl e
  where
    go : (r : Num) → count_of 4096 s ≡ r
        → (after_number refused_track r 0 s (λ count at t. moves_at last count at t)).answer ≡ Ok k
        → TrackForm last k s
    go (Ok (v, j)) is f =
        let read = within_value 0 4096 Count (number_of s) is in
        let used = within_used 0 4096 Count s refl is in
        let f' : (moves_at last v j (drop j s)).answer ≡ Ok k = rw zero-add at f in
        let h = moves_form last v j k (drop j s) f' in
        record {
          count = v;
          at = j;
          is = rw (is, zero-add) h.is;
          few = read.2;
          within = used;
          form = number_form s v j bs read.0;
          read = h.read ∙ ap Ok (length-drop j s);
          ends = omega (arith, h.ends, length-drop j s);
        }
    go (Err x) is f = apart cc

-- What the part after the items says of the bytes there.
pub record AfterForm (last : ℕ) (h : HeadRead) (stock at k : ℕ) (s : List ℕ) : Type 0 where
  pub end : ℕ
  pub track : TrackForm last end s
  pub is : after_items last h stock at s ≡ file_to h stock track.count (at + track.at) k
  pub ends : k ≡ at + length s

after_form : (last : ℕ) (h : HeadRead) (stock at k : ℕ) (s : List ℕ) → Below 256 s → (after_items last h stock at s).answer ≡ Ok k
    → AfterForm last h stock at k s
unfolding after_items
after_form last h stock at k s bs e = go (track_of last s).answer refl e
  where
    go : (a : Answer) → (track_of last s).answer ≡ a
        → (after_part refused_file a at s (λ end rest. file_to h stock (track_of last s).count (at + (track_of last s).at) end)).answer
        ≡ Ok k
        → AfterForm last h stock at k s
    go (Ok j) is f =
        let t = track_form last j s bs is in
        let end : at + j ≡ k = cc in
        record { end = j; track = t; is = rw (t.is, end); ends = omega (arith, t.ends) }
    go (Err r) is f = apart cc

-- What the items and the part after them say of the bytes there.
pub record TailForm (last : ℕ) (h : HeadRead) (at k : ℕ) (s : List ℕ) : Type 0 where
  pub used : ℕ
  pub read : items_ending h.n h.count s ≡ Ok used
  pub within : used ≤ length s
  pub after : AfterForm last h at (at + used) k (drop used s)
  pub is : after_head last h at s ≡ file_to h at after.track.count (at + used + after.track.at) k

tail_form : (last : ℕ) (h : HeadRead) (at k : ℕ) (s : List ℕ) → Below 256 s → (after_head last h at s).answer ≡ Ok k
    → TailForm last h at k s
unfolding after_head
tail_form last h at k s bs e = go (items_ending h.n h.count s) refl e
  where
    go : (a : Answer) → items_ending h.n h.count s ≡ a → (after_part refused_file a at s (after_items last h at)).answer ≡ Ok k
        → TailForm last h at k s
    go (Ok j) is f =
        let after = after_form last h at (at + j) k (drop j s) (below_drop 256 j s bs) f in
        record { used = j; read = is; within = items_ends h.n h.count s is; after = after; is = rw is after.is }
    go (Err r) is f = apart cc

-- What the whole file says of its bytes.
pub record WholeForm (longest last k : ℕ) (s : List ℕ) : Type 0 where
  pub used : ℕ
  pub within : used ≤ length s
  pub head : HeadForm longest 255 used s (head_of longest 255 s)
  pub tail : TailForm last (head_of longest 255 s) used k (drop used s)
  pub is : move_file_of longest last s
      ≡ file_to (head_of longest 255 s) used tail.after.track.count (used + tail.used + tail.after.track.at) k

pub whole_form : (longest last k : ℕ) (s : List ℕ) → Below 256 s → (move_file_of longest last s).answer ≡ Ok k
    → WholeForm longest last k s
unfolding move_file_of
whole_form longest last k s bs e = go (head_of longest 255 s).answer refl e
  where
    go : (a : Answer) → (head_of longest 255 s).answer ≡ a
        → (after_part refused_file a 0 s (after_head last (head_of longest 255 s))).answer ≡ Ok k
        → WholeForm longest last k s
    go (Ok j) is f =
        let h = head_of longest 255 s in
        let f' : (after_head last h j (drop j s)).answer ≡ Ok k = rw zero-add at f in
        let tail = tail_form last h j k (drop j s) (below_drop 256 j s bs) f' in
        record {
          used = j;
          within = omega (arith, head_inside longest 255 s, ap answer_place is);
          head = head_form longest 255 j s bs is;
          tail = tail;
          is = ap (λ (a : Answer). after_part refused_file a 0 s (after_head last h)) is
              ∙ ap (λ (i : ℕ). after_head last h i (drop j s)) (zero-add j) ∙ tail.is;
        }
    go (Err r) is f = apart cc

-- Items that were read have one form, and fit n words; codes have one form, and are listed.
items_form : (n m k : ℕ) (s : List ℕ) → Below 256 s → items_ending n m s ≡ Ok k → PartsForm (item_bytes n) (Fits n) m 0 k s (items_in n m s)
items_form n m k s bs e =
    parts_form (item_part n) (λ (t : List ℕ). (item_of n t).words) (item_bytes n) (Fits n) one m 0 k s bs e
  where
    one : (t : List ℕ) (j : ℕ) → Below 256 t → item_part n t ≡ Ok j
        → (take j t ≡ item_bytes n (item_of n t).words) × Fits n (item_of n t).words
    one t j bt is = ((item_form n j t bt is).form, item_fits n j t bt is)

codes_form : (last m k : ℕ) (s : List ℕ) → Below 256 s → codes_ending last m s ≡ Ok k
    → PartsForm bytes_of (λ (c : ℕ). c ≤ last) m 0 k s (codes_in last m s)
codes_form last m k s bs e =
    parts_form (code_part last) (λ (t : List ℕ). value_in (code_of last t)) bytes_of (λ (c : ℕ). c ≤ last) one m 0 k s bs e
  where
    one : (t : List ℕ) (j : ℕ) → Below 256 t → code_part last t ≡ Ok j
        → (take j t ≡ bytes_of (value_in (code_of last t))) × (value_in (code_of last t) ≤ last)
    one t j bt is = go (code_of last t) refl is
      where
        go : (r : Num) → code_of last t ≡ r → answer_of r ≡ Ok j → (take j t ≡ bytes_of (value_in r)) × (value_in r ≤ last)
        go (Ok (v, i)) e f =
            let same : i ≡ j = cc in
            let read = within_value 0 last Code (number_of t) e in
            (rw same at (number_form t v i bt read.0), read.2)
        go (Err x) e f = apart cc

-- Where the moves stand in the file.
pub track_drop : (a b c : ℕ) (s : List ℕ) → drop c (drop b (drop a s)) ≡ drop (a + b + c) s
track_drop a b c s = ap (drop c) (drop-drop b a s) ∙ drop-drop c (a + b) s

pub head_fits : (longest k : ℕ) (s : List ℕ) (h : HeadRead) → HeadForm longest 255 k s h → Fits h.n h.initial
head_fits longest k s h form =
    let words = take h.n h.initial in
    let small : Below (2 ^ 32) (eight words) = below_eight (2 ^ 32) words (omega arith) form.small in
    record { zeros = form.zeros; small = rw (← form.zeros) at small }

-- Its items, and its moves, which reach to its end.
module _ (longest last k : ℕ) (s : List ℕ) (bs : Below 256 s) (w : WholeForm longest last k s) where
  abbrev items_at : List ℕ
  items_at = drop w.used s

  abbrev pub track_place : ℕ
  track_place = w.used + w.tail.used + w.tail.after.track.at

  abbrev pub moves_size : ℕ
  moves_size = length (drop w.tail.used items_at) - w.tail.after.track.at

  abbrev head : HeadRead
  head = head_of longest 255 s

  pub whole_items : PartsForm (item_bytes head.n) (Fits head.n) head.count 0 w.tail.used items_at
      (items_in head.n head.count items_at)
  whole_items = items_form head.n head.count w.tail.used items_at (below_drop 256 w.used s bs) w.tail.read

  pub whole_read : codes_ending last w.tail.after.track.count (drop track_place s) ≡ Ok moves_size
  whole_read = rw (track_drop w.used w.tail.used w.tail.after.track.at s) at w.tail.after.track.read

  pub whole_moves : PartsForm bytes_of (λ (c : ℕ). c ≤ last) w.tail.after.track.count 0 moves_size (drop track_place s)
      (codes_in last w.tail.after.track.count (drop track_place s))
  whole_moves = codes_form last _ moves_size (drop track_place s) (below_drop 256 track_place s bs) whole_read

  pub whole_reaches : (k ≡ length s) × (track_place + moves_size ≡ length s)
  whole_reaches =
      let a = w.within in
      let b = w.tail.within in
      let c = w.tail.after.track.within in
      let all = w.tail.after.ends in
      let items = length-drop w.used s in
      let track = length-drop w.tail.used items_at in
      (omega arith, omega arith)
