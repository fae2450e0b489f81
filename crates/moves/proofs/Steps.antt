-- What reading a move file finds, from what each of its readers hands on.
-- Assumes nothing.
use Rattle.std.proofs.Common.{◌≡◌, ℕ, ◌+◌, ◌-◌, ◌≤◌, ◌<◌, List, [], ◌∷◌, length, drop, Ok, Err, refl, sym, ap, ap₂, ◌∙◌, arith, length-drop}
use Rattle.std.proofs.Math.Nat.{zero-add, add-zero}
use Rattle.refusals.specs.declared.Fault.{Fault}
use Rattle.refusals.specs.declared.Fault.TheVariants.{Code, Count, Trailing}
use Rattle.refusals.specs.Table.{Answer, refusal_at, answer_place}
use Rattle.numbers.specs.Number.{Num, answer_of, used_of}
use Rattle.numbers.specs.Reading.{unless_trailing}
use Rattle.numbers.specs.Handed.{handed_number}
use Rattle.numbers.proofs.Handed.{IsRest, place, rest_of_drop, rest_next, place_of, took, missed, took_number, missed_number, within_inside}
use Rattle.numbers.proofs.Parts.{parts_within}
use Rattle.items.specs.declared.Head.{Head}
use Rattle.items.specs.Item.{item_of}
use Rattle.items.specs.Head.{HeadRead, count_of, head_of, holds, begins}
use Rattle.items.proofs.Reading.{item_within}
use Rattle.items.proofs.HeadPlaces.{head_inside, head_short, head_near}
use Rattle.moves.specs.MoveFile.{
  FileRead,
  Track,
  items_ending,
  code_of,
  codes_ending,
  refused_track,
  moves_at,
  track_of,
  refused_file,
  after_items,
  after_head,
  move_file_of,
  passed,
}

-- A track that was read, up to a place of it, and a move file that was.
abbrev pub track_to : ℕ → ℕ → ℕ → Track
track_to count at end = record { answer = Ok end; count = count; at = at }

abbrev pub file_to : HeadRead → ℕ → ℕ → ℕ → ℕ → FileRead
file_to h stock moves track end =
    record { answer = Ok end; n = h.n; initial = h.initial; items = h.count; stock = stock; moves = moves; track = track }

-- An item of n words as a part, and a code.
abbrev pub item_part : ℕ → List ℕ → Answer
item_part n t = (item_of n t).answer

abbrev pub code_part : ℕ → List ℕ → Answer
code_part last t = answer_of (code_of last t)

-- A code ends within the list, and so do codes and items.
pub code_within : (last : ℕ) (s : List ℕ) → answer_place (code_part last s) ≤ length s
code_within last s = go (code_of last s) refl
  where
    go : (r : Num) → code_of last s ≡ r → used_of r ≤ length s
    go (Ok (v, k)) e = within_inside 0 last Code s e
    go (Err f) e = omega arith

codes_within : (last count : ℕ) (s : List ℕ) → answer_place (codes_ending last count s) ≤ length s
codes_within last count s = omega (arith, parts_within (code_part last) (code_within last) count 0 s)

items_within : (n count : ℕ) (s : List ℕ) → answer_place (items_ending n count s) ≤ length s
items_within n count s = omega (arith, parts_within (item_part n) (item_within n) count 0 s)

-- Where codes and items end.
pub codes_ends : (last count : ℕ) (s : List ℕ) {a : Answer} → codes_ending last count s ≡ a → answer_place a ≤ length s
codes_ends last count s is = omega (arith, codes_within last count s, ap answer_place is)

pub items_ends : (n count : ℕ) (s : List ℕ) {a : Answer} → items_ending n count s ≡ a → answer_place a ≤ length s
items_ends n count s is = omega (arith, items_within n count s, ap answer_place is)

-- TRAILING is given where bytes are left, and nowhere else.
trailing : {R : Type 0} (bad : Fault → ℕ → R) (at : ℕ) (t : List ℕ) (go : R) → 0 < length t → unless_trailing bad at t go ≡ bad Trailing at
trailing bad at [] go h = absurd (omega arith)
trailing bad at (b ∷ t) go h = refl

ended : {R : Type 0} (bad : Fault → ℕ → R) (at : ℕ) (t : List ℕ) (go : R) → length t ≤ 0 → unless_trailing bad at t go ≡ go
ended bad at [] go h = refl
ended bad at (b ∷ t) go h = absurd (omega arith)

-- The moves, and nothing after them.
pub moves_whole : (last count at : ℕ) (s : List ℕ) {k : ℕ} → codes_ending last count s ≡ Ok k → length s ≤ k
    → moves_at last count at s ≡ track_to count at (at + k)
unfolding moves_at
moves_whole last count at s {k} is h =
    rw (is, ended refused_track (at + k) (drop k s) (track_to count at (at + k)) (simp length-drop (omega arith)))

-- From the count of moves on, which stands in u at a place of the file.
module _ (last : ℕ) (h : HeadRead) (stock at : ℕ) (u : List ℕ) where
  count_refused : (f : Fault) → count_of 4096 u ≡ Err f → after_items last h stock at u ≡ refused_file f at
  unfolding after_items track_of
  count_refused f e = rw (e, add-zero)

  module _ (count i : ℕ) (e : count_of 4096 u ≡ Ok (count, i)) (v : List ℕ) (q : v ≡ drop i u) where
    codes_refused : (f : Fault) (j : ℕ) → codes_ending last count v ≡ refusal_at f j
        → after_items last h stock at u ≡ refused_file f (at + i + j)
    unfolding after_items track_of moves_at
    codes_refused f j is =
        let here = rw q at is in
        rw (e, here) (ap (refused_file f) (omega arith))

    codes_trail : (j : ℕ) → codes_ending last count v ≡ Ok j → 0 < length (drop j v)
        → after_items last h stock at u ≡ refused_file Trailing (at + i + j)
    unfolding after_items track_of moves_at
    codes_trail j is more =
        let here = rw q at is in
        let some = rw q at more in
        rw (e, here, trailing refused_track (0 + i + j) (drop j (drop i u)) (track_to count (0 + i) (0 + i + j)) some)
        (ap (refused_file Trailing) (omega arith))

    codes_whole : (j : ℕ) → codes_ending last count v ≡ Ok j → length (drop j v) ≤ 0
        → after_items last h stock at u ≡ file_to h stock count (at + i) (at + i + j)
    unfolding after_items track_of moves_at
    codes_whole j is none =
        let here = rw q at is in
        let empty = rw q at none in
        let end : at + (0 + i + j) ≡ at + i + j = omega arith in
        let track : at + (0 + i) ≡ at + i = omega arith in
        rw (e, here, ended refused_track (0 + i + j) (drop j (drop i u)) (track_to count (0 + i) (0 + i + j)) empty, end, track)

-- From the items on, which stand in t at a place of the file.
module _ (last : ℕ) (h : HeadRead) (at : ℕ) (t : List ℕ) where
  items_refused : (f : Fault) (j : ℕ) → items_ending h.n h.count t ≡ refusal_at f j → after_head last h at t ≡ refused_file f (at + j)
  unfolding after_head
  items_refused f j e = rw e

  items_read : (j : ℕ) (u : List ℕ) → items_ending h.n h.count t ≡ Ok j → u ≡ drop j t → after_head last h at t ≡ after_items last h at (at + j) u
  unfolding after_head
  items_read j u e q = rw (e, q)

module _ (longest last : ℕ) (s : List ℕ) where
  head_refused : (f : Fault) (j : ℕ) → (head_of longest 255 s).answer ≡ refusal_at f j → move_file_of longest last s ≡ refused_file f j
  unfolding move_file_of
  head_refused f j e = rw (e, zero-add)

  head_read : (k : ℕ) (t : List ℕ) → (head_of longest 255 s).answer ≡ Ok k → t ≡ drop k s
      → move_file_of longest last s ≡ after_head last (head_of longest 255 s) k t
  unfolding move_file_of after_head after_items
  head_read k t e q = rw (e, zero-add, q)

-- What is refused at a place, where the rest r of the file begins.
pub record Refused (longest : ℕ) (s : List ℕ) (file : FileRead) (f : Fault) (r : List ℕ) : Type 0 where
  pub read : refused_file f (length s - length r) ≡ file
  pub inside : length r ≤ length s
  pub near : length s - length r ≤ longest

refused_there : (longest : ℕ) (s r : List ℕ) (file : FileRead) (f : Fault) (j : ℕ) → IsRest s r → place s r ≡ j → j ≤ longest
    → file ≡ refused_file f j → Refused longest s file f r
refused_there longest s r file f j rest at near e = record {
  read = ap (refused_file f) at ∙ sym e;
  inside = rest.short;
  near = omega (arith, at);
}

-- What is read, whose items and moves stand in the rests t and v.
pub record Whole (s : List ℕ) (file : FileRead) (h : Head) (t : List ℕ) (count : ℕ) (v : List ℕ) : Type 0 where
  pub read : ◌≡◌ {A = FileRead} (record {
    answer = Ok (length s);
    n = h.n;
    initial = h.initial;
    items = h.count;
    stock = length s - length t;
    moves = count;
    track = length s - length v;
  }) file
  pub items : t ≡ drop (length s - length t) s
  pub moves : v ≡ drop (length s - length v) s

module _ (longest last : ℕ) (s : List ℕ) where
  pub head_missed : {f : Fault} {r : List ℕ} → begins s (head_of longest 255 s) ≡ Err (f, r)
      → Refused longest s (move_file_of longest last s) f r
  head_missed {f} {r} e =
      let m = missed s (head_of longest 255 s).answer (holds (head_of longest 255 s)) f r e in
      let inside : m.place ≤ length s = rw m.refused at (head_inside longest 255 s) in
      let near : m.place ≤ longest = rw m.refused at (head_near longest 255 s) in
      refused_there longest s r (move_file_of longest last s) f m.place (rest_of_drop s r m.rest_is inside) (place_of s r m.rest_is inside) near
      (head_refused longest last s f m.place m.refused)

  module _ (h : Head) (t : List ℕ) (b : begins s (head_of longest 255 s) ≡ Ok (h, t)) where
    abbrev head : HeadRead
    head = head_of longest 255 s

    head_is : holds head ≡ h
    head_is = (took s head.answer (holds head) h t b).value_is

    n_is : head.n ≡ h.n
    n_is = ap (λ (x : Head). x.n) head_is

    count_is : head.count ≡ h.count
    count_is = ap (λ (x : Head). x.count) head_is

    initial_is : head.initial ≡ h.initial
    initial_is = ap (λ (x : Head). x.initial) head_is

    short : length s ≤ longest
    short = head_short longest 255 s (took s head.answer (holds head) h t b).accepted

    t_rest : IsRest s t
    t_rest =
        let m = took s head.answer (holds head) h t b in
        rest_of_drop s t m.rest_is (rw m.accepted at (head_inside longest 255 s))

    -- The file, from the items on.
    file_after : move_file_of longest last s ≡ after_head last head (place s t) t
    file_after =
        let m = took s head.answer (holds head) h t b in
        let at = place_of s t m.rest_is (rw m.accepted at (head_inside longest 255 s)) in
        rw at (head_read longest last s m.used t m.accepted m.rest_is)

    pub items_missed : {f : Fault} {r : List ℕ} → passed t (items_ending h.n h.count t) ≡ Err (f, r)
        → Refused longest s (move_file_of longest last s) f r
    items_missed {f} {r} e =
        let m = missed t (items_ending h.n h.count t) (tt {0}) f r e in
        let inside = items_ends h.n h.count t m.refused in
        let next = rest_next s t r t_rest inside m.rest_is in
        let ends : items_ending head.n head.count t ≡ refusal_at f m.place = rw (n_is, count_is) m.refused in
        refused_there longest s r (move_file_of longest last s) f (place s t + m.place) next.rest next.place_is
        (omega (arith, next.place_is, short))
        (file_after ∙ items_refused last head (place s t) t f m.place ends)

    module _ (u : List ℕ) (i : passed t (items_ending h.n h.count t) ≡ Ok (tt {0}, u)) where
      u_rest : IsRest s u
      u_rest =
          let m = took t (items_ending h.n h.count t) (tt {0}) (tt {0}) u i in
          (rest_next s t u t_rest (items_ends h.n h.count t m.accepted) m.rest_is).rest

      after : move_file_of longest last s ≡ after_items last head (place s t) (place s u) u
      after =
          let m = took t (items_ending h.n h.count t) (tt {0}) (tt {0}) u i in
          let next = rest_next s t u t_rest (items_ends h.n h.count t m.accepted) m.rest_is in
          let ends : items_ending head.n head.count t ≡ Ok m.used = rw (n_is, count_is) m.accepted in
          rw next.place_is (file_after ∙ items_read last head (place s t) t m.used u ends m.rest_is)

      pub count_missed : {f : Fault} {r : List ℕ} → handed_number u (count_of 4096 u) ≡ Err (f, r)
          → Refused longest s (move_file_of longest last s) f r
      count_missed {f} {r} e =
          let m = missed_number u (count_of 4096 u) f r e in
          rw m.1
          (refused_there longest s u (move_file_of longest last s) f (place s u) u_rest refl (omega (arith, short))
          (after ∙ count_refused last head (place s t) (place s u) u f m.0))

      module _ (count : ℕ) (v : List ℕ) (c : handed_number u (count_of 4096 u) ≡ Ok (count, v)) where
        v_rest : IsRest s v
        v_rest =
            let m = took_number u (count_of 4096 u) count v c in
            (rest_next s u v u_rest (within_inside 0 4096 Count u m.read) m.rest_is).rest

        v_at : place s v ≡ place s u + (took_number u (count_of 4096 u) count v c).used
        v_at =
            let m = took_number u (count_of 4096 u) count v c in
            (rest_next s u v u_rest (within_inside 0 4096 Count u m.read) m.rest_is).place_is

        pub codes_missed : {f : Fault} {r : List ℕ} → passed v (codes_ending last count v) ≡ Err (f, r)
            → Refused longest s (move_file_of longest last s) f r
        codes_missed {f} {r} e =
            let m = took_number u (count_of 4096 u) count v c in
            let d = missed v (codes_ending last count v) (tt {0}) f r e in
            let next = rest_next s v r v_rest (codes_ends last count v d.refused) d.rest_is in
            refused_there longest s r (move_file_of longest last s) f (place s v + d.place) next.rest next.place_is
            (omega (arith, next.place_is, short))
            (after ∙ codes_refused last head (place s t) (place s u) u count m.used m.read v m.rest_is f d.place d.refused
            ∙ ap (λ (k : ℕ). refused_file f (k + d.place)) (sym v_at))

        module _ (r : List ℕ) (d : passed v (codes_ending last count v) ≡ Ok (tt {0}, r)) where
          pub codes_trailed : 0 < length r → Refused longest s (move_file_of longest last s) Trailing r
          codes_trailed more =
              let m = took_number u (count_of 4096 u) count v c in
              let q = took v (codes_ending last count v) (tt {0}) (tt {0}) r d in
              let next = rest_next s v r v_rest (codes_ends last count v q.accepted) q.rest_is in
              let some : 0 < length (drop q.used v) = rw (← q.rest_is) more in
              refused_there longest s r (move_file_of longest last s) Trailing (place s v + q.used) next.rest next.place_is
              (omega (arith, next.place_is, short))
              (after ∙ codes_trail last head (place s t) (place s u) u count m.used m.read v m.rest_is q.used q.accepted some
              ∙ ap (λ (k : ℕ). refused_file Trailing (k + q.used)) (sym v_at))

          pub file_whole : length r ≡ 0 → Whole s (move_file_of longest last s) h t count v
          file_whole none =
              let m = took_number u (count_of 4096 u) count v c in
              let q = took v (codes_ending last count v) (tt {0}) (tt {0}) r d in
              let next = rest_next s v r v_rest (codes_ends last count v q.accepted) q.rest_is in
              let empty : length (drop q.used v) ≤ 0 = rw (← q.rest_is) (omega arith) in
              let end : length s ≡ place s u + m.used + q.used = omega (arith, next.place_is, next.rest.short, v_at) in
              let made : ℕ → ℕ → FileRead = λ length_is track_is. record {
                answer = Ok length_is;
                n = h.n;
                initial = h.initial;
                items = h.count;
                stock = place s t;
                moves = count;
                track = track_is;
              } in
              let read = codes_whole last head (place s t) (place s u) u count m.used m.read v m.rest_is q.used q.accepted empty in
              record {
                read = sym (after ∙ read ∙ rw (n_is, initial_is, count_is) (ap₂ made (sym end) (sym v_at)));
                items = sym t_rest.is;
                moves = sym v_rest.is;
              }
