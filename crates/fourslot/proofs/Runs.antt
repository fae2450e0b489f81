-- The invariant along a run: its finished reads have true numbers, and these are a placing of its events.
-- Assumes nothing.
use Prim.Native.Nat.{ℕ, suc, ◌+◌, ◌-◌, ◌≤◌, ◌<◌}
use Rattle.std.specs.Prelude.{Option, Some, None}
use native.Mathlib.Nat.{le_refl, add-zero}
use native.Mathlib.Numerals.{add-one}
use native.Mathlib.Omega.{arith}
use native.Mathlib.Decide.{dec_lt}
use mathlib.Core.Path.{◌≡◌, refl, sym, ap, subst, ◌∙◌}
use mathlib.Core.Bool.{true, false}
use mathlib.Core.List.{List, [], ◌∷◌, ◌++◌, map}
use lib.ListN.{get_or, drop, replicate}
use lib.Seq.{get_or-drop, drop-drop}
use lib.Dec.{eqb}
use borrow.Table.Steps.{cases}
use Rattle.control.specs.declared.Happened.{Happened}
use Rattle.control.specs.declared.Happened.TheVariants.{Called, Returned}
use Rattle.control.specs.declared.Step.{Step}
use Rattle.control.specs.Simpson.{Writer, Reader, simpson}
use Rattle.control.specs.Step.{step}
use Rattle.machine.specs.declared.State.{State}
use Rattle.machine.specs.Machine.{writer_after, reader_after}
use Rattle.history.specs.declared.Kind.TheVariants.{WriteCalled, WriteReturned, ReadCalled, ReadReturned}
use Rattle.history.specs.declared.Event.{Event}
use Rattle.history.specs.Event.{event, kind_of}
use Rattle.history.specs.Reads.{written, reads_after}
use Rattle.runs.specs.Run.{Ran, run, of_writer, of_reader, writes, reads, four_slots, item_beside}
use Rattle.runs.proofs.Runs.{Deal, Took, Skipped, run_all, run_on}
use Rattle.fourslot.specs.Tags.{Tags, Tagged, tag_store, tag_load, with_tags}
use Rattle.fourslot.proofs.Control.{WriterStage, w_idle, w_pair, w_index, w_set, ReaderStage, r_idle, r_pair, r_announced, r_index}
use Rattle.fourslot.proofs.Numbers.{Ghost}
use Rattle.fourslot.proofs.Moves.{pair_move, index_move, store_move, slot_move, latest_move, take_move, announce_move, point_move, load_move, last_move}
use Rattle.fourslot.proofs.Stages.{at_sound}
use Rattle.fourslot.proofs.Placed.{Placed, Borne}
use Rattle.fourslot.proofs.Invariant.{Inv, inv_pair, inv_index, inv_store, inv_slot, inv_latest, inv_take, inv_announce, inv_point, inv_load, inv_last, last_tags, last_item}

abbrev beside : State → Tags → Tagged
beside s t = record { state = s; tags = t }

-- The machine's deal is also the tagged machine's.
deal_beside : (s : State) (t : Tags) (code : ℕ) (items : List (List ℕ)) (x : List ℕ) (left : List (List ℕ))
    → Deal (four_slots simpson) s code items x left → Deal (with_tags simpson) (beside s t) code items x left
deal_beside s t code items x left (Took h l) = Took h l
deal_beside s t code items x left (Skipped h z l) = Skipped h z l

-- A move's events, with other words.
write_words : (h : Option Happened) (x y : List ℕ) → map (λ e. event (kind_of e) y) (of_writer h x) ≡ of_writer h y
write_words None x y = refl
write_words (Some Called) x y = refl
write_words (Some Returned) x y = refl

read_words : (h : Option Happened) (x y : List ℕ) → map (λ e. event (kind_of e) y) (of_reader h x) ≡ of_reader h y
read_words None x y = refl
read_words (Some Called) x y = refl
read_words (Some Returned) x y = refl

-- The first of what is left of a list.
drop_first : (m : ℕ) (all : List (List ℕ)) (x : List ℕ) (xs : List (List ℕ)) → drop m all ≡ x ∷ xs
    → (get_or all m [] ≡ x) × (drop (suc m) all ≡ xs)
drop_first m all x xs e = (
  ap (λ (k : ℕ). get_or all k []) (sym (add-zero m)) ∙ sym (get_or-drop m all 0 []) ∙ ap (λ (l : List (List ℕ)). get_or l 0 []) e,
  ap (λ (k : ℕ). drop k all) (sym (add-one m)) ∙ sym (drop-drop 1 m all) ∙ ap (drop 1) e,
)

-- `all` has the item of each number of the whole run.
module _ (all : List (List ℕ)) where
  abbrev by_number : ℕ → List ℕ
  by_number w = get_or all w []

  -- What holds of the moves to come.
  pub record Result (s : State) (t : Tags) (g : Ghost) (k calls last : ℕ) (items : List (List ℕ)) (codes : List ℕ) (es : List Event)
      : Type 0 where
    pub tags : List Event
    pub tagged : run (with_tags simpson) (beside s t) k items codes ≡ Ran tags
    pub kinds : map kind_of tags ≡ map kind_of es
    pub numbers : List ℕ
    pub borne : Borne s.control.n (reads_after t.called g.returned calls g.low tags) numbers
    pub placed : Placed all last (reads_after t.called g.returned calls g.low es) numbers

  -- From any state of which the invariant holds, the last read before having had a number that is not greater than what was taken.
  abbrev Claim : State → List (List ℕ) → List ℕ → List Event → Type 0
  Claim s items codes es =
      (ws : WriterStage) (rs : ReaderStage) (t : Tags) (g : Ghost) (k calls last : ℕ) → Inv by_number ws rs s t g
      → drop (suc t.called) all ≡ written es → last ≤ g.taken → Result s t g k calls last items codes es

  module _ (s : State) (items : List (List ℕ)) (code : ℕ) (x : List ℕ) (left : List (List ℕ)) (codes : List ℕ) (es : List Event)
      (d : Deal (four_slots simpson) s code items x left) where
    -- The tagged run, a move of the writer and those after it.
    tagged_write : (st : Step) (t : Tags) (k : ℕ) (fs : List Event) → eqb code 0 ≡ true → step simpson Writer s.control ≡ st
        → run (with_tags simpson) (beside (writer_after st s x).state (tag_store st t)) (suc k) left codes ≡ Ran fs
        → run (with_tags simpson) (beside s t) k items (code ∷ codes)
        ≡ Ran (of_writer st.happened (replicate 8 (tag_store st t).called) ++ fs)
    unfolding writer_after
    tagged_write st t k fs e q r =
        run_on (with_tags simpson) (beside s t) items code codes x left k (deal_beside s t code items x left d)
        ∙ rw (e, q, r, write_words st.happened (item_beside (writer_after st s x).item) (replicate 8 (tag_store st t).called))

    -- What a move of the writer adds, where this is its step.
    abbrev Writing : Tags → Ghost → ℕ → ℕ → ℕ → Step → Type 0
    Writing t g k calls last st =
        Claim (writer_after st s x).state left codes es
        → drop (suc t.called) all ≡ written ((writes (writer_after st s x)).events ++ es) → last ≤ g.taken
        → Result s t g k calls last items (code ∷ codes) ((writes (writer_after st s x)).events ++ es)

    write_claim : (ws : WriterStage) (rs : ReaderStage) (t : Tags) (g : Ghost) (k calls last : ℕ) → eqb code 0 ≡ true
        → Inv by_number ws rs s t g
        → Writing t g k calls last (step simpson Writer s.control)
    unfolding writer_after written reads_after
    write_claim w_idle rs t g k calls last e h =
        let q = pair_move s.control (at_sound h.at) h.at.writer in
        subst (Writing t g k calls last) (sym q) λ ih future le.
        let next = drop_first (suc t.called) all _ (written es) future in
        let r = ih w_pair rs _ g (suc k) calls last (inv_pair by_number rs s t g x next.0 h) next.1 le in
        record {
          tags = _;
          tagged = tagged_write _ t k _ e q r.tagged;
          kinds = ap (◌∷◌ WriteCalled) r.kinds;
          numbers = _;
          borne = r.borne;
          placed = r.placed;
        }
    write_claim w_pair rs t g k calls last e h =
        let q = index_move s.control (at_sound h.at) h.at.writer in
        subst (Writing t g k calls last) (sym q) λ ih future le.
        let r = ih w_index rs _ g (suc k) calls last (inv_index by_number rs s t g h) future le in
        record {
          tags = _;
          tagged = tagged_write _ t k _ e q r.tagged;
          kinds = r.kinds;
          numbers = _;
          borne = r.borne;
          placed = r.placed;
        }
    write_claim w_index rs t g k calls last e h = at_word (dec_lt s.control.writer.phase (2 + s.control.n))
      where
        at_word : Dec (s.control.writer.phase < 2 + s.control.n)
            → Writing t g k calls last (step simpson Writer s.control)
        at_word (yes l) =
            let j = s.control.writer.phase - 2 in
            let is : s.control.writer.phase ≡ 2 + j = omega (arith, h.at.writer.0) in
            let less : j < s.control.n = omega arith in
            let q = store_move s.control (at_sound h.at) j is less in
            subst (Writing t g k calls last) (sym q) λ ih future le.
            let r = ih w_index rs _ g (suc k) calls last (inv_store by_number rs s t g j is less h) future le in
            record {
              tags = _;
              tagged = tagged_write _ t k _ e q r.tagged;
              kinds = r.kinds;
              numbers = _;
              borne = r.borne;
              placed = r.placed;
            }
        at_word (no m) =
            let is : s.control.writer.phase ≡ 2 + s.control.n = omega (arith, h.at.writer.1) in
            let q = slot_move s.control (at_sound h.at) is in
            subst (Writing t g k calls last) (sym q) λ ih future le.
            let r = ih w_set rs _ _ (suc k) calls last (inv_slot by_number rs s t g is h) future le in
            record {
              tags = _;
              tagged = tagged_write _ t k _ e q r.tagged;
              kinds = r.kinds;
              numbers = _;
              borne = r.borne;
              placed = r.placed;
            }
    write_claim w_set rs t g k calls last e h =
        let q = latest_move s.control (at_sound h.at) h.at.writer in
        subst (Writing t g k calls last) (sym q) λ ih future le.
        let r = ih w_idle rs _ _ (suc k) calls last (inv_latest by_number rs s t g h) future le in
        record {
          tags = _;
          tagged = tagged_write _ t k _ e q r.tagged;
          kinds = ap (◌∷◌ WriteReturned) r.kinds;
          numbers = _;
          borne = r.borne;
          placed = r.placed;
        }

    -- And a move of the reader.
    tagged_read : (st : Step) (t : Tags) (k : ℕ) (fs : List Event) → eqb code 0 ≡ false → step simpson Reader s.control ≡ st
        → run (with_tags simpson) (beside (reader_after st s).state (tag_load st t)) (suc k) left codes ≡ Ran fs
        → run (with_tags simpson) (beside s t) k items (code ∷ codes) ≡ Ran (of_reader st.happened (tag_load st t).loaded ++ fs)
    unfolding reader_after
    tagged_read st t k fs e q r =
        run_on (with_tags simpson) (beside s t) items code codes x left k (deal_beside s t code items x left d)
        ∙ rw (e, q, r, read_words st.happened (item_beside (reader_after st s).item) (tag_load st t).loaded)

    -- What a move of the reader adds, where this is its step.
    abbrev Reading : Tags → Ghost → ℕ → ℕ → ℕ → Step → Type 0
    Reading t g k calls last st =
        Claim (reader_after st s).state left codes es
        → drop (suc t.called) all ≡ written ((reads (reader_after st s)).events ++ es) → last ≤ g.taken
        → Result s t g k calls last items (code ∷ codes) ((reads (reader_after st s)).events ++ es)

    read_claim : (ws : WriterStage) (rs : ReaderStage) (t : Tags) (g : Ghost) (k calls last : ℕ) → eqb code 0 ≡ false
        → Inv by_number ws rs s t g
        → Reading t g k calls last (step simpson Reader s.control)
    unfolding reader_after written reads_after Borne Placed
    read_claim ws r_idle t g k calls last e h =
        let q = take_move s.control (at_sound h.at) h.at.reader in
        subst (Reading t g k calls last) (sym q) λ ih future le.
        let r = ih ws r_pair _ _ (suc k) (suc calls) last (inv_take by_number ws s t g h) future le in
        record {
          tags = _;
          tagged = tagged_read _ t k _ e q r.tagged;
          kinds = ap (◌∷◌ ReadCalled) r.kinds;
          numbers = _;
          borne = r.borne;
          placed = r.placed;
        }
    read_claim ws r_pair t g k calls last e h =
        let q = announce_move s.control (at_sound h.at) h.at.reader in
        subst (Reading t g k calls last) (sym q) λ ih future le.
        let r = ih ws r_announced _ g (suc k) calls last (inv_announce by_number ws s t g h) future le in
        record {
          tags = _;
          tagged = tagged_read _ t k _ e q r.tagged;
          kinds = r.kinds;
          numbers = _;
          borne = r.borne;
          placed = r.placed;
        }
    read_claim ws r_announced t g k calls last e h =
        let q = point_move s.control (at_sound h.at) h.at.reader h.at.low in
        subst (Reading t g k calls last) (sym q) λ ih future le.
        let r = ih ws r_index _ _ (suc k) calls last (inv_point by_number ws s t g h) future (omega (arith, h.numbers.not_older tt)) in
        record {
          tags = _;
          tagged = tagged_read _ t k _ e q r.tagged;
          kinds = r.kinds;
          numbers = _;
          borne = r.borne;
          placed = r.placed;
        }
    read_claim ws r_index t g k calls last e h = at_word (dec_lt s.control.reader.phase (2 + s.control.n))
      where
        j : ℕ
        j = s.control.reader.phase - 3

        is : s.control.reader.phase ≡ 3 + j
        is = omega (arith, h.at.reader.0)

        less : j < s.control.n
        less = omega (arith, h.at.reader.0, h.at.reader.1)

        at_word : Dec (s.control.reader.phase < 2 + s.control.n)
            → Reading t g k calls last (step simpson Reader s.control)
        at_word (yes l) =
            let q = load_move s.control (at_sound h.at) j is (omega arith) in
            subst (Reading t g k calls last) (sym q) λ ih future le.
            let r = ih ws r_index _ g (suc k) calls last (inv_load by_number ws s t g j is less h (omega arith)) future le in
            record {
              tags = _;
              tagged = tagged_read _ t k _ e q r.tagged;
              kinds = r.kinds;
              numbers = _;
              borne = r.borne;
              placed = r.placed;
            }
        at_word (no m) =
            let full : 1 + j ≡ s.control.n = omega (arith, h.at.reader.1) in
            let q = last_move s.control (at_sound h.at) j is full in
            subst (Reading t g k calls last) (sym q) λ ih future le.
            let r = ih ws r_idle _ g (suc k) calls g.taken (inv_last by_number ws s t g j is less h) future (le_refl _) in
            record {
              tags = _;
              tagged = tagged_read _ t k _ e q r.tagged;
              kinds = ap (◌∷◌ ReadReturned) r.kinds;
              numbers = g.taken ∷ r.numbers;
              borne = (last_tags by_number ws s t g j is less h full, r.borne);
              placed = (
                record {
                  at_least_low = h.numbers.held tt;
                  at_most_high = omega (arith, h.numbers.order, h.numbers.most s.control.bits.latest);
                  same_item = last_item by_number ws s t g j is less h full;
                },
                le,
                r.placed,
              );
            }

  no_moves : (s : State) (items : List (List ℕ)) → Claim s items [] []
  unfolding run reads_after Borne Placed
  no_moves s items ws rs t g k calls last h future le =
      record { tags = []; tagged = refl; kinds = refl; numbers = []; borne = tt; placed = tt }

  move_claim : (s : State) (items : List (List ℕ)) (code : ℕ) (x : List ℕ) (left : List (List ℕ))
      → Deal (four_slots simpson) s code items x left → (codes : List ℕ) (es : List Event)
      → Claim ((four_slots simpson).move s code x).state left codes es
      → Claim s items (code ∷ codes) (((four_slots simpson).move s code x).events ++ es)
  move_claim s items code x left d codes es =
      cases (eqb code 0)
      (λ e. rw e λ ih ws rs t g k calls last h. write_claim s items code x left codes es d ws rs t g k calls last e h ih)
      (λ e. rw e λ ih ws rs t g k calls last h. read_claim s items code x left codes es d ws rs t g k calls last e h ih)

  -- The claim, for every run.
  pub run_claim : (s : State) (k : ℕ) (items : List (List ℕ)) (codes : List ℕ) (es : List Event)
      → run (four_slots simpson) s k items codes ≡ Ran es → Claim s items codes es
  run_claim s k items codes es =
      run_all (four_slots simpson) (λ s items. Unit {0}) Claim (λ s items u. no_moves s items)
      (λ s items code x left u d. (tt, λ codes es ih. move_claim s items code x left d codes es ih))
      s
      k
      items
      codes
      es
      tt
