-- The whole invariant of a run from fresh, and that each move keeps it. The slot that a pair shows bears the number of the write that last
-- set it; the slot of a read that has its index bears the number that it took, and so do the words loaded so far. A word is the word of the
-- item whose number it bears.
-- Assumes nothing.
use Prim.Native.Nat.{ℕ, suc, ◌+◌, ◌≤◌, ◌<◌}
use native.Mathlib.Omega.{arith}
use native.Mathlib.Decide.{ℕ_discrete}
use mathlib.Core.Path.{◌≡◌, sym, ◌∙◌}
use mathlib.Core.Bool.{Bool, true, false, not, cond, ◌&&◌, beq}
use mathlib.Core.List.{List}
use lib.Dec.{T}
use lib.ListN.{length, get_or, set, replicate, length-set, get_or-replicate}
use lib.Seq.{get_or-set_same, get_or-set_other}
use Rattle.control.specs.declared.Core.{Core}
use Rattle.control.specs.declared.Control.{Control}
use Rattle.control.specs.Simpson.{slot_at}
use Rattle.machine.specs.declared.State.{State}
use Rattle.machine.specs.Machine.{first_words, slot_word, with_writer, with_reader}
use Rattle.machine.proofs.Slots.{slots_apart, slots_within}
use Rattle.fourslot.specs.Tags.{Tags}
use Rattle.fourslot.proofs.Every.{imp, and_left, and_right}
use Rattle.fourslot.proofs.Control.{WriterStage, w_idle, w_pair, w_index, w_set, ReaderStage, r_idle, r_pair, r_announced, r_index, writing, storing, committed, opening, loading, set_safe, never_met, not_shown}
use Rattle.fourslot.proofs.Numbers.{Ghost, Numbers, put, after_set, after_return, after_call, after_take, call_write, numbers_after_set, return_write, call_read, take_number, return_read}
use Rattle.fourslot.proofs.Moves.{paired, indexed, word_stored, slot_set, latest_set, latest_taken, pair_announced, pointed, word_loaded, read_done}
use Rattle.fourslot.proofs.Stages.{At, at_pair, at_index, at_store, at_slot, at_latest, at_take, at_announce, at_point, at_load, at_done}
use Rattle.fourslot.proofs.Words.{word_of, other_slot, this_word, other_word, one_more, first_same}

-- All n words of a slot bear one number.
abbrev Bears : ℕ → List ℕ → Bool → Bool → ℕ → Type 0
Bears n tags p i w = (k : ℕ) → k < n → word_of tags p i k ≡ w

-- The slots: those that slot[.] shows, and the words of all four; s0 and s1 are slot[0] and slot[1].
pub record Slots (by_number : ℕ → List ℕ) (n : ℕ) (s0 s1 : Bool) (slots tags : List ℕ) (shows : Bool → ℕ) : Type 0 where
  pub long : length slots ≡ 32
  pub tagged : length tags ≡ 32
  pub bears : (p : Bool) → Bears n tags p (cond p s1 s0) (shows p)
  pub words : (p i : Bool) (k : ℕ) → k < n → word_of slots p i k ≡ get_or (by_number (word_of tags p i k)) k 0

-- The open write: its item, and its words stored so far.
pub record Stored (by_number : ℕ → List ℕ) (n : ℕ) (is_writing is_storing : Bool) (taken tags : List ℕ) (core : Core) (called : ℕ)
    : Type 0 where
  pub item : T is_writing → taken ≡ by_number called
  pub bears : T is_storing → (k : ℕ) → k < n → k + 2 < core.phase → word_of tags core.pair core.index k ≡ called

-- The open read: the slot that it loads from, and its words loaded so far.
pub record Loaded (by_number : ℕ → List ℕ) (n : ℕ) (is_loading : Bool) (loaded tags slot_tags : List ℕ) (core : Core) (number : ℕ)
    : Type 0 where
  pub long : length loaded ≡ 8
  pub tagged : length tags ≡ 8
  pub bears : T is_loading → Bears n slot_tags core.pair core.index number
  pub so_far : T is_loading → (k : ℕ) → k < n → k + 3 < core.phase
      → (get_or tags k 0 ≡ number) × (get_or loaded k 0 ≡ get_or (by_number number) k 0)

pub record Inv (by_number : ℕ → List ℕ) (ws : WriterStage) (rs : ReaderStage) (s : State) (t : Tags) (g : Ghost) : Type 0 where
  pub at : At ws rs s.control
  pub numbers : Numbers (writing ws) (committed ws) (opening rs) (loading rs) s.control.bits.latest s.control.writer.pair
      s.control.reader.pair
      t.called
      g
  pub slots : Slots by_number s.control.n s.control.bits.slot0 s.control.bits.slot1 s.slots t.slots g.shows
  pub stored : Stored by_number s.control.n (writing ws) (storing ws) s.taken t.slots s.control.writer t.called
  pub loaded : Loaded by_number s.control.n (loading rs) s.loaded t.loaded t.slots s.control.reader g.taken
  pub items : (w : ℕ) → w ≤ t.called → (x : List ℕ) × (by_number w ≡ first_words s.control.n x)

-- What is left of a test whose first part holds.
given_and : (a x y : Bool) → T a → T (not (a && x && y)) → T (not (x && y))
given_and true x y h t = t
given_and false x y h t = absurd h

given_imp : (a x y : Bool) → T a → T (imp (a && x) y) → T (imp x y)
given_imp true x y h t = t
given_imp false x y h t = absurd h

of_either : (s0 s1 wp wi : Bool) → T (not (beq false wp && beq s0 wi) && not (beq true wp && beq s1 wi))
    → (p : Bool) → T (not (beq p wp && beq (cond p s1 s0) wi))
of_either s0 s1 wp wi t false = and_left (not (beq false wp && beq s0 wi)) _ t
of_either s0 s1 wp wi t true = and_right (not (beq false wp && beq s0 wi)) _ t

-- What the pairs show after slot[pair] is set.
set_bears : (n : ℕ) (tags : List ℕ) (shows : Bool → ℕ) (called : ℕ) (s0 s1 wi wp : Bool) → Bears n tags wp wi called
    → ((p : Bool) → Bears n tags p (cond p s1 s0) (shows p))
    → (p : Bool) → Bears n tags p (cond p (cond wp wi s1) (cond wp s0 wi)) (put shows wp called p)
set_bears n tags shows called s0 s1 wi true new old true = new
set_bears n tags shows called s0 s1 wi true new old false = old false
set_bears n tags shows called s0 s1 wi false new old true = old true
set_bears n tags shows called s0 s1 wi false new old false = new

-- The reader's words and their numbers, with word j loaded.
abbrev load_place : State → ℕ → ℕ
load_place s j = slot_word s.control.reader.pair s.control.reader.index j

abbrev pub more_words : State → ℕ → List ℕ
more_words s j = set s.loaded j (get_or s.slots (load_place s j) 0)

abbrev pub more_tags : State → Tags → ℕ → List ℕ
more_tags s t j = set t.loaded j (get_or t.slots (load_place s j) 0)

abbrev pub with_loaded : Tags → List ℕ → Tags
with_loaded t loaded = record { called = t.called; slots = t.slots; loaded = loaded }

module _ (by_number : ℕ → List ℕ) where
  no_read : {n number : ℕ} {loaded tags slot_tags : List ℕ} {core : Core} → length loaded ≡ 8 → length tags ≡ 8
      → Loaded by_number n false loaded tags slot_tags core number
  no_read e f = record { long = e; tagged = f; bears = λ f. absurd f; so_far = λ f. absurd f }

  module _ (rs : ReaderStage) (s : State) (t : Tags) (g : Ghost) where
    -- The writer takes an item in, and its pair.
    pub inv_pair : (x : List ℕ) → by_number (suc t.called) ≡ first_words s.control.n x → Inv by_number w_idle rs s t g
        → Inv by_number w_pair rs (with_writer s (paired s.control) s.slots (first_words s.control.n x))
        (record { called = suc t.called; slots = t.slots; loaded = t.loaded })
        g
    inv_pair x e h =
        record {
          at = at_pair h.at;
          numbers = call_write g h.numbers;
          slots = h.slots;
          stored = record { item = λ _. sym e; bears = λ f. absurd f };
          loaded = h.loaded;
          items = λ w l. pick w l (ℕ_discrete w (suc t.called));
        }
      where
        pick : (w : ℕ) → w ≤ suc t.called → Dec (w ≡ suc t.called) → (y : List ℕ) × (by_number w ≡ first_words s.control.n y)
        pick w l (yes p) = (x, rw p e)
        pick w l (no p) = h.items w (omega arith)

    -- It gets its index.
    pub inv_index : Inv by_number w_pair rs s t g → Inv by_number w_index rs (with_writer s (indexed s.control) s.slots s.taken) t g
    inv_index h =
        record {
          at = at_index h.at;
          numbers = h.numbers;
          slots = h.slots;
          stored = record { item = h.stored.item; bears = λ _ k l less. absurd (omega arith) };
          loaded = h.loaded;
          items = h.items;
        }

    -- It stores a word.
    pub inv_store : (k : ℕ) → s.control.writer.phase ≡ 2 + k → k < s.control.n → Inv by_number w_index rs s t g
        → Inv by_number w_index rs
        (with_writer s (word_stored s.control)
        (set s.slots (slot_word s.control.writer.pair s.control.writer.index k) (get_or s.taken k 0))
        s.taken)
        (record {
          called = t.called;
          slots = set t.slots (slot_word s.control.writer.pair s.control.writer.index k) (get_or (replicate 8 t.called) k 0);
          loaded = t.loaded;
        })
        g
    inv_store j e less h =
        record {
          at = at_store c (omega arith) h.at;
          numbers = h.numbers;
          slots =
              record {
                long = length-set s.slots _ _ ∙ h.slots.long;
                tagged = length-set t.slots _ _ ∙ h.slots.tagged;
                bears =
                    λ p k l.
                    other_slot t.slots p (slot_at c.bits p) wp wi k j v (within k l) (within j less)
                    (of_either _ _ _ _ (not_shown w_index rs _ _ _ _ _ _ _ _ h.at.test) p)
                    ∙ h.slots.bears p k l;
                words = λ p i k l. word p i k l (ℕ_discrete (slot_word p i k) (slot_word wp wi j));
              };
          stored =
              record {
                item = h.stored.item;
                bears =
                    λ _ k l m. one_more t.slots j v t.called (slot_word wp wi)
                    (this_word t.slots wp wi j v h.slots.tagged (within j less) ∙ number)
                    (λ i b. other_word t.slots wp wi i j v (within i (omega arith)) (within j less) (omega arith))
                    (λ i b. h.stored.bears tt i (omega arith) (omega arith))
                    k
                    (omega arith);
              };
          loaded =
              record {
                long = h.loaded.long;
                tagged = h.loaded.tagged;
                bears =
                    λ f k l.
                    other_slot t.slots c.reader.pair c.reader.index wp wi k j v (within k l) (within j less)
                    (given_and (loading rs) _ _ f (never_met w_index rs _ _ _ _ _ _ _ _ h.at.test))
                    ∙ h.loaded.bears f k l;
                so_far = h.loaded.so_far;
              };
          items = h.items;
        }
      where
        c : Control
        c = s.control

        wp : Bool
        wp = c.writer.pair

        wi : Bool
        wi = c.writer.index

        v : ℕ
        v = get_or (replicate 8 t.called) j 0

        within : (k : ℕ) → k < c.n → k < 8
        within k l = omega (arith, h.at.high)

        number : v ≡ t.called
        number = get_or-replicate 8 j t.called 0 (within j less)

        word : (p i : Bool) (k : ℕ) → k < c.n → Dec (slot_word p i k ≡ slot_word wp wi j)
            → word_of (set s.slots (slot_word wp wi j) (get_or s.taken j 0)) p i k
            ≡ get_or (by_number (word_of (set t.slots (slot_word wp wi j) v) p i k)) k 0
        word p i k l (yes same) =
            let there = slots_within wp wi j (within j less) in
            let is : k ≡ j = (slots_apart p wp i wi k j (within k l) (within j less) same).2 in
            let new = get_or-set_same s.slots (slot_word wp wi j) (get_or s.taken j 0) 0 (omega (arith, there, h.slots.long)) in
            let tagged = get_or-set_same t.slots (slot_word wp wi j) v 0 (omega (arith, there, h.slots.tagged)) in
            rw (same, new, tagged, number, h.stored.item tt, is)
        word p i k l (no other) =
            let old = get_or-set_other s.slots (slot_word wp wi j) (slot_word p i k) (get_or s.taken j 0) 0 other in
            let kept = get_or-set_other t.slots (slot_word wp wi j) (slot_word p i k) v 0 other in
            rw (old, kept) (h.slots.words p i k l)

    -- It sets slot[pair].
    pub inv_slot : s.control.writer.phase ≡ 2 + s.control.n → Inv by_number w_index rs s t g
        → Inv by_number w_set rs (with_writer s (slot_set s.control) s.slots s.taken) t
        (after_set s.control.writer.pair t.called g)
    inv_slot e h =
        record {
          at = at_slot s.control h.at;
          numbers =
              numbers_after_set (opening rs) (loading rs) _ _ _ t.called g
              (λ f. given_imp (opening rs) _ _ f (set_safe w_index rs _ _ _ _ _ _ _ _ h.at.test))
              h.numbers;
          slots =
              record {
                long = h.slots.long;
                tagged = h.slots.tagged;
                bears =
                    set_bears s.control.n t.slots g.shows t.called _ _ s.control.writer.index s.control.writer.pair
                    (λ k l. h.stored.bears tt k l (omega arith))
                    h.slots.bears;
                words = h.slots.words;
              };
          stored = record { item = h.stored.item; bears = λ f. absurd f };
          loaded = h.loaded;
          items = h.items;
        }

    -- Its pair is the latest, and the write returns.
    pub inv_latest : Inv by_number w_set rs s t g
        → Inv by_number w_idle rs (with_writer s (latest_set s.control) s.slots s.taken) t (after_return g)
    inv_latest h =
        record {
          at = at_latest h.at;
          numbers = return_write (opening rs) (loading rs) _ _ _ t.called g h.numbers;
          slots = h.slots;
          stored = record { item = λ f. absurd f; bears = λ f. absurd f };
          loaded = h.loaded;
          items = h.items;
        }

  module _ (ws : WriterStage) (s : State) (t : Tags) (g : Ghost) where
    -- The reader takes the latest pair.
    pub inv_take : Inv by_number ws r_idle s t g
        → Inv by_number ws r_pair (with_reader s (latest_taken s.control) s.loaded) t (after_call g)
    inv_take h =
        record {
          at = at_take h.at;
          numbers = call_read g h.numbers;
          slots = h.slots;
          stored = h.stored;
          loaded = no_read h.loaded.long h.loaded.tagged;
          items = h.items;
        }

    -- It announces it.
    pub inv_announce : Inv by_number ws r_pair s t g
        → Inv by_number ws r_announced (with_reader s (pair_announced s.control) s.loaded) t g
    inv_announce h =
        record {
          at = at_announce h.at;
          numbers = h.numbers;
          slots = h.slots;
          stored = h.stored;
          loaded = no_read h.loaded.long h.loaded.tagged;
          items = h.items;
        }

    -- It gets its index, and so takes the number that its pair shows.
    pub inv_point : Inv by_number ws r_announced s t g
        → Inv by_number ws r_index (with_reader s (pointed s.control) s.loaded) t (after_take s.control.reader.pair g)
    inv_point h =
        record {
          at = at_point s.control h.at;
          numbers = take_number g h.numbers;
          slots = h.slots;
          stored = h.stored;
          loaded =
              record {
                long = h.loaded.long;
                tagged = h.loaded.tagged;
                bears = λ _. h.slots.bears s.control.reader.pair;
                so_far = λ _ k l less. absurd (omega arith);
              };
          items = h.items;
        }

    module _ (j : ℕ) (e : s.control.reader.phase ≡ 3 + j) (less : j < s.control.n) (h : Inv by_number ws r_index s t g) where
      load_more : (k : ℕ) → k < suc j → (get_or (more_tags s t j) k 0 ≡ g.taken) × (get_or (more_words s j) k 0 ≡ get_or (by_number g.taken) k 0)
      load_more k l = pick (ℕ_discrete k j)
        where
          at : ℕ
          at = load_place s j

          small : j < 8
          small = omega (arith, h.at.high)

          bears : get_or t.slots at 0 ≡ g.taken
          bears = h.loaded.bears tt j less

          pick : Dec (k ≡ j) → (get_or (more_tags s t j) k 0 ≡ g.taken) × (get_or (more_words s j) k 0 ≡ get_or (by_number g.taken) k 0)
          pick (yes is) =
              let word = h.slots.words s.control.reader.pair s.control.reader.index j less in
              rw is (
                get_or-set_same t.loaded j (get_or t.slots at 0) 0 (omega (arith, h.loaded.tagged)) ∙ bears,
                get_or-set_same s.loaded j (get_or s.slots at 0) 0 (omega (arith, h.loaded.long)) ∙ rw bears at word,
              )
          pick (no other) =
              let old = h.loaded.so_far tt k (omega arith) (omega arith) in (
                get_or-set_other t.loaded j k (get_or t.slots at 0) 0 other ∙ old.0,
                get_or-set_other s.loaded j k (get_or s.slots at 0) 0 other ∙ old.1,
              )

      long : length (more_words s j) ≡ 8
      long = length-set s.loaded _ _ ∙ h.loaded.long

      tagged : length (more_tags s t j) ≡ 8
      tagged = length-set t.loaded _ _ ∙ h.loaded.tagged

      -- It loads a word.
      pub inv_load : 1 + j < s.control.n
          → Inv by_number ws r_index (with_reader s (word_loaded s.control) (more_words s j)) (with_loaded t (more_tags s t j)) g
      inv_load more =
          record {
            at = at_load s.control (omega arith) h.at;
            numbers = h.numbers;
            slots = h.slots;
            stored = h.stored;
            loaded =
                record { long = long; tagged = tagged; bears = h.loaded.bears; so_far = λ _ k l b. load_more k (omega arith) };
            items = h.items;
          }

      -- It loads its last word, and the read returns.
      pub inv_last : Inv by_number ws r_idle (with_reader s (read_done s.control) (more_words s j)) (with_loaded t (more_tags s t j)) g
      inv_last =
          record {
            at = at_done h.at;
            numbers = return_read g h.numbers;
            slots = h.slots;
            stored = h.stored;
            loaded = no_read long tagged;
            items = h.items;
          }

      -- All n words that it loaded bear the number that it took, and they are that write's item.
      pub last_tags : 1 + j ≡ s.control.n → (k : ℕ) → k < s.control.n → get_or (more_tags s t j) k 0 ≡ g.taken
      last_tags all k l = (load_more k (omega arith)).0

      pub last_item : 1 + j ≡ s.control.n → by_number g.taken ≡ first_words s.control.n (more_words s j)
      last_item all =
          let known = h.items g.taken (omega (arith, h.numbers.order, h.numbers.most s.control.bits.latest)) in
          let is = known.1 in
          is
          ∙ first_same s.control.n (more_words s j) known.0 long h.at.high (λ k l. rw is at (load_more k (omega arith)).1)
