-- The theorem: every run of the four slots from fresh has true numbers, and these are a placing of its events.
-- Assumes nothing.
use Prim.Native.Nat.{ℕ, ◌≤◌, ◌<◌}
use native.Mathlib.Nat.{le_refl}
use native.Mathlib.Omega.{arith}
use mathlib.Core.Path.{◌≡◌, refl, sym, ◌∙◌}
use mathlib.Core.Bool.{Bool}
use mathlib.Core.List.{List, [], ◌∷◌}
use lib.ListN.{length, get_or, take, replicate, get_or-replicate}
use lib.Seq.{length-sets, ext_get_or}
use Rattle.words.proofs.Bounds.{between_true}
use Rattle.machine.specs.Machine.{first_words, slot_word, in_all_four, idle_state}
use Rattle.machine.proofs.Slots.{slots_within, four_hold}
use Rattle.machine.proofs.Words.{four_length, fresh_width}
use Rattle.history.specs.declared.Event.{Event}
use Rattle.history.specs.Reads.{written, reads_of}
use Rattle.history.proofs.Counts.{high_written}
use Rattle.fourslot.specs.Tags.{untouched, TrueNumbers}
use Rattle.fourslot.specs.Theorem.{writes_of, EveryRunPlaced, EveryReadWhole, EarliestAtMostTrue}
use Rattle.fourslot.proofs.Control.{w_idle, r_idle, at_start}
use Rattle.fourslot.proofs.Numbers.{Ghost}
use Rattle.fourslot.proofs.Words.{word_of}
use Rattle.fourslot.proofs.Invariant.{Inv}
use Rattle.fourslot.proofs.Placed.{placed_placing, borne_length, borne_at}
use Rattle.fourslot.proofs.Runs.{run_claim}

-- Nothing was called, returned or taken.
abbrev zeros : Ghost
zeros = record { returned = 0; low = 0; taken = 0; shows = λ p. 0 }

-- The invariant holds at the start.
module _ (n : ℕ) (low : 1 ≤ n) (high : n ≤ 8) (initial : List ℕ) (more : List (List ℕ)) where
  abbrev by_number : ℕ → List ℕ
  by_number w = get_or (first_words n initial ∷ more) w []

  long : length (first_words n initial) ≡ 8
  long = length-sets (replicate 8 0) 0 (take n initial)

  no_tag : (p i : Bool) (k : ℕ) → k < 8 → word_of (replicate 32 0) p i k ≡ 0
  no_tag p i k h = get_or-replicate 32 (slot_word p i k) 0 0 (slots_within p i k h)

  start_inv : Inv by_number w_idle r_idle (idle_state n (in_all_four (first_words n initial))) untouched zeros
  start_inv =
      record {
        at = record { low = low; high = high; writer = refl; reader = refl; test = at_start };
        numbers =
            record {
              one_open = λ f. absurd f;
              shown = le_refl _;
              most = λ p. le_refl _;
              set = λ f. absurd f;
              order = le_refl _;
              not_older = λ f. absurd f;
              not_below = λ f. absurd f;
              not_newer = λ f. absurd f;
              held = λ f. absurd f;
            };
        slots =
            record {
              long = four_length (first_words n initial) long;
              tagged = refl;
              bears = λ p k l. no_tag p _ k (omega arith);
              words = λ p i k l. rw (no_tag p i k (omega arith)) (four_hold (first_words n initial) p i k long (omega arith));
            };
        stored = record { item = λ f. absurd f; bears = λ f. absurd f };
        loaded = record { long = refl; tagged = refl; bears = λ f. absurd f; so_far = λ f. absurd f };
        items = λ w l. zero_only w l;
      }
    where
      zero_only : (w : ℕ) → w ≤ 0 → (x : List ℕ) × (by_number w ≡ first_words n x)
      zero_only w l =
          let is : w ≡ 0 = omega arith in
          (initial, rw is)

pub every_run_placed : EveryRunPlaced
every_run_placed n initial items codes es w ran =
    let h = between_true 1 8 n w in
    let from = fresh_width n initial h.0 h.1 in
    let all = writes_of n initial es in
    let r =
    run_claim all (idle_state n (in_all_four (first_words n initial))) 0 items codes es (rw from at ran) w_idle r_idle untouched zeros 0 0 0
    (start_inv n h.0 h.1 initial (written es))
    refl
    (le_refl _) in
    record {
      tagged = r.tags;
      beside = rw from r.tagged;
      same_kinds = r.kinds;
      numbers = r.numbers;
      true_numbers =
          record {
            one_each = borne_length n (reads_of r.tags) r.numbers r.borne;
            common = borne_at n (reads_of r.tags) r.numbers r.borne;
          };
      placing = placed_placing all (reads_of es) r.numbers r.placed;
    }

pub every_read_whole : EveryReadWhole
every_read_whole n initial items codes es w ran j l =
    let t = every_run_placed n initial items codes es w ran in
    let fits = t.placing.candidates j l in
    (get_or t.numbers j 0, omega (arith, fits.at_most_high, high_written es j), fits.same_item)

-- A run has one list of true numbers.
pub true_unique : {n : ℕ} {tags more : List Event} {ps qs : List ℕ} → 1 ≤ n → tags ≡ more → TrueNumbers n tags ps → TrueNumbers n more qs
    → ps ≡ qs
true_unique {ps = ps} {qs = qs} h e p q =
    let same : length ps ≡ length qs = p.one_each ∙ rw e (sym q.one_each) in
    ext_get_or 0 ps qs same (λ j l. sym (p.common j 0 l h) ∙ rw e (q.common j 0 (omega arith) h))

pub earliest_at_most_true : EarliestAtMostTrue
earliest_at_most_true n initial items codes es tagged numbers entries w ran with borne earliest j l =
    let t = every_run_placed n initial items codes es w ran in
    let first = t.beside in
    let same : t.tagged ≡ tagged = cc in
    let is : t.numbers ≡ numbers = true_unique (between_true 1 8 n w).0 same t.true_numbers borne in
    rw (← is) (earliest.smallest t.numbers t.placing j l)
