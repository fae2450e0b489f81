-- The words of the four slots and of the reader's item, as lists: what a store and a load change, and what they leave.
-- Assumes nothing.
use Prim.Native.Nat.{ℕ, suc, ◌+◌, ◌≤◌, ◌<◌}
use native.Mathlib.Nat.{zero-add, min-le_left}
use native.Mathlib.Omega.{arith}
use native.Mathlib.Decide.{ℕ_discrete, dec_lt}
use mathlib.Core.Path.{◌≡◌, refl, sym, ◌∙◌}
use mathlib.Core.Logic.{◌≢◌}
use mathlib.Core.Bool.{Bool, true, false, not, ◌&&◌, beq}
use mathlib.Core.List.{List, [], ◌∷◌}
use lib.Dec.{T}
use lib.ListN.{length, get_or, set, take, drop, replicate, length-take, get_or-replicate, get_or-append}
use lib.Seq.{sets, sets-eq, length-sets, get_or-set_same, get_or-set_other, get_or-take, length-take-le, ext_get_or}
use Rattle.machine.specs.Machine.{first_words, slot_word}
use Rattle.machine.proofs.Slots.{slots_apart, slots_within}

-- Slots that a test tells apart are not the same.
pub met : (p q i e : Bool) → p ≡ q → i ≡ e → T (not (beq p q && beq i e)) → ⊥
met p q i e same_pair same_index = rw (same_pair, same_index) (at q e)
  where
    at : (q e : Bool) → T (not (beq q q && beq e e)) → ⊥
    at true true t = t
    at true false t = t
    at false true t = t
    at false false t = t

-- Word k of the slot (p, i).
abbrev pub word_of : List ℕ → Bool → Bool → ℕ → ℕ
word_of l p i k = get_or l (slot_word p i k) 0

-- A store into one slot leaves the words of another.
pub other_slot : (l : List ℕ) (p i q e : Bool) (k j v : ℕ) → k < 8 → j < 8 → T (not (beq p q && beq i e))
    → word_of (set l (slot_word q e j) v) p i k ≡ word_of l p i k
other_slot l p i q e k j v hk hj t =
    get_or-set_other l (slot_word q e j) (slot_word p i k) v 0
    (λ same. let s = slots_apart p q i e k j hk hj same in met p q i e s.0 s.1 t)

-- It changes the word that it names, and no other word of its slot.
pub this_word : (l : List ℕ) (p i : Bool) (j v : ℕ) → length l ≡ 32 → j < 8 → word_of (set l (slot_word p i j) v) p i j ≡ v
this_word l p i j v long hj =
    let w = slots_within p i j hj in
    get_or-set_same l (slot_word p i j) v 0 (omega (arith, w))

pub other_word : (l : List ℕ) (p i : Bool) (k j v : ℕ) → k < 8 → j < 8 → k ≢ j → word_of (set l (slot_word p i j) v) p i k ≡ word_of l p i k
other_word l p i k j v hk hj ne =
    get_or-set_other l (slot_word p i j) (slot_word p i k) v 0 (λ same. ne (slots_apart p p i i k j hk hj same).2)

-- A list with one word more of what its places below j have.
pub one_more : (l : List ℕ) (j v w : ℕ) (at : ℕ → ℕ) → get_or (set l (at j) v) (at j) 0 ≡ w
    → ((k : ℕ) → k < j → get_or (set l (at j) v) (at k) 0 ≡ get_or l (at k) 0) → ((k : ℕ) → k < j → get_or l (at k) 0 ≡ w)
    → (k : ℕ) → k < suc j → get_or (set l (at j) v) (at k) 0 ≡ w
one_more l j v w at new old below k h = pick (ℕ_discrete k j)
  where
    pick : Dec (k ≡ j) → get_or (set l (at j) v) (at k) 0 ≡ w
    pick (yes e) = rw e new
    pick (no ne) =
        let less : k < j = omega arith in
        old k less ∙ below k less

-- Stores from a place on leave what stands past them.
sets_past : (vs l : List ℕ) (i k : ℕ) → i + length vs ≤ k → get_or (sets l i vs) k 0 ≡ get_or l k 0
sets_past [] l i k h = refl
sets_past (v ∷ vs) l i k h = sets_past vs (set l i v) (suc i) k (omega arith) ∙ get_or-set_other l i k v 0 (omega arith)

-- And what was stored at the front stands there.
pub sets_at : (vs l : List ℕ) (k : ℕ) → length vs ≤ length l → k < length vs → get_or (sets l 0 vs) k 0 ≡ get_or vs k 0
sets_at vs l k room h =
    rw (sets-eq vs l 0 (omega (arith, zero-add (length vs)))) (get_or-append vs (drop (0 + length vs) l) 0 k h)

-- The first n words of an item are its own, and past them stands 0.
first_at : (n k : ℕ) (l : List ℕ) → length l ≡ 8 → n ≤ 8 → k < n → get_or (first_words n l) k 0 ≡ get_or l k 0
first_at n k l long small h =
    let front = length-take-le n l (omega arith) in
    sets_at (take n l) (replicate 8 0) k (omega arith) (omega arith) ∙ get_or-take n l k 0 h

first_past : (n k : ℕ) (x : List ℕ) → n ≤ k → k < 8 → get_or (first_words n x) k 0 ≡ 0
first_past n k x past h =
    sets_past (take n x) (replicate 8 0) 0 k (omega (arith, length-take n x, min-le_left n (length x))) ∙ get_or-replicate 8 k 0 0 h

-- Words that agree with an item in all n words have it for their first n.
pub first_same : (n : ℕ) (l x : List ℕ) → length l ≡ 8 → n ≤ 8
    → ((k : ℕ) → k < n → get_or l k 0 ≡ get_or (first_words n x) k 0) → first_words n x ≡ first_words n l
first_same n l x long small same =
    ext_get_or 0 (first_words n x) (first_words n l)
    (length-sets (replicate 8 0) 0 (take n x) ∙ sym (length-sets (replicate 8 0) 0 (take n l)))
    λ k h. at k (omega (arith, length-sets (replicate 8 0) 0 (take n x)))
  where
    at : (k : ℕ) → k < 8 → get_or (first_words n x) k 0 ≡ get_or (first_words n l) k 0
    at k h = pick (dec_lt k n)
      where
        pick : Dec (k < n) → get_or (first_words n x) k 0 ≡ get_or (first_words n l) k 0
        pick (yes less) = sym (first_at n k l long small less ∙ same k less)
        pick (no past) = first_past n k x (omega arith) h ∙ sym (first_past n k l (omega arith) h)
