-- Placings and true numbers of finished reads, read after read.
-- Assumes nothing.
use Prim.Native.Nat.{ℕ, zero, suc, ◌≤◌, ◌<◌}
use native.Mathlib.Nat.{not-suc-le-zero, le_of_suc-le-suc}
use mathlib.Core.Path.{◌≡◌, refl, ap}
use mathlib.Core.List.{List, [], ◌∷◌}
use lib.ListN.{length, get_or}
use Rattle.history.specs.Reads.{Read}
use Rattle.history.specs.Placing.{read_at, Candidate, Placing}

-- Numbers for some reads, none of them smaller than the one before.
unfoldable pub Placed : List (List ℕ) → ℕ → List Read → List ℕ → Type 0
Placed items before [] [] = Unit {0}
Placed items before [] (w ∷ ws) = ⊥
Placed items before (r ∷ rs) [] = ⊥
Placed items before (r ∷ rs) (w ∷ ws) = Candidate items r w × (before ≤ w) × Placed items w rs ws

-- Numbers that all n words of each read bear.
unfoldable pub Borne : ℕ → List Read → List ℕ → Type 0
Borne n [] [] = Unit {0}
Borne n [] (w ∷ ws) = ⊥
Borne n (r ∷ rs) [] = ⊥
Borne n (r ∷ rs) (w ∷ ws) = ((k : ℕ) → k < n → get_or r.item k 0 ≡ w) × Borne n rs ws

placed_length : (items : List (List ℕ)) (before : ℕ) (rs : List Read) (ws : List ℕ) → Placed items before rs ws → length ws ≡ length rs
unfolding Placed
placed_length items before [] [] h = refl
placed_length items before [] (w ∷ ws) h = absurd h
placed_length items before (r ∷ rs) [] h = absurd h
placed_length items before (r ∷ rs) (w ∷ ws) h = ap suc (placed_length items w rs ws h.2)

placed_at : (items : List (List ℕ)) (before : ℕ) (rs : List Read) (ws : List ℕ) → Placed items before rs ws → (j : ℕ) → j < length rs
    → Candidate items (read_at rs j) (get_or ws j 0)
unfolding Placed
placed_at items before [] ws h j l = absurd (not-suc-le-zero l)
placed_at items before (r ∷ rs) [] h j l = absurd h
placed_at items before (r ∷ rs) (w ∷ ws) h zero l = h.0
placed_at items before (r ∷ rs) (w ∷ ws) h (suc j) l = placed_at items w rs ws h.2 j (le_of_suc-le-suc l)

placed_first : (items : List (List ℕ)) (before : ℕ) (rs : List Read) (ws : List ℕ) → Placed items before rs ws → 0 < length rs
    → before ≤ get_or ws 0 0
unfolding Placed
placed_first items before [] ws h l = absurd (not-suc-le-zero l)
placed_first items before (r ∷ rs) [] h l = absurd h
placed_first items before (r ∷ rs) (w ∷ ws) h l = h.1

placed_order : (items : List (List ℕ)) (before : ℕ) (rs : List Read) (ws : List ℕ) → Placed items before rs ws → (j : ℕ)
    → suc j < length rs → get_or ws j 0 ≤ get_or ws (suc j) 0
unfolding Placed
placed_order items before [] ws h j l = absurd (not-suc-le-zero l)
placed_order items before (r ∷ rs) [] h j l = absurd h
placed_order items before (r ∷ rs) (w ∷ ws) h zero l = placed_first items w rs ws h.2 (le_of_suc-le-suc l)
placed_order items before (r ∷ rs) (w ∷ ws) h (suc j) l = placed_order items w rs ws h.2 j (le_of_suc-le-suc l)

-- They are a placing, and such numbers stand beside the words of each read.
pub placed_placing : (items : List (List ℕ)) (rs : List Read) (ws : List ℕ) → Placed items 0 rs ws → Placing items rs (length rs) ws
placed_placing items rs ws h =
    record {
      one_each = placed_length items 0 rs ws h;
      candidates = placed_at items 0 rs ws h;
      in_order = placed_order items 0 rs ws h;
    }

pub borne_length : (n : ℕ) (rs : List Read) (ws : List ℕ) → Borne n rs ws → length ws ≡ length rs
unfolding Borne
borne_length n [] [] h = refl
borne_length n [] (w ∷ ws) h = absurd h
borne_length n (r ∷ rs) [] h = absurd h
borne_length n (r ∷ rs) (w ∷ ws) h = ap suc (borne_length n rs ws h.1)

pub borne_at : (n : ℕ) (rs : List Read) (ws : List ℕ) → Borne n rs ws → (j k : ℕ) → j < length ws → k < n
    → get_or (read_at rs j).item k 0 ≡ get_or ws j 0
unfolding Borne
borne_at n [] [] h j k l b = absurd (not-suc-le-zero l)
borne_at n [] (w ∷ ws) h j k l b = absurd h
borne_at n (r ∷ rs) [] h j k l b = absurd h
borne_at n (r ∷ rs) (w ∷ ws) h zero k l b = h.0 k b
borne_at n (r ∷ rs) (w ∷ ws) h (suc j) k l b = borne_at n rs ws h.1 j k (le_of_suc-le-suc l) b
