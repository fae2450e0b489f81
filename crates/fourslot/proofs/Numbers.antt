-- The number invariant: which write's number each pair shows, and which the last read took.
-- Assumes nothing.
use Prim.Native.Nat.{ℕ, suc, ◌≤◌, ◌<◌}
use native.Mathlib.Nat.{le_refl}
use native.Mathlib.Omega.{arith}
use mathlib.Core.Path.{◌≡◌, refl}
use mathlib.Core.Bool.{Bool, true, false, cond, beq}
use lib.Dec.{T}
use Rattle.fourslot.proofs.Every.{imp}

-- How many writes have returned, and how many had when the last read was called; the number that the last read to get its index took; and
-- for each pair the number of the write that last set slot[pair].
pub record Ghost : Type 0 where
  pub returned : ℕ
  pub low : ℕ
  pub taken : ℕ
  pub shows : Bool → ℕ

-- The numbers, `called` writes having been called. writing: a write is open; committed: and has set slot[pair]; opening: a read has its
-- pair and not its index; loading: it has its index.
pub record Numbers (writing committed opening loading latest wp rp : Bool) (called : ℕ) (g : Ghost) : Type 0 where
  pub one_open : T writing → g.returned < called
  pub shown : g.returned ≤ g.shows latest
  pub most : (p : Bool) → g.shows p ≤ called
  pub set : T committed → g.shows wp ≡ called
  pub order : g.taken ≤ g.shows latest
  pub not_older : T opening → g.taken ≤ g.shows rp
  pub not_below : T opening → g.low ≤ g.shows rp
  pub not_newer : T opening → g.shows rp ≤ g.shows latest
  pub held : T loading → g.low ≤ g.taken

-- A number for one pair, the other's being as it was.
abbrev pub put : (Bool → ℕ) → Bool → ℕ → Bool → ℕ
put f p v q = cond (beq q p) v (f q)

put_up : (f : Bool → ℕ) (p q : Bool) (v : ℕ) → f q ≤ v → f q ≤ put f p v q
put_up f true true v h = h
put_up f true false v h = le_refl _
put_up f false true v h = le_refl _
put_up f false false v h = h

put_most : (f : Bool → ℕ) (p q : Bool) (v : ℕ) → f q ≤ v → put f p v q ≤ v
put_most f true true v h = le_refl _
put_most f true false v h = h
put_most f false true v h = h
put_most f false false v h = le_refl _

put_same : (f : Bool → ℕ) (p : Bool) (v : ℕ) → put f p v p ≡ v
put_same f true v = refl
put_same f false v = refl

put_order : (f : Bool → ℕ) (p q l : Bool) (v : ℕ) → T (imp (beq q p) (beq q l)) → f l ≤ v → f q ≤ f l → put f p v q ≤ put f p v l
put_order f p true true v t m h = le_refl _
put_order f p false false v t m h = le_refl _
put_order f true true false v t m h = absurd t
put_order f false true false v t m h = omega arith
put_order f true false true v t m h = omega arith
put_order f false false true v t m h = absurd t

-- A write is called.
pub call_write : {o k l wp wp' rp : Bool} {called : ℕ} (g : Ghost) → Numbers false false o k l wp rp called g
    → Numbers true false o k l wp' rp (suc called) g
call_write {l = l} g h =
    record {
      one_open = λ _. omega (arith, h.shown, h.most l);
      shown = h.shown;
      most = λ p. omega (arith, h.most p);
      set = λ t. absurd t;
      order = h.order;
      not_older = h.not_older;
      not_below = h.not_below;
      not_newer = h.not_newer;
      held = h.held;
    }

-- It sets slot[pair].
abbrev pub after_set : Bool → ℕ → Ghost → Ghost
after_set wp called g = record { returned = g.returned; low = g.low; taken = g.taken; shows = put g.shows wp called }

pub numbers_after_set : (o k l wp rp : Bool) (called : ℕ) (g : Ghost) → (T o → T (imp (beq rp wp) (beq rp l)))
    → Numbers true false o k l wp rp called g → Numbers true true o k l wp rp called (after_set wp called g)
numbers_after_set o k l wp rp called g safe h =
    record {
      one_open = h.one_open;
      shown = omega (arith, h.shown, up l);
      most = λ p. put_most g.shows wp p called (h.most p);
      set = λ _. put_same g.shows wp called;
      order = omega (arith, h.order, up l);
      not_older = λ t. omega (arith, up rp, h.not_older t);
      not_below = λ t. omega (arith, up rp, h.not_below t);
      not_newer = λ t. put_order g.shows wp rp l called (safe t) (h.most l) (h.not_newer t);
      held = h.held;
    }
  where
    up : (p : Bool) → g.shows p ≤ put g.shows wp called p
    up p = put_up g.shows wp p called (h.most p)

-- It returns, and its pair is the latest.
abbrev pub after_return : Ghost → Ghost
after_return g = record { returned = suc g.returned; low = g.low; taken = g.taken; shows = g.shows }

pub return_write : (o k l wp rp : Bool) (called : ℕ) (g : Ghost) → Numbers true true o k l wp rp called g
    → Numbers false false o k wp wp rp called (after_return g)
return_write o k l wp rp called g h =
    record {
      one_open = λ t. absurd t;
      shown = omega (arith, h.one_open tt, h.set tt);
      most = h.most;
      set = λ t. absurd t;
      order = omega (arith, h.set tt, h.order, h.most l);
      not_older = h.not_older;
      not_below = h.not_below;
      not_newer = λ t. omega (arith, h.set tt, h.most rp);
      held = h.held;
    }

-- A read is called, and has the latest pair.
abbrev pub after_call : Ghost → Ghost
after_call g = record { returned = g.returned; low = g.returned; taken = g.taken; shows = g.shows }

pub call_read : {w c l wp rp : Bool} {called : ℕ} (g : Ghost) → Numbers w c false false l wp rp called g
    → Numbers w c true false l wp l called (after_call g)
call_read g h =
    record {
      one_open = h.one_open;
      shown = h.shown;
      most = h.most;
      set = h.set;
      order = h.order;
      not_older = λ _. h.order;
      not_below = λ _. h.shown;
      not_newer = λ _. le_refl _;
      held = λ t. absurd t;
    }

-- It gets its index, and so takes what its pair shows.
abbrev pub after_take : Bool → Ghost → Ghost
after_take rp g = record { returned = g.returned; low = g.low; taken = g.shows rp; shows = g.shows }

pub take_number : {w c l wp rp : Bool} {called : ℕ} (g : Ghost) → Numbers w c true false l wp rp called g
    → Numbers w c false true l wp rp called (after_take rp g)
take_number g h =
    record {
      one_open = h.one_open;
      shown = h.shown;
      most = h.most;
      set = h.set;
      order = h.not_newer tt;
      not_older = λ t. absurd t;
      not_below = λ t. absurd t;
      not_newer = λ t. absurd t;
      held = λ _. h.not_below tt;
    }

-- It returns.
pub return_read : {w c l wp rp : Bool} {called : ℕ} (g : Ghost) → Numbers w c false true l wp rp called g
    → Numbers w c false false l wp rp called g
return_read g h =
    record {
      one_open = h.one_open;
      shown = h.shown;
      most = h.most;
      set = h.set;
      order = h.order;
      not_older = h.not_older;
      not_below = h.not_below;
      not_newer = h.not_newer;
      held = λ t. absurd t;
    }
