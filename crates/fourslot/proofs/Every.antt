-- A claim on bits is shown at all of them by one test that is computed.
-- Assumes nothing.
use mathlib.Core.Bool.{Bool, true, false, ◌&&◌}
use lib.Dec.{T}

pub and_left : (a b : Bool) → T (a && b) → T a
and_left true b t = tt
and_left false b t = t

pub and_right : (a b : Bool) → T (a && b) → T b
and_right true b t = t
and_right false b t = absurd t

abbrev pub imp : Bool → Bool → Bool
imp true b = b
imp false b = true

pub imp_use : (a b : Bool) → T (imp a b) → T a → T b
imp_use true b h t = h
imp_use false b h t = absurd t

abbrev all1 : (Bool → Bool) → Bool
all1 f = f false && f true

at1 : (f : Bool → Bool) → T (all1 f) → (a : Bool) → T (f a)
at1 f t false = and_left (f false) (f true) t
at1 f t true = and_right (f false) (f true) t

abbrev all2 : (Bool → Bool → Bool) → Bool
all2 f = all1 (λ a. all1 (f a))

at2 : (f : Bool → Bool → Bool) → T (all2 f) → (a b : Bool) → T (f a b)
at2 f t a b = at1 (f a) (at1 (λ a. all1 (f a)) t a) b

abbrev all4 : (Bool → Bool → Bool → Bool → Bool) → Bool
all4 f = all2 (λ a b. all2 (f a b))

at4 : (f : Bool → Bool → Bool → Bool → Bool) → T (all4 f) → (a b c d : Bool) → T (f a b c d)
at4 f t a b c d = at2 (f a b) (at2 (λ a b. all2 (f a b)) t a b) c d

-- A test of eight bits, at all 256 of them.
abbrev pub Test : Type 0
Test = Bool → Bool → Bool → Bool → Bool → Bool → Bool → Bool → Bool

abbrev pub all8 : Test → Bool
all8 f = all4 (λ a b c d. all4 (f a b c d))

pub at8 : (f : Test) → T (all8 f) → (a b c d e g h i : Bool) → T (f a b c d e g h i)
at8 f t a b c d = at4 (f a b c d) (at4 (λ a b c d. all4 (f a b c d)) t a b c d)
