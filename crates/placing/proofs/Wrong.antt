-- Judges that break the promise, each on the bytes of a log; and before them what the promise allows there, by computation.
-- Assumes nothing.
use Prim.Native.Nat.{ℕ}
use native.Mathlib.Omega.{arith}
use mathlib.Core.Path.{◌≡◌, refl, ap}
use mathlib.Core.List.{List, [], ◌∷◌}
use lib.ListN.{get_or}
use Rattle.refusals.specs.declared.Fault.TheVariants.{Room, NoPlace}
use Rattle.refusals.specs.Table.{Answer, refusal_at}
use Rattle.std.specs.Prelude.{Ok}
use Rattle.refusals.proofs.Apart.{apart, same_fault}
use Rattle.history.proofs.Verdicts.{accepted_not_none}
use Rattle.placing.specs.Judgement.{Judges}
use Rattle.placing.proofs.Judgements.{judges_unique}
use Rattle.placing.proofs.Told.{told_of, judges_told}

-- The logs of the marked examples P7 to P10.
abbrev pub p7 : List ℕ
p7 = 1 ∷ 0 ∷ 4 ∷ 0 ∷ 7 ∷ 1 ∷ 2 ∷ 3 ∷ 0 ∷ []

abbrev pub p8 : List ℕ
p8 = 1 ∷ 0 ∷ 6 ∷ 0 ∷ 7 ∷ 1 ∷ 0 ∷ 7 ∷ 1 ∷ 2 ∷ 3 ∷ 7 ∷ []

abbrev pub p9 : List ℕ
p9 = 1 ∷ 0 ∷ 5 ∷ 0 ∷ 7 ∷ 2 ∷ 3 ∷ 7 ∷ 2 ∷ 3 ∷ 0 ∷ []

abbrev pub p10 : List ℕ
p10 = 1 ∷ 7 ∷ 7 ∷ 2 ∷ 0 ∷ 8 ∷ 1 ∷ 0 ∷ 7 ∷ 3 ∷ 7 ∷ 2 ∷ 3 ∷ 8 ∷ []

-- CR, RR 7, CW 7, RW: the write was called after the read returned.
abbrev pub high_unseen : List ℕ
high_unseen = 1 ∷ 0 ∷ 4 ∷ 2 ∷ 3 ∷ 7 ∷ 0 ∷ 7 ∷ 1 ∷ []

-- n is 2, initial 0 0: CW 7 8, RW, CR, RR 7 9: the items differ in the second word.
abbrev pub two_words : List ℕ
two_words = 2 ∷ 0 ∷ 0 ∷ 4 ∷ 0 ∷ 7 ∷ 8 ∷ 1 ∷ 2 ∷ 3 ∷ 7 ∷ 9 ∷ []

-- CR, CW 7, RW, CW 7, RW, CW 7, RR 7: three writes fit.
abbrev pub three_fit : List ℕ
three_fit = 1 ∷ 0 ∷ 7 ∷ 2 ∷ 0 ∷ 7 ∷ 1 ∷ 0 ∷ 7 ∷ 1 ∷ 0 ∷ 7 ∷ 3 ∷ 7 ∷ []

p8_holds : Judges p8 (9 ∷ 9 ∷ []) (Ok 1) (2 ∷ 9 ∷ [])
unfolding told_of
p8_holds = judges_told refl refl

p9_holds : Judges p9 (9 ∷ 9 ∷ 9 ∷ []) (refusal_at NoPlace 2) (9 ∷ 9 ∷ 9 ∷ [])
unfolding told_of
p9_holds = judges_told refl refl

p10_holds : Judges p10 (9 ∷ 9 ∷ 9 ∷ []) (Ok 2) (0 ∷ 1 ∷ 9 ∷ [])
unfolding told_of
p10_holds = judges_told refl refl

-- P9's log with one entry: ROOM, 2 needed.
pub entry_short : Judges p9 (9 ∷ []) (refusal_at Room 2) (9 ∷ [])
unfolding told_of
entry_short = judges_told refl refl

-- P7's log with no entries: ROOM, not NO PLACE.
pub no_entries : Judges p7 [] (refusal_at Room 1) []
unfolding told_of
no_entries = judges_told refl refl

pub high_unseen_judged : Judges high_unseen (9 ∷ 9 ∷ []) (refusal_at NoPlace 1) (9 ∷ 9 ∷ [])
unfolding told_of
high_unseen_judged = judges_told refl refl

pub two_words_judged : Judges two_words (9 ∷ 9 ∷ []) (refusal_at NoPlace 1) (9 ∷ 9 ∷ [])
unfolding told_of
two_words_judged = judges_told refl refl

pub three_fit_judged : Judges three_fit (9 ∷ 9 ∷ []) (Ok 1) (1 ∷ 9 ∷ [])
unfolding told_of
three_fit_judged = judges_told refl refl

-- Two outcomes on the same output have the same first entry.
first_entry : {s out : List ℕ} {a b : Answer} {x y : ℕ} {rest more : List ℕ} → Judges s out a (x ∷ rest) → Judges s out b (y ∷ more) → x ≡ y
first_entry j k = ap (λ (l : List ℕ). get_or l 0 0) (judges_unique j k).1

-- A judge that says NO PLACE to all, whatever read it names and whatever it is lent.
pub no_place_to_all_refused : {out after : List ℕ} {place : ℕ} → Judges p8 out (refusal_at NoPlace place) after → ⊥
no_place_to_all_refused j = accepted_not_none p8_holds.judgement j.judgement

-- A judge that places every read at 0.
pub all_at_zero_refused : {answer : Answer} {rest : List ℕ} → Judges p8 (9 ∷ 9 ∷ []) answer (0 ∷ rest) → ⊥
all_at_zero_refused j =
    let z : ◌≡◌ {A = ℕ} 0 2 = first_entry j p8_holds in
    omega arith

-- A judge that chooses the newest fit: for the first read of P10 that is 2, and then the second has no place.
pub newest_fit_refused : {out after : List ℕ} {place : ℕ} → Judges p10 out (refusal_at NoPlace place) after → ⊥
newest_fit_refused j = accepted_not_none p10_holds.judgement j.judgement

-- Nor is the newest fit given where it would do: 3.
pub newest_entry_refused : {answer : Answer} {rest : List ℕ} → Judges three_fit (9 ∷ 9 ∷ []) answer (3 ∷ rest) → ⊥
newest_entry_refused j =
    let z : ◌≡◌ {A = ℕ} 3 1 = first_entry j three_fit_judged in
    omega arith

-- A judge that takes equal words for the same write.
pub equal_words_refused : {answer : Answer} {rest : List ℕ} → Judges p8 (9 ∷ 9 ∷ []) answer (1 ∷ rest) → ⊥
equal_words_refused j =
    let z : ◌≡◌ {A = ℕ} 1 2 = first_entry j p8_holds in
    omega arith

-- A judge that gives a read a write called after it returned.
pub high_unseen_refused : {out after : List ℕ} {place : ℕ} → Judges high_unseen out (Ok place) after → ⊥
high_unseen_refused j = accepted_not_none j.judgement high_unseen_judged.judgement

-- A judge that forgets the order of the reads.
pub order_lost_refused : {out after : List ℕ} {place : ℕ} → Judges p9 out (Ok place) after → ⊥
order_lost_refused j = accepted_not_none j.judgement p9_holds.judgement

-- A judge that says NO PLACE before ROOM.
pub no_place_before_room_refused : {after : List ℕ} {place : ℕ} → Judges p7 [] (refusal_at NoPlace place) after → ⊥
no_place_before_room_refused j =
    let same = same_fault (judges_unique j no_entries).0 in
    apart cc

-- A judge that writes each entry as it places a read, and so has written one when a later read has no place.
pub entries_touched_refused : {answer : Answer} {rest : List ℕ} → Judges p9 (9 ∷ 9 ∷ 9 ∷ []) answer (1 ∷ rest) → ⊥
entries_touched_refused j =
    let z : ◌≡◌ {A = ℕ} 1 9 = first_entry j p9_holds in
    omega arith

-- A judge that compares fewer than n words.
pub fewer_words_refused : {out after : List ℕ} {place : ℕ} → Judges two_words out (Ok place) after → ⊥
fewer_words_refused j = accepted_not_none j.judgement two_words_judged.judgement
