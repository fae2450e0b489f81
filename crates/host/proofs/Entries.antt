-- Entries of four bytes: storing them one by one, and that the promise determines what is answered and left.
-- Assumes nothing.
use mathlib.Core.Path.{◌≡◌, refl, sym, ap, ◌∙◌}
use mathlib.Core.List.{List, [], ◌++◌, append_assoc}
use Prim.Native.Nat.{ℕ, suc, ◌+◌, ◌*◌, ◌/◌, ◌≤◌, ◌<◌, min}
use native.Mathlib.Nat.{zero-add}
use native.Mathlib.Numerals.{add-one}
use native.Mathlib.Omega.{arith}
use native.Mathlib.Decide.{dec_lt}
use lib.ListN.{length, get_or, take, drop}
use lib.Seq.{sets, drop-cons, take_at, sets-eq}
use borrow.Rule.Slice.PartMut.{put_mid}
use Rattle.refusals.specs.declared.Fault.{Fault}
use Rattle.refusals.specs.Table.{Answer, refusal_at, answer_word}
use Rattle.std.specs.Prelude.{Ok}
use Rattle.refusals.proofs.Lists.{sets_append, put_mid_sets}
use Rattle.words.specs.Words.{Below}
use Rattle.numbers.specs.Reading.{bytes_of_all}
use Rattle.placing.specs.Judgement.{JudgementOf, Judges}
use Rattle.history.proofs.Verdicts.{judgement_unique, judgement_length, judgement_accepted, judgement_refused}
use Rattle.placing.proofs.Whole.{judgement_room}
use Rattle.host.specs.Entries.{four, JudgesBytes}

-- Two outcomes on the same bytes and the same output agree in the word and in what is left.
pub judges_bytes_unique : {s out : List ℕ} {v w : ℕ} {after later : List ℕ} → JudgesBytes s out v after → JudgesBytes s out w later
    → (v ≡ w) × (after ≡ later)
judges_bytes_unique {out = out} j k =
    let u = judgement_unique j.judgement k.judgement in (
      j.told ∙ ap answer_word u.0 ∙ sym k.told,
      j.left ∙ ap (λ (ps : List ℕ). sets out 0 (bytes_of_all four ps)) u.1 ∙ sym k.left,
    )

-- The entries from the i-th on are stored by storing the i-th and then the others.
pub entry_stored : {part : List ℕ} (out entries : List ℕ) (i k : ℕ) → i < length entries → 4 * i + 4 ≤ length out
    → part ≡ four (get_or entries i 0) → k ≡ 4
    → sets (put_mid (4 * i) k out part) (4 * (i + 1)) (bytes_of_all four (drop (i + 1) entries))
    ≡ sets out (4 * i) (bytes_of_all four (drop i entries))
unfolding bytes_of_all
entry_stored out entries i k less room is one =
    let entry = get_or entries i 0 in
    let rest = bytes_of_all four (drop (suc i) entries) in
    let next : bytes_of_all four (drop i entries) ≡ four entry ++ rest = ap (bytes_of_all four) (drop-cons entries i 0 less) in
    let at : 4 * (i + 1) ≡ 4 * i + 4 = omega arith in
    rw (next, at, add-one i, put_mid_sets {bytes = four entry} out (4 * i) k is one room) (sym (sets_append (four entry) rest out (4 * i)))

-- The judge's outcome on entries of the host's own: as many as the lent output holds whole, or 2,048, which are always enough.
module _ (s lent : List ℕ) (bytes : Below 256 s) {out after : List ℕ} {answer : Answer} (room : length out ≡ min 2048 (length lent / 4))
    (judges : Judges s out answer after) where
  abbrev entries : List ℕ
  entries = judges.entries

  judgement_here : JudgementOf s (length lent / 4) answer entries
  judgement_here = elim (dec_lt 2048 (length lent / 4)) [
    | yes more ↦ judgement_room s bytes (omega (arith, room)) (omega arith) judges.judgement
    | no few ↦
        let same : length out ≡ length lent / 4 = omega (arith, room) in
        rw same at judges.judgement
  ]

  -- What it leaves in the lent bytes: nothing where it refuses.
  pub bytes_refused : {fault : Fault} {place word : ℕ} → answer ≡ refusal_at fault place → word ≡ answer_word answer
      → JudgesBytes s lent word lent
  unfolding bytes_of_all
  bytes_refused is told = record {
    answer = answer;
    entries = [];
    judgement = rw (judgement_refused is judges.judgement) at judgement_here;
    told = told;
    left = refl;
  }

  module _ {count : ℕ} (is : answer ≡ Ok count) where
    as_many : length entries ≡ count
    as_many = judgement_accepted is judges.judgement

    -- The entries stand at the front, whatever follows them.
    front : (rest : List ℕ) → take count (after ++ rest) ≡ entries
    front rest =
        let laid = rw zero-add at (sets-eq entries out 0 (rw zero-add (judgement_length judges.judgement))) in
        ap (λ (l : List ℕ). take count (l ++ rest)) (judges.left ∙ laid)
        ∙ ap (take count) (append_assoc entries (drop (length entries) out) rest)
        ∙ take_at entries (drop (length entries) out ++ rest) count as_many

    pub bytes_placed : (rest : List ℕ) {word : ℕ} {left : List ℕ} → word ≡ answer_word answer
        → left ≡ sets lent 0 (bytes_of_all four (take count (after ++ rest))) → JudgesBytes s lent word left
    bytes_placed rest told stored = record {
      answer = answer;
      entries = entries;
      judgement = judgement_here;
      told = told;
      left = stored ∙ ap (λ (ps : List ℕ). sets lent 0 (bytes_of_all four ps)) (front rest);
    }
