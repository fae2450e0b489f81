-- Laws of runs, whatever the machine is.
-- Assumes nothing.
use Prim.Native.Nat.{ℕ, suc, ◌+◌, ◌-◌, ◌≤◌, ◌<◌}
use native.Mathlib.Omega.{arith}
use mathlib.Core.Path.{◌≡◌, refl, sym, ap, ◌∙◌}
use mathlib.Core.Bool.{Bool, true, false}
use mathlib.Core.List.{List, [], ◌∷◌, ◌++◌, append_assoc}
use lib.ListN.{length, take}
use Rattle.refusals.specs.declared.Fault.{Fault}
use Rattle.refusals.specs.declared.Fault.TheVariants.{Items}
use Rattle.refusals.proofs.Apart.{apart}
use Rattle.words.specs.Words.{eight}
use Rattle.history.specs.declared.Event.{Event}
use Rattle.runs.specs.Run.{Bench, Outcome, Stopped, Ran, before, dealt, run, last_state}

-- How a move was dealt with: it took the next item, or none.
pub data Deal {S : Type 0} (b : Bench S) (s : S) (code : ℕ) (items : List (List ℕ)) (x : List ℕ) (left : List (List ℕ)) : Type 0 where
  Took : b.takes s code ≡ true → items ≡ x ∷ left → Deal b s code items x left
  Skipped : b.takes s code ≡ false → x ≡ eight [] → items ≡ left → Deal b s code items x left

ran_before : (es : List Event) (o : Outcome) {fs : List Event} → before es o ≡ Ran fs
    → (gs : List Event) × (o ≡ Ran gs) × (es ++ gs ≡ fs)
ran_before es (Stopped f k) e = apart cc
ran_before es (Ran gs) {fs} e =
    let same : es ++ gs ≡ fs = cc in
    (gs, refl, same)

-- What holds of no moves, and of a move and those after it where it holds of these, holds of every run that ends with its events.
pub run_all : {S : Type 0} (b : Bench S) (I : S → List (List ℕ) → Type 0) (P : S → List (List ℕ) → List ℕ → List Event → Type 0)
    → ((s : S) (items : List (List ℕ)) → I s items → P s items [] [])
    → ((s : S) (items : List (List ℕ)) (code : ℕ) (x : List ℕ) (left : List (List ℕ)) → I s items → Deal b s code items x left
    → I (b.move s code x).state left
    × ((codes : List ℕ) (es : List Event) → P (b.move s code x).state left codes es → P s items (code ∷ codes)
    ((b.move s code x).events ++ es)))
    → (s : S) (k : ℕ) (items : List (List ℕ)) (codes : List ℕ) (es : List Event) → I s items → run b s k items codes ≡ Ran es
    → P s items codes es
unfolding run
run_all b I P none more s k items [] es i e =
    let same : es ≡ [] = cc in
    rw same (none s items i)
run_all {S} b I P none more s k items (code ∷ codes) es i e =
    go (b.takes s code) items refl refl e (λ t left fs j f. run_all b I P none more t (suc k) left codes fs j f)
  where
    onward : (x : List ℕ) (left : List (List ℕ)) → Deal b s code items x left
        → before (b.move s code x).events (run b (b.move s code x).state (suc k) left codes) ≡ Ran es
        → ((t : S) (rest : List (List ℕ)) (fs : List Event) → I t rest → run b t (suc k) rest codes ≡ Ran fs → P t rest codes fs)
        → P s items (code ∷ codes) es
    onward x left d f ih =
        let here = more s items code x left i d in
        let found = ran_before (b.move s code x).events (run b (b.move s code x).state (suc k) left codes) f in
        rw (← found.2) (here.1 codes found.0 (ih (b.move s code x).state left found.0 here.0 found.1))

    go : (t : Bool) (list : List (List ℕ)) → b.takes s code ≡ t → items ≡ list
        → dealt (Stopped Items k) t list (λ x left.
        before (b.move s code x).events (run b (b.move s code x).state (suc k) left codes)) ≡ Ran es
        → ((t : S) (rest : List (List ℕ)) (fs : List Event) → I t rest → run b t (suc k) rest codes ≡ Ran fs → P t rest codes fs)
        → P s items (code ∷ codes) es
    go true [] h l f ih = apart cc
    go true (x ∷ left) h l f ih = onward x left (Took h l) f ih
    go false list h l f ih = onward (eight []) list (Skipped h refl l) f ih

-- Items left over leave no trace: a run that ends with its events ends with the same ones where more items follow.
pub run_leftover : {S : Type 0} (b : Bench S) (s : S) (k : ℕ) (items more : List (List ℕ)) (codes : List ℕ) (es : List Event)
    → run b s k items codes ≡ Ran es → run b s k (items ++ more) codes ≡ Ran es
unfolding run
run_leftover b s k items more [] es e = e
run_leftover {S} b s k items more (code ∷ codes) es e =
    go (b.takes s code) items e (λ t left fs f. run_leftover b t (suc k) left more codes fs f)
  where
    onward : (x : List ℕ) (left : List (List ℕ))
        → before (b.move s code x).events (run b (b.move s code x).state (suc k) left codes) ≡ Ran es
        → ((t : S) (rest : List (List ℕ)) (fs : List Event) → run b t (suc k) rest codes ≡ Ran fs → run b t (suc k) (rest ++ more) codes
        ≡ Ran fs)
        → before (b.move s code x).events (run b (b.move s code x).state (suc k) (left ++ more) codes) ≡ Ran es
    onward x left f ih =
        let found = ran_before (b.move s code x).events (run b (b.move s code x).state (suc k) left codes) f in
        rw (ih (b.move s code x).state left found.0 found.1, found.2)

    go : (t : Bool) (list : List (List ℕ))
        → dealt (Stopped Items k) t list (λ x left.
        before (b.move s code x).events (run b (b.move s code x).state (suc k) left codes)) ≡ Ran es
        → ((t : S) (rest : List (List ℕ)) (fs : List Event) → run b t (suc k) rest codes ≡ Ran fs → run b t (suc k) (rest ++ more) codes
        ≡ Ran fs)
        → dealt (Stopped Items k) t (list ++ more) (λ x left.
        before (b.move s code x).events (run b (b.move s code x).state (suc k) left codes)) ≡ Ran es
    go true [] f ih = apart cc
    go true (x ∷ left) f ih = onward x left f ih
    go false list f ih = onward (eight []) list f ih

-- A move that was dealt with, and those after it.
module _ {S : Type 0} (b : Bench S) (s : S) (items : List (List ℕ)) (code : ℕ) (codes x : List ℕ) (left : List (List ℕ)) where
  pub run_on : (k : ℕ) → Deal b s code items x left
      → run b s k items (code ∷ codes) ≡ before (b.move s code x).events (run b (b.move s code x).state (suc k) left codes)
  unfolding run
  run_on k (Took t l) = rw (t, l)
  run_on k (Skipped t z l) = rw (t, l, z)

  last_on : Deal b s code items x left → last_state b s items (code ∷ codes) ≡ last_state b (b.move s code x).state left codes
  unfolding last_state
  last_on (Took t l) = rw (t, l)
  last_on (Skipped t z l) = rw (t, l, z)

-- What each move keeps holds in the last state.
pub last_all : {S : Type 0} (b : Bench S) (I : S → Type 0) → ((s : S) (code : ℕ) (x : List ℕ) → I s → I (b.move s code x).state)
    → (codes : List ℕ) (s : S) (items : List (List ℕ)) → I s → I (last_state b s items codes)
unfolding last_state
last_all b I keeps [] s items i = i
last_all {S} b I keeps (code ∷ codes) s items i =
    go (b.takes s code) items (λ x left. last_all b I keeps codes _ left (keeps s code x i))
  where
    go : (t : Bool) (list : List (List ℕ)) → ((x : List ℕ) (left : List (List ℕ)) → I (last_state b (b.move s code x).state left codes))
        → I (dealt s t list (λ x left. last_state b (b.move s code x).state left codes))
    go true [] ih = i
    go true (x ∷ left) ih = ih x left
    go false list ih = ih _ list

-- How a run goes on: more moves start in its last state, with the items that are left.
abbrev pub GoesOn : {S : Type 0} → Bench S → S → List (List ℕ) → List ℕ → List Event → Type 0
GoesOn b s items codes es =
    (left : List (List ℕ))
    × ((k : ℕ) (more : List ℕ)
    → run b s k items (codes ++ more) ≡ before es (run b (last_state b s items codes) (k + length codes) left more))

before_none : (o : Outcome) → o ≡ before [] o
before_none (Stopped f k) = refl
before_none (Ran gs) = refl

before_more : (es fs : List Event) (o : Outcome) → before es (before fs o) ≡ before (es ++ fs) o
before_more es fs (Stopped f k) = refl
before_more es fs (Ran gs) = ap Ran (sym (append_assoc es fs gs))

pub run_goes_on : {S : Type 0} (b : Bench S) (s : S) (k : ℕ) (items : List (List ℕ)) (codes : List ℕ) (es : List Event)
    → run b s k items codes ≡ Ran es → GoesOn b s items codes es
unfolding last_state
run_goes_on {S} b s k items codes es =
    run_all b (λ s items. Unit {0}) (GoesOn b) (λ s items u. none s items)
    (λ s items code x left u d. (tt, λ codes es ih. more s items code x left d codes es ih))
    s
    k
    items
    codes
    es
    tt
  where
    none : (s : S) (items : List (List ℕ)) → GoesOn b s items [] []
    none s items = (items, λ k more. let same : k + 0 ≡ k = omega arith in rw same (before_none _))

    more : (s : S) (items : List (List ℕ)) (code : ℕ) (x : List ℕ) (left : List (List ℕ)) → Deal b s code items x left
        → (codes : List ℕ) (es : List Event) → GoesOn b (b.move s code x).state left codes es
        → GoesOn b s items (code ∷ codes) ((b.move s code x).events ++ es)
    more s items code x left d codes es ih = (
      ih.0,
      λ k rest.
          let same : k + suc (length codes) ≡ suc k + length codes = omega arith in
          let next = run b (last_state b (b.move s code x).state left codes) (suc k + length codes) ih.0 rest in
          run_on b s items code (codes ++ rest) x left k d
          ∙ ap (before (b.move s code x).events) (ih.1 (suc k) rest)
          ∙ rw (same, last_on b s items code codes x left d) (before_more (b.move s code x).events es next),
    )

-- What a run that stops tells: it is for want of an item, at one of its moves, and the moves before that one run to their end.
pub record Lacking {S : Type 0} (b : Bench S) (s : S) (k : ℕ) (items : List (List ℕ)) (codes : List ℕ) (f : Fault) (j : ℕ) : Type 0 where
  pub fault : f ≡ Items
  pub from : k ≤ j
  pub within : j < k + length codes
  pub es : List Event
  pub ran : run b s k items (take (j - k) codes) ≡ Ran es

stopped_before : (es : List Event) (o : Outcome) {f : Fault} {j : ℕ} → before es o ≡ Stopped f j → o ≡ Stopped f j
stopped_before es (Stopped g i) e = e
stopped_before es (Ran fs) e = apart cc

pub run_lacks : {S : Type 0} (b : Bench S) (s : S) (k : ℕ) (items : List (List ℕ)) (codes : List ℕ) (f : Fault) (j : ℕ)
    → run b s k items codes ≡ Stopped f j → Lacking b s k items codes f j
unfolding run
run_lacks b s k items [] f j e = apart cc
run_lacks {S} b s k items (code ∷ codes) f j e =
    go (b.takes s code) items refl refl e (λ t left e. run_lacks b t (suc k) left codes f j e)
  where
    onward : (t : Bool) (list : List (List ℕ)) (x : List ℕ) (left : List (List ℕ)) → b.takes s code ≡ t → items ≡ list
        → ((go : List ℕ → List (List ℕ) → Outcome) → dealt (Stopped Items k) t list go ≡ go x left)
        → Lacking b (b.move s code x).state (suc k) left codes f j → Lacking b s k items (code ∷ codes) f j
    onward t list x left h l deal rest =
        let from = rest.from in
        let more : j - k ≡ suc (j - suc k) = omega arith in
        record {
          fault = rest.fault;
          from = omega arith;
          within = omega (arith, rest.within);
          es = (b.move s code x).events ++ rest.es;
          ran = rw (more, h, l, deal _, rest.ran);
        }

    go : (t : Bool) (list : List (List ℕ)) → b.takes s code ≡ t → items ≡ list
        → dealt (Stopped Items k) t list (λ x left.
        before (b.move s code x).events (run b (b.move s code x).state (suc k) left codes)) ≡ Stopped f j
        → ((t : S) (left : List (List ℕ)) → run b t (suc k) left codes ≡ Stopped f j → Lacking b t (suc k) left codes f j)
        → Lacking b s k items (code ∷ codes) f j
    go true [] h l e ih =
        let same : k ≡ j = cc in
        let fault : Items ≡ f = cc in
        let none : j - k ≡ 0 = omega arith in
        record { fault = sym fault; from = omega arith; within = omega arith; es = []; ran = rw none }
    go true (x ∷ left) h l e ih = onward true (x ∷ left) x left h l (λ go. refl) (ih _ left (stopped_before _ _ e))
    go false list h l e ih = onward false list (eight []) list h l (λ go. refl) (ih _ list (stopped_before _ _ e))
