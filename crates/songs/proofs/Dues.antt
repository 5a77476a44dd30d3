-- A song's list, entry by entry: the next one, whether it is due, and the end; and what stands before an entry as the
-- list is played (`Going`). Assumes nothing.
use Rattle.std.proofs.Common.{◌≡◌, ℕ, suc, ◌+◌, ◌-◌, ◌*◌, ◌/◌, ◌%◌, ◌^◌, ◌<◌, ◌≤◌, Bool, true, false, cond, eqb, leb, List, [], ◌∷◌, length, get_or, drop, sym, refl, ap, ◌∙◌, arith, length-drop, drop-cons, le-leb, leb-false, leb-true}
use borrow.Author.Tests.{lt-leb}
use Rattle.binary32.specs.Leaves.{as_float}
use Rattle.channel.specs.declared.Change.TheVariants as change
use Rattle.common_types.specs.Notes.{from_u64_of}
use Rattle.common_types.specs.declared.Params.{Params}
use Rattle.sampler.specs.Samplers.{change_of, start_playing_of, stop_playing_of}
use Rattle.sampler.specs.declared.Answer.{Answer}
use Rattle.sampler.specs.declared.Sampler.{Sampler}
use Rattle.smf.specs.Cues.{cue_of}
use Rattle.smf.specs.declared.Cue.{Cue}
use Rattle.std.specs.Prelude.{Result, is_ok}
use Rattle.refusals.specs.declared.Refusal.{Refusal}
use Rattle.songs.specs.Plays.{cue_call, change_by, one_more_refused, cues_of, cues_played, play_of, due_of}
use Rattle.songs.specs.declared.Playing.{Playing}

module _ (list : List ℕ) (place : ℕ) where
  pub cues_next : 2 * place + 1 < length list
      → cues_of (drop (2 * place) list) ≡ cue_of (get_or list (2 * place) 0) (get_or list (2 * place + 1) 0) ∷ cues_of (drop (2 * (place + 1)) list)
  unfolding cues_of
  cues_next h =
      let two : suc (suc (2 * place)) ≡ 2 * (place + 1) = omega arith in
      let one : suc (2 * place) ≡ 2 * place + 1 = omega arith in
      let first : drop (2 * place) list ≡ get_or list (2 * place) 0 ∷ drop (suc (2 * place)) list = drop-cons list (2 * place) 0 (omega arith) in
      let second : drop (suc (2 * place)) list ≡ get_or list (suc (2 * place)) 0 ∷ drop (suc (suc (2 * place))) list = drop-cons list (suc (2 * place)) 0 (omega arith) in
      ap cues_of (first ∙ ap (λ (l : List ℕ). get_or list (2 * place) 0 ∷ l) second)
      ∙ ap (λ (n : ℕ). cue_of (get_or list (2 * place) 0) (get_or list n 0) ∷ cues_of (drop (suc (suc (2 * place))) list)) one
      ∙ ap (λ (n : ℕ). cue_of (get_or list (2 * place) 0) (get_or list (2 * place + 1) 0) ∷ cues_of (drop n list)) two

few : (l : List ℕ) → length l ≤ 1 → cues_of l ≡ []
unfolding cues_of
few [] h = refl
few (x ∷ []) h = refl
few (x ∷ y ∷ l) h = absurd (omega arith)

pub cues_over : (list : List ℕ) (place : ℕ) → length list / 2 ≤ place → cues_of (drop (2 * place) list) ≡ []
cues_over list place h = few (drop (2 * place) list) (omega (arith, length-drop (2 * place) list))

module _ (s : Sampler) (frame key : ℕ) (cs : List Cue) (next at : ℕ) (p : Params) (refused : ℕ) where
  pub due : frame ≤ at
      → cues_played s (cue_of frame key ∷ cs) next at p refused
      ≡ cues_played (cue_call s (cue_of frame key) p).sampler cs (next + 1) at p (one_more_refused refused (cue_call s (cue_of frame key) p).done)
  unfolding cues_played cue_of
  due h = simp (le-leb _ _ h)

-- how many are due from a place on
abbrev pub dues_from : List ℕ → ℕ → ℕ → ℕ
dues_from list at place = length (due_of at (cues_of (drop (2 * place) list)))

module _ (list : List ℕ) (at place : ℕ) where
  pub dues_over : length list / 2 ≤ place → dues_from list at place ≡ 0
  unfolding due_of
  dues_over h = ap (λ (cs : List Cue). length (due_of at cs)) (cues_over list place h)

  pub dues_none : 2 * place + 1 < length list → at < get_or list (2 * place) 0 → dues_from list at place ≡ 0
  unfolding due_of cue_of
  dues_none h late = ap (λ (cs : List Cue). length (due_of at cs)) (cues_next list place h) ∙ simp (lt-leb _ _ late)

  pub dues_next : 2 * place + 1 < length list → get_or list (2 * place) 0 ≤ at → dues_from list at place ≡ dues_from list at (place + 1) + 1
  unfolding due_of cue_of
  dues_next h early =
      let one : length (due_of at (cue_of (get_or list (2 * place) 0) (get_or list (2 * place + 1) 0) ∷ cues_of (drop (2 * (place + 1)) list))) ≡ suc (dues_from list at (place + 1)) = simp (le-leb _ _ early) in
      ap (λ (cs : List Cue). length (due_of at cs)) (cues_next list place h) ∙ one ∙ omega arith

  -- where one is, it is the next
  pub due_here : 0 < dues_from list at place → (2 * place + 1 < length list) × (get_or list (2 * place) 0 ≤ at)
  due_here some = go (leb (length list / 2) place) (leb (get_or list (2 * place) 0) at) refl refl
    where
      go : (over early : Bool) → leb (length list / 2) place ≡ over → leb (get_or list (2 * place) 0) at ≡ early → (2 * place + 1 < length list) × (get_or list (2 * place) 0 ≤ at)
      go true early o e = absurd (let none = dues_over (leb-true (length list / 2) place o) in omega arith)
      go false true o e = (let inside = leb-false (length list / 2) place o in omega arith, leb-true _ _ e)
      go false false o e = absurd (let inside = leb-false (length list / 2) place o in let none = dues_none (omega arith) (leb-false (get_or list (2 * place) 0) at e) in omega arith)

none_due : (s : Sampler) (cs : List Cue) (next at : ℕ) (p : Params) (refused : ℕ) → length (due_of at cs) ≡ 0 → cues_played s cs next at p refused ≡ record { sampler = s; next = next; refused = refused }
unfolding cues_played due_of
none_due s [] next at p refused none = refl
none_due s (c ∷ cs) next at p refused none = go (leb c.frame at) none
  where
    on : Playing
    on = cues_played (cue_call s c p).sampler cs (next + 1) at p (one_more_refused refused (cue_call s c p).done)

    stays : Playing
    stays = record { sampler = s; next = next; refused = refused }

    go : (b : Bool) → length (cond b (c ∷ due_of at cs) []) ≡ 0 → cond b on stays ≡ stays
    go true e = absurd (omega arith)
    go false e = refl

-- ---- what stands before the entry `place` of a list that is played from `next` on, up to `end`
pub record Going (s₀ : Sampler) (list : List ℕ) (next at : ℕ) (p : Params) (end : ℕ) (s : Sampler) (place refused : ℕ) : Type 0 where
  pub same : cues_played s (cues_of (drop (2 * place) list)) place at p refused ≡ play_of s₀ list next at p
  pub ends : place + dues_from list at place ≡ end
  pub few : refused ≤ place

abbrev pub cue_at : List ℕ → ℕ → Cue
cue_at list place = cue_of (get_or list (2 * place) 0) (get_or list (2 * place + 1) 0)

pub one_more_most : (refused : ℕ) (done : Result (Unit {0}) Refusal) (place : ℕ) → refused ≤ place → one_more_refused refused done ≤ place + 1
unfolding one_more_refused
one_more_most refused done place h = go (is_ok done)
  where
    go : (b : Bool) → cond b refused (refused + 1) ≤ place + 1
    go true = omega arith
    go false = omega arith

-- the call of a start or a stop is its change
pub call_is : (s : Sampler) (c : Cue) (p : Params) → change_of s (change_by c p) ≡ cue_call s c p
unfolding cue_call change_by
call_is s c p = go c.starts
  where
    go : (b : Bool) → change_of s (cond b (change.Start p (as_float 0) (from_u64_of c.note) c.velocity) (change.Stop p (from_u64_of c.note)))
        ≡ cond b (start_playing_of s (as_float 0) (from_u64_of c.note) c.velocity p) (stop_playing_of s (from_u64_of c.note) p)
    go true = refl
    go false = refl

pub begins : (s₀ : Sampler) (list : List ℕ) (next at : ℕ) (p : Params) (end : ℕ) → end ≡ next + dues_from list at next → Going s₀ list next at p end s₀ next 0
unfolding play_of
begins s₀ list next at p end e = record { same = refl; ends = sym e; few = omega arith }

module _ {s₀ : Sampler} {list : List ℕ} {next at : ℕ} {p : Params} {end : ℕ} {s : Sampler} {place refused : ℕ} (g : Going s₀ list next at p end s place refused) where
  pub over : end ≤ place → record { sampler = s; next = end; refused = refused } ≡ play_of s₀ list next at p
  over past =
      let last : end ≡ place = omega (arith, g.ends) in
      ap (λ (n : ℕ). record { sampler = s; next = n; refused = refused }) last
      ∙ sym (none_due s (cues_of (drop (2 * place) list)) place at p refused (omega (arith, g.ends)))
      ∙ g.same

  module _ (more : place < end) where
    pub here : (2 * place + 1 < length list) × (get_or list (2 * place) 0 ≤ at)
    here = due_here list at place (omega (arith, g.ends))

    -- no list is so long that the count of refused calls wraps
    pub no_wrap : end < 2 ^ 64 → (done : Result (Unit {0}) Refusal) → one_more_refused refused done % 2 ^ 64 ≡ one_more_refused refused done
    no_wrap fits done = let most = one_more_most refused done place g.few in omega arith

    pub goes_on : (a : Answer) → a ≡ change_of s (change_by (cue_at list place) p) → Going s₀ list next at p end a.sampler (place + 1) (one_more_refused refused a.done)
    goes_on a e =
        let cue = cue_at list place in
        let rest = cues_of (drop (2 * (place + 1)) list) in
        let step = ap (λ (cs : List Cue). cues_played s cs place at p refused) (cues_next list place here.0) ∙ due s _ _ _ place at p refused here.1 in
        let less = dues_next list at place here.0 here.1 in
        record {
          same = ap (λ (b : Answer). cues_played b.sampler rest (place + 1) at p (one_more_refused refused b.done)) (e ∙ call_is s cue p) ∙ sym step ∙ g.same;
          ends = omega (arith, g.ends, less);
          few = one_more_most refused a.done place g.few;
        }
