-- A song that is played is a run of calls, and its keys are on time. Assumes nothing.
use mathlib.Core.Path.{◌≡◌, refl, sym, ap, ◌∙◌, subst}
use mathlib.Core.Bool.{Bool, true, false, cond}
use mathlib.Core.List.{List, [], ◌∷◌, ◌++◌, map, map-append}
use Prim.Native.Nat.{ℕ, zero, suc, ◌+◌, ◌*◌, ◌≤◌, ◌<◌}
use native.Mathlib.Omega.{arith}
use borrow.Author.Tests.{leb-true, leb-false}
use lib.Dec.{leb}
use lib.ListN.{length, drop}
use lib.Seq.{drop-drop}
use lib.Ieee.{Float}
use Rattle.std.specs.Prelude.{is_ok}
use Rattle.binary32.specs.Leaves.{as_float}
use Rattle.common_types.specs.Notes.{from_u64_of}
use Rattle.common_types.specs.declared.InitParams.{InitParams}
use Rattle.common_types.specs.declared.Note.{Note}
use Rattle.common_types.specs.declared.Params.{Params}
use Rattle.channel.specs.Heads.{moment_of}
use Rattle.channel.specs.declared.Change.{Change}
use Rattle.channel.specs.Channels.{live}
use Rattle.voice.specs.Voices.{fresh_of}
use Rattle.walks.specs.Each.{Each}
use Rattle.std.specs.List.{list_any, fold}
use Rattle.sampler.specs.Refusals.{set_up_number}
use Rattle.sampler.specs.Samplers.{start_playing_of, stop_playing_of}
use Rattle.sampler.specs.declared.Sampler.{Sampler}
use Rattle.smf.specs.Cues.{Entry, song_of, numbers_of, cue_of}
use Rattle.smf.specs.Promised.{NeverFall}
use Rattle.smf.specs.declared.Cue.{Cue}
use Rattle.smf.proofs.Promised.{promised}
use Rattle.songs.specs.Plays.{cue_call, cues_of, due_of, play_of}
use Rattle.songs.proofs.Hands.{by_hand}
use Rattle.fates.specs.Engine.{born_of}
use Rattle.fates.specs.Events.{idle, changes, sounds, is_reset, is_sample, empty_at}
use Rattle.fates.specs.Places.{stopped_in}
use Rattle.promises.specs.Runs.{World, set_up, Call, stop, frame, code, with_sampler, after, run, chan, done_to, event, events, is_reset_call, Made, one, made as made_by, makes, call_judged}
use Rattle.promises.specs.Demands.{is_empty, FirstIn, Demand3}
use Rattle.promises.proofs.Makes.{third, run_more}
use Rattle.song_promises.specs.Songs.{start_call, hand_of, hands, left_in, due_in, Rising, played, hosted, woven, Songs}

-- ---- by hand

-- a call of the list is the call of its world
made : (p : Params) (w : World) (c : Cue) → with_sampler (cue_call w.sampler c p).sampler w ≡ after w (hand_of p c)
unfolding cue_call hand_of after
made p w c = go c.starts
  where
    note : Note
    note = from_u64_of c.note

    go : (b : Bool)
        → with_sampler (cond b (start_playing_of w.sampler (as_float 0) note c.velocity p) (stop_playing_of w.sampler note p)).sampler w
        ≡ after w (cond b (start_call p c) (stop note p))
    go true = refl
    go false = refl

each_made : (p : Params) (w : World) (cs : List Cue)
    → with_sampler (fold (λ (e : Sampler) (c : Cue). (cue_call e c p).sampler) w.sampler cs) w ≡ run w (hands p cs)
unfolding run
each_made p w [] = refl
each_made p w (c ∷ cs) =
    each_made p (with_sampler (cue_call w.sampler c p).sampler w) cs ∙ ap (λ (v : World). run v (hands p cs)) (made p w c)

plays : (w : World) (list : List ℕ) (next at : ℕ) (p : Params) → played w list next at p ≡ run w (hands p (due_in list next at))
plays w list next at p =
    ap (λ (s : Sampler). with_sampler s w) (by_hand w.sampler list next at p).calls ∙ each_made p w (due_in list next at)

weaves : (w : World) (list : List ℕ) (next at : ℕ) (p : Params) (frames : List (List Float))
    → hosted w list next at p frames ≡ run w (woven list next at p frames)
unfolding hosted woven run
weaves w list next at p [] = refl
weaves w list next at p (xs ∷ rest) =
    let due = due_in list next at in
    weaves (after (played w list next at p) (frame xs p)) list (play_of w.sampler list next at p).next (at + 1) p rest
    ∙ ap (λ (n : ℕ). run (after (played w list next at p) (frame xs p)) (woven list n (at + 1) p rest)) (by_hand w.sampler list next at p).places
    ∙ ap (λ (v : World). run (after v (frame xs p)) (woven list (next + length due) (at + 1) p rest)) (plays w list next at p)
    ∙ sym (run_more w (hands p due) (frame xs p ∷ woven list (next + length due) (at + 1) p rest))

-- ---- each call in its turn

module _ (at : ℕ) where
  abbrev InTurn : List Cue → List Cue → Type 0
  InTurn due cs = Each (λ (c : Cue). c.frame ≡ at) due × Rising (at + 1) (drop (length due) cs)

  one_turn : (c : Cue) (cs due : List Cue) (b : Bool) → leb c.frame at ≡ b → at ≤ c.frame → Rising c.frame cs
      → (Rising at cs → InTurn due cs) → InTurn (cond b (c ∷ due) []) (c ∷ cs)
  unfolding Each Rising
  one_turn c cs due true e low up rest =
      let most = leb-true c.frame at e in
      let same : c.frame ≡ at = omega arith in
      let k = rest (subst (λ (n : ℕ). Rising n cs) same up) in
      ((same, k.0), k.1)
  one_turn c cs due false e low up rest =
      let late = leb-false c.frame at e in
      (tt, (omega arith, up))

  in_turn : (cs : List Cue) → Rising at cs → InTurn (due_of at cs) cs
  unfolding Each Rising due_of
  in_turn [] h = (tt, tt)
  in_turn (c ∷ cs) h = one_turn c cs (due_of at cs) (leb c.frame at) refl h.0 h.1 (in_turn cs)

two_more : (k : ℕ) → 2 * suc k ≡ suc (suc (2 * k))
two_more k = omega arith

cues_behind : (k : ℕ) (l : List ℕ) → cues_of (drop (2 * k) l) ≡ drop k (cues_of l)
unfolding cues_of
cues_behind zero l = refl
cues_behind (suc k) [] = ap (λ (n : ℕ). cues_of (drop n [])) (two_more k)
cues_behind (suc k) (x ∷ []) = ap (λ (n : ℕ). cues_of (drop n (x ∷ []))) (two_more k)
cues_behind (suc k) (x ∷ y ∷ l) = ap (λ (n : ℕ). cues_of (drop n (x ∷ y ∷ l))) (two_more k) ∙ cues_behind k l

pub left_behind : (list : List ℕ) (next k : ℕ) → left_in list (next + k) ≡ drop k (left_in list next)
left_behind list next k =
    cues_behind (next + k) list
    ∙ sym (drop-drop k next (cues_of list))
    ∙ ap (drop k) (sym (cues_behind next list))

turns : (list : List ℕ) (next at : ℕ) → Rising at (left_in list next)
    → Each (λ (c : Cue). c.frame ≡ at) (due_in list next at) × Rising (at + 1) (left_in list (next + length (due_in list next at)))
turns list next at h =
    let k = in_turn at (left_in list next) h in
    (k.0, subst (Rising (at + 1)) (sym (left_behind list next (length (due_in list next at)))) k.1)

rises : (from : ℕ) (es : List Entry) → NeverFall from es → Rising from (cues_of (numbers_of es))
unfolding NeverFall Rising cues_of numbers_of cue_of
rises from [] h = h
rises from (e ∷ es) h = (h.0, rises e.frame es h.1)

-- ---- starts and stops are neither resets nor samples

no_reset : (p : Params) (cs : List Cue) → list_any is_reset_call (hands p cs) ≡ false
unfolding hand_of is_reset_call is_reset
no_reset p [] = refl
no_reset p (c ∷ cs) = rw (keeps c.starts) (no_reset p cs)
  where
    keeps : (b : Bool) → is_reset_call (cond b (start_call p c) (stop (from_u64_of c.note) p)) ≡ false
    keeps true = refl
    keeps false = refl

silent : (b : Bool) (d : Change) → is_sample (cond b (changes d) idle) ≡ false
unfolding is_sample
silent true d = refl
silent false d = refl

no_sample : (p : Params) (w : World) (cs : List Cue) (j : ℕ) → list_any is_sample (events w (hands p cs) j) ≡ false
unfolding events hand_of event done_to
no_sample p w [] j = refl
no_sample p w (c ∷ cs) j = rw (keeps c.starts) (no_sample p (after w (hand_of p c)) cs j)
  where
    keeps : (b : Bool) → is_sample (event w (cond b (start_call p c) (stop (from_u64_of c.note) p)) j) ≡ false
    keeps true = silent (is_ok (call_judged w (start_call p c))) _
    keeps false = silent (is_ok (call_judged w (stop (from_u64_of c.note) p))) _

-- ---- on time

started : (p : Params) (c : Cue) → c.starts ≡ true → hand_of p c ≡ start_call p c
unfolding hand_of
started p c h = ap (λ (b : Bool). cond b (start_call p c) (stop (from_u64_of c.note) p)) h

-- a host's calls one by one
pub makes_more : (w : World) (hs ks : List Made) → makes w (hs ++ ks) ≡ makes (makes w hs) ks
unfolding makes
makes_more w [] ks = refl
makes_more w (h ∷ hs) ks = makes_more (made_by w h) hs ks

pub makes_each : (w : World) (cs : List Call) → makes w (map one cs) ≡ run w cs
unfolding makes made_by run
makes_each w [] = refl
makes_each w (c ∷ cs) = makes_each (after w c) cs

module _ (count : ℕ) (q : InitParams) (m : List ℕ) (good : set_up_number count (length m) ≡ 0) (hs : List Made) (j : ℕ) (k : j < count) (list : List ℕ) (next : ℕ) where
  -- what demand 3 says holds after some of a song's calls too
  holds_on : (p : Params) (w : World) → w ≡ makes (set_up count q m) hs → (cs : List Cue) (u : World) → u ≡ run w (hands p cs) → Demand3 u j
  holds_on p w from cs u then =
      subst (λ (v : World). Demand3 v j)
      (makes_more (set_up count q m) hs (map one (hands p cs))
      ∙ ap (λ (v : World). makes v (map one (hands p cs))) (sym from)
      ∙ makes_each w (hands p cs)
      ∙ sym then)
      (third count q m good (hs ++ map one (hands p cs)) j k)

  no_time : (at : ℕ) (p : Params) (w : World) → w ≡ makes (set_up count q m) hs → (chan (played w list next at p) j).head.now ≡ (chan w j).head.now
  unfolding run
  no_time at p w from =
      let due = due_in list next at in
      ap (λ (v : World). (chan v j).head.now) (plays w list next at p)
      ∙ (holds_on p w from [] w refl).stands (hands p due) (no_reset p due) (no_sample p w due j)

  module _ (p : Params) (w : World) (from : w ≡ makes (set_up count q m) hs) (earlier : List Cue) (c : Cue) (later : List Cue) (split : due_in list next c.frame ≡ earlier ++ (c ∷ later)) (starts : c.starts ≡ true) (u : World) (then : u ≡ run w (hands p earlier)) where
    holds : Demand3 u j
    holds = holds_on p w from earlier u then

    reached : run u (start_call p c ∷ hands p later) ≡ played w list next c.frame p
    reached =
        ap (λ (v : World). run v (start_call p c ∷ hands p later)) then
        ∙ sym (run_more w (hands p earlier) (start_call p c ∷ hands p later))
        ∙ ap (λ (d : Call). run w (hands p earlier ++ (d ∷ hands p later))) (sym (started p c starts))
        ∙ ap (run w) (sym (map-append (hand_of p) earlier (c ∷ later)))
        ∙ ap (λ (l : List Cue). run w (hands p l)) (sym split)
        ∙ sym (plays w list next c.frame p)

    same : (chan (run u (start_call p c ∷ hands p later)) j).head.now ≡ (chan u j).head.now
    same =
        subst (λ (d : Call). (chan (run u (d ∷ hands p later)) j).head.now ≡ (chan u j).head.now) (started p c starts)
        (holds.stands (hands p (c ∷ later)) (no_reset p (c ∷ later)) (no_sample p u (c ∷ later) j))

    in_time : code u (start_call p c) ≡ 0 → is_empty (chan u j) ≡ false
        → stopped_in (events (after u (start_call p c)) (hands p later) j) (chan (after u (start_call p c)) j) (length (live (chan u j))) ≡ false
        → (s : Call) (sp : Params) (x : Float) (part : List ℕ) → event (played w list next c.frame p) s j ≡ sounds sp x part
        → empty_at part (chan (played w list next c.frame p) j) (born_of p (as_float 0) (from_u64_of c.note) c.velocity (chan u j)) ≡ false
        → FirstIn (played w list next c.frame p) s j sp x part (length (live (chan u j)))
        (fresh_of p (as_float 0) (from_u64_of c.note) c.velocity (moment_of (chan u j).head))
    in_time accepted filled free s sp x part =
        subst
        (λ (v : World). event v s j ≡ sounds sp x part → empty_at part (chan v j) (born_of p (as_float 0) (from_u64_of c.note) c.velocity (chan u j)) ≡ false
        → FirstIn v s j sp x part (length (live (chan u j)))
        (fresh_of p (as_float 0) (from_u64_of c.note) c.velocity (moment_of (chan u j).head)))
        reached
        (λ sample full. holds.on_time (as_float 0) (from_u64_of c.note) c.velocity p accepted filled (hands p later) (no_reset p later) s sp x part sample same free full)

pub songs : Songs
songs = record {
  hand = record { by_hand = plays; one_run = weaves };
  turn = record { begins = λ rate f. rises 0 (song_of rate f).entries (promised.in_order rate f); turns = turns };
  time = record {
    no_time = λ count q m good hs j k list next at p w from. no_time count q m good hs j k list next at p w from;
    on_time = λ count q m good hs j k list next p w from earlier c later split starts u then. in_time count q m good hs j k list next p w from earlier c later split starts u then;
  };
}
