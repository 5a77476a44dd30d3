-- From a file to its sound: `specs/Heard.antt`. Assumes nothing.
use Rattle.std.specs.Prelude.{Ok}
use mathlib.Core.Path.{◌≡◌, refl, sym, ap, ◌∙◌, subst}
use mathlib.Core.Bool.{Bool, true, false, cond, not}
use mathlib.Core.List.{List, [], ◌∷◌, ◌++◌, map}
use Prim.Native.Nat.{ℕ, zero, suc, ◌+◌, ◌*◌, ◌/◌, ◌%◌, ◌≤◌, ◌<◌, min}
use native.Mathlib.Omega.{arith}
use borrow.Author.Tests.{leb-true, leb-false, le-leb, lt-leb}
use borrow.Author.Tests.{lt-ltb, ltb-false}
use native.Mathlib.Nat.{suc-mul, div-mul-le_self}
use lib.Dec.{leb, ltb, eqb}
use lib.ListN.{length, take, drop, get_or, length-drop}
use lib.Ieee.{Float}
use Rattle.std.specs.Prelude.{Ok}
use Rattle.refusals.specs.declared.Refusal.TheVariants.{BeyondLimits, ClockEnd, Broken, BadRun}
use Rattle.refusals.specs.Refusals.{code_of, row}
use Rattle.refusals.proofs.Codes.{done_at}
use Rattle.binary32.specs.Leaves.{as_float, zero32}
use Rattle.common_types.specs.Notes.{from_u64_of}
use Rattle.voice.specs.Soundness.{FittingParams}
use Rattle.voice.specs.Voices.{fresh_of}
use Rattle.channel.specs.Heads.{moment_of}
use Rattle.channel.specs.Channels.{live}
use Rattle.fates.specs.Engine.{born_of}
use Rattle.fates.specs.Events.{sounds, empty_at}
use Rattle.sampler.specs.Soundness.{FittingSampler}
use Rattle.common_types.specs.declared.InitParams.{InitParams}
use Rattle.common_types.specs.declared.Params.{Params}
use Rattle.common_types.specs.Settings.{beyond_limits}
use Rattle.sampler.specs.Refusals.{good_with, frames_left, set_up_number, run_judged, run_number, done_of}
use lib.Seq.{take_at, length-take-le}
use Rattle.smf.specs.Cues.{Entry, song_of, numbers_of, counted_judged, list_of, cues_number, cue_of}
use Rattle.smf.specs.declared.Cue.{Cue}
use Rattle.smf.proofs.Promised.{promised}
use Rattle.smf.proofs.Turns.{numbers_length}
use Rattle.songs.specs.Plays.{cues_of, due_of}
use Rattle.songs.proofs.Hands.{by_hand}
use Rattle.promises.specs.Runs.{World, set_up, frame, code, after, run, chan, own_part, done_to, event, Made, one, frames, frames_done, frame_calls, spread, made, makes, Accepted, call_judged}
use Rattle.promises.specs.Demands.{FirstIn, Demand3}
use Rattle.promises.proofs.Makes.{third, count_makes}
use Rattle.promises.proofs.Turns.{in_turn}
use Rattle.song_promises.specs.Songs.{hands, left_in, due_in, Rising, played}
use Rattle.song_promises.specs.Heard.{HostTurn, Host, host_begins, called, turn_taken, turned_all, Keeps, InStep, StartHeard, SongHeard}
use Rattle.song_promises.proofs.Songs.{makes_more, makes_each, left_behind, songs}

-- ---- one entry of a list, as it comes nearer
module _ (at : ℕ) (c : Cue) (ys : List Cue) where
  -- a later one stays among those that are left
  stays : (xs : List Cue) → at < c.frame
      → (zs : List Cue) × (drop (length (due_of at (xs ++ (c ∷ ys)))) (xs ++ (c ∷ ys)) ≡ zs ++ (c ∷ ys))
  unfolding due_of
  stays [] h = ([], (rw (lt-leb c.frame at h)))
  stays (x ∷ xs) h = go (leb x.frame at) (stays xs h)
    where
      go : (b : Bool) → (zs : List Cue) × (drop (length (due_of at (xs ++ (c ∷ ys)))) (xs ++ (c ∷ ys)) ≡ zs ++ (c ∷ ys))
          → (zs : List Cue) × (drop (length (cond b (x ∷ due_of at (xs ++ (c ∷ ys))) [])) (x ∷ (xs ++ (c ∷ ys))) ≡ zs ++ (c ∷ ys))
      go true k = k
      go false k = (x ∷ xs, refl)

  below : (from : ℕ) (xs : List Cue) → Rising from (xs ++ (c ∷ ys)) → from ≤ c.frame
  unfolding Rising
  below from [] h = h.0
  below from (x ∷ xs) h = omega (arith, h.0, below x.frame xs h.1)

  -- one of this count is due
  comes : (xs : List Cue) → Rising at (xs ++ (c ∷ ys)) → c.frame ≡ at → due_of at (xs ++ (c ∷ ys)) ≡ xs ++ (c ∷ due_of at ys)
  unfolding Rising due_of
  comes [] h e = rw (le-leb c.frame at (omega arith))
  comes (x ∷ xs) h e =
      let low = h.0 in
      let high = below x.frame xs h.1 in
      let same : x.frame ≡ at = omega arith in
      rw (le-leb x.frame at (omega arith)) (ap (λ (l : List Cue). x ∷ l) (comes xs (subst (λ (n : ℕ). Rising n (xs ++ (c ∷ ys))) same h.1) e))

-- ---- the list of a song that was read
cues_append : (xs ys : List Entry) → cues_of (numbers_of (xs ++ ys)) ≡ cues_of (numbers_of xs) ++ cues_of (numbers_of ys)
unfolding numbers_of cues_of
cues_append [] ys = refl
cues_append (x ∷ xs) ys = ap (λ (l : List Cue). cue_of x.frame x.key ∷ l) (cues_append xs ys)

module _ (f : List ℕ) (rate : ℕ) (lent : List ℕ) (n : ℕ) (read : counted_judged f rate (length lent) ≡ Ok n) where
  list_is : take (2 * n) (list_of f rate lent) ≡ numbers_of (song_of rate f).entries
  unfolding cues_number
  list_is =
      let es = (song_of rate f).entries in
      let size : length (numbers_of (song_of rate f).entries) ≡ 2 * n = omega (arith, numbers_length (song_of rate f).entries, (promised.counted f rate (length lent) n read).1) in
      ap (take (2 * n)) (promised.written f rate lent (ap cues_number read))
      ∙ take_at (numbers_of (song_of rate f).entries) _ (2 * n) size

-- ---- along the turns
module _ (count : ℕ) (q : InitParams) (m : List ℕ) (good : set_up_number count (length m) ≡ 0) (j : ℕ) (k : j < count) (w : World) (list : List ℕ) (p : Params) (c : Cue) (ys : List Cue) where
  -- a host that hasn't come to the entry yet
  record Nearing (h : Host) : Type 0 where
    calls : List Made
    from : h.world ≡ makes (set_up count q m) calls
    clock : (chan h.world j).head.now ≡ (chan w j).head.now + h.at
    rising : Rising h.at (left_in list h.next)
    sooner : List Cue
    left : left_in list h.next ≡ sooner ++ (c ∷ ys)

  standing : (h : Host) → Nearing h → (chan (called list p h) j).head.now ≡ (chan w j).head.now + h.at
  standing h i = songs.time.no_time count q m good i.calls j k list h.next h.at p h.world i.from ∙ i.clock

  moved : (h : Host) (t : HostTurn) → Nearing h → Keeps j list p h t → h.at + t.span ≤ c.frame → Nearing (turn_taken list p h t)
  moved h t i keeps before =
      let due = due_in list h.next h.at in
      let some = keeps.some in
      let next : (turn_taken list p h t).next ≡ h.next + length due = (by_hand h.world.sampler list h.next h.at p).places in
      let s = stays h.at c ys i.sooner (omega arith) in
      let gone : left_in list (h.next + length due) ≡ drop (length due) (left_in list h.next) = left_behind list h.next (length due) in
      record {
        calls = (i.calls ++ map one (hands p due)) ++ t.calls;
        from =
            ap (λ (v : World). makes v t.calls)
            (songs.hand.by_hand h.world list h.next h.at p
            ∙ sym (makes_each h.world (hands p due))
            ∙ ap (λ (v : World). makes v (map one (hands p due))) i.from
            ∙ sym (makes_more (set_up count q m) i.calls (map one (hands p due))))
            ∙ sym (makes_more (set_up count q m) (i.calls ++ map one (hands p due)) t.calls);
        clock = keeps.clock ∙ ap (λ (n : ℕ). n + t.span) (standing h i) ∙ omega arith;
        rising = go (leb t.span 1) refl;
        sooner = s.0;
        left = ap (left_in list) next ∙ gone ∙ (rw i.left s.1);
      }
    where
      go : (b : Bool) → leb t.span 1 ≡ b → Rising (h.at + t.span) (left_in list (turn_taken list p h t).next)
      go true e =
          let one_frame : h.at + 1 ≡ h.at + t.span = (let few = leb-true t.span 1 e in let some = keeps.some in omega arith) in
          subst (λ (n : ℕ). Rising n (left_in list (turn_taken list p h t).next)) one_frame
          (subst (λ (n : ℕ). Rising (h.at + 1) (left_in list n)) (sym (by_hand h.world.sampler list h.next h.at p).places)
          (songs.turn.turns list h.next h.at i.rising).1)
      go false e = keeps.cut (leb-false t.span 1 e)

  later : (h : Host) (ts : List HostTurn) → h.at ≤ (turned_all list p h ts).at
  unfolding turned_all
  later h [] = omega arith
  later h (t ∷ ts) = omega (arith, later (turn_taken list p h t) ts)

  arrives : (h : Host) (ts : List HostTurn) → Nearing h → InStep j list p h ts → (turned_all list p h ts).at ≤ c.frame → Nearing (turned_all list p h ts)
  unfolding turned_all InStep
  arrives h [] i steps before = i
  arrives h (t ∷ ts) i steps before =
      arrives (turn_taken list p h t) ts (moved h t i steps.0 (omega (arith, later (turn_taken list p h t) ts))) steps.1 before

  -- at its count
  there : (h : Host) → Nearing h → h.at ≡ c.frame → c.starts ≡ true → StartHeard w j list p h c
  there h i is starts =
      record {
        due = (
          i.sooner,
          due_of h.at ys,
          ap (due_of h.at) i.left ∙ comes h.at c ys i.sooner (subst (Rising h.at) i.left i.rising) (sym is),
        );
        count = standing h i ∙ ap (λ (n : ℕ). (chan w j).head.now + n) is;
        sounds = λ earlier later due u then accepted filled free s sp x part.
            subst
            (λ (n : ℕ). event (played h.world list h.next n p) s j ≡ sounds sp x part → empty_at part (chan (played h.world list h.next n p) j) (born_of p (as_float 0) (from_u64_of c.note) c.velocity (chan u j)) ≡ false
            → FirstIn (played h.world list h.next n p) s j sp x part (length (live (chan u j)))
            (fresh_of p (as_float 0) (from_u64_of c.note) c.velocity (moment_of (chan u j).head)))
            (sym is)
            (songs.time.on_time count q m good i.calls j k list h.next p h.world i.from earlier c later
            (subst (λ (n : ℕ). due_in list h.next n ≡ earlier ++ (c ∷ later)) is due) starts u then accepted filled free s sp x part);
      }

-- ---- the clock of a turn
module _ (count : ℕ) (q : InitParams) (m : List ℕ) (good : set_up_number count (length m) ≡ 0) (j : ℕ) (k : j < count) where
  frame_turn : (hs : List Made) (w : World) → w ≡ makes (set_up count q m) hs → (xs : List Float) (p : Params) → code w (frame xs p) ≡ 0 → j < length xs
      → (chan (after w (frame xs p)) j).head.now ≡ (chan w j).head.now + 1
  unfolding event done_to
  frame_turn hs w from xs p accepted wide =
      (subst (λ (v : World). Demand3 v j) (sym from) (third count q m good hs j k)).counts (frame xs p) p (get_or xs j zero32) (own_part w j) heard
    where
      heard : event w (frame xs p) j ≡ sounds p (get_or xs j zero32) (own_part w j)
      heard = rw (done_at (call_judged w (frame xs p)) accepted, lt-ltb j (length xs) wide)

  after_frame : (hs : List Made) (w : World) → w ≡ makes (set_up count q m) hs → (xs : List Float) (p : Params) → after w (frame xs p) ≡ makes (set_up count q m) (hs ++ (one (frame xs p) ∷ []))
  unfolding makes made
  after_frame hs w from xs p = ap (λ (v : World). after v (frame xs p)) from ∙ sym (makes_more (set_up count q m) hs (one (frame xs p) ∷ []))

  frames_clock : (p : Params) (n : ℕ) → j < n → (i : ℕ) (hs : List Made) (w : World) → w ≡ makes (set_up count q m) hs → (xs : List Float) → i * n ≤ length xs
      → Accepted w (frame_calls p n i xs) → (chan (run w (frame_calls p n i xs)) j).head.now ≡ (chan w j).head.now + i
  unfolding Accepted frame_calls run
  frames_clock p n wide zero hs w from xs room ok = omega arith
  frames_clock p n wide (suc i) hs w from xs room ok =
      let long : suc i * n ≡ n + i * n = suc-mul i n ∙ omega arith in
      let first = frame_turn hs w from (take n xs) p ok.0 (omega (arith, length-take-le n xs (omega arith))) in
      let rest = frames_clock p n wide i (hs ++ (one (frame (take n xs) p) ∷ [])) (after w (frame (take n xs) p)) (after_frame hs w from (take n xs) p) (drop n xs) (omega (arith, length-drop n xs)) ok.1 in
      omega arith

  -- a run that is accepted is done to its end
  last_row : (a b c d : Bool) → code_of (row a Broken (row b BadRun (row c BeyondLimits (row d ClockEnd (Ok (tt {0})))))) ≡ 0 → d ≡ false
  last_row true b c d e = absurd (omega arith)
  last_row false true c d e = absurd (omega arith)
  last_row false false true d e = absurd (omega arith)
  last_row false false false true e = absurd (omega arith)
  last_row false false false false e = refl

  room_enough : (w : World) (xs : List Float) (p : Params) → run_number w.sampler (length xs) p (length w.memory) ≡ 0 → length xs / w.sampler.count ≤ frames_left w.sampler
  unfolding run_judged
  room_enough w xs p e = ltb-false (frames_left w.sampler) (length xs / w.sampler.count)
      (last_row (not (good_with w.sampler (length w.memory))) (not (eqb (length xs % w.sampler.count) 0)) (beyond_limits p) (ltb (frames_left w.sampler) (length xs / w.sampler.count)) e)

  all_done : (w : World) (xs : List Float) (p : Params) → run_number w.sampler (length xs) p (length w.memory) ≡ 0
      → (frames_done w xs p ≡ length xs / w.sampler.count) × (frames_done w xs p * w.sampler.count ≤ length xs)
  unfolding done_of
  all_done w xs p e =
      let room = room_enough w xs p e in
      let least : min (length xs / w.sampler.count) (frames_left w.sampler) ≡ length xs / w.sampler.count = omega arith in
      rw e (least, rw least (div-mul-le_self (length xs) w.sampler.count))

  run_turn : (hs : List Made) (w : World) → w ≡ makes (set_up count q m) hs → FittingSampler w.sampler → (xs : List Float) (p : Params) → FittingParams p
      → run_number w.sampler (length xs) p (length w.memory) ≡ 0
      → (chan (made w (frames xs p)) j).head.now ≡ (chan w j).head.now + length xs / count
  unfolding spread
  run_turn hs w from fits xs p floats ok =
      let is : w.sampler.count ≡ count = ap (λ (v : World). v.sampler.count) from ∙ count_makes count q m good hs in
      let t = in_turn w fits xs p floats in
      let d = all_done w xs p ok in
      ap (λ (v : World). (chan v j).head.now) t.leaves
      ∙ frames_clock p w.sampler.count (omega arith) (frames_done w xs p) hs w from xs d.1 t.accepted
      ∙ ap (λ (n : ℕ). (chan w j).head.now + n) (d.0 ∙ ap (λ (n : ℕ). length xs / n) is)

-- ---- the song
module _ (count : ℕ) (q : InitParams) (m : List ℕ) (good : set_up_number count (length m) ≡ 0) (hs : List Made) (j : ℕ) (k : j < count) (w : World) (from : w ≡ makes (set_up count q m) hs) where
  on_time : (f : List ℕ) (rate : ℕ) (lent : List ℕ) (n : ℕ) → counted_judged f rate (length lent) ≡ Ok n
      → (list : List ℕ) → list ≡ take (2 * n) (list_of f rate lent)
      → (before : List Entry) (e : Entry) (behind : List Entry) → (song_of rate f).entries ≡ before ++ (e ∷ behind)
      → (c : Cue) → c ≡ cue_of e.frame e.key → c.starts ≡ true
      → (p : Params) (ts : List HostTurn) → InStep j list p (host_begins w) ts → (turned_all list p (host_begins w) ts).at ≡ e.frame
      → StartHeard w j list p (turned_all list p (host_begins w) ts) c
  unfolding numbers_of cues_of cue_of
  on_time f rate lent n read list is before e behind split c cue starts p ts steps at =
      let song : list ≡ numbers_of (song_of rate f).entries = is ∙ list_is f rate lent n read in
      let left : left_in list 0 ≡ cues_of (numbers_of before) ++ (c ∷ cues_of (numbers_of behind)) =
      ap cues_of (song ∙ ap numbers_of split)
      ∙ cues_append before (e ∷ behind)
      ∙ ap (λ (d : Cue). cues_of (numbers_of before) ++ (d ∷ cues_of (numbers_of behind))) (sym cue) in
      let frame_is : e.frame ≡ c.frame = sym (ap (λ (d : Cue). d.frame) cue) in
      there count q m good j k w list p c (cues_of (numbers_of behind)) (turned_all list p (host_begins w) ts)
      (arrives count q m good j k w list p c (cues_of (numbers_of behind)) (host_begins w) ts
      (record {
        calls = hs;
        from = from;
        clock = omega arith;
        rising = subst (λ (l : List ℕ). Rising 0 (left_in l 0)) (sym song) (songs.turn.begins rate f);
        sooner = cues_of (numbers_of before);
        left = left;
      })
      steps (omega arith))
      (at ∙ frame_is) starts

pub heard : SongHeard
unfolding makes made
heard = record {
  on_time = λ count q m good hs j k w from. on_time count q m good hs j k w from;
  frame_turn = λ count q m good hs j k w from xs p. frame_turn count q m good j k hs w from xs p;
  run_turn = λ count q m good hs j k w from fits xs p. run_turn count q m good j k hs w from fits xs p;
}
