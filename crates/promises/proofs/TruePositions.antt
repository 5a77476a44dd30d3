-- True positions (request 8/12), over every run from set-up: a voice that starts with a plain clip sounds the value at the whole-number index of its count, and shows that index afterwards. Assumes nothing.
use mathlib.Core.Path.{◌≡◌, refl, sym, ap, ◌∙◌, subst}
use mathlib.Core.Bool.{false, true}
use mathlib.Core.List.{List, [], ◌∷◌, ◌++◌}
use mathlib.Core.Option.{some}
use Prim.Native.Nat.{ℕ, ◌+◌, ◌%◌, ◌^◌, ◌≤◌, ◌<◌}
use native.Mathlib.Nat.{zero-mod, add-zero}
use native.Mathlib.Omega.{arith}
use lib.ListN.{length, get_elem?}
use lib.Ieee.{Float, binary32, div, eq}
use Rattle.binary32.specs.Leaves.{as_float, zero32}
use Rattle.common_types.specs.declared.InitParams.{InitParams}
use Rattle.common_types.specs.declared.Params.{Params}
use Rattle.common_types.specs.declared.Note.{Note}
use Rattle.clip.specs.Positions.{elapsed_at, position_at, index_at, next_at}
use Rattle.clip.specs.Plain.{PlainClip, plain_index}
use Rattle.clip.proofs.Plain.{index_is, fraction_is, true_index}
use Rattle.voice.specs.declared.Voice.{Voice}
use Rattle.voice.specs.declared.Tick.{Tick}
use Rattle.voice.specs.Voices.{tick_of, recorded_value_of, value_of, fresh_of}
use Rattle.voice.proofs.Values.{value_off, value_whole}
use Rattle.channel.specs.declared.Channel.{Channel}
use Rattle.channel.specs.Channels.{live, taken_of}
use Rattle.sampler.specs.Refusals.{set_up_number}
use Rattle.questions.specs.Questions.{voice_info_of}
use Rattle.fates.specs.Engine.{born_of, moment_at, held_at}
use Rattle.fates.specs.Events.{Event, sounds, act, acts, empty_at, tick_at}
use Rattle.fates.specs.Places.{voice_at, at, follow, follow_all}
use Rattle.fates.specs.Steady.{altered_in}
use Rattle.fates.proofs.Steady.{Beats, BeatsAt, beats_at, shown}
use Rattle.fates.proofs.Tracks.{at_same}
use Rattle.walks.proofs.Lists.Looks.{look_last}
use Rattle.promises.specs.Runs.{World, set_up, Call, start, after, run, chan, event, events}
use Rattle.promises.specs.Demands.{Tame, Undisturbed, OnTheBeat, Shows, TruePositions}
use Rattle.promises.proofs.Calls.{Standing, chan_run, kept_run, count_kept, standing_after, standing_run, standing_new}
use Rattle.promises.proofs.Demand3.{events_reset, sounds_in, house, next, still, takes}

-- the events of calls, and of a last one
events_last : (w : World) (cs : List Call) (s : Call) (j : ℕ) → events w (cs ++ (s ∷ [])) j ≡ events w cs j ++ (event (run w cs) s j ∷ [])
unfolding events run
events_last w [] s j = refl
events_last w (c ∷ cs) s j = ap (λ (es : List Event). event w c j ∷ es) (events_last (after w c) cs s j)

module _ (w : World) (st : Standing w) (j : ℕ) (present : j < w.sampler.count) (position : Float) (note : Note) (velocity : Float) (p₀ : Params) where
  abbrev b : Call
  b = start position note velocity p₀

  abbrev fresh : Voice
  fresh = born_of p₀ position note velocity (chan w j)

  module _ (cs : List Call) (s : Call) (p : Params) (x : Float) (m : List ℕ) (k : ℕ) (U : Undisturbed w j b cs s p x m fresh k) where
    abbrev v : World
    v = run w (b ∷ cs)

    abbrev es : List Event
    es = events (after w b) cs j

    abbrev first : ℕ
    first = length (live (chan w j))

    stand : Standing v
    stand = standing_run w (b ∷ cs) st

    there : j < v.sampler.count
    there = omega (arith, (kept_run w (b ∷ cs)).count)

    -- the channel, as the events leave it
    ran : chan v j ≡ acts es (chan (after w b) j)
    unfolding run
    ran = chan_run (after w b) (standing_after w b st) j (still w st j present b) cs

    begun : voice_at (chan (after w b) j) first ≡ some fresh
    begun =
        subst (λ (l : List Voice). get_elem? l first ≡ some fresh) (sym (takes w st j present position note velocity p₀ U.accepted U.recorded)) (look_last (live (chan w j)) fresh)

    unaltered : altered_in (es ++ (sounds p x m ∷ [])) (chan (after w b) j) first ≡ false
    unfolding run
    unaltered =
        subst (λ (ds : List Event). altered_in ds (chan (after w b) j) first ≡ false) (events_last (after w b) cs s j ∙ ap (λ (e : Event). es ++ (e ∷ [])) U.sample) U.unaltered

    beating : BeatsAt p x m es (chan (after w b) j) first fresh.clip2
    unfolding fresh_of
    beating =
        beats_at p x m es (chan (after w b) j) (house (after w b) (standing_after w b st) j (still w st j present b)) (events_reset (after w b) cs j U.no_reset) first fresh begun refl U.unfinished
        (subst (λ (c : Channel). empty_at m c fresh ≡ false) ran U.finds) unaltered

    beats : Beats p x m (chan v j) beating.place fresh.clip2
    beats = subst (λ (c : Channel). Beats p x m c beating.place fresh.clip2) (sym ran) beating.beats

    module _ (a l d : ℕ) (P : PlainClip fresh.clip2 a l d) where
      elapsed : elapsed_at fresh.clip2 (chan v j).head.now ≡ k
      unfolding fresh_of
      elapsed = omega (arith, U.later)

      index : index_at fresh.clip2 (chan v j).head.now ≡ plain_index a l d k
      index = index_is fresh.clip2 (chan v j).head.now a l d P (subst (λ (n : ℕ). n ≤ 2 ^ 24) (sym elapsed) U.within) ∙ ap (plain_index a l d) elapsed

      abbrev t : Tick
      t = tick_at p m (chan v j) beats.voice

      abbrev held : List ℕ
      held = held_at x m (chan v j) beats.voice

      off : (chan v j).head.interpolates ≡ false → value_of t held fresh.clip2 ≡ recorded_value_of held (plain_index a l d k)
      unfolding tick_of moment_at taken_of
      off e = value_off t held fresh.clip2 e ∙ ap (recorded_value_of held) index

      -- positions are whole there
      alike : Tame (recorded_value_of held (plain_index a l d k)) (recorded_value_of held (next_at fresh.clip2 (chan v j).head.now)) → eq (value_of t held fresh.clip2) (recorded_value_of held (plain_index a l d k)) ≡ true
      unfolding tick_of moment_at taken_of eq
      alike =
          let within : elapsed_at fresh.clip2 (chan v j).head.now ≤ 2 ^ 24 = subst (λ (n : ℕ). n ≤ 2 ^ 24) (sym elapsed) U.within in
          let none : (position_at fresh.clip2 (chan v j).head.now).fraction ≡ zero32 = fraction_is fresh.clip2 (chan v j).head.now a l d P within in
          subst (λ (i : ℕ). Tame (recorded_value_of held i) (recorded_value_of held (next_at fresh.clip2 (chan v j).head.now)) → eq (value_of t held fresh.clip2) (recorded_value_of held i) ≡ true) index
          (λ tame. value_whole t held fresh.clip2 (ap (λ (y : Float). eq y zero32) none) tame.here tame.next tame.between)

      on_the_beat : OnTheBeat w j b cs s p x m fresh (plain_index a l d k)
      on_the_beat =
          let c = chan v j in
          let u = beats.voice in
          record {
            place = beating.place;
            voice = u;
            follows = beating.follows;
            sounds = sounds_in v stand j there s p x m U.sample beating.place u beats.sounds;
            clip = beats.clip;
            term = beats.term;
            off = off;
            alike = alike;
          }

      seen : (n i : ℕ) → follow_all es (chan (after w b) j) first ≡ at n → follow (event v s j) (chan v j) n ≡ at i → Shows (after v s) j i (plain_index a l d k)
      unfolding voice_info_of
      seen n i f g =
          let here : beating.place ≡ n = at_same beating.place n (sym beating.follows ∙ f) in
          let step : follow (sounds p x m) (chan v j) beating.place ≡ at i
          = subst (λ (y : ℕ). follow (sounds p x m) (chan v j) y ≡ at i) (sym here) (subst (λ (e : Event). follow e (chan v j) n ≡ at i) U.sample g) in
          let q = shown p x m (chan v j) (house v stand j there) beating.place i fresh.clip2 beats step in
          let last : q.0.last_sample_index ≡ plain_index a l d k = q.2 ∙ index in
          record {
            voice = q.0;
            stands = subst (λ (c : Channel). voice_at c i ≡ some q.0) (sym (next v stand j there s ∙ ap (λ (e : Event). act e (chan v j)) U.sample)) q.1;
            last = last;
            info = λ r n. ap (λ (y : ℕ). div binary32 (as_float y) n) last;
          }

-- at no distance from the start
at_start : (a l d : ℕ) → (a + 0 % l) % d ≡ a % d
at_start a l d = ap (λ (r : ℕ). (a + r) % d) (zero-mod l) ∙ ap (λ (r : ℕ). r % d) (add-zero a)

pub standing_true : (w : World) → Standing w → (j : ℕ) → j < w.sampler.count → TruePositions w j
standing_true w st j present =
    record {
      true_index = λ c now a l d P h. index_is c now a l d P h;
      tested = true_index;
      on_the_beat = λ position note velocity p₀ a l d P cs s p x m k U. on_the_beat w st j present position note velocity p₀ cs s p x m k U a l d P;
      no_lag = λ position note velocity p₀ a l d P cs s p x m U.
          subst (OnTheBeat w j (start position note velocity p₀) cs s p x m (born_of p₀ position note velocity (chan w j))) (at_start a l d) (on_the_beat w st j present position note velocity p₀ cs s p x m 0 U a l d P);
      seen = λ position note velocity p₀ a l d P cs s p x m k U n i f g. seen w st j present position note velocity p₀ cs s p x m k U a l d P n i f g;
    }

pub true_positions : (count : ℕ) (p : InitParams) (m : List ℕ) → set_up_number count (length m) ≡ 0 → (cs : List Call) (j : ℕ) → j < count → TruePositions (run (set_up count p m) cs) j
true_positions count p m ok cs j k =
    standing_true (run (set_up count p m) cs) (standing_run (set_up count p m) cs (standing_new count p m)) j (omega (arith, count_kept count p m ok cs))
