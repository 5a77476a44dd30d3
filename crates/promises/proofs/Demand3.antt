-- Demand 3 holds of every record and memory that set-up and calls leave, for each channel. Assumes nothing.
use mathlib.Core.Path.{◌≡◌, refl, sym, ap, ◌∙◌, subst}
use mathlib.Core.Bool.{Bool, true, false, not, cond, and-false}
use mathlib.Core.Logic.{◌⊎◌, inl, inr}
use mathlib.Core.List.{List, [], ◌∷◌, ◌++◌}
use mathlib.Core.Option.{some}
use Prim.Native.Nat.{ℕ, ◌+◌, ◌≤◌, ◌<◌, max}
use native.Mathlib.Omega.{arith}
use borrow.Author.Tests.{lt-leb}
use lib.Dec.{eqb, ltb}
use lib.ListN.{length}
use lib.Ieee.{Float, binary32, mul}
use Rattle.std.specs.List.{list_any}
use Rattle.std.specs.Prelude.{is_ok}
use Rattle.refusals.proofs.Codes.{done_at}
use Rattle.common_types.specs.declared.InitParams.{InitParams}
use Rattle.common_types.specs.declared.Params.{Params}
use Rattle.common_types.specs.declared.Note.{Note}
use Rattle.voice.specs.declared.Voice.{Voice}
use Rattle.voice.specs.Voices.{fresh_of}
use Rattle.channel.specs.declared.Channel.{Channel}
use Rattle.channel.specs.declared.Played.{Played}
use Rattle.channel.specs.Heads.{last_time, moment_of}
use Rattle.channel.specs.Channels.{live, full_of}
use Rattle.sampler.specs.Refusals.{set_up_number}
use Rattle.fates.specs.Engine.{born_of, step_of}
use Rattle.fates.specs.Events.{Event, idle, sounds, act, acts, is_reset, is_sample, empty_at, decay_of, last_of, before_last}
use Rattle.fates.specs.Places.{Housed, voice_at, Place, at, gone, follow, becomes, added_by, onward, follow_all, stopped_in, finishes}
use Rattle.fates.specs.Sounding.{Sounds, First}
use Rattle.promises.specs.Runs.{World, set_up, Call, change, start, sample, frame, read_wave, gather, asks, call_judged, code, after, run, chan, done_to, event, events, is_reset_call, output, final, before}
use Rattle.promises.specs.Demands.{is_empty, Leaves, SoundsIn, FirstIn, Demand3}
use Rattle.walks.proofs.Tests.{neither, either}
use Rattle.fates.proofs.Tracks.{gone_never, tracks}
use Rattle.fates.proofs.Order.{Came, ordered, covered, fewer}
use Rattle.fates.proofs.Terms.{sounds_later}
use Rattle.fates.proofs.Stays.{stays}
use Rattle.fates.proofs.Goes.{goes}
use Rattle.fates.proofs.Clocks.{clock_stands, clock_moves, no_sample}
use Rattle.fates.proofs.OnTime.{begin, taken, on_time}
use Rattle.promises.proofs.Engine.{step_same}
use Rattle.promises.proofs.Calls.{Standing, chan_after, chan_run, kept, kept_run, count_kept, standing_after, standing_run, standing_new}
use Rattle.promises.proofs.Accepted.{heard, start_room}

-- ---- a call that is no reset is none on any channel
quiet : (b : Bool) (e : Event) → is_reset e ≡ false → is_reset (cond b e idle) ≡ false
unfolding is_reset
quiet b e h = either is_reset b e idle false h refl

event_reset : (w : World) (c : Call) (j : ℕ) → is_reset_call c ≡ false → is_reset (event w c j) ≡ false
unfolding event done_to is_reset is_reset_call
event_reset w (change d) j h = quiet (is_ok (call_judged w (change d))) _ h
event_reset w (sample i x p) j h = quiet (is_ok (call_judged w (sample i x p))) _ (quiet (eqb i j) _ refl)
event_reset w (frame xs p) j h = quiet (is_ok (call_judged w (frame xs p))) _ (quiet (ltb j (length xs)) _ refl)
event_reset w (read_wave f) j h = quiet (is_ok (call_judged w (read_wave f))) _ refl
event_reset w gather j h = quiet (is_ok (call_judged w gather)) _ refl
event_reset w (asks q) j h = quiet (is_ok (call_judged w (asks q))) idle refl

pub events_reset : (w : World) (cs : List Call) (j : ℕ) → list_any is_reset_call cs ≡ false → list_any is_reset (events w cs j) ≡ false
unfolding events
events_reset w [] j h = refl
events_reset w (c ∷ cs) j h =
    let a = neither (is_reset_call c) (list_any is_reset_call cs) h in
    rw (event_reset w c j a.0) (events_reset (after w c) cs j a.1)

-- ---- what is heard
module _ (w : World) (st : Standing w) (j : ℕ) (k : j < w.sampler.count) where
  hears : (s : Call) (p : Params) (x : Float) (m : List ℕ) → event w s j ≡ sounds p x m → output w s j ≡ mul binary32 p.volume (step_of p x (chan w j) m).output
  hears s p x m h = (heard w st j k p x m s h).output ∙ ap (λ (r : Played). mul binary32 p.volume r.output) (sym (step_same p x (chan w j) m))

  pub sounds_in : (s : Call) (p : Params) (x : Float) (m : List ℕ) → event w s j ≡ sounds p x m → (n : ℕ) (v : Voice) → Sounds p x m (chan w j) n v → SoundsIn w s j p x m n v
  sounds_in s p x m h n v y = record { stands = y.stands; unfinished = y.unfinished; output = hears s p x m h ∙ ap (mul binary32 p.volume) y.output }

module _ (w : World) (st : Standing w) (j : ℕ) (k : j < w.sampler.count) where
  pub house : Housed (chan w j)
  house = st.housing j k

  pub next : (c : Call) → chan (after w c) j ≡ act (event w c j) (chan w j)
  next c = chan_after w st.two st.few j k c

  pub still : (c : Call) → j < (after w c).sampler.count
  still c = omega (arith, (kept w c).count)

  -- ---- counts
  counts : (s : Call) (p : Params) (x : Float) (m : List ℕ) → event w s j ≡ sounds p x m → (chan (after w s) j).head.now ≡ (chan w j).head.now + 1
  counts s p x m h =
      ap (λ (c : Channel). c.head.now) (next s ∙ ap (λ (e : Event). act e (chan w j)) h) ∙ clock_moves p x m (chan w j) (heard w st j k p x m s h).early

  -- ---- a start
  module _ (position : Float) (note : Note) (velocity : Float) (p₀ : Params) (ok : code w (start position note velocity p₀) ≡ 0) (some_data : is_empty (chan w j) ≡ false) where
    b : Event
    b = begin p₀ position note velocity

    room : (chan w j).count < 32
    room = start_room w st j k position note velocity p₀ ok some_data

    begun : event w (start position note velocity p₀) j ≡ b
    unfolding event done_to b
    begun = rw (done_at (call_judged w (start position note velocity p₀)) ok)

    made : chan (after w (start position note velocity p₀)) j ≡ act b (chan w j)
    made = next (start position note velocity p₀) ∙ ap (λ (e : Event). act e (chan w j)) begun

    pub takes : live (chan (after w (start position note velocity p₀)) j) ≡ live (chan w j) ++ (fresh_of p₀ position note velocity (moment_of (chan w j).head) ∷ [])
    unfolding b
    takes = ap live made ∙ taken p₀ position note velocity (chan w j) house some_data room

    module _ (cs : List Call) (r : list_any is_reset_call cs ≡ false) where
      es : List Event
      es = events (after w (start position note velocity p₀)) cs j

      ran : chan (run w (start position note velocity p₀ ∷ cs)) j ≡ acts (b ∷ es) (chan w j)
      unfolding run acts es
      ran =
          chan_run (after w (start position note velocity p₀)) (standing_after w (start position note velocity p₀) st) j (still (start position note velocity p₀)) cs
          ∙ ap (acts es) made

      first : (p : Params) (x : Float) (m : List ℕ) → (chan w j).head.now < last_time → (acts (b ∷ es) (chan w j)).head.now ≡ (chan w j).head.now
          → stopped_in es (act b (chan w j)) (length (live (chan w j))) ≡ false → empty_at m (acts (b ∷ es) (chan w j)) (born_of p₀ position note velocity (chan w j)) ≡ false
          → First p x m (acts (b ∷ es) (chan w j)) (length (live (chan w j))) (born_of p₀ position note velocity (chan w j))
      unfolding b is_reset is_sample es
      first p x m early same free full =
          let q = no_sample (b ∷ es) (chan w j) (events_reset (after w (start position note velocity p₀)) cs j r) early same in
          on_time p₀ position note velocity (chan w j) house some_data room es (events_reset (after w (start position note velocity p₀)) cs j r) q free p x m full

      sooner : (s : Call) (p : Params) (x : Float) (m : List ℕ) → event (run w (start position note velocity p₀ ∷ cs)) s j ≡ sounds p x m
          → (chan (run w (start position note velocity p₀ ∷ cs)) j).head.now ≡ (chan w j).head.now
          → stopped_in (events (after w (start position note velocity p₀)) cs j) (chan (after w (start position note velocity p₀)) j) (length (live (chan w j))) ≡ false
          → empty_at m (chan (run w (start position note velocity p₀ ∷ cs)) j) (born_of p₀ position note velocity (chan w j)) ≡ false
          → FirstIn (run w (start position note velocity p₀ ∷ cs)) s j p x m (length (live (chan w j)))
          (fresh_of p₀ position note velocity (moment_of (chan w j).head))
      unfolding es
      sooner s p x m h same free full =
          let cs' : List Call = start position note velocity p₀ ∷ cs in
          let v : World = run w cs' in
          let n : ℕ = length (live (chan w j)) in
          let st' : Standing v = standing_run w cs' st in
          let k' : j < v.sampler.count = omega (arith, (kept_run w cs').count) in
          let early = (heard v st' j k' p x m s h).early in
          let f : First p x m (chan v j) n (born_of p₀ position note velocity (chan w j))
          = subst (λ (c : Channel). First p x m c n (born_of p₀ position note velocity (chan w j))) (sym ran)
          (first p x m (omega arith) (ap (λ (c : Channel). c.head.now) (sym ran) ∙ same) (subst (λ (c : Channel). stopped_in es c n ≡ false) made free)
          (subst (λ (c : Channel). empty_at m c (born_of p₀ position note velocity (chan w j)) ≡ false) ran full)) in
          record { voice = f.voice; as_started = f.as_started; since = f.since; sounds = sounds_in v st' j k' s p x m h n f.voice f.sounds }

  -- ---- a voice that leaves
  leaves : (c : Call) (n : ℕ) (v : Voice) → voice_at (chan w j) n ≡ some v → is_reset_call c ≡ false → follow (event w c j) (chan w j) n ≡ gone
      → ((chan (after w c) j).count < (chan w j).count) × (full_of (chan (after w c) j) ≡ false)
  unfolding full_of
  leaves c n v s r g =
      let e = next c in
      let less : (chan (after w c) j).count < (chan w j).count
      = subst (λ (d : Channel). d.count < (chan w j).count) (sym e) (fewer (event w c j) (chan w j) house (event_reset w c j r) n v s g) in
      (less, rw (lt-leb 32 (chan (after w c) j).count (omega (arith, house.room))) (and-false (not (is_empty (chan (after w c) j)))))

  came : (c : Call) (u : Voice) (i : ℕ) → Came (event w c j) (chan w j) i ⊎ ((i ≡ length (live (chan w j))) × (added_by (event w c j) (chan w j) ≡ u ∷ []))
      → ((n : ℕ) × (v : Voice) × (voice_at (chan w j) n ≡ some v) × (follow (event w c j) (chan w j) n ≡ at i)) ⊎ ((i ≡ length (live (chan w j))) × (added_by (event w c j) (chan w j) ≡ u ∷ []))
  came c u i (inl r) = inl (r.place, r.voice, r.stood, r.follows)
  came c u i (inr r) = inr r

-- ---- the last call of a run
last_event : (w : World) (c : Call) (cs : List Call) (j : ℕ) → last_of (event w c j) (events (after w c) cs j) ≡ event (before w c cs) (final c cs) j
unfolding events before
last_event w c [] j = refl
last_event w c (d ∷ ds) j = last_event (after w c) d ds j

last_channel : (w : World) → Standing w → (c : Call) (cs : List Call) (j : ℕ) → j < w.sampler.count
    → chan (before w c cs) j ≡ before_last (event w c j) (events (after w c) cs j) (chan w j)
unfolding events before before_last
last_channel w st c [] j k = refl
last_channel w st c (d ∷ ds) j k =
    last_channel (after w c) (standing_after w c st) d ds j (omega (arith, (kept w c).count))
    ∙ ap (before_last (event (after w c) d j) (events (after (after w c) d) ds j)) (chan_after w st.two st.few j k c)

ends : (w : World) → Standing w → (j : ℕ) → j < w.sampler.count → (c : Call) (n : ℕ) (v : Voice) → voice_at (chan w j) n ≡ some v → finishes (event w c j) (chan w j) n ≡ true
    → (cs : List Call) (p : Params) (x : Float) (m : List ℕ) → event (before w c cs) (final c cs) j ≡ sounds p x m → empty_at m (chan (before w c cs) j) v ≡ false
    → (chan w j).head.now + max (decay_of (event w c j)) p.decay_samples ≤ (chan (before w c cs) j).head.now
    → follow_all (events w (c ∷ cs) j) (chan w j) n ≡ gone
unfolding events
ends w st j k c n v s f cs p x m h e l =
    let q = last_channel w st c cs j k in
    goes (event w c j) (events (after w c) cs j) (chan w j) (st.housing j k) n v s f p
    (record { input = x; memory = m; sample = last_event w c cs j ∙ h; finds = subst (λ (d : Channel). empty_at m d v ≡ false) q e })
    (subst (λ (d : Channel). (chan w j).head.now + max (decay_of (event w c j)) p.decay_samples ≤ d.head.now) q l)

-- ---- the call in which a voice leaves: the first, or one of those after it
left_on : (w : World) (c : Call) (cs : List Call) (j n : ℕ) (v : Voice) → voice_at (chan w j) n ≡ some v → chan (after w c) j ≡ act (event w c j) (chan w j)
    → (z : Place) → follow (event w c j) (chan w j) n ≡ z → onward z (λ (i : ℕ). follow_all (events (after w c) cs j) (act (event w c j) (chan w j)) i) ≡ gone
    → ((i : ℕ) → follow (event w c j) (chan w j) n ≡ at i → follow_all (events (after w c) cs j) (act (event w c j) (chan w j)) i ≡ gone → Leaves (after w c) j i cs)
    → Leaves w j n (c ∷ cs)
unfolding events follow_all run
left_on w c cs j n v s moved gone f g on = record { earlier = []; call = c; later = cs; split = refl; place = n; voice = v; follows = refl; stands = s; leaves = f }
left_on w c cs j n v s moved (at i) f g on =
    let l = on i f g in
    record {
      earlier = c ∷ l.earlier;
      call = l.call;
      later = l.later;
      split = ap (λ (ds : List Call). c ∷ ds) l.split;
      place = l.place;
      voice = l.voice;
      follows = ap (λ (z : Place). onward z (λ (i : ℕ). follow_all (events (after w c) l.earlier j) (act (event w c j) (chan w j)) i)) f
          ∙ ap (λ (d : Channel). follow_all (events (after w c) l.earlier j) d i) (sym moved)
          ∙ l.follows;
      stands = l.stands;
      leaves = l.leaves;
    }

left_in : (w : World) → Standing w → (j : ℕ) → j < w.sampler.count → (n : ℕ) (v : Voice) → voice_at (chan w j) n ≡ some v → (cs : List Call)
    → follow_all (events w cs j) (chan w j) n ≡ gone → Leaves w j n cs
unfolding events follow_all
left_in w st j k n v s [] g = absurd (gone_never n (sym g))
left_in w st j k n v s (c ∷ cs) g =
    let e : Event = event w c j in
    let moved : chan (after w c) j ≡ act e (chan w j) = next w st j k c in
    left_on w c cs j n v s moved (follow e (chan w j) n) refl g
    (λ i f h.
    left_in (after w c) (standing_after w c st) j (omega (arith, (kept w c).count)) i (becomes e (chan w j) n v)
    (subst (λ (d : Channel). voice_at d i ≡ some (becomes e (chan w j) n v)) (sym moved) (tracks e (chan w j) (st.housing j k) n i v s f)) cs
    (subst (λ (d : Channel). follow_all (events (after w c) cs j) d i ≡ gone) (sym moved) h))

-- ---- the whole
pub standing_demand3 : (w : World) → Standing w → (j : ℕ) → j < w.sampler.count → Demand3 w j
unfolding events
standing_demand3 w st j k = record {
  counts = counts w st j k;
  stands = λ cs r q. ap (λ (c : Channel). c.head.now) (chan_run w st j k cs) ∙ clock_stands (events w cs j) (chan w j) (events_reset w cs j r) q;
  does = next w st j k;
  hears = hears w st j k;
  on_time = λ position note velocity p₀ ok data₀ cs r s p x m h same free full. sooner w st j k position note velocity p₀ ok data₀ cs r s p x m h same free full;
  sounds_on = λ n v a u cs r f s p x m h e.
      let q = chan_run w st j k cs in
      let l = sounds_later (events w cs j) (chan w j) (house w st j k) (events_reset w cs j r) n v a u f p x m (subst (λ (d : Channel). empty_at m d v ≡ false) q e) in (
        l.place,
        l.voice,
        l.follows,
        sounds_in (run w cs) (standing_run w cs st) j (omega (arith, (kept_run w cs).count)) s p x m h l.place l.voice
            (subst (λ (d : Channel). Sounds p x m d l.place l.voice) (sym q) l.sounds),
      );
  stays = λ n v a u cs r g. stays (events w cs j) (chan w j) (house w st j k) (events_reset w cs j r) n v a u g;
  follows = λ c n i v s f. subst (λ (d : Channel). voice_at d i ≡ some (becomes (event w c j) (chan w j) n v)) (sym (next w st j k c)) (tracks (event w c j) (chan w j) (house w st j k) n i v s f);
  in_order = λ c i n a b u v o s r f g. ordered (event w c j) (chan w j) i n a b u v o s r f g;
  none_else = λ c i u s. came w st j k c u i (covered (event w c j) (chan w j) (house w st j k) i u (subst (λ (d : Channel). voice_at d i ≡ some u) (next w st j k c) s));
  goes = λ c n v s f cs p x m h e l. ends w st j k c n v s f cs p x m h e l;
  left_in = left_in w st j k;
  free = leaves w st j k;
  taken = λ position note velocity p ok data₀. takes w st j k position note velocity p ok data₀;
}

pub demand3 : (count : ℕ) (p : InitParams) (m : List ℕ) → set_up_number count (length m) ≡ 0 → (cs : List Call) (j : ℕ) → j < count → Demand3 (run (set_up count p m) cs) j
demand3 count p m ok cs j k =
    standing_demand3 (run (set_up count p m) cs) (standing_run (set_up count p m) cs (standing_new count p m)) j (omega (arith, count_kept count p m ok cs))
