-- The second engine has exactly the voices that request 9/12 says, over any calls. Assumes nothing.
use mathlib.Core.Path.{◌≡◌, refl, sym, ap, ◌∙◌, subst}
use mathlib.Core.Bool.{Bool, true, false, not, ◌&&◌, cond, true≢false}
use mathlib.Core.List.{List, [], ◌∷◌}
use mathlib.Core.Option.{Option, some}
use Prim.Native.Nat.{ℕ, ◌+◌, ◌<◌}
use native.Mathlib.Omega.{arith}
use lib.ListN.{length, get_or, get_elem?}
use lib.Seq.{get_or-take}
use lib.Ieee.{Float}
use Rattle.refusals.proofs.Codes.{done_at}
use Rattle.walks.proofs.Tests.{and-true, and_assoc}
use Rattle.walks.proofs.Lists.Looks.{look_below, look-value, look_last}
use Rattle.common_types.specs.declared.Params.{Params}
use Rattle.common_types.specs.declared.Note.{Note}
use Rattle.clip.specs.declared.Clip.{Clip}
use Rattle.clip.specs.Positions.{elapsed_at}
use Rattle.clip.specs.Plain.{plain_at}
use Rattle.voice.specs.declared.Voice.{Voice}
use Rattle.voice.specs.Voices.{blank_voice, fresh_of}
use Rattle.plain_voice.specs.declared.Hot.{Hot}
use Rattle.plain_voice.specs.Hots.{cold, plays_plain, hot_after, hot_at, judged_of}
use Rattle.plain_voice.proofs.Exactly.{exactly}
use Rattle.channel.specs.declared.Channel.{Channel}
use Rattle.channel.specs.declared.Change.TheVariants.{Start}
use Rattle.channel.specs.Channels.{live}
use Rattle.plain_channel.specs.declared.Side.{Side}
use Rattle.plain_channel.specs.Sides.{taken_at}
use Rattle.plain_sampler.specs.declared.Backing.{Backing}
use Rattle.plain_sampler.specs.Backings.{side_at}
use Rattle.fates.specs.Engine.{born_of, turns_in}
use Rattle.fates.specs.Events.{Event, idle, changes, gathers, sounds, act, setting_after, is_reset, is_sample}
use Rattle.fates.specs.Places.{Housed, Place, at, gone, voice_at, follow, follow_all, becomes, onward}
use Rattle.fates.proofs.Lives.{live_length}
use Rattle.fates.proofs.Clocks.{setting_after_lem, clock_still}
use Rattle.fates.proofs.Tracks.{at_same, gone_never, tracks}
use Rattle.promises.specs.Runs.{World, Call, start, code, after, chan, done_to, event, events, call_judged}
use Rattle.promises.specs.Demands.{is_empty}
use Rattle.promises.proofs.Calls.{Standing, standing_after}
use Rattle.promises.proofs.Accepted.{start_room}
use Rattle.promises.proofs.Demand3.{house, next, still, takes}
use Rattle.plain_promises.specs.Backed.{beside_after, beside_run}
use Rattle.plain_promises.specs.Members.{Shaped, hot_in, plain_in, held_of, holds, there, holds_in, Members}
use Rattle.plain_promises.proofs.Shapes.{shaped_after}
use Rattle.plain_promises.proofs.Turned.{sounded_hot}
use Rattle.plain_promises.proofs.Calls.{taken_own, change_side, sounds_side, quiet_hot}

-- ---- a position that is judged
module _ (h : Hot) (smooth : Bool) (c : Clip) (now : ℕ) where
  judged_plain : (judged_of h smooth c now).plain ≡ (h.plain && plays_plain smooth c now)
  unfolding judged_of hot_after cold
  judged_plain = go h.plain refl (plays_plain smooth c now)
    where
      go : (a : Bool) → h.plain ≡ a → (b : Bool) → (cond a (cond b (hot_after c (elapsed_at c now + 1)) cold) h).plain ≡ (a && b)
      go true e true = refl
      go true e false = refl
      go false e b = e

  judged_stands : (judged_of h smooth c now).plain ≡ true → judged_of h smooth c now ≡ hot_after c (elapsed_at c now + 1)
  unfolding judged_of cold
  judged_stands z = go h.plain refl (plays_plain smooth c now) z
    where
      go : (a : Bool) → h.plain ≡ a → (b : Bool) → (cond a (cond b (hot_after c (elapsed_at c now + 1)) cold) h).plain ≡ true
          → cond a (cond b (hot_after c (elapsed_at c now + 1)) cold) h ≡ hot_after c (elapsed_at c now + 1)
      go true e true z = refl
      go true e false z = absurd (true≢false (sym z))
      go false e b z = absurd (true≢false (sym z ∙ e))

module _ (w : World) (st : Standing w) (j : ℕ) (here : j < w.sampler.count) where
  below : j < 2
  below = omega (arith, here, st.few)

  long : length (live (chan w j)) ≡ (chan w j).count
  long = live_length (chan w j) (house w st j here)

  -- ---- a start
  module _ (position : Float) (note : Note) (velocity : Float) (p : Params) (ok : code w (start position note velocity p) ≡ 0) (some_data : is_empty (chan w j) ≡ false) where
    abbrev b : Call
    b = start position note velocity p

    abbrev c : Channel
    c = chan w j

    abbrev d : Channel
    d = chan (after w b) j

    abbrev n : ℕ
    n = length (live c)

    abbrev born : Voice
    born = born_of p position note velocity c

    moved : d ≡ act (changes (Start p position note velocity)) c
    unfolding event done_to
    moved = next w st j here b ∙ ap (λ (e : Event). act e c) (rw (done_at (call_judged w b) ok) refl)

    stands : voice_at d n ≡ some born
    stands = subst (λ (l : List Voice). get_elem? l n ≡ some born) (sym (takes w st j here position note velocity p ok some_data)) (look_last (live c) born)

    housed_on : Housed d
    housed_on = house (after w b) (standing_after w b st) j (still w st j here b)

    room : n < d.count
    room = omega (arith, look_below (live d) n born stands, live_length d housed_on)

    same_setting : d.head.interpolates ≡ c.head.interpolates
    unfolding setting_after
    same_setting = ap (λ (x : Channel). x.head.interpolates) moved ∙ setting_after_lem (changes (Start p position note velocity)) c

    same_clock : d.head.now ≡ c.head.now
    unfolding is_reset is_sample
    same_clock = ap (λ (x : Channel). x.head.now) moved ∙ clock_still (changes (Start p position note velocity)) c refl refl

    born_there : get_or d.voices n blank_voice ≡ born
    born_there = sym (get_or-take d.count d.voices n blank_voice room) ∙ look-value (live d) n born blank_voice stands

    new : elapsed_at born.clip2 c.head.now ≡ 0
    unfolding fresh_of
    new = omega arith

    taken_hot : (k : Backing) → Shaped k → hot_in (beside_after w b k) j n ≡ hot_at c.head.interpolates born.clip2 c.head.now
    unfolding beside_after after
    taken_hot k sh =
        ap (λ (s : Side). get_or s.hots n cold) (change_side w.sampler (Start p position note velocity) k sh.two j below ∙ ap (λ (i : ℕ). taken_at d i (side_at k j)) (sym long))
        ∙ taken_own d n (side_at k j) room (omega (arith, long, start_room w st j here position note velocity p ok some_data)) (sh.places j)
        ∙ (λ t. hot_at (same_setting t) (born_there t).clip2 (same_clock t))

    taken_exactly : (k : Backing) → Shaped k → plain_in (beside_after w b k) j n ≡ (not c.head.interpolates && plain_at born.clip2 c.head.now)
    taken_exactly k sh = ap (λ (x : Hot). x.plain) (taken_hot k sh) ∙ (exactly born.clip2 c.head.interpolates c.head.now).taken new

  module _ (k : Backing) (sh : Shaped k) where
    -- ---- what is no sample
    left : (c : Call) → is_sample (event w c j) ≡ false → (n : ℕ) → n < length (live (chan w j)) → hot_in (beside_after w c k) j n ≡ hot_in k j n
    left c q n l = quiet_hot w k sh.two j below c q n (omega (arith, l, long))

    -- ---- a sample
    module _ (s : Call) (p : Params) (x : Float) (m : List ℕ) (sample : event w s j ≡ sounds p x m) (n i : ℕ) (v : Voice) (stands : voice_at (chan w j) n ≡ some v)
        (follows : follow (event w s j) (chan w j) n ≡ at i) where
      abbrev turned : Clip
      turned = ((turns_in p x m (chan w j)).turn v).clip2

      abbrev smooth : Bool
      smooth = (chan w j).head.interpolates

      abbrev now : ℕ
      now = (chan w j).head.now

      judged : hot_in (beside_after w s k) j i ≡ judged_of (hot_in k j n) smooth turned now
      judged =
          ap (λ (r : Side). get_or r.hots i cold) (sounds_side w k sh.two j below p x m s sample)
          ∙ sounded_hot p x m (chan w j) (house w st j here) (side_at k j) (sh.places j) n i v stands (subst (λ (e : Event). follow e (chan w j) n ≡ at i) sample follows)

      kept_plain : plain_in (beside_after w s k) j i ≡ (plain_in k j n && plays_plain smooth turned now)
      kept_plain = ap (λ (h : Hot). h.plain) judged ∙ judged_plain (hot_in k j n) smooth turned now

      stands_at : plain_in (beside_after w s k) j i ≡ true → hot_in (beside_after w s k) j i ≡ hot_after turned (elapsed_at turned now + 1)
      stands_at z = judged ∙ judged_stands (hot_in k j n) smooth turned now (sym (ap (λ (h : Hot). h.plain) judged) ∙ z)

    -- ---- one call
    step : (c : Call) (n i : ℕ) (v : Voice) → voice_at (chan w j) n ≡ some v → follow (event w c j) (chan w j) n ≡ at i
        → plain_in (beside_after w c k) j i ≡ (plain_in k j n && holds (event w c j) (chan w j) n)
    unfolding holds held_of follow is_sample
    step c n i v s f = go (event w c j) refl
      where
        -- it stays where it is, and its position too
        same : (e : Event) → event w c j ≡ e → is_sample e ≡ false → at n ≡ at i → plain_in (beside_after w c k) j i ≡ (plain_in k j n && true)
        same e is q z =
            ap (λ (y : ℕ). plain_in (beside_after w c k) j y) (sym (at_same n i z))
            ∙ ap (λ (h : Hot). h.plain) (left c (ap is_sample is ∙ q) n (look_below (live (chan w j)) n v s))
            ∙ and-true (plain_in k j n)

        resets : (e : Event) → event w c j ≡ e → is_sample e ≡ false → (b : Bool) → cond b gone (at n) ≡ at i → plain_in (beside_after w c k) j i ≡ (plain_in k j n && true)
        resets e is q true z = absurd (gone_never i z)
        resets e is q false z = same e is q z

        go : (e : Event) → event w c j ≡ e → plain_in (beside_after w c k) j i ≡ (plain_in k j n && holds e (chan w j) n)
        go idle is = same idle is refl (subst (λ (e : Event). follow e (chan w j) n ≡ at i) is f)
        go (changes d) is = resets (changes d) is refl (is_reset (changes d)) (subst (λ (e : Event). follow e (chan w j) n ≡ at i) is f)
        go (gathers m) is = same (gathers m) is refl (subst (λ (e : Event). follow e (chan w j) n ≡ at i) is f)
        go (sounds p x m) is = kept_plain c p x m is n i v s f ∙ ap (λ (o : Option Voice). plain_in k j n && held_of p x m (chan w j) o) (sym s)

-- ---- over calls
throughout : (w : World) → Standing w → (j : ℕ) → j < w.sampler.count → (k : Backing) → Shaped k → (cs : List Call) (n i : ℕ) (v : Voice) → voice_at (chan w j) n ≡ some v
    → follow_all (events w cs j) (chan w j) n ≡ at i → plain_in (beside_run w cs k) j i ≡ (plain_in k j n && holds_in (events w cs j) (chan w j) n)
unfolding beside_run events follow_all holds_in
throughout w st j here k sh [] n i v s f = ap (plain_in k j) (sym (at_same n i f)) ∙ and-true (plain_in k j n)
throughout w st j here k sh (c ∷ cs) n i v s f =
    let e = event w c j in
    let rest = events (after w c) cs j in
    let moved = next w st j here c in
    go (follow e (chan w j) n) refl f
    (λ y q f.
    throughout (after w c) (standing_after w c st) j (still w st j here c) (beside_after w c k) (shaped_after w c k sh) cs y i (becomes e (chan w j) n v)
    (subst (λ (d : Channel). voice_at d y ≡ some (becomes e (chan w j) n v)) (sym moved) (tracks e (chan w j) (house w st j here) n y v s q)) (subst (λ (d : Channel). follow_all rest d y ≡ at i) (sym moved) f)
    ∙ (λ t. step w st j here k sh c n y v s q t && holds_in rest (moved t) y)
    ∙ and_assoc (plain_in k j n) (holds e (chan w j) n) (holds_in rest (act e (chan w j)) y))
  where
    after_all : Bool
    after_all = plain_in (beside_run (after w c) cs (beside_after w c k)) j i

    later : Place → Bool
    later z = plain_in k j n && (holds (event w c j) (chan w j) n && there z (λ (y : ℕ). holds_in (events (after w c) cs j) (act (event w c j) (chan w j)) y))

    ends : Place → Place
    ends z = onward z (λ (y : ℕ). follow_all (events (after w c) cs j) (act (event w c j) (chan w j)) y)

    go : (z : Place) → follow (event w c j) (chan w j) n ≡ z → ends z ≡ at i
        → ((y : ℕ) → follow (event w c j) (chan w j) n ≡ at y → ends (at y) ≡ at i → after_all ≡ later (at y)) → after_all ≡ later z
    go gone q f on = absurd (gone_never i f)
    go (at y) q f on = on y q f

pub members : (w : World) → Standing w → (j : ℕ) → j < w.sampler.count → (k : Backing) → Shaped k → Members w k j
members w st j here k sh = record {
  taken_exactly = λ position note velocity p ok some_data. taken_exactly w st j here position note velocity p ok some_data k sh;
  left = left w st j here k sh;
  kept_exactly = λ s p x m e n i v z f early.
      ap (λ (h : Hot). h.plain) (judged w st j here k sh s p x m e n i v z f) ∙ (exactly (turned w st j here k sh s p x m e n i v z f) (chan w j).head.interpolates (chan w j).head.now).kept (hot_in k j n) early;
  handed_back_at = λ s p x m e n i v z f late.
      ap (λ (h : Hot). h.plain) (judged w st j here k sh s p x m e n i v z f) ∙ (exactly (turned w st j here k sh s p x m e n i v z f) (chan w j).head.interpolates (chan w j).head.now).handed_back (hot_in k j n) late;
  position = stands_at w st j here k sh;
  throughout = throughout w st j here k sh;
}
