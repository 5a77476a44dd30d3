-- The tests of `eases` are enough, and what `poured` then does is what it promises. Assumes nothing.
use mathlib.Core.Path.{◌≡◌, refl, sym, ap, ap₂, ◌∙◌, subst}
use Prim.Native.Nat.{ℕ, zero, suc, ◌+◌, ◌-◌, ◌^◌, ◌≤◌, ◌<◌}
use native.Mathlib.Nat.{le_trans, mul-le-mul_left}
use native.Mathlib.Omega.{arith}
use mathlib.Core.Bool.{Bool, true, false, not, ◌&&◌, ◌||◌, true≢false}
use mathlib.Core.List.{List}
use lib.Dec.{T, leb, eqb, leb→le, eqb→eq, lit≤}
use lib.Ieee.{Float, binary32, add, mul, lt}
use lib.Ieee.Bits.{is_true}
use lib.Ieee.Fits.{and_l, and_r}
use lib.ListN as ListN
use lib.ListN.{get_or}
use borrow.Author.Tests.{not-true, lt-ltb, ltb-true}
use Rattle.binary32.specs.Leaves.{as_float, as_whole, float_of}
use Rattle.binary32.specs.Wholes.{is_whole_in}
use Rattle.binary32.proofs.Truth.{yes}
use Rattle.binary32.proofs.Floors.{floor_cast}
use Rattle.binary32.proofs.Wholes.{float_is, cast_is, WholeIn, whole_in}
use Rattle.volume.specs.declared.Volume.{Volume}
use Rattle.volume.specs.declared.Volume.TheVariants.{Static, Linear}
use Rattle.volume.specs.Levels.{is_static_of, level_of, keeps_of}
use Rattle.clip.specs.declared.Clip.{Clip}
use Rattle.clip.specs.Positions.{elapsed_at, clip_offset_at, index_at, offset_at}
use Rattle.clip.specs.Updates.{same_all}
use Rattle.clip.specs.Plain.{plain_index}
use Rattle.clip.proofs.Offsets.{offset_fits}
use Rattle.voice.specs.declared.Voice.{Voice}
use Rattle.voice.specs.declared.Tick.{Tick}
use Rattle.plain_voice.specs.declared.Hot.{Hot}
use Rattle.plain_voice.specs.declared.Beat.{Beat}
use Rattle.plain_voice.specs.Hots.{beat_of, Agrees, Agreeing}
use Rattle.pours.specs.declared.Pouring.{Pouring}
use Rattle.pours.specs.declared.Fetched.{Fetched}
use Rattle.pours.specs.Eases.{EasesVoice, EasesAt, term_at, LastButOne, last_heard, moved_on, Added}
use Rattle.pours.specs.Pours.{Poured, judged_on}
use Rattle.pours.specs.Steady.{pace_of, may_go, Steady, SteadyAt, played_on, Lasts, sound_at, leveled, Places, Fetches, Gathers}
use Rattle.pours.proofs.Turns.{last_heard_on, on_of, glides_on, turns, poured}
use Rattle.pours.proofs.Easing.{sum_is, eases_steady, eases_lasts, played_on_lem, index_on, sounds_on, judged, place_on, moved_to}

-- ---- the tests
module _ (h : Hot) (v : Voice) (t : Tick) (b : Beat) (room n : ℕ) (few : n ≤ 2 ^ 24) where
  pub eases_told : (steady agrees whole : Bool) (by : Float) → steady ≡ is_static_of v.volume → Agreeing h v.clip2 t b (mul binary32 v.speed t.speed) (2 ^ 24 - n) agrees
      → whole ≡ is_whole_in 0 (2 ^ 24 - n) v.played → by ≡ as_float n
      → (h.plain && (not v.finished && (eqb v.phrase t.phrase && (leb 1 n && (leb b.total room && (steady && (leb v.clip2.since t.now && (agrees && (whole && (not t.once || lt (add binary32 v.played by) t.span.whole_length))))))))))
      ≡ true → b ≡ beat_of t → EasesAt h v t b room n
  eases_told steady agrees whole by steady_is agreed whole_is by_is told is =
      let u : Bool = not v.finished in
      let o : Bool = eqb v.phrase t.phrase in
      let s : Bool = leb 1 n in
      let r : Bool = leb b.total room in
      let g : Bool = leb v.clip2.since t.now in
      let l : Bool = not t.once || lt (add binary32 v.played by) t.span.whole_length in
      let h₁ = and_r h.plain _ (yes told) in
      let h₂ = and_r u _ h₁ in
      let h₃ = and_r o _ h₂ in
      let h₄ = and_r s _ h₃ in
      let h₅ = and_r r _ h₄ in
      let h₆ = and_r steady _ h₅ in
      let h₇ = and_r g _ h₆ in
      let h₈ = and_r agrees _ h₇ in
      let some : 1 ≤ n = leb→le 1 n (and_l s _ h₃) in
      let agree = agreed (is_true agrees (and_l agrees _ h₇)) is in
      let played : WholeIn 0 (2 ^ 24 - n) v.played = whole_in 0 (2 ^ 24 - n) v.played (subst T whole_is (and_l whole l h₈)) in
      let small : as_whole 64 v.played + n ≤ 2 ^ 24 = omega (arith, played.top, few) in
      let sum : add binary32 v.played by ≡ as_float (as_whole 64 v.played + n) =
      ap (add binary32 v.played) by_is ∙ sum_is (as_whole 64 v.played) n played.is (float_is n few) small (omega (arith, some)) in
      record {
        plain = is_true h.plain (and_l h.plain _ (yes told));
        some = some;
        eases = record {
          own = eqb→eq v.phrase t.phrase (and_l o _ h₂);
          unfinished = not-true v.finished (is_true u (and_l u _ h₁));
          steady = sym steady_is ∙ is_true steady (and_l steady _ h₅);
          same = agree.same;
          profile = agree.profile;
          inside = agree.inside;
          sharp = agree.sharp;
          begun = leb→le v.clip2.since t.now (and_l g _ h₆);
          early = omega (arith, agree.early, few);
          played = played.is;
          few = small;
          lasts = λ once. subst (λ (x : Float). T (lt x t.span.whole_length)) sum (last t.once once (lt (add binary32 v.played by) t.span.whole_length) (and_r whole l h₈));
        };
        held = leb→le b.total room (and_l r _ h₄);
        place = agree.place;
        stands = agree.stands;
      }
    where
      last : (once : Bool) → once ≡ true → (below : Bool) → T (not once || below) → T below
      last true on below k = k
      last false on below k = absurd (true≢false (sym on))

-- a level that goes on at a time does so before
keeps_before : (v : Volume) (a b : ℕ) → a ≤ b → keeps_of v b ≡ true → keeps_of v a ≡ true
unfolding keeps_of
keeps_before (Static x) a b h k = refl
keeps_before (Linear c d x y) a b h k = lt-ltb a d (omega (arith, h, ltb-true b d k))

pub steady_told : (v : Voice) (t : Tick) (n : ℕ) → 1 ≤ n → n ≤ 2 ^ 24 → t.now ≤ 2 ^ 62 → (goes keeps same : Bool) → goes ≡ may_go t.note_off_behavior v → keeps ≡ keeps_of v.volume (t.now + (n - 1)) → same ≡ same_all v.clip2 t.span.length (pace_of t v) t.span.data_length t.mode
    → (not goes && (eqb v.phrase t.phrase && (not t.interpolates && (keeps && same)))) ≡ true → SteadyAt t n v
steady_told v t n some few early goes keeps same goes_is keeps_is same_is told =
    let u : Bool = not goes in
    let o : Bool = eqb v.phrase t.phrase in
    let s : Bool = not t.interpolates in
    let h₁ = and_r u _ (yes told) in
    let h₂ = and_r o _ h₁ in
    let h₃ = and_r s _ h₂ in
    record {
      steady = record {
        own = eqb→eq v.phrase t.phrase (and_l o _ h₁);
        stays = sym goes_is ∙ not-true goes (is_true u (and_l u _ (yes told)));
        sharp = not-true t.interpolates (is_true s (and_l s _ h₂));
        same = sym same_is ∙ is_true same (and_r keeps same h₃);
        keeps = λ k below. keeps_before v.volume (t.now + k) (t.now + (n - 1)) (omega (arith, below)) (sym keeps_is ∙ is_true keeps (and_l keeps same h₃));
      };
      some = some;
      few = few;
      early = early;
    }

-- ---- the position of one that eases agrees
pub agrees_so : {h : Hot} {v : Voice} {t : Tick} {b : Beat} {room n : ℕ} → EasesAt h v t b room n → Agrees h v.clip2 t b (pace_of t v) (2 ^ 24 - n)
agrees_so E =
    let e = E.eases in
    record { same = e.same; profile = e.profile; inside = e.inside; sharp = e.sharp; early = omega (arith, e.early); place = E.place; stands = E.stands }

-- its laps and the samples to come are few
pub laps_few : {h : Hot} {c : Clip} {t : Tick} {b : Beat} {speed : Float} {n : ℕ} → Agrees h c t b speed (2 ^ 24 - n) → n ≤ 2 ^ 24 → h.lap + n ≤ 2 ^ 24
laps_few {h} a few = omega (arith, a.stands, a.early, few, mul-le-mul_left h.lap a.profile.length_low)

-- ---- what is promised of any steady voice
module _ (h : Hot) (v : Voice) (t : Tick) (m : List ℕ) (before after : List Float) where
  pub steadily : (n : ℕ) → 1 ≤ n → Steady t n v → Lasts t n v → n ≤ ListN.length before → (term : ℕ → Float) → ((k : ℕ) → k < n → term k ≡ sound_at m v.clip2 v.volume (t.now + k))
      → (index : ℕ) (value last played : Float) (r : Pouring) → index ≡ index_at v.clip2 (t.now + (n - 1)) → value ≡ term (n - 1) → LastButOne v.last_sample_value term n last
      → played ≡ played_on (pace_of t v) v.played n → r.voice ≡ last_heard v index value last played → r.hot ≡ judged_on t m n v h → Added term 0 n before after → Poured h v t m n before after r
  unfolding last_heard_on
  steadily zero some s l room term is index value last played r index_is value-is last-is played_is voice_is hot_is added = absurd (omega (arith, some))
  steadily (suc n) some s l room term is index value last played r index_is value-is last-is played_is voice_is hot_is added =
      record {
        own = s.own;
        glides = glides_on m (suc n) s l;
        voice = voice_is ∙ heard ∙ sym (turns m n s l);
        hot = hot_is;
        sums = poured m (suc n) s l term is before after room added;
      }
    where
      at : index ≡ index_at v.clip2 (t.now + n)
      at = index_is ∙ ap (λ (k : ℕ). index_at v.clip2 (t.now + k)) (omega arith)

      sounded : value ≡ sound_at m v.clip2 v.volume (t.now + n)
      sounded = value-is ∙ ap term (omega arith) ∙ is n (omega arith)

      last_on : (k : ℕ) → k ≤ n → LastButOne v.last_sample_value term (suc k) last → last ≡ last_heard_on m t v k
      last_on zero few l = l.first (omega arith)
      last_on (suc k) few l = l.later (omega arith) ∙ ap term (omega arith) ∙ is k (omega (arith, few))

      heard : last_heard v index value last played ≡ on_of m t n v
      heard =
          ap₂ (λ (i : ℕ) (x : Float). last_heard v i x last played) at sounded
          ∙ ap₂ (last_heard v (index_at v.clip2 (t.now + n)) (sound_at m v.clip2 v.volume (t.now + n))) (last_on n (omega arith) last-is) played_is

-- the position after n turns, of a voice whose position agrees
pub moves : (m : List ℕ) (h : Hot) (v : Voice) (t : Tick) (b : Beat) (n : ℕ) → h.plain ≡ true → 1 ≤ n → n ≤ 2 ^ 24 → v.clip2.since ≤ t.now → Agrees h v.clip2 t b (pace_of t v) (2 ^ 24 - n)
    → Steady t n v → Lasts t n v → moved_on h n b.length ≡ judged_on t m n v h
moves m h v t b zero plain some few begun a s l = absurd (omega (arith, some))
moves m h v t b (suc n) plain some few begun a s l =
    let p = a.profile in
    moved_to h (elapsed_at v.clip2 t.now) b.length a.stands v.clip2
    (cast_is b.length (le_trans p.length_top (lit≤ tt)) p.length_is) (cast_is h.start (le_trans p.start_top (lit≤ tt)) p.start_is) p.length_low (suc n)
    ∙ sym (judged m n v.clip2 h plain refl p a.inside begun (omega (arith, a.early, few)) s l)

-- ---- by what is gathered
whole_index : (c : Clip) (now : ℕ) → as_whole 64 (offset_at c now) ≡ index_at c now
unfolding index_at
whole_index c now = sym (floor_cast 64 (offset_at c now) (offset_fits c now))

module _ (m : List ℕ) (t : Tick) (n : ℕ) (v : Voice) where
  pub gathered : (before after : List ℕ) (f : Fetched) → 1 ≤ n → Lasts t n v → Places v.clip2 t.now n before → Fetches m v.played (pace_of t v) n before after f → Gathers m t n v after f
  unfolding offset_at clip_offset_at
  gathered before after f some lasts o F = record {
    recorded = λ k h. F.values k h ∙ ap (λ (i : ℕ). get_or m i 0) (at k h);
    index = F.index (n - 1) (omega (arith, some)) ∙ at (n - 1) (omega (arith, some));
    far = F.far;
    lasts = lasts;
  }
    where
      at : (k : ℕ) → k < n → get_or before k 0 ≡ index_at v.clip2 (t.now + k)
      at k h = o k h ∙ whole_index v.clip2 (t.now + k)

  pub sounds : (values : List ℕ) (g : Fetched) → Gathers m t n v values g → (k : ℕ) → k < n → leveled values v.volume t.now k ≡ sound_at m v.clip2 v.volume (t.now + k)
  sounds values g G k h = ap (λ (x : ℕ). mul binary32 (float_of x) (level_of v.volume (t.now + k))) (G.recorded k h)

-- ---- and of one that eases by whole numbers
module _ (h : Hot) (v : Voice) (t : Tick) (b : Beat) (m : List ℕ) (before after : List Float) (level : Float) (level_is : level ≡ level_of v.volume t.now) where
  abbrev term : ℕ → Float
  term k = term_at m level (plain_index h.start b.length b.total (h.place + k))

  pub promised : (n : ℕ) → EasesAt h v t b (ListN.length m) n → n ≤ ListN.length before → (index : ℕ) (value last played : Float) (r : Pouring)
      → index ≡ plain_index h.start b.length b.total (h.place + (n - 1)) → value ≡ term_at m level index → LastButOne v.last_sample_value term n last
      → played ≡ add binary32 v.played (as_float n) → r.voice ≡ last_heard v index value last played → r.hot ≡ moved_on h n b.length → Added term 0 n before after → Poured h v t m n before after r
  promised n E room index value last played r index_is value-is last-is played_is voice_is hot_is added =
      steadily h v t m before after n E.some (eases_steady eases) (eases_lasts eases) room term
      (λ k below. ap (term_at m level) (on k) ∙ sounds_on eases m level level_is k below)
      index value last played r
      (index_is ∙ on (n - 1) ∙ sym (index_on eases (n - 1) (omega (arith, E.some))))
      (value-is ∙ ap (term_at m level) index_is) last-is (played_is ∙ far n E.some eases) voice_is
      (hot_is ∙ moves m h v t b n E.plain E.some (omega (arith, eases.few)) eases.begun (agrees_so E) (eases_steady eases) (eases_lasts eases))
      added
    where
      eases : EasesVoice t h.start b.length b.total (as_whole 64 v.played) n v
      eases = E.eases

      on : (k : ℕ) → plain_index h.start b.length b.total (h.place + k) ≡ plain_index h.start b.length b.total (elapsed_at v.clip2 t.now + k)
      on k = place_on h (elapsed_at v.clip2 t.now) b.length E.stands h.start b.total k

      far : (n : ℕ) → 1 ≤ n → EasesVoice t h.start b.length b.total (as_whole 64 v.played) n v → add binary32 v.played (as_float n) ≡ played_on (pace_of t v) v.played n
      far zero some e = absurd (omega (arith, some))
      far (suc n) some e = sum_is (as_whole 64 v.played) (suc n) e.played (float_is (suc n) (omega (arith, e.few))) e.few (omega arith) ∙ sym (played_on_lem e n (omega arith))
