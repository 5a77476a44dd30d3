-- What an accepted call tells: a start, that no channel in use is full; a sample of channel j, that its clock isn't at its end, and what its output is. Assumes nothing.
use mathlib.Core.Path.{◌≡◌, refl, sym, ap, ◌∙◌, subst}
use mathlib.Core.Bool.{Bool, true, false, not, ◌&&◌, cond}
use mathlib.Core.List.{List, [], ◌∷◌}
use Prim.Native.Nat.{ℕ, zero, suc, ◌+◌, ◌*◌, ◌≤◌, ◌<◌}
use native.Mathlib.Nat.{le_trans, le_of_eq, mul-le-mul_right, suc-mul}
use native.Mathlib.Omega.{arith}
use borrow.Author.Tests.{leb-false, eqb-true, ltb-true}
use lib.Dec.{T, leb, eqb, ltb}
use lib.ListN.{length, take, get_or}
use lib.Seq.{length-take-le, get_or-take}
use lib.Ieee.{Float, binary32, mul}
use Rattle.std.specs.List.{list_any}
use Rattle.std.specs.Prelude.{Ok, is_ok}
use Rattle.refusals.specs.declared.Refusal.TheVariants.{NoChannel, BadNote, BadPosition, BeyondLimits, Full, ClockEnd, Broken}
use Rattle.refusals.proofs.Codes.{zero_at, passed}
use Rattle.common_types.specs.declared.Params.{Params}
use Rattle.common_types.specs.declared.Note.{Note}
use Rattle.common_types.specs.Settings.{beyond_limits}
use Rattle.binary32.specs.Leaves.{zero32}
use Rattle.voice.specs.Soundness.{FittingParams}
use Rattle.channel.specs.declared.Channel.{Channel}
use Rattle.channel.specs.declared.Change.{Change}
use Rattle.channel.specs.declared.Ask.TheVariants.{Voice}
use Rattle.channel.specs.Heads.{last_time}
use Rattle.channel.specs.Tables.{asks_of}
use Rattle.channel.specs.Channels.{channel_of, full_of}
use Rattle.channel.specs.Channels.{process_sample_of as channel_sample_of}
use Rattle.sampler.specs.declared.Sampler.{Sampler}
use Rattle.sampler.specs.Refusals.{present, channel_at, good_sampler, good_with, no_channel, bad_note, bad_position, any_full, against_any, at_end, start_rows, sample_judged, sample_number, frame_judged, frame_number}
use Rattle.sampler.specs.Samplers.{part_of, played_at, output_of, process_sample_of, framed, entries_of, framed_of}
use Rattle.sampler.proofs.Rows.{frame_steps}
use Rattle.sampler.proofs.Against.{against_voice}
use Rattle.sampler.proofs.Entries.{sample_reaches, frame_reaches}
use Rattle.fates.specs.Events.{idle, changes, gathers, sounds}
use Rattle.promises.specs.Runs.{World, Call, change, start, sample, frame, read_wave, gather, asks, call_judged, code, chan, done_to, event, output, FittingCall}
use Rattle.walks.proofs.Tests.{neither}
use Rattle.promises.proofs.Apart.{frame_output}
use Rattle.promises.proofs.Calls.{Standing}

-- ---- none of a list
module _ {A : Type 0} (p : A → Bool) where
  pub any_at : (l : List A) (j : ℕ) (d : A) → list_any p l ≡ false → j < length l → p (get_or l j d) ≡ false
  any_at [] j d h k = absurd (omega arith)
  any_at (x ∷ xs) zero d h k = (neither (p x) (list_any p xs) h).0
  any_at (x ∷ xs) (suc j) d h k = any_at xs j d (neither (p x) (list_any p xs) h).1 (omega arith)

  pub any_none : (l : List A) (d : A) → ((j : ℕ) → j < length l → p (get_or l j d) ≡ false) → list_any p l ≡ false
  any_none [] d h = refl
  any_none (x ∷ xs) d h = rw (h 0 (omega arith)) (any_none xs d (λ j k. h (suc j) (omega arith)))

  pub any_front : (l : List A) (n j : ℕ) (d : A) → list_any p (take n l) ≡ false → j < n → n ≤ length l → p (get_or l j d) ≡ false
  any_front l n j d h a b = ap p (sym (get_or-take n l j d a)) ∙ any_at (take n l) j d h (omega (arith, length-take-le n l b))

-- ---- a start
start_fits : (w : World) (position : Float) (note : Note) (velocity : Float) (p : Params) → code w (start position note velocity p) ≡ 0 → any_full w.sampler ≡ false
unfolding call_judged start_rows asks_of
start_fits w position note velocity p h =
    sym (against_voice w.sampler) ∙ (passed (against_any Voice w.sampler).blocked Full (Ok tt) (passed (beyond_limits p) BeyondLimits _ (passed (bad_position position) BadPosition _ (passed (bad_note note) BadNote _ (passed (not (good_sampler w.sampler)) Broken _ h).1).1).1).1).0

pub start_room : (w : World) → Standing w → (j : ℕ) → j < w.sampler.count → (position : Float) (note : Note) (velocity : Float) (p : Params)
    → code w (start position note velocity p) ≡ 0 → eqb (chan w j).head.data_len 0 ≡ false → (chan w j).count < 32
unfolding full_of
start_room w s j h position note velocity p k e =
    let f : full_of (chan w j) ≡ false = any_front full_of w.sampler.channels w.sampler.count j _ (start_fits w position note velocity p k) h (omega (arith, s.two, s.few)) in
    leb-false 32 (chan w j).count (subst (λ (b : Bool). (not b && leb 32 (chan w j).count) ≡ false) e f)

pub start_opens : (w : World) → Standing w → (position : Float) (note : Note) (velocity : Float) (p : Params) → good_sampler w.sampler ≡ true → bad_note note ≡ false → bad_position position ≡ false
    → beyond_limits p ≡ false → ((j : ℕ) → j < w.sampler.count → full_of (chan w j) ≡ false) → code w (start position note velocity p) ≡ 0
unfolding call_judged start_rows asks_of
start_opens w s position note velocity p g a b c f =
    let none : Channel = channel_of (record { auto_passthru = false }) in
    let l : length (present w.sampler) ≡ w.sampler.count = length-take-le w.sampler.count w.sampler.channels (omega (arith, s.two, s.few)) in
    let e : (against_any Voice w.sampler).blocked ≡ false
    = against_voice w.sampler ∙ any_none full_of (present w.sampler) none
    (λ j k. ap full_of (get_or-take w.sampler.count w.sampler.channels j none (omega arith)) ∙ f j (omega arith)) in
    rw (g, a, b, c, e)

-- ---- a sample of channel j
sample_early : (s : Sampler) (j : ℕ) (p : Params) (size : ℕ) → sample_number s j p size ≡ 0 → at_end (channel_at s j) ≡ false
unfolding sample_judged
sample_early s j p size h =
    (passed (at_end (channel_at s j)) ClockEnd (Ok tt) (passed (beyond_limits p) BeyondLimits _ (passed (no_channel s j) NoChannel _ (passed (not (good_with s size)) Broken _ h).1).1).1).0

frame_early : (s : Sampler) (n : ℕ) (p : Params) (size : ℕ) → frame_number s n p size ≡ 0 → list_any at_end (take n s.channels) ≡ false
unfolding frame_judged
frame_early s n p size h =
    (passed (list_any at_end (take n s.channels)) ClockEnd (Ok tt) (passed (beyond_limits p) BeyondLimits _ (passed (ltb s.count n) NoChannel _ (passed (not (good_with s size)) Broken _ h).1).1).1).0

pub record Heard (w : World) (c : Call) (j : ℕ) (p : Params) (x : Float) (m : List ℕ) : Type 0 where
  pub early : (chan w j).head.now < last_time
  pub within : T (not (beyond_limits p))
  pub room : j * w.sampler.capacity + w.sampler.capacity ≤ length w.memory
  pub part : m ≡ part_of w.sampler j w.memory
  pub floats : FittingCall c → FittingParams p
  pub output : output w c j ≡ mul binary32 p.volume (channel_sample_of p x (chan w j) m).output

module _ (p : Params) (x : Float) (m : List ℕ) where
  not_idle : idle ≡ sounds p x m → ⊥
  not_idle h = let z : ◌≡◌ {A = ℕ} 0 1 = cc in omega arith

  not_change : (d : Change) → changes d ≡ sounds p x m → ⊥
  not_change d h = let z : ◌≡◌ {A = ℕ} 0 1 = cc in omega arith

  not_gather : (k : List ℕ) → gathers k ≡ sounds p x m → ⊥
  not_gather k h = let z : ◌≡◌ {A = ℕ} 0 1 = cc in omega arith

  done : (w : World) (c : Call) (j : ℕ) → event w c j ≡ sounds p x m → done_to w c j ≡ sounds p x m
  unfolding event
  done w c j h = go (is_ok (call_judged w c)) h
    where
      go : (b : Bool) → cond b (done_to w c j) idle ≡ sounds p x m → done_to w c j ≡ sounds p x m
      go true h = h
      go false h = absurd (not_idle h)

-- the same sample
record Same (p q : Params) (x y : Float) (m n : List ℕ) : Type 0 where
  params : p ≡ q
  input : x ≡ y
  memory : m ≡ n

same_sample : (p q : Params) (x y : Float) (m n : List ℕ) → sounds p x m ≡ sounds q y n → Same p q x y m n
same_sample p q x y m n h = record { params = cc; input = cc; memory = cc }

same_output : (p q : Params) (x y : Float) (m n : List ℕ) (c d : Channel) → Same p q x y m n → c ≡ d
    → mul binary32 p.volume (channel_sample_of p x c m).output ≡ mul binary32 q.volume (channel_sample_of q y d n).output
same_output p q x y m n c d h e = λ t. mul binary32 (h.params t).volume (channel_sample_of (h.params t) (h.input t) (e t) (h.memory t)).output

module _ (w : World) (st : Standing w) (j : ℕ) (k : j < w.sampler.count) (p : Params) (x : Float) (m : List ℕ) where
  s : Sampler
  s = w.sampler

  mem : List ℕ
  mem = w.memory

  sample_heard : (i : ℕ) (y : Float) (q : Params) → event w (sample i y q) j ≡ sounds p x m → Heard w (sample i y q) j p x m
  unfolding event call_judged done_to output process_sample_of output_of played_at FittingCall s mem
  sample_heard i y q h = go (is_ok (sample_judged s i q (length mem))) refl (eqb i j) refl h
    where
      go : (a : Bool) → is_ok (sample_judged s i q (length mem)) ≡ a → (b : Bool) → eqb i j ≡ b → cond a (cond b (sounds q y (part_of s j mem)) idle) idle ≡ sounds p x m
          → Heard w (sample i y q) j p x m
      go false e b f h = absurd (not_idle p x m h)
      go true e false f h = absurd (not_idle p x m h)
      go true e true f h =
          let z = same_sample q p y x (part_of s j mem) m h in
          let i≡j : i ≡ j = eqb-true i j f in
          let t : sample_number s i q (length mem) ≡ 0 = zero_at _ e in
          let r = sample_reaches s q (length mem) i t in
          record {
            early = leb-false last_time (chan w j).head.now (subst (λ (l : ℕ). at_end (channel_at s l) ≡ false) i≡j (sample_early s i q (length mem) t));
            within = subst (λ (l : Params). T (not (beyond_limits l))) z.params r.1;
            room = subst (λ (l : ℕ). l * s.capacity + s.capacity ≤ length mem) i≡j r.0.part;
            floats = subst FittingParams z.params;
            part = sym z.memory;
            output = ap (λ (b : Bool). cond b (output_of s i q y mem) zero32) e
                ∙ subst (λ (l : ℕ). mul binary32 q.volume (channel_sample_of q y (channel_at s l) (part_of s l mem)).output ≡ mul binary32 p.volume (channel_sample_of p x (channel_at s j) m).output)
                (sym i≡j) (same_output q p y x (part_of s j mem) m (channel_at s j) (channel_at s j) z refl);
          }

  frame_heard : (xs : List Float) (q : Params) → event w (frame xs q) j ≡ sounds p x m → Heard w (frame xs q) j p x m
  unfolding event call_judged done_to output framed_of FittingCall s mem
  frame_heard xs q h = go (is_ok (frame_judged s (length xs) q (length mem))) refl (ltb j (length xs)) refl h
    where
      go : (a : Bool) → is_ok (frame_judged s (length xs) q (length mem)) ≡ a → (b : Bool) → ltb j (length xs) ≡ b
          → cond a (cond b (sounds q (get_or xs j zero32) (part_of s j mem)) idle) idle ≡ sounds p x m → Heard w (frame xs q) j p x m
      go false e b f h = absurd (not_idle p x m h)
      go true e false f h = absurd (not_idle p x m h)
      go true e true f h =
          let z = same_sample q p (get_or xs j zero32) x (part_of s j mem) m h in
          let o : j < length xs = ltb-true j (length xs) f in
          let t : frame_number s (length xs) q (length mem) ≡ 0 = zero_at _ e in
          let g = frame_steps s (length xs) q (length mem) t in
          record {
            early = leb-false last_time (chan w j).head.now (any_front at_end s.channels (length xs) j _ (frame_early s (length xs) q (length mem) t) o (omega (arith, g.below, st.two)));
            within = subst (λ (l : Params). T (not (beyond_limits l))) z.params (frame_reaches s q (length mem) (length xs) t).1;
            room = le_trans (le_of_eq (sym (suc-mul j s.capacity))) (le_trans (mul-le-mul_right s.capacity o) g.parts);
            floats = subst FittingParams z.params;
            part = sym z.memory;
            output = ap (λ (b : Bool). get_or (cond b (entries_of q (length xs) 0 (framed s xs mem)) (framed s xs mem)).frame j zero32) e
                ∙ frame_output s xs q mem g j
                ∙ ap (λ (b : Bool). cond b (mul binary32 q.volume (channel_sample_of q (get_or xs j zero32) (channel_at s j) (part_of s j mem)).output) (get_or xs j zero32)) f
                ∙ same_output q p (get_or xs j zero32) x (part_of s j mem) m (channel_at s j) (channel_at s j) z refl;
          }

  pub heard : (c : Call) → event w c j ≡ sounds p x m → Heard w c j p x m
  unfolding done_to
  heard (change d) h = absurd (not_change p x m _ (done p x m w (change d) j h))
  heard (sample i y q) h = sample_heard i y q h
  heard (frame xs q) h = frame_heard xs q h
  heard (read_wave f) h = absurd (not_change p x m _ (done p x m w (read_wave f) j h))
  heard gather h = absurd (not_gather p x m _ (done p x m w gather j h))
  heard (asks y) h = absurd (not_idle p x m (done p x m w (asks y) j h))
