-- The first e voices of a channel glide in a sample: each stays in its place and is heard, so the sample is what the others give behind them, whatever these first voices are. Assumes nothing.
use mathlib.Core.Path.{◌≡◌, refl, sym, ap, ap₂, ◌∙◌}
use Prim.Native.Nat.{ℕ, suc, ◌+◌, ◌-◌, ◌≤◌, min}
use native.Mathlib.Nat.{le_refl}
use native.Mathlib.Omega.{arith}
use mathlib.Core.Bool.{Bool, false, cond}
use mathlib.Core.List.{List, [], ◌∷◌, ◌++◌, map}
use lib.ListN.{length, take, drop, take-append-drop, length-append}
use lib.Seq.{sets, slice, length-take-le, take-take}
use lib.Ieee.{Float, binary32, add}
use borrow.Author.Tests.{le-ltb}
use Rattle.binary32.specs.Leaves.{zero32}
use Rattle.std.specs.List.{fold}
use Rattle.walks.specs.Walks.{without, behind}
use Rattle.walks.specs.Each.{Each}
use Rattle.walks.proofs.Lists.Loops.{take_most}
use Rattle.common_types.specs.declared.Params.{Params}
use Rattle.voice.specs.declared.Voice.{Voice}
use Rattle.voice.specs.Voices.{tick_of}
use Rattle.plain_voice.specs.declared.Hot.{Hot}
use Rattle.plain_voice.specs.Hots.{judged_of}
use Rattle.pours.specs.Pours.{turns_of, judged_on}
use Rattle.channel.specs.declared.Channel.{Channel}
use Rattle.channel.specs.declared.Played.{Played}
use Rattle.channel.specs.Channels.{with_voices, live, Turning, kept_of, tidied_of, heard_sum, played_of}
use Rattle.lent_channel.specs.Turns.{glided_to, rest_by, rest_of}
use Rattle.plain_channel.specs.declared.Side.{Side}
use Rattle.plain_channel.specs.Sides.{hots_kept, side_played, rest_hots}
use Rattle.plain_channel.specs.Ahead.{on_by, hot_on_by, ahead_of, hots_on, hots_ahead, sum_at}
use Rattle.plain_channel.proofs.Firsts.{firsts_front, sets_behind, slice_behind, store_behind, fold-append}

-- by s the voice becomes w, stays, and is heard
pub record Stays (s : Turning) (v w : Voice) : Type 0 where
  pub turns : s.turn v ≡ w
  pub stays : s.leaves w ≡ false
  pub adds : (out : Float) → s.adds out v ≡ add binary32 out w.last_sample_value

-- ---- voices that stay, before others
module _ (s : Turning) (f : Voice → Voice) where
  abbrev pub AllStay : List Voice → Type 0
  AllStay = Each (λ (v : Voice). Stays s v (f v))

  stay_kept : (others vs : List Voice) → AllStay vs → kept_of s (vs ++ others) ≡ map f vs ++ kept_of s others
  unfolding Each kept_of without
  stay_kept others [] each = refl
  stay_kept others (v ∷ vs) each =
      let rest : List Voice = kept_of s (vs ++ others) in
      ap (λ (w : Voice). cond (s.leaves w) rest (w ∷ rest)) each.0.turns ∙ ap (λ (b : Bool). cond b rest (f v ∷ rest)) each.0.stays ∙ ap (λ (r : List Voice). f v ∷ r) (stay_kept others vs each.1)

  stay_tidied : (others vs : List Voice) → AllStay vs → tidied_of s (vs ++ others) ≡ tidied_of s others
  unfolding Each tidied_of behind
  stay_tidied others [] each = refl
  stay_tidied others (v ∷ vs) each =
      let left : List Voice = without s.leaves (map s.turn (vs ++ others)) in
      let rest : List Voice = behind s.leaves (map s.turn (vs ++ others)) in
      ap (λ (w : Voice). length (cond (s.leaves w) left rest)) each.0.turns ∙ ap (λ (b : Bool). length (cond b left rest)) each.0.stays ∙ stay_tidied others vs each.1

  stay_heard : (out : Float) (vs : List Voice) → AllStay vs → fold s.adds out vs ≡ fold (λ (sum : Float) (v : Voice). add binary32 sum (f v).last_sample_value) out vs
  unfolding Each
  stay_heard out [] each = refl
  stay_heard out (v ∷ vs) each = ap (λ (sum : Float). fold s.adds sum vs) (each.0.adds out) ∙ stay_heard (add binary32 out (f v).last_sample_value) vs each.1

-- ---- the positions of the first
module _ (p : Params) (m : List ℕ) (d : Channel) (n : ℕ) where
  hots_split : (vs : List Voice) (hs : List Hot) → hots_on p m d n vs hs ≡ hots_on p m d n vs (take (length vs) hs) ++ drop (length vs) hs
  unfolding hots_on
  hots_split [] hs = refl
  hots_split (v ∷ vs) [] = refl
  hots_split (v ∷ vs) (h ∷ hs) = ap (λ (r : List Hot). hot_on_by p m d n v h ∷ r) (hots_split vs hs)

  pub hots_length : (vs : List Voice) (hs : List Hot) → length (hots_on p m d n vs hs) ≡ length hs
  unfolding hots_on
  hots_length [] hs = refl
  hots_length (v ∷ vs) [] = refl
  hots_length (v ∷ vs) (h ∷ hs) = ap suc (hots_length vs hs)

-- a voice that stays is judged as one that is one sample ahead
stay_hots : (p : Params) (m : List ℕ) (d : Channel) (s : Turning) (others : List Voice) (vs : List Voice) (hs : List Hot) → length vs ≤ length hs → AllStay s (on_by p m d 1) vs
    → hots_kept s d.head (vs ++ others) hs ≡ hots_on p m d 1 vs (take (length vs) hs) ++ hots_kept s d.head others (drop (length vs) hs)
unfolding Each hots_kept hots_on judged_on turns_of tick_of
stay_hots p m d s others [] hs room each = refl
stay_hots p m d s others (v ∷ vs) [] room each = absurd (omega (arith, room))
stay_hots p m d s others (v ∷ vs) (h ∷ hs) room each =
    let rest : List Hot = hots_kept s d.head (vs ++ others) hs in
    let judged : Voice → Hot = λ w. judged_of h d.head.interpolates w.clip2 d.head.now in
    ap (λ (w : Voice). cond (s.leaves w) rest (judged w ∷ rest)) each.0.turns
    ∙ ap (λ (b : Bool). cond b rest (judged (on_by p m d 1 v) ∷ rest)) each.0.stays
    ∙ ap (λ (r : List Hot). judged (on_by p m d 1 v) ∷ r) (stay_hots p m d s others vs hs (omega (arith, room)) each.1)

-- ---- the first e voices of a channel, and the others
abbrev most : Channel → ℕ
most d = min d.count 32

abbrev pub first_of : Channel → ℕ → List Voice
first_of d e = take e d.voices

abbrev pub others_of : Channel → ℕ → List Voice
others_of d e = slice e (most d) d.voices

module _ (d : Channel) (e : ℕ) (s : Turning) where
  -- what the others give behind them, where the first voices are made something else by f, and have given `out`
  abbrev pub voices_behind : (Voice → Voice) → List Voice
  voices_behind f = map f (first_of d e) ++ sets (drop e d.voices) 0 (kept_of s (others_of d e))

  abbrev pub count_behind : ℕ
  count_behind = e + length (kept_of s (others_of d e))

  abbrev pub given_behind : (Voice → Voice) → Float → Played
  given_behind f out = record { channel = with_voices (voices_behind f) count_behind d; output = fold s.adds out (others_of d e); moved = tidied_of s (others_of d e) }

  -- and beside them, where the positions of the first are `front`
  abbrev pub positions_behind : List Hot → List Hot → List Hot
  positions_behind hs front = front ++ sets (drop e hs) 0 (hots_kept s d.head (others_of d e) (slice e (most d) hs))

module _ (p : Params) (m : List ℕ) (d : Channel) (voices : length d.voices ≡ 32) (e : ℕ) (inside : e ≤ min d.count 32) (s : Turning) where
  abbrev first : List Voice
  first = first_of d e

  abbrev others : List Voice
  others = others_of d e

  within : e ≤ length d.voices
  within = omega (arith, inside, voices)

  pub rest_behind : (n : ℕ) (out : Float) → rest_of s (most d) (ahead_of p m e n d) (glided_to e out) ≡ given_behind d e s (on_by p m d n) out
  unfolding ahead_of glided_to rest_by
  rest_behind n out =
      let f : Voice → Voice = on_by p m d n in
      let long : length (map f first) ≡ e = firsts_front f d.voices e within in
      let vs : List Voice = map f first ++ drop e d.voices in
      ap (λ (b : Bool). record { channel = with_voices (sets vs e (kept_of s (slice e (most d) vs))) (e + length (kept_of s (slice e (most d) vs))) d; output = fold s.adds out (slice e (most d) vs); moved = cond b (e + length (kept_of s (slice e (most d) vs)) - 0) (tidied_of s (slice e (most d) vs)) }) (le-ltb e e (le_refl e))
      ∙ ap (λ (l : List Voice). record { channel = with_voices (sets vs e (kept_of s l)) (e + length (kept_of s l)) d; output = fold s.adds out l; moved = tidied_of s l }) (slice_behind e (map f first) long d.voices within (most d))
      ∙ ap (λ (l : List Voice). record { channel = with_voices l (count_behind d e s) d; output = fold s.adds out others; moved = tidied_of s others }) (sets_behind e (map f first) long (drop e d.voices) (kept_of s others))

  -- the channel's voices are these
  split_live : live d ≡ first ++ others
  split_live = sym (take_most d.voices d.count 32 voices) ∙ sym (take-append-drop e (take (most d) d.voices)) ∙ ap (λ (l : List Voice). l ++ others) (take-take e (most d) d.voices inside)

  pub played_behind : AllStay s (on_by p m d 1) first → played_of s d ≡ given_behind d e s (on_by p m d 1) (sum_at p m e d 0)
  unfolding played_of heard_sum sum_at
  played_behind each =
      let f : Voice → Voice = on_by p m d 1 in
      let long : length (map f first) ≡ e = firsts_front f d.voices e within in
      let k : List Voice = kept_of s others in
      ap (λ (l : List Voice). record { channel = with_voices (sets d.voices 0 (kept_of s l)) (length (kept_of s l)) d; output = fold s.adds zero32 l; moved = tidied_of s l }) split_live
      ∙ ap (λ (l : List Voice). record { channel = with_voices (sets d.voices 0 l) (length l) d; output = fold s.adds zero32 (first ++ others); moved = tidied_of s (first ++ others) }) (stay_kept s f others first each)
      ∙ (λ i. record {
        channel = with_voices (store_behind e (map f first) long d.voices within k i) ((length-append (map f first) k ∙ ap (λ (n : ℕ). n + length k) long) i) d;
        output = (fold-append s.adds zero32 first others ∙ ap (λ (out : Float). fold s.adds out others) (stay_heard s f zero32 first each)) i;
        moved = stay_tidied s f others first each i;
      })

  -- ---- and beside them
  module _ (hs : List Hot) (hots : length hs ≡ 32) where
    abbrev behind_hots : List Hot
    behind_hots = hots_kept s d.head others (slice e (most d) hs)

    roomy : e ≤ length hs
    roomy = omega (arith, inside, hots)

    long : length first ≡ e
    long = length-take-le e d.voices within

    long_hots : (n : ℕ) → length (hots_on p m d n first (take e hs)) ≡ e
    long_hots n = hots_length p m d n first (take e hs) ∙ length-take-le e hs roomy

    pub hots_behind_lem : (n : ℕ) (out : Float) (k : Side) → k.hots ≡ hots_ahead p m e n d hs → rest_hots s (most d) (ahead_of p m e n d) k (glided_to e out) ≡ positions_behind d e s hs (hots_on p m d n first (take e hs))
    unfolding rest_hots ahead_of glided_to
    hots_behind_lem n out k is =
        let f : Voice → Voice = on_by p m d n in
        let split : hots_ahead p m e n d hs ≡ hots_on p m d n first (take e hs) ++ drop e hs = hots_split p m d n first hs ∙ ap (λ (j : ℕ). hots_on p m d n first (take j hs) ++ drop j hs) long in
        let whole : List Hot = hots_on p m d n first (take e hs) ++ drop e hs in
        ap (λ (l : List Hot). sets l e (hots_kept s d.head (slice e (most d) (map f first ++ drop e d.voices)) (slice e (most d) l))) (is ∙ split)
        ∙ ap₂ (λ (vs : List Voice) (l : List Hot). sets whole e (hots_kept s d.head vs l)) (slice_behind e (map f first) (firsts_front f d.voices e within) d.voices within (most d)) (slice_behind e (hots_on p m d n first (take e hs)) (long_hots n) hs roomy (most d))
        ∙ sets_behind e (hots_on p m d n first (take e hs)) (long_hots n) (drop e hs) behind_hots

    pub side_behind : AllStay s (on_by p m d 1) first → (k : Side) → k.hots ≡ hs → (side_played s d k).hots ≡ positions_behind d e s hs (hots_on p m d 1 first (take e hs))
    unfolding side_played
    side_behind each k is =
        ap₂ (λ (l : List Hot) (vs : List Voice). sets l 0 (hots_kept s d.head vs (take d.count l))) is split_live
        ∙ ap (λ (l : List Hot). sets hs 0 (hots_kept s d.head (first ++ others) l)) (sym (take_most hs d.count 32 hots))
        ∙ ap (sets hs 0) (stay_hots p m d s others first (take (most d) hs) (let n = length-take-le (most d) hs (omega (arith, hots)) in omega (arith, n, long, inside)) each)
        ∙ ap (λ (j : ℕ). sets hs 0 (hots_on p m d 1 first (take j (take (most d) hs)) ++ hots_kept s d.head others (drop j (take (most d) hs)))) long
        ∙ ap (λ (l : List Hot). sets hs 0 (hots_on p m d 1 first l ++ behind_hots)) (take-take e (most d) hs inside)
        ∙ store_behind e (hots_on p m d 1 first (take e hs)) (long_hots 1) hs roomy behind_hots
