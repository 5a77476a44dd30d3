-- Voices that are ahead of their channel: where there are none of them, or by no sample, it is what it was; and but for its voices it always is. Assumes nothing.
use mathlib.Core.Path.{◌≡◌, refl, sym, ap, ◌∙◌}
use Prim.Native.Nat.{ℕ, ◌≤◌, ◌<◌, min, zero-le}
use native.Mathlib.Nat.{zero-add}
use native.Mathlib.Omega.{arith}
use mathlib.Core.List.{List, [], ◌∷◌}
use lib.ListN.{length, get_or}
use lib.Seq.{sets, slice}
use lib.Ieee.{Float}
use Rattle.binary32.specs.Leaves.{zero32}
use Rattle.std.specs.List.{fold}
use Rattle.walks.proofs.Lists.Loops.{take_most}
use Rattle.common_types.specs.declared.Params.{Params}
use Rattle.voice.specs.declared.Voice.{Voice}
use Rattle.plain_voice.specs.declared.Hot.{Hot}
use Rattle.pours.specs.Pours.{turns_of, judged_on}
use Rattle.channel.specs.declared.Channel.{Channel}
use Rattle.channel.specs.declared.Played.{Played}
use Rattle.channel.specs.Heads.{mixed_of, closed_of}
use Rattle.channel.specs.Channels.{with_head, with_voices, any_unfinished_of, Turning, kept_of, tidied_of, heard_sum, played_of, turning_in, taken_of, memory_of, process_sample_of}
use Rattle.lent_channel.specs.Turns.{begun, glided_to, rest_by, rest_of}
use Rattle.plain_channel.specs.declared.Side.{Side}
use Rattle.plain_channel.specs.Sides.{side_after}
use Rattle.plain_channel.specs.Ahead.{on_by, ahead_of, hots_on, hots_ahead, sum_at, Eased, behind_of, hots_behind, Ahead}
use Rattle.plain_channel.proofs.Firsts.{firsts_none}
use Rattle.plain_channel.proofs.Sides.{hots_begin}

module _ (p : Params) (m : List ℕ) where
  -- ---- but for its voices the channel is what it was
  pub ahead_else : (e n : ℕ) (d : Channel) → with_voices [] 0 (ahead_of p m e n d) ≡ with_voices [] 0 d
  unfolding ahead_of
  ahead_else e n d = refl

  pub ahead_count : (e n : ℕ) (d : Channel) → (ahead_of p m e n d).count ≡ d.count
  unfolding ahead_of
  ahead_count e n d = refl

  pub ahead_memory : {e n : ℕ} {sums : List Float} {d c : Channel} {hs ks : List Hot} → Ahead p m e n sums d hs c ks → (x : Float) → memory_of x c m ≡ memory_of x d m
  unfolding ahead_of memory_of
  ahead_memory ahead x = ap (λ (y : Channel). memory_of x y m) ahead.channel

  -- ---- by no sample
  pub ahead_now : (e : ℕ) (d : Channel) → ahead_of p m e 0 d ≡ d
  unfolding ahead_of turns_of
  ahead_now e d = ap (λ (vs : List Voice). with_voices vs d.count d) (firsts_none (on_by p m d 0) d.voices e (λ v. refl))

  pub hots_now : (d : Channel) (vs : List Voice) (hs : List Hot) → hots_on p m d 0 vs hs ≡ hs
  unfolding hots_on judged_on
  hots_now d [] hs = refl
  hots_now d (v ∷ vs) [] = refl
  hots_now d (v ∷ vs) (h ∷ hs) = ap (λ (r : List Hot). h ∷ r) (hots_now d vs hs)

  -- ---- no voice
  pub ahead_nobody : (n : ℕ) (d : Channel) → ahead_of p m 0 n d ≡ d
  unfolding ahead_of
  ahead_nobody n d = refl

  pub hots_nobody : (n : ℕ) (d : Channel) (hs : List Hot) → hots_ahead p m 0 n d hs ≡ hs
  unfolding hots_on
  hots_nobody n d hs = refl

  pub sum_nobody : (d : Channel) (k : ℕ) → sum_at p m 0 d k ≡ zero32
  unfolding sum_at
  sum_nobody d k = refl

  -- ---- so a run may begin, and go on without them
  pub ahead_none : {e : ℕ} {d : Channel} (sums : List Float) (hs : List Hot) → Eased p m e 0 d → Ahead p m e 0 sums d hs d hs
  ahead_none {e} {d} sums hs eased = record {
    eased = eased;
    channel = sym (ahead_now e d);
    hots = sym (hots_now d _ hs);
    adds = λ k low. absurd (omega (arith, low));
  }

  eased_nobody : (n : ℕ) (d : Channel) → Eased p m 0 n d
  eased_nobody n d = record {
    still = λ some. absurd (omega (arith, some));
    clock = λ some. absurd (omega (arith, some));
    inside = zero-le;
    each = λ i low. absurd (omega (arith, low));
  }

  pub ahead_nothing : (n : ℕ) (sums : List Float) (d : Channel) (hs : List Hot) → ((k : ℕ) → k < n → get_or sums k zero32 ≡ zero32) → Ahead p m 0 n sums d hs d hs
  ahead_nothing n sums d hs empty = record {
    eased = eased_nobody n d;
    channel = sym (ahead_nobody n d);
    hots = sym (hots_nobody n d hs);
    adds = λ k low. empty k low ∙ sym (sum_nobody d k);
  }

  -- where none is ahead by n samples, none is by fewer
  pub ahead_fewer : (n j : ℕ) (sums : List Float) {d c : Channel} {hs ks : List Hot} → j ≤ n → Ahead p m 0 n sums d hs c ks → Ahead p m 0 j sums d hs c ks
  ahead_fewer n j sums {d} {hs = hs} low ahead = record {
    eased = eased_nobody j d;
    channel = ahead.channel ∙ ahead_nobody n d ∙ sym (ahead_nobody j d);
    hots = ahead.hots ∙ hots_nobody n d hs ∙ sym (hots_nobody j d hs);
    adds = λ k below. ahead.adds k (omega (arith, below, low));
  }

-- ---- a sample behind none is the sample
rest_first : (s : Turning) (c : Channel) → length c.voices ≡ 32 → rest_of s (min c.count 32) c (glided_to 0 zero32) ≡ played_of s c
unfolding glided_to rest_by played_of heard_sum
rest_first s c all =
    ap (λ (k : ℕ). given (slice 0 (min c.count 32) c.voices) k) (zero-add _)
    ∙ ap (λ (vs : List Voice). given vs (length (kept_of s vs))) (take_most c.voices c.count 32 all)
  where
    given : List Voice → ℕ → Played
    given vs k = record { channel = with_voices (sets c.voices 0 (kept_of s vs)) k c; output = fold s.adds zero32 vs; moved = tidied_of s vs }

module _ (p : Params) (x : Float) (c : Channel) (m : List ℕ) (all : length c.voices ≡ 32) where
  pub behind_none : behind_of p x 0 zero32 c m ≡ process_sample_of p x c m
  unfolding behind_of process_sample_of taken_of
  behind_none =
      let d : Channel = taken_of m c in
      ap (λ (r : Played). record { channel = with_head (closed_of p (any_unfinished_of r.channel) d.head) r.channel; output = mixed_of x r.output d.head; moved = r.moved })
      (rest_first (turning_in p d (memory_of x c m)) d all)

  pub hots_none : (k : Side) → length k.hots ≡ 32 → hots_behind p x 0 c m k ≡ (side_after p x c m k).hots
  unfolding hots_behind side_after taken_of glided_to begun
  hots_none k hots = hots_begin (turning_in p (taken_of m c) (memory_of x c m)) (taken_of m c) k all hots
