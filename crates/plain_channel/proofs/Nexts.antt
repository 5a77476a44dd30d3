-- The next voice of those ahead is poured, or isn't: what `ease_next` promises, of what `poured` does. Assumes nothing.
use mathlib.Core.Path.{◌≡◌, refl, sym, ap, ◌∙◌, subst}
use Prim.Native.Nat.{ℕ, ◌+◌, ◌≤◌, ◌<◌, min}
use native.Mathlib.Nat.{le_refl}
use native.Mathlib.Omega.{arith}
use mathlib.Core.Bool.{true, false, not}
use mathlib.Core.List.{List, map}
use lib.Dec.{eqb, leb}
use lib.ListN.{length, length-map, take, get_or, set}
use lib.Seq.{length_front}
use lib.Ieee.{Float}
use borrow.Author.Tests.{not-true, leb-true}
use Rattle.walks.proofs.Lists.Every.{both}
use Rattle.common_types.specs.declared.Params.{Params}
use Rattle.recorder.specs.Recording.{is_recording_of}
use Rattle.voice.specs.declared.Voice.{Voice}
use Rattle.voice.specs.Voices.{blank_voice}
use Rattle.plain_voice.specs.declared.Hot.{Hot}
use Rattle.pours.specs.declared.Pouring.{Pouring}
use Rattle.pours.specs.Pours.{turns_of, Poured}
use Rattle.channel.specs.declared.Head.{Head}
use Rattle.channel.specs.declared.Channel.{Channel}
use Rattle.channel.specs.Heads.{last_time}
use Rattle.channel.specs.Channels.{with_voices, phrase_at}
use Rattle.plain_channel.specs.declared.Side.{Side}
use Rattle.plain_channel.specs.Ahead.{tick_in, recording_held, on_by, ahead_of, Easy, Ahead, may_ease, Eases}
use Rattle.plain_channel.proofs.Hotting.{hot_at, with_hot}
use Rattle.plain_channel.proofs.Summing.{with_sums}
use Rattle.plain_channel.proofs.Pourings.{voice_waits, pour_next}

-- nothing is recorded, and the clock doesn't end
may_apart : (h : Head) (n : ℕ) → may_ease h n ≡ true → (is_recording_of h.recorder ≡ false) × (h.now + n ≤ last_time)
unfolding may_ease
may_apart h n may = let parts = both (not (is_recording_of h.recorder)) (leb (h.now + n) last_time) may in (not-true (is_recording_of h.recorder) parts.0, leb-true (h.now + n) last_time parts.1)

module _ (p : Params) (m : List ℕ) (i n : ℕ) (c : Channel) (k : Side) where
  -- it isn't: the sums are what they were
  pub eases_none : (zs : List Float) (us : List ℕ) → zs ≡ k.pour.sums → Eases p m i n c k false c (with_sums zs us k)
  eases_none zs us same = record {
    ahead = λ d hs ahead. subst (λ (l : List Float). Ahead p m i n l d hs c k.hots) (sym same) ahead;
    head = refl;
    count = refl;
    else = record { eased = refl; next = refl; left = refl };
  }

  abbrev v : Voice
  v = get_or c.voices i blank_voice

  -- it is, of whatever channel the others are ahead
  module _ (voices : length c.voices ≡ 32) (below : i < min c.count 32) (may : may_ease c.head n ≡ true) (room : n ≤ length k.pour.sums) (zs : List Float) (us : List ℕ) (r : Pouring)
      (full : eqb (phrase_at c v.phrase).length 0 ≡ false) (pours : Poured (hot_at k i) v (tick_in p c v) (recording_held m c v) n k.pour.sums zs r) where
    module _ (d : Channel) (hs : List Hot) (ahead : Ahead p m i n k.pour.sums d hs c k.hots) where
      abbrev w : Voice
      w = get_or d.voices i blank_voice

      -- what the channel that is ahead has, the other has
      of_it : (P : Channel → Type 0) → P c → P (ahead_of p m i n d)
      of_it P = subst P ahead.channel

      voices_too : length d.voices ≡ 32
      unfolding ahead_of
      voices_too = sym (length_front d.voices (map (on_by p m d n) (take i d.voices)) i (length-map (take i d.voices) (on_by p m d n))) ∙ of_it (λ (x : Channel). length x.voices ≡ 32) voices

      below_too : i < min d.count 32
      unfolding ahead_of
      below_too = of_it (λ (x : Channel). i < min x.count 32) below

      may_too : may_ease d.head n ≡ true
      unfolding ahead_of
      may_too = of_it (λ (x : Channel). may_ease x.head n ≡ true) may

      same_voice : v ≡ w
      same_voice = ap (λ (x : Channel). get_or x.voices i blank_voice) ahead.channel ∙ voice_waits p m n d i (omega (arith, voices_too, below_too)) i (le_refl i)

      full_too : eqb (phrase_at d w.phrase).length 0 ≡ false
      unfolding ahead_of
      full_too = subst (λ (u : Voice). eqb (phrase_at d u.phrase).length 0 ≡ false) same_voice (of_it (λ (x : Channel). eqb (phrase_at x v.phrase).length 0 ≡ false) full)

      pours_too : Poured (hot_at k i) w (tick_in p d w) (recording_held m d w) n k.pour.sums zs r
      unfolding ahead_of
      pours_too = subst (λ (u : Voice). Poured (hot_at k i) u (tick_in p d u) (recording_held m d u) n k.pour.sums zs r) same_voice
          (of_it (λ (x : Channel). Poured (hot_at k i) v (tick_in p x v) (recording_held m x v) n k.pour.sums zs r) pours)

      one_more : Ahead p m (i + 1) n zs d hs (with_voices (set c.voices i r.voice) c.count c) (set k.hots i r.hot)
      one_more =
          let apart = may_apart d.head n may_too in
          let easy : Easy p m n d w = record { full = full_too; glides = pours_too.glides } in
          subst (λ (u : Voice). Ahead p m (i + 1) n zs d hs (with_voices (set c.voices i u) c.count c) (set k.hots i r.hot)) (sym (pours_too.voice))
          (subst (λ (u : Hot). Ahead p m (i + 1) n zs d hs (with_voices (set c.voices i (turns_of (tick_in p d w) (recording_held m d w) n w)) c.count c) (set k.hots i u)) (sym (pours_too.hot))
          (pour_next p m n d voices_too i below_too ahead apart.0 apart.1 easy room pours_too.sums))

    pub eases_one : Eases p m i n c k true (with_voices (set c.voices i r.voice) c.count c) (with_hot (with_sums zs us k) i r.hot)
    eases_one = record { ahead = one_more; head = refl; count = refl; else = record { eased = refl; next = refl; left = refl } }
