-- Where nothing is recorded a sample leaves the channel and its memory as they are before it plays, and where pass-through rests the end of a sample moves the clock alone. Assumes nothing.
use mathlib.Core.Path.{◌≡◌, refl, ap, ◌∙◌}
use Prim.Native.Nat.{ℕ}
use mathlib.Core.Bool.{Bool, true, false, beq, cond}
use mathlib.Core.List.{List, ◌++◌}
use lib.Dec.{T}
use lib.ListN.{length, take, drop}
use lib.Ieee.{Float}
use lib.Ieee.Bits.{is_true}
use lib.Ieee.Fits.{and_l, and_r}
use Rattle.binary32.specs.Leaves.{bits_of}
use Rattle.binary32.proofs.Truth.{yes}
use Rattle.common_types.specs.declared.Params.{Params}
use Rattle.volume.specs.declared.Volume.{Volume}
use Rattle.volume.specs.declared.Volume.TheVariants.{Static, Linear}
use Rattle.volume.specs.Levels.{is_static_of, stepped_of}
use Rattle.recorder.specs.declared.Recorded.{Recorded}
use Rattle.recorder.specs.Recording.{is_recording_of}
use Rattle.recorder.proofs.Cases.{not_recording, sample_idle, memory_idle}
use Rattle.channel.specs.Heads.{written_in, with_recorded, with_passthru, passes_of, ramp_of, passthru_of, clocked_of, rests_of, closed_of}
use Rattle.channel.specs.Channels.{with_head, behind_in, taken_of, memory_of}
use Rattle.channel.specs.declared.Head.{Head}
use Rattle.channel.specs.declared.Channel.{Channel}
use Rattle.channel.proofs.Rooms.{written_same}

-- ---- nothing is recorded
module _ (m : List ℕ) (c : Channel) (e : is_recording_of c.head.recorder ≡ false) where
  pub untaken : taken_of m c ≡ c
  unfolding taken_of
  untaken = ap (λ (r : Recorded). with_head (with_recorded r c.head) c) (sample_idle c.head.recorder (not_recording c.head.recorder e) c.head.data_len _)

  pub unwritten : (x : Float) → memory_of x c m ≡ m
  unfolding memory_of
  unwritten x =
      let r = written_in (behind_in c) c.head (length m) in
      ap (λ (l : List ℕ). take r.from m ++ (l ++ drop r.to m)) (memory_idle c.head.recorder (not_recording c.head.recorder e) (bits_of x) _)
      ∙ written_same (behind_in c) c.head m

-- ---- pass-through rests
steady : (v : Volume) (now : ℕ) → T (is_static_of v) → stepped_of v now ≡ v
unfolding stepped_of
steady (Static x) now t = refl
steady (Linear a b x y) now t = absurd t

module _ (p : Params) (unfinished : Bool) (h : Head) where
  abbrev on : Bool
  on = passes_of p unfinished

  as_wanted : beq on h.passthru_on ≡ true → passthru_of p unfinished h ≡ h
  unfolding passthru_of
  as_wanted e = ap (λ (b : Bool). cond b h (with_passthru on (ramp_of h.passthru_volume h.now p on) h)) e

  pub closed_resting : rests_of on h ≡ true → closed_of p unfinished h ≡ clocked_of h
  unfolding closed_of rests_of
  closed_resting e =
      let a : Bool = is_static_of h.passthru_volume in
      let b : Bool = beq on h.passthru_on in
      ap (λ (v : Volume). clocked_of (passthru_of p unfinished (with_passthru h.passthru_on v h))) (steady h.passthru_volume h.now (and_l a b (yes e)))
      ∙ ap clocked_of (as_wanted (is_true b (and_r a b (yes e))))
