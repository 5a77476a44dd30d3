-- What calls leave beside the record has two sides of 32 positions, as a new one has. Assumes nothing.
use mathlib.Core.Path.{◌≡◌, refl, ◌∙◌}
use mathlib.Core.Bool.{Bool, true, false, cond}
use mathlib.Core.List.{List, [], ◌∷◌}
use Prim.Native.Nat.{ℕ, zero, suc, ◌+◌, min}
use lib.Dec.{eqb, ltb}
use lib.ListN.{length, take, drop, get_or, set, length-set, length-replicate}
use lib.Seq.{length-sets}
use lib.Ieee.{Float}
use Rattle.binary32.specs.Leaves.{zero32}
use Rattle.common_types.specs.declared.Params.{Params}
use Rattle.walks.proofs.Tests.{either}
use Rattle.voice.specs.Voices.{blank_voice}
use Rattle.plain_voice.specs.Hots.{cold, hot_at}
use Rattle.channel.specs.declared.Channel.{Channel}
use Rattle.channel.specs.Channels.{live, Turning, turning_in, taken_of, memory_of}
use Rattle.plain_channel.specs.declared.Side.{Side}
use Rattle.plain_channel.specs.Sides.{cold_side, with_hots, taken_at, hots_kept, side_played, side_after}
use Rattle.sampler.specs.declared.Sampler.{Sampler}
use Rattle.sampler.specs.Refusals.{channel_at, sample_number, frame_number, done_of}
use Rattle.sampler.specs.Samplers.{change_of, part_of, Framed, framed, entry_of, entries_of}
use Rattle.plain_sampler.specs.declared.Backing.{Backing}
use Rattle.plain_sampler.specs.Backings.{cold_backing, side_at, with_side, taken_on, change_backing, side_stepped, sample_backing, entries_backing, frame_backing, frames_backing, rested_on, rested_backing, run_backing}
use Rattle.promises.specs.Runs.{World, Call, change, sample, frame, read_wave, gather, asks, Made, one, frames, made}
use Rattle.plain_promises.specs.Backed.{beside_after, beside_made, beside_all}
use Rattle.plain_promises.specs.Members.{Shaped}

-- what holds of the element that is stored and of the one at a place holds of the one there afterwards
pub set_at : {A : Type 0} (P : A → Type 0) (l : List A) (j i : ℕ) (x d : A) → P x → P (get_or l i d) → P (get_or (set l j x) i d)
set_at P [] j i x d h k = k
set_at P (y ∷ l) zero zero x d h k = h
set_at P (y ∷ l) zero (suc i) x d h k = k
set_at P (y ∷ l) (suc j) zero x d h k = k
set_at P (y ∷ l) (suc j) (suc i) x d h k = set_at P l j i x d h k

shaped_if : (b : Bool) (k l : Backing) → Shaped k → Shaped l → Shaped (cond b k l)
shaped_if true k l h g = h
shaped_if false k l h g = g

-- ---- one side
shaped_with : (k : Backing) (j : ℕ) (s : Side) → Shaped k → length s.hots ≡ 32 → Shaped (with_side k j s)
shaped_with k j s h e = record {
  two = length-set k.sides j s ∙ h.two;
  places = λ i. set_at (λ (r : Side). length r.hots ≡ 32) k.sides j i s cold_side e (h.places i);
}

taken_length : (c : Channel) (at : ℕ) (s : Side) → length (taken_at c at s).hots ≡ length s.hots
unfolding taken_at
taken_length c at s =
    let h = hot_at c.head.interpolates (get_or c.voices at blank_voice).clip2 c.head.now in
    either (λ (r : Side). length r.hots) (ltb at (min c.count 32)) (with_hots (set s.hots at h) s) s (length s.hots) (length-set s.hots at h) refl

played_length : (t : Turning) (c : Channel) (s : Side) → length (side_played t c s).hots ≡ length s.hots
unfolding side_played
played_length t c s = length-sets s.hots 0 (hots_kept t c.head (live c) (take c.count s.hots))

shaped_taken : (s t : Sampler) (j : ℕ) (k : Backing) → Shaped k → Shaped (taken_on s t j k)
shaped_taken s t j k h = shaped_with k j _ h (taken_length (channel_at t j) (channel_at s j).count (side_at k j) ∙ h.places j)

shaped_stepped : (s : Sampler) (j : ℕ) (p : Params) (x : Float) (m : List ℕ) (k : Backing) → Shaped k → Shaped (side_stepped s j p x m k)
unfolding side_stepped side_after
shaped_stepped s j p x m k h =
    let c = channel_at s j in
    let own = part_of s j m in
    shaped_with k j _ h (played_length (turning_in p (taken_of own c) (memory_of x c own)) (taken_of own c) (side_at k j) ∙ h.places j)

-- ---- calls
shaped_entries : (p : Params) (n j : ℕ) (f : Framed) (k : Backing) → Shaped k → Shaped (entries_backing p n j f k)
unfolding entries_backing
shaped_entries p zero j f k h = h
shaped_entries p (suc n) j f k h = shaped_entries p n (j + 1) (entry_of p j f) _ (shaped_stepped f.sampler j p (get_or f.frame j zero32) f.memory k h)

shaped_frames : (p : Params) (n : ℕ) (f : Framed) (k : Backing) → Shaped k → Shaped (frames_backing p n f k)
unfolding frames_backing
shaped_frames p zero f k h = h
shaped_frames p (suc n) f k h =
    let count = f.sampler.count in
    let front = framed f.sampler (take count f.frame) f.memory in
    let g = entries_of p count 0 front in
    shaped_frames p n (framed g.sampler (drop count f.frame) g.memory) _ (shaped_entries p count 0 front k h)

pub shaped_after : (w : World) (c : Call) (k : Backing) → Shaped k → Shaped (beside_after w c k)
unfolding beside_after change_backing sample_backing frame_backing
shaped_after w (change d) k h = shaped_taken w.sampler (change_of w.sampler d).sampler 1 _ (shaped_taken w.sampler (change_of w.sampler d).sampler 0 k h)
shaped_after w (sample j x p) k h = shaped_if (eqb (sample_number w.sampler j p (length w.memory)) 0) _ k (shaped_stepped w.sampler j p x w.memory k h) h
shaped_after w (frame xs p) k h =
    shaped_if (eqb (frame_number w.sampler (length xs) p (length w.memory)) 0) _ k (shaped_entries p (length xs) 0 (framed w.sampler xs w.memory) k h) h
shaped_after w (read_wave f) k h = h
shaped_after w gather k h = h
shaped_after w (asks q) k h = h

shaped_rested : (k : Backing) → Shaped k → Shaped (rested_backing k)
unfolding rested_backing
shaped_rested k h =
    let g = shaped_with k 0 _ h (h.places 0) in
    shaped_with (rested_on 0 k) 1 _ g (g.places 1)

shaped_made : (w : World) (h : Made) (k : Backing) → Shaped k → Shaped (beside_made w h k)
unfolding beside_made run_backing
shaped_made w (one c) k s = shaped_after w c k s
shaped_made w (frames xs p) k s = shaped_rested _ (shaped_frames p (done_of w.sampler (length xs) p (length w.memory)) (framed w.sampler xs w.memory) k s)

pub shaped : (w : World) (hs : List Made) (k : Backing) → Shaped k → Shaped (beside_all w hs k)
unfolding beside_all
shaped w [] k s = s
shaped w (h ∷ hs) k s = shaped (made w h) hs (beside_made w h k) (shaped_made w h k s)

pub new_shaped : Shaped cold_backing
unfolding cold_backing cold_side
new_shaped = record { two = refl; places = places }
  where
    places : (j : ℕ) → length (side_at cold_backing j).hots ≡ 32
    places zero = length-replicate 32 cold
    places (suc zero) = length-replicate 32 cold
    places (suc (suc j)) = length-replicate 32 cold
