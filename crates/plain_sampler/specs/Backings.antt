-- What is lent beside the record, after each call (request 9/12). A refused call leaves the positions. Definitions only. Assumes
-- nothing.
use Rattle.std.specs.Prelude.{ℕ, zero, suc, ◌+◌, cond, List, [], ◌∷◌, eqb, length, take, drop, get_or, set, Float}
use Rattle.binary32.specs.Leaves.{zero32}
use Rattle.common_types.specs.declared.Params.{Params}
use Rattle.channel.specs.declared.Change.{Change}
use Rattle.plain_channel.specs.declared.Side.{Side}
use Rattle.plain_channel.specs.Sides.{cold_side, side_after, taken_at}
use Rattle.plain_channel.specs.Ahead.{rested_side}
use Rattle.sampler.specs.declared.Sampler.{Sampler}
use Rattle.sampler.specs.Refusals.{channel_at, sample_number, frame_number, done_of}
use Rattle.sampler.specs.Samplers.{part_of, change_of, Framed, framed, entry_of, entries_of}
use Rattle.plain_sampler.specs.declared.Backing.{Backing}

-- no voice is plain
unfoldable pub cold_backing : Backing
cold_backing = record { sides = cold_side ∷ cold_side ∷ [] }

-- channel j's side, and the backing with another
abbrev pub side_at : Backing → ℕ → Side
side_at k j = get_or k.sides j cold_side

abbrev pub with_side : Backing → ℕ → Side → Backing
with_side k j side = record { sides = set k.sides j side }

-- ---- a change takes the voices that it starts: on each channel the one behind those that it had
abbrev pub taken_on : Sampler → Sampler → ℕ → Backing → Backing
taken_on s t j k = with_side k j (taken_at (channel_at t j) (channel_at s j).count (side_at k j))

unfoldable pub change_backing : Sampler → Change → Backing → Backing
change_backing s x k =
    let t = (change_of s x).sampler in
    taken_on s t 1 (taken_on s t 0 k)

-- ---- a sample of channel j moves its side's positions on
unfoldable pub side_stepped : Sampler → ℕ → Params → Float → List ℕ → Backing → Backing
side_stepped s j p x m k = with_side k j (side_after p x (channel_at s j) (part_of s j m) (side_at k j))

unfoldable pub sample_backing : Sampler → ℕ → Float → Params → List ℕ → Backing → Backing
sample_backing s j x p m k = cond (eqb (sample_number s j p (length m)) 0) (side_stepped s j p x m k) k

-- ---- a frame: each channel's sample in turn

-- n entries from j on
unfoldable pub entries_backing : Params → ℕ → ℕ → Framed → Backing → Backing
entries_backing p zero j f k = k
entries_backing p (suc n) j f k = entries_backing p n (j + 1) (entry_of p j f)
    (side_stepped f.sampler j p (get_or f.frame j zero32) f.memory k)

unfoldable pub frame_backing : Sampler → List Float → Params → List ℕ → Backing → Backing
frame_backing s frame p m k = cond (eqb (frame_number s (length frame) p (length m)) 0)
    (entries_backing p (length frame) 0 (framed s frame m) k) k

-- ---- a run: its frames in turn
unfoldable pub frames_backing : Params → ℕ → Framed → Backing → Backing
frames_backing p zero f k = k
frames_backing p (suc n) f k =
    let count = f.sampler.count in
    let front = framed f.sampler (take count f.frame) f.memory in
    let g = entries_of p count 0 front in
    frames_backing p n (framed g.sampler (drop count f.frame) g.memory) (entries_backing p count 0 front k)

-- nothing is poured beside either channel
abbrev pub rested_on : ℕ → Backing → Backing
rested_on j k = with_side k j (rested_side (side_at k j))

unfoldable pub rested_backing : Backing → Backing
rested_backing k = rested_on 1 (rested_on 0 k)

unfoldable pub run_backing : Sampler → List Float → Params → List ℕ → Backing → Backing
run_backing s run p m k =
    rested_backing (frames_backing p (done_of s (length run) p (length m)) (framed s run m) k)
