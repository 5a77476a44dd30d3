-- What a voice goes by: the tick of a phrase, by a measure of the settings (`tick_by`, `tick_is`), and the phrase's part of a
-- memory (`part_within`, it lies there). Assumes nothing.
use mathlib.Core.Path.{◌≡◌, ap, ◌∙◌}
use Prim.Native.Nat.{ℕ, ◌-◌, ◌≤◌}
use mathlib.Core.List.{List}
use lib.ListN.{length, take, drop}
use Rattle.common_types.specs.declared.Params.{Params}
use Rattle.common_types.specs.declared.Measure.{Measure}
use Rattle.common_types.specs.Settings.{measure_of}
use Rattle.phrases.specs.declared.Phrase.{Phrase}
use Rattle.phrases.specs.declared.Room.{Room}
use Rattle.phrases.specs.Phrases.{room_of, stored_in}
use Rattle.phrases.proofs.Rooms.{room_inside, room_stored}
use Rattle.voice.specs.declared.Tick.{Tick}
use Rattle.voice.specs.Voices.{span_by, tick_with, tick_of}
use Rattle.voice.proofs.Measured.{tick_measured}
use Rattle.channel.specs.declared.Channel.{Channel}
use Rattle.voice.specs.declared.Moment.{Moment}
use Rattle.channel.specs.Heads.{moment_on}
use Rattle.channel.specs.Channels.{phrase_at, moment_for}

abbrev pub tick_by : Params → Measure → Channel → ℕ → Tick
tick_by p m c k = tick_with (span_by m (phrase_at c k).length) p (moment_for c k)

pub tick_is : (p : Params) (m : Measure) (c : Channel) (k : ℕ) → m ≡ measure_of p → tick_by p m c k ≡ tick_of p (moment_for c k)
tick_is p m c k same = tick_measured p m same (moment_for c k)

-- the tick that is measured once the phrase and what its voices share are looked up
pub ticked : (p : Params) (m : Measure) (c : Channel) (k : ℕ) (ph : Phrase) (at : Moment) (t : Tick)
    → m ≡ measure_of p → ph ≡ phrase_at c k → at ≡ moment_on c.head k ph.length → t ≡ tick_with (span_by m at.data_len) p at → t ≡ tick_of p (moment_for c k)
ticked p m c k ph at t same is_phrase is_moment is_tick =
    is_tick ∙ ap (λ (x : Moment). tick_with (span_by m x.data_len) p x) (is_moment ∙ ap (λ (x : Phrase). moment_on c.head k x.length) is_phrase) ∙ tick_is p m c k same

-- ---- its part of the memory

-- the part that its room says
pub part_is : (c : Channel) (k : ℕ) (ph : Phrase) (rm : Room) (ms : List ℕ) → ph ≡ phrase_at c k → rm ≡ room_of ph (length ms) → take (rm.to - rm.from) (drop rm.from ms) ≡ stored_in (phrase_at c k) ms
part_is c k ph rm ms is_phrase is_room =
    ap (λ (x : Room). take (x.to - x.from) (drop x.from ms)) is_room ∙ room_stored ph ms ∙ ap (λ (x : Phrase). stored_in x ms) is_phrase

module _ (ph : Phrase) (ms : List ℕ) where
  abbrev rm : Room
  rm = room_of ph (length ms)

  abbrev pub part_lent : List ℕ
  part_lent = take (rm.to - rm.from) (drop rm.from ms)

  pub part_within : (rm.from ≤ rm.to) × (rm.to ≤ length ms)
  part_within = room_inside ph (length ms)
