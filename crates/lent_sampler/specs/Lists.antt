-- What is asked of a channel of a lent record before its notes or its voices' figures are listed. Definitions only.
-- Assumes nothing.
use Rattle.std.specs.Prelude.{ℕ, not, cond, count_by, ◌==◌}
use Rattle.voice.specs.declared.Voice.{Voice}
use Rattle.channel.specs.declared.Channel.{Channel}
use Rattle.channel.specs.Channels.{live, phrase_at}
use Rattle.sampler.specs.declared.Sampler.{Sampler}
use Rattle.sampler.specs.Refusals.{channel_at}

-- of two channels the asked one; past the last it is the first, which no answer shows
unfoldable pub seat_of : ℕ → ℕ
seat_of j = cond (j == 1) 1 0

abbrev pub seated : Sampler → ℕ → Channel
seated s j = channel_at s (seat_of j)

-- how many voices are unfinished
unfoldable pub unfinished : Channel → ℕ
unfinished c = count_by (λ (v : Voice). not v.finished) (live c)

-- how long the phrase of that number is
abbrev pub phrase_length : ℕ → Channel → ℕ
phrase_length k c = (phrase_at c k).length
