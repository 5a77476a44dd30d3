-- Samples that leave a voice's clip as it is. Definitions only. Assumes nothing.
use Rattle.std.specs.Prelude.{Bool, ◌&&◌}
use Rattle.std.specs.Float.{binary32}
use Rattle.std.specs.Float.Ieee.{mul, eq}
use Rattle.clip.specs.Updates.{same_mode}
use Rattle.voice.specs.declared.Voice.{Voice}
use Rattle.voice.specs.declared.Tick.{Tick}

-- the length, speed, data length and mode that the sample asks for are those that the clip has
unfoldable pub agrees_of : Tick → Voice → Bool
agrees_of t v =
    eq t.span.length v.clip2.length
    && (eq (mul binary32 v.speed t.speed) v.clip2.speed
    && (eq t.span.data_length v.clip2.data_length && same_mode t.mode v.clip2.mode))
