-- `Player::play` meets its contract: each arm is its case of the definition. Assumes nothing.
use mathlib.Core.Path.{◌∙◌}
use Rattle.listing.specs.Steps.{call_played, memory_after}
use Rattle.listing.proofs.player.Player.play.Goals as goal

pub returns-in-Parameters : goal.returns-in-Parameters
unfolding call_played memory_after
returns-in-Parameters c = let is = c.in-Parameters.is in
    record { value = simp (c.settings.ensures, is); memory_after = simp is }

pub returns-in-Start : goal.returns-in-Start
unfolding call_played memory_after
returns-in-Start c = let is = c.in-Start.is in
    record { value = simp (c.answered.ensures, c.start_playing.ensures, is); memory_after = simp is }

pub returns-in-Stop : goal.returns-in-Stop
unfolding call_played memory_after
returns-in-Stop c = let is = c.in-Stop.is in
    record { value = simp (c.answered-in-Stop.ensures, c.stop_playing.ensures, is); memory_after = simp is }

pub returns-in-Speed : goal.returns-in-Speed
unfolding call_played memory_after
returns-in-Speed c = let is = c.in-Speed.is in
    record { value = simp (c.answered-in-Speed.ensures, c.set_note_speed.ensures, is); memory_after = simp is }

pub returns-in-StartRecording : goal.returns-in-StartRecording
unfolding call_played memory_after
returns-in-StartRecording c = let is = c.in-StartRecording.is in
    record { value = simp (c.answered-in-StartRecording.ensures, c.start_recording.ensures, is); memory_after = simp is }

pub returns-in-StopRecording : goal.returns-in-StopRecording
unfolding call_played memory_after
returns-in-StopRecording c = let is = c.in-StopRecording.is in
    record { value = simp (c.answered-in-StopRecording.ensures, c.stop_recording.ensures, is); memory_after = simp is }

pub returns-in-Mono : goal.returns-in-Mono
unfolding call_played memory_after
returns-in-Mono c = let is = c.in-Mono.is in
    record { value = simp (c.mono.ensures.value, is); memory_after = c.mono.ensures.memory_after ∙ simp is }

pub returns-in-Stereo : goal.returns-in-Stereo
unfolding call_played memory_after
returns-in-Stereo c = let is = c.in-Stereo.is in
    record { value = simp (c.stereo.ensures.value, is); memory_after = c.stereo.ensures.memory_after ∙ simp is }

pub returns-in-Reset : goal.returns-in-Reset
unfolding call_played memory_after
returns-in-Reset c = let is = c.in-Reset.is in
    record { value = simp (c.answered-in-Reset.ensures, c.reset.ensures, is); memory_after = simp is }
