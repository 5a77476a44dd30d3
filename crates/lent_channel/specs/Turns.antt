-- What the steps around the loops over a lent channel work out. Definitions only.
use Rattle.std.specs.Prelude.{◌≡◌, ℕ, ◌+◌, ◌-◌, ◌≤◌, ◌<◌, Bool, true, false, not, ◌&&◌, cond, List, leb, ltb, eqb, length, get_or, set, Float}
use Rattle.std.proofs.lemmas.List.Edits.{sets}
use Rattle.std.proofs.Math.Seq.{slice}
use Rattle.binary32.specs.Leaves.{zero32}
use Rattle.std.specs.List.{fold}
use Rattle.voice.specs.declared.Voice.{Voice}
use Rattle.voice.specs.declared.Tick.{Tick}
use Rattle.voice.specs.Voices.{turn_of, should_remove_of, blank_voice}
use Rattle.voice.specs.Gliding.{glides_of}
use Rattle.channel.specs.declared.Head.{Head}
use Rattle.channel.specs.declared.Channel.{Channel}
use Rattle.channel.specs.declared.Played.{Played}
use Rattle.channel.specs.Heads.{recording_in, good_head, mixed_of}
use Rattle.phrases.specs.declared.Phrase.{Phrase}
use Rattle.phrases.specs.declared.Beside.{Beside}
use Rattle.phrases.specs.Phrases.{beside_with}
use Rattle.channel.specs.Channels.{with_voices, Turning, kept_of, tidied_of, added_of, turning_by}
use Rattle.lent_channel.specs.declared.Heard.{Heard}
use Rattle.lent_channel.specs.declared.Going.{Going}
use Rattle.lent_channel.specs.declared.Turn.{Turn}

-- what is heard of a channel without voices
unfoldable pub silent : Heard
silent = record { output = zero32; moved = 0 }

-- ---- where the turns stand

-- before the first
unfoldable pub begun : Going
begun = record { place = 0; kept = 0; output = zero32; first = 0; glides = true }

-- all voices before that place have glided: each stayed where it was
unfoldable pub glided_to : ℕ → Float → Going
glided_to n out = record { place = n; kept = n; output = out; first = 0; glides = true }

-- the voice at the next place
abbrev pub next_voice : Going → Channel → Voice
next_voice g c = get_or c.voices g.place blank_voice

-- it has taken its turn. The first that leaves is told by its place
unfoldable pub next_turn : Tick → List ℕ → Going → Voice → Turn
next_turn t m g v =
    let w = turn_of t m v in
    let gone = should_remove_of t w in
    record {
      voice = w;
      stays = not gone;
      next = record {
        place = g.place + 1;
        kept = cond gone g.kept (g.kept + 1);
        output = added_of (should_remove_of t v) g.output w.last_sample_value;
        first = cond gone (cond (ltb g.kept g.place) g.first g.place) g.first;
        glides = false;
      };
    }

-- so the channel has it: a voice that stays stands behind those that stayed
unfoldable pub turned_in : Going → Turn → Channel → Channel
turned_in g r c = cond r.stays (with_voices (set c.voices g.kept r.voice) c.count c) c

-- it took none, and stayed
unfoldable pub rested_of : Going → Going
rested_of g = record {
  place = g.place + 1;
  kept = g.kept + 1;
  output = g.output;
  first = g.first;
  glides = g.glides;
}

unfoldable pub rested_in : Going → Channel → Channel
rested_in g c = with_voices (set c.voices g.kept (next_voice g c)) c.count c

-- how many voices moved up: those that stayed behind the first that left
unfoldable pub moved_by : Going → ℕ
moved_by g = cond (ltb g.kept g.place) (g.kept - g.first) 0

-- turns stand so before the n-th voice
pub record Stands (n : ℕ) (g : Going) : Type 0 where
  pub few : n ≤ 32
  pub inside : g.place ≤ n
  pub up : g.kept ≤ g.place
  pub first : g.first ≤ g.kept
  pub all : g.glides ≡ true → g.kept ≡ g.place

-- and the next of these voices is of the tick's phrase
pub record Next (n : ℕ) (c : Channel) (t : Tick) (g : Going) : Type 0 where
  pub stands : Stands n g
  pub below : g.place < n
  pub phrase : (next_voice g c).phrase ≡ t.phrase

-- ---- what turns promise

-- What the turns of voices give on a channel whose turns stand so: those that stay stand behind the voices that stayed,
-- what is heard is added, and where one has left, all that stay move up.
unfoldable pub rest_by : Turning → Channel → Going → List Voice → Played
rest_by s c g vs =
    let k = g.kept + length (kept_of s vs) in
    record {
      channel = with_voices (sets c.voices g.kept (kept_of s vs)) k c;
      output = fold s.adds g.output vs;
      moved = cond (ltb g.kept g.place) (k - g.first) (tidied_of s vs);
    }

-- those of the voices from the next to the n-th
abbrev pub rest_of : Turning → ℕ → Channel → Going → Played
rest_of s n c g = rest_by s c g (slice g.place n c.voices)

-- From channel c and g to d and h turns have gone on: what is left of them gives the same
pub record Onward (s : Turning) (n : ℕ) (c : Channel) (g : Going) (d : Channel) (h : Going) : Type 0 where
  pub stands : Stands n h
  pub same : rest_of s n d h ≡ rest_of s n c g

-- s does with each voice of the tick's phrase what tick and memory say
pub record Follows (s : Turning) (t : Tick) (m : List ℕ) : Type 0 where
  pub turns : (v : Voice) → v.phrase ≡ t.phrase → s.turn v ≡ (turning_by t m).turn v
  pub leaves : (v : Voice) → v.phrase ≡ t.phrase → s.leaves v ≡ (turning_by t m).leaves v
  pub adds : (out : Float) (v : Voice) → v.phrase ≡ t.phrase → s.adds out v ≡ (turning_by t m).adds out v

-- turns of voices of the tick's phrase, whatever others do
abbrev pub Goes : Tick → List ℕ → ℕ → Channel → Going → Channel → Going → Type 0
Goes t m n c g d h = (s : Turning) → Follows s t m → Onward s n c g d h

-- gliding turns: how far they go is left open; each voice before there glided, and the others are as they were, so that
-- turns of more voices have gone on too
pub record Glides (t : Tick) (m : List ℕ) (n : ℕ) (c : Channel) (g : Going) (d : Channel) (h : Going) : Type 0 where
  pub further : g.place ≤ h.place
  pub goes : (e : ℕ) → n ≤ e → e ≤ 32 → Goes t m e c g d h
  pub none : h.place ≡ g.place → (d ≡ c)
  pub level : h.kept ≡ h.place
  pub glided : (i : ℕ) → g.place ≤ i → i < h.place
      → ((get_or c.voices i blank_voice).phrase ≡ t.phrase) × (glides_of t m (get_or c.voices i blank_voice) ≡ true)
  pub rest : (i : ℕ) → h.place ≤ i → get_or d.voices i blank_voice ≡ get_or c.voices i blank_voice

-- what of a channel's sample goes up to the frame: all but the channel
abbrev pub heard_of : Played → Heard
heard_of r = record { output = r.output; moved = r.moved }

-- what the voices gave, mixed with the input as the head says
abbrev pub mixed_with : Head → Float → Heard → Heard
mixed_with t x h = record { output = mixed_of x h.output t; moved = h.moved }

-- what of a good channel isn't said of its voices
unfoldable pub head_good_of : ℕ → Head → ℕ → Bool
head_good_of capacity h count = leb count 32 && good_head capacity h

-- ---- phrases (request 11/12), looked at one after another

-- the phrase of a number, by its entry of the table
abbrev pub looked_at : Phrase → ℕ → Head → Phrase
looked_at p k h = cond (eqb k h.chosen) (recording_in h) p

-- what the phrases so far say to the head's own, with one more: the chosen one's entry says nothing
abbrev pub beside_next : Beside → Head → ℕ → Phrase → Beside
beside_next b h k p = cond (eqb k h.chosen) b (beside_with h.start b p)
