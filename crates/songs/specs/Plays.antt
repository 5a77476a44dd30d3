-- A song's list, played: the calls that are due, one after the other, by the definitions that the engine's calls equal.
-- Definitions only.
use Rattle.std.specs.Prelude.{◌≡◌, ℕ, ◌+◌, ◌*◌, cond, List, [], ◌∷◌, ◌++◌, length, drop, nat_le, Result, is_ok}
use Rattle.binary32.specs.Leaves.{as_float}
use Rattle.std.specs.List.{fold}
use Rattle.refusals.specs.declared.Refusal.{Refusal}
use Rattle.channel.specs.declared.Change.{Change}
use Rattle.channel.specs.declared.Change.TheVariants as change
use Rattle.common_types.specs.Notes.{from_u64_of}
use Rattle.common_types.specs.declared.Params.{Params}
use Rattle.sampler.specs.Samplers.{start_playing_of, stop_playing_of}
use Rattle.sampler.specs.declared.Answer.{Answer}
use Rattle.sampler.specs.declared.Sampler.{Sampler}
use Rattle.smf.specs.Cues.{cue_of}
use Rattle.smf.specs.declared.Cue.{Cue}
use Rattle.songs.specs.declared.Playing.{Playing}

-- the call that a host would make by hand: every start is at position 0
unfoldable pub cue_call : Sampler → Cue → Params → Answer
cue_call s c p =
    cond c.starts (start_playing_of s (as_float 0) (from_u64_of c.note) c.velocity p)
    (stop_playing_of s (from_u64_of c.note) p)

-- the change that it makes
unfoldable pub change_by : Cue → Params → Change
change_by c p =
    cond c.starts (change.Start p (as_float 0) (from_u64_of c.note) c.velocity)
    (change.Stop p (from_u64_of c.note))

-- a refused call is counted
unfoldable pub one_more_refused : ℕ → Result (Unit {0}) Refusal → ℕ
one_more_refused refused done = cond (is_ok done) refused (refused + 1)

-- the starts and stops of a list, two numbers each
unfoldable pub cues_of : List ℕ → List Cue
cues_of [] = []
cues_of (x ∷ []) = []
cues_of (frame ∷ key ∷ rest) = cue_of frame key ∷ cues_of rest

-- those that are due at the count `at`, up to the first that isn't; a refused one changes nothing, and the song goes on
unfoldable pub cues_played : Sampler → List Cue → ℕ → ℕ → Params → ℕ → Playing
cues_played s [] next at p refused = record { sampler = s; next = next; refused = refused }
cues_played s (c ∷ cs) next at p refused =
    let a = cue_call s c p in
    cond (nat_le c.frame at) (cues_played a.sampler cs (next + 1) at p (one_more_refused refused a.done))
    (record { sampler = s; next = next; refused = refused })

-- from the entry `next` on
unfoldable pub play_of : Sampler → List ℕ → ℕ → ℕ → Params → Playing
play_of s list next at p = cues_played s (cues_of (drop (2 * next) list)) next at p 0

-- ---- "Playing the list equals making the calls by hand"

-- those of a list that are due, up to the first that isn't
unfoldable pub due_of : ℕ → List Cue → List Cue
due_of at [] = []
due_of at (c ∷ cs) = cond (nat_le c.frame at) (c ∷ due_of at cs) []

-- those of them that are refused, each made on the engine as the one before it leaves it
unfoldable pub refused_of : Sampler → List Cue → Params → List Cue
refused_of s [] p = []
refused_of s (c ∷ cs) p =
    let a = cue_call s c p in
    cond (is_ok a.done) [] (c ∷ []) ++ refused_of a.sampler cs p

pub record ByHand (s : Sampler) (list : List ℕ) (next at : ℕ) (p : Params) : Type 0 where
  -- the engine is as after each call in turn
  pub calls : (play_of s list next at p).sampler
      ≡ fold (λ (e : Sampler) (c : Cue). (cue_call e c p).sampler) s (due_of at (cues_of (drop (2 * next) list)))
  -- and the next entry is the one behind them
  pub places : (play_of s list next at p).next ≡ next + length (due_of at (cues_of (drop (2 * next) list)))
  -- and as many are told as refused as are
  pub refusals : (play_of s list next at p).refused ≡ length (refused_of s (due_of at (cues_of (drop (2 * next) list))) p)
