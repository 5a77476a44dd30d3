-- A frame that the engine plays or refuses, as a listing prints it. Assumes nothing.
use mathlib.Core.Path.{◌≡◌, refl, ◌∙◌}
use mathlib.Core.List.{List, [], ◌∷◌}
use Prim.Native.Nat.{ℕ}
use native.Mathlib.Omega.{arith}
use lib.ListN.{length, get_or}
use lib.Ieee.{Float}
use Rattle.decimal.specs.declared.Line.{Line}
use Rattle.decimal.specs.Lines.{line_of}
use Rattle.sampler.specs.declared.Answer.{Answer}
use Rattle.std.specs.Prelude.{Ok, Err}
use Rattle.refusals.specs.declared.Refusal.{Refusal}
use Rattle.refusals.proofs.Codes.{numbered}
use Rattle.sampler.specs.Refusals.{frame_judged}
use Rattle.lent_sampler.specs.Hearing.{done_in}
use Rattle.sampler.specs.Samplers.{Frames}
use Rattle.own_sampler.specs.declared.FramePlayed.{FramePlayed}
use Rattle.listing.specs.Lines.{frame_line}
use Rattle.listing.specs.Steps.{clock_of, voices_of, answer_played, framed_by, frame_of}
use Rattle.listing.specs.declared.player.Player.{Player}
use Rattle.listing.specs.declared.player.Played.{Played}

-- a list of one, and of two
pub one_of : (l : List Float) (d : Float) → length l ≡ 1 → get_or l 0 d ∷ [] ≡ l
one_of [] d h = absurd (omega arith)
one_of (x ∷ []) d h = refl
one_of (x ∷ y ∷ l) d h = absurd (omega arith)

pub two_of : (l : List Float) (d : Float) → length l ≡ 2 → get_or l 0 d ∷ get_or l 1 d ∷ [] ≡ l
two_of [] d h = absurd (omega arith)
two_of (x ∷ []) d h = absurd (omega arith)
two_of (x ∷ y ∷ []) d h = refl
two_of (x ∷ y ∷ z ∷ l) d h = absurd (omega arith)

-- what a frame leaves, and whether it is refused: a listing prints no more of its answer
abbrev pub answer_of : FramePlayed → Answer
answer_of r = record { sampler = r.sampler; done = done_in r.done }

module _ (y : Player) (inputs : List Float) (m : List ℕ) where
  -- what is printed, and the memory afterwards
  abbrev pub Shows : Played → List ℕ → Type 0
  Shows r after = (r ≡ frame_of y inputs m) × (after ≡ (framed_by y inputs m).memory)

  module _ (a : Answer) (outputs : List Float) (after : List ℕ) (judged : a.done ≡ frame_judged y.sampler (length inputs) y.params (length m))
      (frames : Frames (framed_by y inputs m) a.sampler outputs after) where
    pub shows_outputs : (line : Line) → a.done ≡ Ok tt → line ≡ line_of (frame_line (clock_of y.sampler) outputs (voices_of a.sampler))
        → Shows (record { player = record { sampler = a.sampler; params = y.params }; line = line }) after
    unfolding frame_of
    shows_outputs line done is = (simp (← judged, done, is, frames.sampler, frames.frame), frames.memory)

    pub shows_number : (r : Played) (f : Refusal) → a.done ≡ Err f → r ≡ answer_played 6 y.params (record { sampler = a.sampler; done = Err f }) → Shows r after
    unfolding frame_of answer_played
    shows_number r f refused is = (is ∙ simp (← judged, refused, numbered f, frames.sampler), frames.memory)
