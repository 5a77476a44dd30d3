-- Which voices the plain engine has, and where they stand, in the words of request 9/12. Definitions only. Assumes nothing.
use Rattle.std.specs.Prelude.{◌≡◌, ℕ, ◌^◌, ◌<◌, ◌≤◌, Bool, true, false, not, ◌&&◌}
use Rattle.binary32.specs.Leaves.{as_whole}
use Rattle.clip.specs.declared.Clip.{Clip}
use Rattle.clip.specs.Positions.{elapsed_at}
use Rattle.clip.specs.Plain.{plain_at}
use Rattle.plain_voice.specs.declared.Hot.{Hot}
use Rattle.plain_voice.specs.Hots.{hot_after, hot_at, judged_of, stepped_hot}

-- of every clip, of 7/12's setting on or off, at every time
pub record Exactly (c : Clip) (smooth : Bool) (now : ℕ) : Type 0 where
  -- "takes every voice that at its start meets 8/12's premises with 7/12's setting off, and no other"
  pub taken : elapsed_at c now ≡ 0 → (hot_at smooth c now).plain ≡ (not smooth && plain_at c now)
  -- "hands it back to the full engine .. before any change that would break them": c being its clip after the updates
  pub kept : (h : Hot) → elapsed_at c now < 2 ^ 24 → (judged_of h smooth c now).plain ≡ (h.plain && (not smooth && plain_at c now))
  -- "or at elapsed 2^24, and not sooner"
  pub handed_back : (h : Hot) → 2 ^ 24 ≤ elapsed_at c now → (judged_of h smooth c now).plain ≡ false
  -- "keeps the position as a whole number and moves it by one"
  pub by_one : (h : Hot) → (judged_of h smooth c now).plain ≡ true → h ≡ hot_after c (elapsed_at c now)
      → judged_of h smooth c now ≡ stepped_hot h (as_whole 64 c.length)
