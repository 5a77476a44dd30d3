-- A voice that may be poured: in the next sample it stays and is heard, and neither that nor all finish it; and what a sample behind such voices asks holds. Assumes nothing.
use mathlib.Core.Path.{◌≡◌, refl, sym, ap, ◌∙◌, subst}
use Prim.Native.Nat.{ℕ, suc, ◌≤◌, min}
use mathlib.Core.Bool.{Bool}
use mathlib.Core.List.{List}
use lib.ListN.{length}
use lib.Ieee.{Float, binary32, add}
use Rattle.common_types.specs.declared.Params.{Params}
use Rattle.voice.specs.declared.Voice.{Voice}
use Rattle.voice.specs.declared.Tick.{Tick}
use Rattle.voice.specs.Voices.{turn_of}
use Rattle.voice.proofs.Gliding.{glides}
use Rattle.voice.proofs.PhraseKept.{turn_phrase, tick_phrase}
use Rattle.plain_voice.specs.declared.Hot.{Hot}
use Rattle.pours.specs.Pours.{turns_of, GlidesOn}
use Rattle.channel.specs.declared.Channel.{Channel}
use Rattle.channel.specs.Channels.{added_of, turning_by, moment_for, turning_in}
use Rattle.channel.proofs.Turns.{sounds_by}
use Rattle.lent_channel.specs.Turns.{Follows}
use Rattle.lent_channel.proofs.Turns.{follows_own}
use Rattle.plain_channel.specs.Ahead.{tick_in, recording_held, on_by, Easy, Ahead}
use Rattle.plain_channel.proofs.Aheads.{ahead_count}
use Rattle.plain_channel.proofs.Laters.{turns_finished}
use Rattle.plain_channel.proofs.Behinds.{Stays}

-- ---- a voice that may be poured
module _ (p : Params) (m : List ℕ) (d : Channel) (v : Voice) (n : ℕ) where
  abbrev t : Tick
  t = tick_in p d v

  abbrev held : List ℕ
  held = recording_held m d v

  -- stays in the next sample
  pub easy_stays : Easy p m (suc n) d v → Stays (turning_in p d m) v (on_by p m d 1 v)
  unfolding turns_of GlidesOn turning_by added_of
  easy_stays easy =
      let w : Voice = turn_of t held v in
      let stays = glides t held v easy.glides.0 in
      let follows : Follows (turning_in p d m) t held = follows_own p d m v.phrase easy.full in
      let own : v.phrase ≡ t.phrase = sym (tick_phrase p (moment_for d v.phrase)) in
      record {
        turns = follows.turns v own;
        stays = follows.leaves w (turn_phrase t held v ∙ own) ∙ stays.stays_after;
        adds = λ out. follows.adds out v own
            ∙ sym (sounds_by t held out (add binary32 out w.last_sample_value) v w refl (ap (λ (b : Bool). added_of b out w.last_sample_value) (sym stays.stays)));
      }

  -- and is finished after it, and after all, if it was
  pub easy_soon : Easy p m (suc n) d v → (on_by p m d 1 v).finished ≡ v.finished
  unfolding GlidesOn
  easy_soon easy = turns_finished t held 1 v (easy.glides.0, tt)

pub easy_late : (p : Params) (m : List ℕ) (d : Channel) (v : Voice) (n : ℕ) → Easy p m n d v → (on_by p m d n v).finished ≡ v.finished
easy_late p m d v n easy = turns_finished (tick_in p d v) (recording_held m d v) n v easy.glides

-- ---- what a sample behind them asks
module _ (p : Params) (m : List ℕ) {e n : ℕ} {sums : List Float} {d c : Channel} {hs ks : List Hot} (voices : length d.voices ≡ 32) (ahead : Ahead p m e n sums d hs c ks) where
  pub asks_inside : e ≤ min c.count 32
  asks_inside = subst (λ (k : ℕ). e ≤ min k 32) (sym (ap (λ (x : Channel). x.count) ahead.channel ∙ ahead_count p m e n d)) ahead.eased.inside
