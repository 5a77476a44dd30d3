-- A sample that agrees with a voice's clip leaves it: each of the four updates finds an equal value. Assumes nothing.
use mathlib.Core.Path.{◌≡◌, ap, ◌∙◌}
use Prim.Native.Nat.{ℕ}
use mathlib.Core.Bool.{Bool, true, false, ◌&&◌}
use lib.Ieee.{Float, binary32, mul, eq}
use lib.Ieee.Bits.{is_true}
use lib.Ieee.Fits.{and_l, and_r}
use Rattle.binary32.proofs.Truth.{yes}
use Rattle.clip.specs.declared.Clip.{Clip}
use Rattle.clip.specs.declared.Mode.{Mode}
use Rattle.clip.specs.Updates.{same_mode, same_all, with_length, with_speed, with_data_length, with_mode}
use Rattle.clip.proofs.Equal.{with_length_equal, with_speed_equal, with_data_length_equal, with_mode_equal}
use Rattle.voice.specs.Voices.{moved_of}
use Rattle.voice.specs.Agreeing.{agrees_of}
use Rattle.voice.specs.declared.Voice.{Voice}
use Rattle.voice.specs.declared.Tick.{Tick}

-- four updates to equal values
all_equal : (c : Clip) (now : ℕ) (length speed total : Float) (mode : Mode) → eq length c.length ≡ true → eq speed c.speed ≡ true → eq total c.data_length ≡ true
    → same_mode mode c.mode ≡ true → with_mode (with_data_length (with_speed (with_length c now length) now speed) now total) now mode ≡ c
all_equal c now length speed total mode l s d m =
    ap (λ (z : Clip). with_mode (with_data_length (with_speed z now speed) now total) now mode) (with_length_equal c now length l)
    ∙ ap (λ (z : Clip). with_mode (with_data_length z now total) now mode) (with_speed_equal c now speed s)
    ∙ ap (λ (z : Clip). with_mode z now mode) (with_data_length_equal c now total d)
    ∙ with_mode_equal c now mode m

pub unmoved : (t : Tick) (v : Voice) → agrees_of t v ≡ true → moved_of t v ≡ v.clip2
unfolding moved_of agrees_of
unmoved t v h =
    let c : Clip = v.clip2 in
    let speed : Float = mul binary32 v.speed t.speed in
    let l : Bool = eq t.span.length c.length in
    let s : Bool = eq speed c.speed in
    let d : Bool = eq t.span.data_length c.data_length in
    let m : Bool = same_mode t.mode c.mode in
    let h₁ = yes h in
    let h₂ = and_r l (s && (d && m)) h₁ in
    let h₃ = and_r s (d && m) h₂ in
    all_equal c t.now t.span.length speed t.span.data_length t.mode (is_true l (and_l l (s && (d && m)) h₁)) (is_true s (and_l s (d && m) h₂)) (is_true d (and_l d m h₃)) (is_true m (and_r d m h₃))

-- the test of a clip's one update, and the sample's
same_agrees : (a b c d : Bool) → (a && b && c && d) ≡ true → (a && (b && (c && d))) ≡ true
same_agrees true true c d h = h
same_agrees true false c d h = h
same_agrees false b c d h = h

pub agrees : (t : Tick) (v : Voice) → same_all v.clip2 t.span.length (mul binary32 v.speed t.speed) t.span.data_length t.mode ≡ true → agrees_of t v ≡ true
unfolding same_all agrees_of
agrees t v h =
    same_agrees (eq t.span.length v.clip2.length) (eq (mul binary32 v.speed t.speed) v.clip2.speed) (eq t.span.data_length v.clip2.data_length) (same_mode t.mode v.clip2.mode) h
