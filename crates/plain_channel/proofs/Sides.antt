-- What turns of voices leave of the positions beside them: one that stays takes its own with it, one that leaves takes it away, and a plain voice that glides moves its own by one, one that isn't leaves it. Assumes nothing.
use mathlib.Core.Path.{◌≡◌, refl, sym, ◌∙◌, ap, ap₂}
use Prim.Native.Nat.{ℕ, suc, ◌+◌, ◌≤◌, ◌<◌, min}
use native.Mathlib.Nat.{le_refl}
use native.Mathlib.Numerals.{add-one}
use native.Mathlib.Omega.{arith}
use mathlib.Core.Bool.{Bool, true, false, cond}
use mathlib.Core.List.{List, ◌∷◌}
use lib.ListN.{length, get_or, set}
use lib.Seq.{sets, slice, slice_empty, set-get_or}
use lib.Ieee.{Float, binary32, add}
use Rattle.walks.proofs.Lists.Loops.{next, stored, take_most}
use Rattle.clip.specs.declared.Clip.{Clip}
use Rattle.voice.specs.declared.Voice.{Voice}
use Rattle.voice.specs.declared.Tick.{Tick}
use Rattle.voice.specs.declared.Quick.{Quick}
use Rattle.voice.specs.Voices.{should_remove_of, blank_voice}
use Rattle.voice.specs.Gliding.{Quickly}
use Rattle.voice.proofs.Gliding.{glides}
use Rattle.voice.proofs.PhraseKept.{turn_phrase}
use Rattle.plain_voice.specs.declared.Hot.{Hot}
use Rattle.plain_voice.specs.declared.Beat.{Beat}
use Rattle.plain_voice.specs.Hots.{cold, judged_of, stepped_hot, PlainQuickly}
use Rattle.channel.specs.declared.Channel.{Channel}
use Rattle.channel.specs.Channels.{with_voices, Turning, turning_by}
use Rattle.lent_channel.specs.declared.Going.{Going}
use Rattle.lent_channel.specs.Turns.{begun, glided_to}
use Rattle.lent_channel.proofs.Turns.{glide_on}
use Rattle.plain_channel.specs.declared.Side.{Side}
use Rattle.plain_channel.specs.Sides.{with_hots, hots_kept, side_played, rest_hots, GoTogether, Paced}

-- a voice that isn't plain keeps what stands beside it
pub unjudged : (h : Hot) (on : Bool) (x : Clip) (now : ℕ) → h.plain ≡ false → judged_of h on x now ≡ h
unfolding judged_of
unjudged h on x now full = simp full

-- ---- one turn
module _ (s : Turning) (c : Channel) (k : Side) (g : Going) (n : ℕ) (few : n ≤ 32) (below : g.place < n) (voices : length c.voices ≡ 32) (hots : length k.hots ≡ 32) where
  abbrev i : ℕ
  i = g.place

  abbrev at : ℕ
  at = g.kept

  abbrev v : Voice
  v = get_or c.voices i blank_voice

  abbrev h : Hot
  h = get_or k.hots i cold

  abbrev judged : Voice → Hot
  judged w = judged_of h c.head.interpolates w.clip2 c.head.now

  abbrev behind_voices : List Voice
  behind_voices = slice (i + 1) n c.voices

  abbrev behind_hots : List Hot
  behind_hots = slice (i + 1) n k.hots

  rest_next : rest_hots s n c k g ≡ sets k.hots at (hots_kept s c.head (v ∷ behind_voices) (h ∷ behind_hots))
  unfolding rest_hots
  rest_next =
      ap₂ (λ (vs : List Voice) (hs : List Hot). sets k.hots at (hots_kept s c.head vs hs)) (next c.voices i n blank_voice below (omega (arith, few, voices))) (next k.hots i n cold below (omega (arith, few, hots)))

  module _ (w : Voice) (turned : w ≡ s.turn v) where
    one : (b : Bool) → s.leaves w ≡ b → (vs : List Voice) (hs : List Hot) → hots_kept s c.head (v ∷ vs) (h ∷ hs) ≡ cond b (hots_kept s c.head vs hs) (judged w ∷ hots_kept s c.head vs hs)
    unfolding hots_kept
    one b gone vs hs =
        ap (λ (u : Voice). cond (s.leaves u) (hots_kept s c.head vs hs) (judged u ∷ hots_kept s c.head vs hs)) (sym turned)
        ∙ ap (λ (z : Bool). cond z (hots_kept s c.head vs hs) (judged w ∷ hots_kept s c.head vs hs)) gone

    -- it stays, and stands at its place among those that do
    pub hots_stay : s.leaves w ≡ false → at ≤ i → (r : Going) → r.place ≡ i + 1 → r.kept ≡ at + 1
        → rest_hots s n (with_voices (set c.voices at w) c.count c) (with_hots (set k.hots at (judged w)) k) r ≡ rest_hots s n c k g
    unfolding rest_hots
    hots_stay stays up r place kept =
        ap₂ (λ (p q : ℕ). sets (set k.hots at (judged w)) q (hots_kept s c.head (slice p n (set c.voices at w)) (slice p n (set k.hots at (judged w))))) place (kept ∙ add-one at)
        ∙ ap₂ (λ (vs : List Voice) (hs : List Hot). sets (set k.hots at (judged w)) (suc at) (hots_kept s c.head vs hs)) (stored n c.voices (i + 1) at w (omega (arith, up))) (stored n k.hots (i + 1) at (judged w) (omega (arith, up)))
        ∙ sym (rest_next ∙ ap (sets k.hots at) (one false stays behind_voices behind_hots))

    -- it leaves
    pub hots_leave : s.leaves w ≡ true → (r : Going) → r.place ≡ i + 1 → r.kept ≡ at → rest_hots s n c k r ≡ rest_hots s n c k g
    unfolding rest_hots
    hots_leave gone r place kept =
        ap₂ (λ (p q : ℕ). sets k.hots q (hots_kept s c.head (slice p n c.voices) (slice p n k.hots))) place kept
        ∙ sym (rest_next ∙ ap (sets k.hots at) (one true gone behind_voices behind_hots))

-- ---- a voice glides
module _ (t : Tick) (m : List ℕ) (n : ℕ) (c : Channel) (k : Side) (i : ℕ) (out : Float) (v : Voice) (r : Quick) (few : n ≤ 32) (below : i < n) (voices : length c.voices ≡ 32) (hots : length k.hots ≡ 32) (is_voice : get_or c.voices i blank_voice ≡ v) (quickly : Quickly t m v r) (so : r.glides ≡ true) where
  -- its position as it is judged
  abbrev own : Hot
  own = judged_of (get_or k.hots i cold) c.head.interpolates r.voice.clip2 c.head.now

  abbrev GoesBeside : Side → Type 0
  GoesBeside l = GoTogether t m n c k (glided_to i out) (with_voices (set c.voices i r.voice) c.count c) l (glided_to (i + 1) (add binary32 out r.voice.last_sample_value))

  glides_beside : (l : Side) → l ≡ with_hots (set k.hots i own) k → GoesBeside l
  unfolding glided_to turning_by
  glides_beside l is_side s follows =
      let turned = quickly so in
      let w : Voice = r.voice in
      let same : w ≡ s.turn v = turned.2 ∙ sym (follows.turns v turned.0) in
      let phrase : w.phrase ≡ t.phrase = ap (λ (u : Voice). u.phrase) turned.2 ∙ turn_phrase t m v ∙ turned.0 in
      let stays : s.leaves w ≡ false = follows.leaves w phrase ∙ ap (should_remove_of t) turned.2 ∙ (glides t m v turned.1).stays_after in
      record {
        onward = glide_on t m n c i out v r few below voices is_voice quickly so s follows;
        same = ap (λ (x : Side). rest_hots s n (with_voices (set c.voices i w) c.count c) x (glided_to (i + 1) (add binary32 out w.last_sample_value))) is_side
            ∙ hots_stay s c k (glided_to i out) n few below voices hots w (same ∙ ap s.turn (sym is_voice)) stays (le_refl i) _ refl refl;
        pour = ap (λ (x : Side). x.pour) is_side;
      }

  -- one that isn't plain: its position is what it was
  pub cool_on : (get_or k.hots i cold).plain ≡ false → GoesBeside k
  cool_on full = glides_beside k (sym (ap (λ (l : List Hot). with_hots l k) (ap (set k.hots i) (unjudged (get_or k.hots i cold) c.head.interpolates r.voice.clip2 c.head.now full) ∙ set-get_or k.hots i cold)))

  -- a plain one: its position moves by one
  pub hot_on : (b : Beat) (h : Hot) → get_or k.hots i cold ≡ h → Paced c t b → PlainQuickly h v t b m r → h.plain ≡ true → GoesBeside (with_hots (set k.hots i (stepped_hot h b.length)) k)
  hot_on b h is_hot paced quick plain =
      let moved : stepped_hot h b.length ≡ own =
      (quick paced.beat).1 so plain ∙ ap₂ (λ (on : Bool) (now : ℕ). judged_of h on r.voice.clip2 now) paced.setting paced.now ∙ ap (λ (x : Hot). judged_of x c.head.interpolates r.voice.clip2 c.head.now) (sym is_hot) in
      glides_beside _ (ap (λ (x : Hot). with_hots (set k.hots i x) k) moved)

-- ---- from the first turn to the last
pub hots_begin : (s : Turning) (c : Channel) (k : Side) → length c.voices ≡ 32 → length k.hots ≡ 32 → rest_hots s (min c.count 32) c k begun ≡ (side_played s c k).hots
unfolding rest_hots begun side_played
hots_begin s c k voices hots = ap₂ (λ (vs : List Voice) (hs : List Hot). sets k.hots 0 (hots_kept s c.head vs hs)) (take_most c.voices c.count 32 voices) (take_most k.hots c.count 32 hots)

pub hots_end : (s : Turning) (n : ℕ) (c : Channel) (k : Side) (g : Going) → g.place ≡ n → rest_hots s n c k g ≡ k.hots
unfolding rest_hots hots_kept
hots_end s n c k g end =
    ap (λ (vs : List Voice). sets k.hots g.kept (hots_kept s c.head vs (slice g.place n k.hots))) (ap (λ (p : ℕ). slice p n c.voices) end ∙ slice_empty n c.voices)
