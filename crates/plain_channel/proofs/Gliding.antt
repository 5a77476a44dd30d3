-- Voices of a tick's phrase glide from the next on, each with the position beside it.
--     Still            how far they have come;  `still_first`, `still_glides`, where none has glided yet, and what it comes to
--     cool_next, hot_next      one more glides, that isn't plain, or is
--     twice, four_times        an element that is altered part by part
--     sounds_on, steps_on      with the four fields that a turn changes a voice is what it is after it, and a plain position with those of the next is the next
-- Assumes nothing.
use mathlib.Core.Path.{◌≡◌, refl, sym, ◌∙◌, ap, subst}
use Prim.Native.Nat.{ℕ, ◌+◌, ◌≤◌, ◌<◌, ◌%◌, ◌^◌}
use native.Mathlib.Nat.{le_refl}
use native.Mathlib.Omega.{arith}
use mathlib.Core.Bool.{Bool, true, false, cond}
use mathlib.Core.List.{List}
use lib.Dec.{ltb}
use lib.ListN.{length, get_or, set}
use lib.Seq.{get_or-set_same, set-set}
use lib.Ieee.{Float, binary32, add}
use Rattle.voice.specs.declared.Voice.{Voice}
use Rattle.voice.specs.declared.Tick.{Tick}
use Rattle.voice.specs.declared.Quick.{Quick}
use Rattle.voice.specs.Voices.{blank_voice}
use Rattle.voice.specs.Gliding.{glided_at, glided_of, Quickly}
use Rattle.voice.proofs.Gliding.{glides}
use Rattle.plain_voice.specs.declared.Hot.{Hot}
use Rattle.plain_voice.specs.declared.Beat.{Beat}
use Rattle.plain_voice.specs.Hots.{cold, stepped_hot, PlainQuickly}
use Rattle.channel.specs.declared.Channel.{Channel}
use Rattle.channel.specs.Channels.{with_voices}
use Rattle.lent_channel.specs.declared.Going.{Going}
use Rattle.lent_channel.specs.Turns.{Stands, glided_to}
use Rattle.plain_channel.specs.declared.Side.{Side}
use Rattle.plain_channel.specs.Sides.{with_hots, GoTogether, GlideTogether, Paced}
use Rattle.plain_channel.proofs.Sides.{cool_on, hot_on}
use Rattle.plain_channel.proofs.Togethers.{goes_together, together_from}

-- ---- what is stored of a voice, and of a position
abbrev pub sounding : Voice → Voice → Voice
sounding v w = record {
  finished_at = v.finished_at;
  last_sample_index = w.last_sample_index;
  clip2 = v.clip2;
  volume = v.volume;
  loop_start_percent = v.loop_start_percent;
  played = w.played;
  last_sample_value = w.last_sample_value;
  speed = v.speed;
  note = v.note;
  finished = v.finished;
  is_at_zero_crossing = w.is_at_zero_crossing;
  phrase = v.phrase;
}

glided_is : (t : Tick) (m : List ℕ) (v : Voice) → sounding v (glided_of t m v) ≡ glided_of t m v
unfolding glided_at
glided_is t m v = refl

pub sounds_on : (t : Tick) (m : List ℕ) (v : Voice) (r : Quick) → Quickly t m v r → r.glides ≡ true → sounding v r.voice ≡ r.voice
sounds_on t m v r quickly so =
    let q = quickly so in
    let is : r.voice ≡ glided_of t m v = q.2 ∙ (glides t m v q.1).turn in
    subst (λ (w : Voice). sounding v w ≡ w) (sym is) (glided_is t m v)

abbrev pub placing : Hot → Hot → Hot
placing p q = record { place = q.place; lap = q.lap; start = p.start; plain = p.plain }

-- the next position, where it goes on or begins anew
abbrev next_hot : Hot → Bool → Hot
next_hot p goes_on = cond goes_on (record { place = (p.place + 1) % 2 ^ 32; lap = p.lap; start = p.start; plain = true }) (record { place = 0; lap = (p.lap + 1) % 2 ^ 32; start = p.start; plain = true })

places_so : (p : Hot) → p.plain ≡ true → (goes_on : Bool) → placing p (next_hot p goes_on) ≡ next_hot p goes_on
places_so p plain true = ap (λ (b : Bool). record { place = (p.place + 1) % 2 ^ 32; lap = p.lap; start = p.start; plain = b }) plain
places_so p plain false = ap (λ (b : Bool). record { place = 0; lap = (p.lap + 1) % 2 ^ 32; start = p.start; plain = b }) plain

pub steps_on : (p : Hot) (n : ℕ) → p.plain ≡ true → placing p (stepped_hot p n) ≡ stepped_hot p n
unfolding stepped_hot
steps_on p n plain = places_so p plain (ltb ((p.place + 1) % 2 ^ 32) n)

-- ---- an element of a list that is altered part by part
module _ {A : Type 0} (xs : List A) (i : ℕ) (d : A) (lt : i < length xs) where
  abbrev alter : (A → A) → List A → List A
  alter f ys = set ys i (f (get_or ys i d))

  again : (x : A) (f : A → A) → alter f (set xs i x) ≡ set xs i (f x)
  again x f = ap (λ (y : A). set (set xs i x) i (f y)) (get_or-set_same xs i x d lt) ∙ set-set xs i x (f x)

  pub twice : (f g : A → A) → alter g (alter f xs) ≡ set xs i (g (f (get_or xs i d)))
  twice f g = again (f (get_or xs i d)) g

  pub four_times : (f g h j : A → A) → alter j (alter h (alter g (alter f xs))) ≡ set xs i (j (h (g (f (get_or xs i d)))))
  four_times f g h j =
      ap (λ (ys : List A). alter j (alter h ys)) (twice f g) ∙ ap (alter j) (again (g (f (get_or xs i d))) h) ∙ again (h (g (f (get_or xs i d)))) j

-- from channel c, side k and g they have come to d and l, before voice i, with that much heard
pub record Still (t : Tick) (m : List ℕ) (n : ℕ) (c : Channel) (k : Side) (g : Going) (d : Channel) (l : Side) (i : ℕ) (out : Float) : Type 0 where
  pub inside : i ≤ n
  pub from : g.place ≤ i
  pub goes : GoTogether t m n c k g d l (glided_to i out)
  pub same : i ≡ g.place → (d ≡ c) × (l ≡ k)
  pub head : d.head ≡ c.head

pub still_first : (t : Tick) (m : List ℕ) (n : ℕ) (c : Channel) (k : Side) (g : Going) → Stands n g → g.kept ≡ g.place → Still t m n c k g c k g.place g.output
still_first t m n c k g stands level = record {
  inside = stands.inside;
  from = le_refl g.place;
  goes = together_from t m n c k g stands level;
  same = λ _. (refl, refl);
  head = refl;
}

module _ {t : Tick} {m : List ℕ} {n : ℕ} {c : Channel} {k : Side} {g : Going} {d : Channel} {l : Side} {i : ℕ} {out : Float} (s : Still t m n c k g d l i out) where
  come_to : GlideTogether t m n c k g d l (glided_to i out)
  unfolding glided_to
  come_to = record { further = s.from; goes = s.goes; none = s.same }

  pub still_glides : (h : Going) → h ≡ glided_to i out → GlideTogether t m n c k g d l h
  still_glides h is = subst (GlideTogether t m n c k g d l) (sym is) come_to

  module _ (below : i < n) (few : n ≤ 32) (voices : length d.voices ≡ 32) (hots : length l.hots ≡ 32) (v : Voice) (is_voice : get_or d.voices i blank_voice ≡ v) (q : Quick) (so : q.glides ≡ true) where
    abbrev Next : Side → Type 0
    Next l' = Still t m n c k g (with_voices (set d.voices i q.voice) d.count d) l' (i + 1) (add binary32 out q.voice.last_sample_value)

    on : (l' : Side) → GoTogether t m n d l (glided_to i out) (with_voices (set d.voices i q.voice) d.count d) l' (glided_to (i + 1) (add binary32 out q.voice.last_sample_value)) → Next l'
    on l' goes = record {
      inside = omega (arith, below);
      from = omega (arith, s.from);
      goes = goes_together s.goes goes;
      same = λ e. absurd (omega (arith, s.from, e));
      head = s.head;
    }

    pub cool_next : Quickly t m v q → (get_or l.hots i cold).plain ≡ false → Next l
    cool_next quickly full = on l (cool_on t m n d l i out v q few below voices hots is_voice quickly so full)

    paced_on : (b : Beat) → Paced c t b → Paced d t b
    paced_on b p = record {
      beat = p.beat;
      now = p.now ∙ sym (ap (λ h. h.now) s.head);
      setting = p.setting ∙ sym (ap (λ h. h.interpolates) s.head);
    }

    pub hot_next : (b : Beat) (h : Hot) → get_or l.hots i cold ≡ h → Paced c t b → PlainQuickly h v t b m q → h.plain ≡ true → Next (with_hots (set l.hots i (stepped_hot h b.length)) l)
    hot_next b h is_hot paced quick plain =
        on (with_hots (set l.hots i (stepped_hot h b.length)) l) (hot_on t m n d l i out v q few below voices hots is_voice (quick paced.beat).0 so b h is_hot (paced_on b paced) quick plain)

    -- as it is stored
    pub hot_stored : (b : Beat) (h p : Hot) → get_or l.hots i cold ≡ h → Paced c t b → PlainQuickly h v t b m q → h.plain ≡ true → p ≡ stepped_hot h b.length
        → (vs : List Voice) → vs ≡ set d.voices i (sounding v q.voice) → (hs : List Hot) → hs ≡ set l.hots i (placing h p) → (sum : Float) → sum ≡ add binary32 out q.voice.last_sample_value
        → Still t m n c k g (with_voices vs d.count d) (with_hots hs l) (i + 1) sum
    hot_stored b h p is_hot paced quick plain is_next vs voices_are hs hots_are sum is_sum =
        subst (λ (y : Float). Still t m n c k g (with_voices vs d.count d) (with_hots hs l) (i + 1) y) (sym is_sum)
        (subst (λ (ys : List Voice). Still t m n c k g (with_voices ys d.count d) (with_hots hs l) (i + 1) (add binary32 out q.voice.last_sample_value))
        (sym (voices_are ∙ ap (set d.voices i) (sounds_on t m v q (quick paced.beat).0 so)))
        (subst (λ (ys : List Hot). Still t m n c k g (with_voices (set d.voices i q.voice) d.count d) (with_hots ys l) (i + 1) (add binary32 out q.voice.last_sample_value))
        (sym (hots_are ∙ ap (λ (y : Hot). set l.hots i (placing h y)) is_next ∙ ap (set l.hots i) (steps_on h b.length plain)))
        (hot_next b h is_hot paced quick plain)))
