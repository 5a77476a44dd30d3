-- A frame of a run: where the first voices are ahead, the others play behind them, and what is heard is the channel's sample; after it the first are one sample less ahead. Assumes nothing.
use mathlib.Core.Path.{◌≡◌, refl, sym, ap, ap₂, ◌∙◌, subst, transport⁻¹}
use Prim.Native.Nat.{ℕ, zero, suc, ◌+◌, ◌≤◌, ◌<◌, min}
use native.Mathlib.Nat.{suc-add}
use native.Mathlib.Omega.{arith}
use mathlib.Core.Bool.{Bool, false, not, ◌||◌}
use mathlib.Core.List.{List, [], ◌∷◌, ◌++◌, map}
use lib.ListN.{length, take, drop, get_or}
use lib.Seq.{sets, length-take-le, take_at, drop_at, get_or-drop}
use lib.Ieee.{Float, binary32, add}
use Rattle.binary32.specs.Leaves.{zero32}
use Rattle.std.specs.List.{list_any, fold}
use Rattle.walks.specs.Each.{Each}
use Rattle.common_types.specs.declared.Params.{Params}
use Rattle.recorder.specs.Recording.{is_recording_of}
use Rattle.voice.specs.declared.Voice.{Voice}
use Rattle.voice.specs.Voices.{blank_voice}
use Rattle.plain_voice.specs.declared.Hot.{Hot}
use Rattle.channel.specs.declared.Channel.{Channel}
use Rattle.channel.specs.declared.Played.{Played}
use Rattle.channel.specs.Heads.{last_time, closed_of, mixed_of}
use Rattle.channel.specs.Channels.{with_head, with_voices, live, unfinished_of, any_unfinished_of, Turning, kept_of, played_of, turning_in, taken_of, memory_of, process_sample_of}
use Rattle.channel.proofs.Resting.{untaken, unwritten}
use Rattle.lent_channel.specs.Turns.{glided_to, rest_of, heard_of}
use Rattle.plain_channel.specs.declared.Side.{Side}
use Rattle.plain_channel.specs.Sides.{hots_kept, side_played, side_after, rest_hots}
use Rattle.plain_channel.specs.Ahead.{on_by, ahead_of, hots_on, hots_ahead, sum_at, Easy, Eased, behind_of, hots_behind, Ahead}
use Rattle.plain_channel.proofs.Firsts.{firsts_front, firsts_at, each_first, map_twice, fold-map}
use Rattle.plain_channel.proofs.Aheads.{ahead_nobody, hots_nobody, sum_nobody, ahead_nothing, behind_none, hots_none}
use Rattle.plain_channel.proofs.Laters.{closed_recorder, next_now, next_on, next_easy, next_hots}
use Rattle.plain_channel.proofs.Eases.{easy_stays, easy_soon, easy_late}
use Rattle.plain_channel.proofs.Behinds.{Stays, AllStay, first_of, others_of, count_behind, given_behind, rest_behind, played_behind, positions_behind, hots_behind_lem, side_behind}

-- ---- whether one is unfinished stays so where the first are made something else that is finished if they are
same_unfinished : (f : Voice → Voice) (rest : List Voice) (k : ℕ) (vs : List Voice) → Each (λ (v : Voice). (f v).finished ≡ v.finished) vs → list_any unfinished_of (take k (map f vs ++ rest)) ≡ list_any unfinished_of (take k (vs ++ rest))
unfolding Each
same_unfinished f rest k [] each = refl
same_unfinished f rest zero (v ∷ vs) each = refl
same_unfinished f rest (suc k) (v ∷ vs) each = ap₂ (λ (a b : Bool). not a || b) each.0 (same_unfinished f rest k vs each.1)

-- ---- where some are ahead
module _ (p : Params) (m : List ℕ) (d : Channel) (e : ℕ) where
  -- what the sample gives before it is closed, where the first voices are made something else by f
  abbrev given : (Voice → Voice) → Played
  given f = given_behind d e (turning_in p d m) f (sum_at p m e d 0)

  abbrev closing : Float → Bool → Played → Played
  closing x b r = record { channel = with_head (closed_of p b d.head) r.channel; output = mixed_of x r.output d.head; moved = r.moved }

  -- whether a voice is unfinished then
  abbrev sounding : Bool
  sounding = list_any unfinished_of (take (count_behind d e (turning_in p d m)) (first_of d e ++ sets (drop e d.voices) 0 (kept_of (turning_in p d m) (others_of d e))))

  abbrev closed : Float → (Voice → Voice) → Played
  closed x f = closing x sounding (given f)

  -- the channel after it, and what stands beside it where they are n samples ahead
  abbrev after : (Voice → Voice) → Channel
  after f = with_head (closed_of p sounding d.head) (given f).channel

  abbrev positions : List Hot → ℕ → List Hot
  positions hs n = positions_behind d e (turning_in p d m) hs (hots_on p m d n (first_of d e) (take e hs))

module _ (p : Params) (m : List ℕ) (e n : ℕ) (d : Channel) (voices : length d.voices ≡ 32) (some : 0 < e) (eased : Eased p m e (suc n) d) where
  abbrev turning : Turning
  turning = turning_in p d m

  abbrev ahead_by : Channel
  ahead_by = ahead_of p m e (suc n) d

  still : is_recording_of d.head.recorder ≡ false
  still = eased.still some

  still_ahead : is_recording_of ahead_by.head.recorder ≡ false
  unfolding ahead_of
  still_ahead = still

  within : e ≤ length d.voices
  within = let i = eased.inside in omega (arith, i, voices)

  all_stay : AllStay turning (on_by p m d 1) (first_of d e)
  all_stay = each_first (λ (v : Voice). Stays turning v (on_by p m d 1 v)) blank_voice d.voices e within (λ i low. easy_stays p m d (get_or d.voices i blank_voice) n (eased.each i low))

  unfinished : (f : Voice → Voice) → ((i : ℕ) → i < e → (f (get_or d.voices i blank_voice)).finished ≡ (get_or d.voices i blank_voice).finished) → any_unfinished_of (given p m d e f).channel ≡ sounding p m d e
  unfolding any_unfinished_of
  unfinished f is = same_unfinished f _ (count_behind d e turning) (first_of d e) (each_first (λ (v : Voice). (f v).finished ≡ v.finished) blank_voice d.voices e within is)

  -- ---- the sample
  module _ (x : Float) where
    sample_given : process_sample_of p x d m ≡ closed p m d e x (on_by p m d 1)
    unfolding process_sample_of
    sample_given =
        ap₂ (λ (c : Channel) (l : List ℕ). let r = played_of (turning_in p c l) c in record { channel = with_head (closed_of p (any_unfinished_of r.channel) c.head) r.channel; output = mixed_of x r.output c.head; moved = r.moved }) (untaken m d still) (unwritten m d still x)
        ∙ ap (λ (r : Played). closing p m d e x (any_unfinished_of r.channel) r) (played_behind p m d voices e eased.inside turning all_stay)
        ∙ ap (λ (b : Bool). closing p m d e x b (given p m d e (on_by p m d 1))) (unfinished (on_by p m d 1) (λ i low. easy_soon p m d (get_or d.voices i blank_voice) n (eased.each i low)))

    behind_given : behind_of p x e (sum_at p m e d 0) ahead_by m ≡ closed p m d e x (on_by p m d (suc n))
    unfolding behind_of ahead_of turning_in
    behind_given =
        ap₂ (λ (c : Channel) (l : List ℕ). let r = rest_of (turning_in p c l) (min c.count 32) c (glided_to e (sum_at p m e d 0)) in record { channel = with_head (closed_of p (any_unfinished_of r.channel) c.head) r.channel; output = mixed_of x r.output c.head; moved = r.moved }) (untaken m ahead_by still_ahead) (unwritten m ahead_by still_ahead x)
        ∙ ap (λ (r : Played). closing p m d e x (any_unfinished_of r.channel) r) (rest_behind p m d voices e eased.inside turning (suc n) (sum_at p m e d 0))
        ∙ ap (λ (b : Bool). closing p m d e x b (given p m d e (on_by p m d (suc n)))) (unfinished (on_by p m d (suc n)) (λ i low. easy_late p m d (get_or d.voices i blank_voice) (suc n) (eased.each i low)))

    -- and beside it
    module _ (a b : Side) (hots : length a.hots ≡ 32) (is : b.hots ≡ hots_ahead p m e (suc n) d a.hots) where
      side_given : (side_after p x d m a).hots ≡ positions p m d e a.hots 1
      unfolding side_after
      side_given =
          ap₂ (λ (c : Channel) (l : List ℕ). (side_played (turning_in p c l) c a).hots) (untaken m d still) (unwritten m d still x)
          ∙ side_behind p m d voices e eased.inside turning a.hots hots all_stay a refl

      hots_given : hots_behind p x e ahead_by m b ≡ positions p m d e a.hots (suc n)
      unfolding hots_behind ahead_of turning_in
      hots_given =
          ap₂ (λ (c : Channel) (l : List ℕ). rest_hots (turning_in p c l) (min c.count 32) c b (glided_to e zero32)) (untaken m ahead_by still_ahead) (unwritten m ahead_by still_ahead x)
          ∙ hots_behind_lem p m d voices e eased.inside turning a.hots hots (suc n) zero32 b is

  -- ---- after it the first are one sample less ahead
  early : d.head.now < last_time
  early = let c = eased.clock some in omega (arith, c)

  abbrev soon : Channel
  soon = after p m d e (on_by p m d 1)

  -- they stand where they stood
  stands_at : (i : ℕ) → i < e → get_or soon.voices i blank_voice ≡ on_by p m d 1 (get_or d.voices i blank_voice)
  stands_at i low = firsts_at (on_by p m d 1) d.voices e within _ blank_voice i low

  stand_first : take e soon.voices ≡ map (on_by p m d 1) (first_of d e)
  stand_first = take_at (map (on_by p m d 1) (first_of d e)) _ e (firsts_front (on_by p m d 1) d.voices e within)

  soon_easy : (i : ℕ) → i < e → Easy p m n soon (get_or soon.voices i blank_voice)
  soon_easy i low = subst (Easy p m n soon) (sym (stands_at i low)) (next_easy p m d early soon.voices soon.count (sounding p m d e) (get_or d.voices i blank_voice) n (eased.each i low))

  soon_eased : Eased p m e n soon
  soon_eased = record {
    still = λ z. ap is_recording_of (closed_recorder p (sounding p m d e) d.head) ∙ still;
    clock = λ z. let c = eased.clock some in let t = next_now p m d early soon.voices soon.count (sounding p m d e) in omega (arith, c, t);
    inside = let i = eased.inside in omega (arith, i);
    each = soon_easy;
  }

  soon_channel : after p m d e (on_by p m d (suc n)) ≡ ahead_of p m e n soon
  unfolding ahead_of
  soon_channel =
      let f : Voice → Voice = on_by p m d 1 in
      let g : Voice → Voice = on_by p m soon n in
      ap (λ (vs : List Voice). with_head (closed_of p (sounding p m d e) d.head) (with_voices vs (count_behind d e turning) d))
      (sym (ap₂ (λ (l r : List Voice). map g l ++ r) stand_first (drop_at (map f (first_of d e)) _ e (firsts_front f d.voices e within))
      ∙ ap (λ (l : List Voice). l ++ sets (drop e d.voices) 0 (kept_of turning (others_of d e))) (map_twice f g (on_by p m d (suc n)) (λ v. next_on p m d early soon.voices soon.count (sounding p m d e) v n) (first_of d e))))

  soon_hots : (hs : List Hot) → length hs ≡ 32 → positions p m d e hs (suc n) ≡ hots_ahead p m e n soon (positions p m d e hs 1)
  soon_hots hs hots =
      let room : length (first_of d e) ≤ length (take e hs) = let i = eased.inside in let l = length-take-le e d.voices within in let r = length-take-le e hs (omega (arith, i, hots)) in omega (arith, l, r) in
      sym (ap (λ (vs : List Voice). hots_on p m soon n vs (positions p m d e hs 1)) stand_first ∙ next_hots p m d early soon.voices soon.count (sounding p m d e) n (first_of d e) (take e hs) _ room)

  soon_sum : (k : ℕ) → sum_at p m e d (suc k) ≡ sum_at p m e soon k
  unfolding sum_at
  soon_sum k =
      let f : Voice → Voice = on_by p m d 1 in
      let adding : ℕ → Float → Voice → Float = λ j out v. add binary32 out (on_by p m d j v).last_sample_value in
      let adding' : Float → Voice → Float = λ out v. add binary32 out (on_by p m soon (k + 1) v).last_sample_value in
      ap (λ (j : ℕ). fold (adding j) zero32 (first_of d e)) (suc-add k 1)
      ∙ sym (ap (fold adding' zero32) stand_first ∙ fold-map adding' f (adding (suc (k + 1))) (λ out v. ap (λ (w : Voice). add binary32 out w.last_sample_value) (next_on p m d early soon.voices soon.count (sounding p m d e) v (k + 1))) zero32 (first_of d e))

-- ---- whether some are ahead or none
module _ (p : Params) (m : List ℕ) (n : ℕ) (sums : List Float) (d c : Channel) (x : Float) (voices : length d.voices ≡ 32) where
  module _ (hs ks : List Hot) where
    nobody_sample : Ahead p m 0 (suc n) sums d hs c ks → behind_of p x 0 (get_or sums 0 zero32) c m ≡ process_sample_of p x d m
    nobody_sample ahead =
        ap₂ (λ (out : Float) (y : Channel). behind_of p x 0 out y m) (ahead.adds 0 (omega arith) ∙ sum_nobody p m d 0) (ahead.channel ∙ ahead_nobody p m (suc n) d)
        ∙ behind_none p x d m voices

    behind_is : (e : ℕ) (some : 0 < e) (ahead : Ahead p m e (suc n) sums d hs c ks)
        → behind_of p x e (get_or sums 0 zero32) c m ≡ closed p m d e x (on_by p m d (suc n))
    behind_is e some ahead = ap₂ (λ (out : Float) (y : Channel). behind_of p x e out y m) (ahead.adds 0 (omega arith)) ahead.channel ∙ behind_given p m e n d voices some ahead.eased x

    -- what is heard is what is heard of the channel's sample
    pub ahead_heard : (e : ℕ) → Ahead p m e (suc n) sums d hs c ks → heard_of (behind_of p x e (get_or sums 0 zero32) c m) ≡ heard_of (process_sample_of p x d m)
    ahead_heard zero ahead = ap heard_of (nobody_sample ahead)
    ahead_heard (suc e) ahead = ap heard_of (behind_is (suc e) (omega arith) ahead) ∙ sym (ap heard_of (sample_given p m (suc e) n d voices (omega arith) ahead.eased x))

    rest_adds : (e : ℕ) → Ahead p m e (suc n) sums d hs c ks → (k : ℕ) → k < n → get_or (drop 1 sums) k zero32 ≡ sum_at p m e d (suc k)
    rest_adds e ahead k low = get_or-drop 1 sums k zero32 ∙ ap (λ (j : ℕ). get_or sums j zero32) (omega arith) ∙ ahead.adds (suc k) (omega (arith, low))

  -- and after it the first voices are one sample less ahead
  module _ (a b : Side) (hots : length a.hots ≡ 32) where
    abbrev pub AheadAfter : ℕ → Type 0
    AheadAfter e = Ahead p (memory_of x d m) e n (drop 1 sums) (process_sample_of p x d m).channel (side_after p x d m a).hots (behind_of p x e (get_or sums 0 zero32) c m).channel (hots_behind p x e c m b)

    nobody_on : Ahead p m 0 (suc n) sums d a.hots c b.hots → AheadAfter 0
    unfolding side_after side_played
    nobody_on ahead =
        let same : b.hots ≡ a.hots = ahead.hots ∙ hots_nobody p m (suc n) d a.hots in
        let after_it : Channel = (process_sample_of p x d m).channel in
        let beside : hots_behind p x 0 c m b ≡ (side_after p x d m a).hots =
        ap (λ (y : Channel). hots_behind p x 0 y m b) (ahead.channel ∙ ahead_nobody p m (suc n) d)
        ∙ hots_none p x d m voices b (ap length same ∙ hots)
        ∙ ap (λ (l : List Hot). sets l 0 (hots_kept (turning_in p (taken_of m d) (memory_of x d m)) (taken_of m d).head (live (taken_of m d)) (take (taken_of m d).count l))) same in
        transport⁻¹ (λ i. Ahead p (memory_of x d m) 0 n (drop 1 sums) after_it (side_after p x d m a).hots (nobody_sample a.hots b.hots ahead i).channel (beside i))
        (ahead_nothing p (memory_of x d m) n (drop 1 sums) after_it (side_after p x d m a).hots (λ k low. rest_adds a.hots b.hots 0 ahead k low ∙ sum_nobody p m d (suc k)))

    some_on : (e : ℕ) (some : 0 < e) → Ahead p m e (suc n) sums d a.hots c b.hots → AheadAfter e
    some_on e some ahead =
        let eased = ahead.eased in
        let there = sample_given p m e n d voices some eased x in
        let here = behind_is a.hots b.hots e some ahead in
        let beside = ap (λ (y : Channel). hots_behind p x e y m b) ahead.channel ∙ hots_given p m e n d voices some eased x a b hots ahead.hots in
        transport⁻¹ (λ i. Ahead p (unwritten m d (eased.still some) x i) e n (drop 1 sums) (there i).channel (side_given p m e n d voices some eased x a b hots ahead.hots i) (here i).channel (beside i))
        (record {
          eased = soon_eased p m e n d voices some eased;
          channel = soon_channel p m e n d voices some eased;
          hots = soon_hots p m e n d voices some eased a.hots hots;
          adds = λ k low. rest_adds a.hots b.hots e ahead k low ∙ soon_sum p m e n d voices some eased k;
        })

    pub ahead_on : (e : ℕ) → Ahead p m e (suc n) sums d a.hots c b.hots → AheadAfter e
    ahead_on zero ahead = nobody_on ahead
    ahead_on (suc e) ahead = some_on (suc e) (omega arith) ahead
