-- The loop of a frame, and of a run, with a second record lent: what stands there after i entries, each of the channel that `seat` says. A refused call has no entry to play. Assumes nothing.
use Rattle.std.proofs.Common.{◌≡◌, refl, sym, ap, ◌∙◌, subst, Bool, cond, List, ◌++◌, ℕ, zero, suc, ◌+◌, ◌-◌, ◌*◌, ◌<◌, add-one, zero-mul, arith, eqb, length, get_or, take, drop, set, length-set}
use native.Mathlib.Nat.{sub-zero}
use Rattle.std.specs.Prelude.{Result, Ok, Err}
use Rattle.refusals.specs.declared.Refusal.{Refusal}
use Rattle.refusals.specs.Refusals.{code_of}
use Rattle.refusals.proofs.Codes.{numbered}
use lib.Ieee.{Float, nan, binary32, mul}
use Rattle.binary32.specs.Leaves.{zero32}
use Rattle.walks.proofs.Lists.Loops.{get_d_any}
use Rattle.common_types.specs.declared.Params.{Params}
use Rattle.channel.specs.declared.Channel.{Channel}
use Rattle.channel.specs.declared.Played.{Played}
use Rattle.channel.specs.Channels.{memory_of}
use Rattle.channel.specs.Channels.{process_sample_of as channel_sample_of}
use Rattle.lent_channel.specs.declared.Heard.{Heard}
use Rattle.lent_channel.specs.Turns.{heard_of}
use Rattle.plain_channel.specs.declared.Side.{Side}
use Rattle.plain_channel.specs.Sides.{side_after}
use Rattle.sampler.specs.declared.Sampler.{Sampler}
use Rattle.sampler.specs.Refusals.{channel_at, frame_judged}
use Rattle.sampler.specs.Samplers.{with_channels, channel_stepped_of, output_of, memory_at, Framed, framed, run_answer}
use Rattle.sampler.proofs.Seats.{none}
use Rattle.sampler.proofs.Parts.{part_is, stepped_is, output-is, memory_is}
use Rattle.lent_sampler.specs.Hearing.{at_volume}
use Rattle.lent_sampler.specs.Runs.{run_seat}
use Rattle.lent_sampler.proofs.RunTurns.{turn_of}
use Rattle.lent_sampler.proofs.RunTurned.{done_fitting, inside}
use Rattle.plain_sampler.specs.declared.Backing.{Backing}
use Rattle.plain_sampler.specs.Backings.{side_at, with_side, side_stepped, entries_backing, frames_backing, frame_backing, rested_backing, run_backing}
use Rattle.plain_sampler.proofs.Beside.{channel_is, side_is}
use Rattle.plain_sampler.proofs.Turns.{side_turn, side_turns, frame_turns, run_turns}

-- ---- one entry more: channel j's sample on its part, from a to e
module _ (p : Params) (t : Sampler) (io : List Float) (k : List ℕ) (j i a e : ℕ) (starts : a ≡ j * t.capacity) (ends : e ≡ a + t.capacity) (there : i < length io) where
  abbrev x : Float
  x = get_or io i nan

  abbrev part : List ℕ
  part = take (e - a) (drop a k)

  abbrev played : Played
  played = channel_sample_of p x (channel_at t j) part

  is : get_or io i zero32 ≡ x
  is = get_d_any io i zero32 nan there

  turned_one : turn_of p j i (framed t io k)
      ≡ framed (with_channels (set t.channels j played.channel) t) (set io i (mul binary32 p.volume played.output)) (take a k ++ (memory_of x (channel_at t j) part ++ drop (e - a) (drop a k)))
  turned_one =
      ap (λ (v : Float). framed (channel_stepped_of t j p v k) (set io i (output_of t j p v k)) (memory_at t j v k)) is
      ∙ sym (λ q. framed (stepped_is t j a e k starts ends p x (channel_at t j) refl played refl q) (set io i (output-is t j a e k starts ends p x (channel_at t j) refl played refl q)) (memory_is t j a e k starts ends x (channel_at t j) _ refl refl q))

  flanked_one : (h : Backing) → side_turn p j i (framed t io k) h ≡ with_side h j (side_after p x (channel_at t j) part (side_at h j))
  unfolding side_stepped
  flanked_one h =
      ap (λ (v : Float). side_stepped t j p v k h) is
      ∙ ap (λ (l : List ℕ). with_side h j (side_after p x (channel_at t j) l (side_at h j))) (sym (part_is t j a e k starts ends))

module _ (p : Params) (seat : ℕ → ℕ) (n : ℕ) (before : Framed) (f : Backing) where
  -- after i of n entries
  pub record Flanked (i : ℕ) (t : Sampler) (io : List Float) (k : List ℕ) (h : Backing) : Type 0 where
    pub two : length h.sides ≡ 2
    pub same : side_turns p seat (n - i) i (framed t io k) h ≡ side_turns p seat n 0 before f

  pub flanked_ends : (i : ℕ) (t : Sampler) (io : List Float) (k : List ℕ) (h : Backing) → Flanked i t io k h → i ≡ n → h ≡ side_turns p seat n 0 before f
  unfolding side_turns
  flanked_ends i t io k h w e =
      let none : n - i ≡ 0 = omega (arith, e) in
      sym (ap (λ (c : ℕ). side_turns p seat c i (framed t io k) h) none) ∙ w.same

  pub flanked_on : (i : ℕ) (t : Sampler) (io : List Float) (k : List ℕ) (h : Backing) (j a e : ℕ) → Flanked i t io k h → i < n → j ≡ seat i → a ≡ j * t.capacity → e ≡ a + t.capacity → i < length io
      → Flanked (suc i) (with_channels (set t.channels j (channel_sample_of p (get_or io i nan) (channel_at t j) (take (e - a) (drop a k))).channel) t)
      (set io i (mul binary32 p.volume (channel_sample_of p (get_or io i nan) (channel_at t j) (take (e - a) (drop a k))).output)) (take a k ++ (memory_of (get_or io i nan) (channel_at t j) (take (e - a) (drop a k)) ++ drop (e - a) (drop a k)))
      (with_side h j (side_after p (get_or io i nan) (channel_at t j) (take (e - a) (drop a k)) (side_at h j)))
  unfolding side_turns
  flanked_on i t io k h j a e w small is_seat starts ends there =
      let one_less : n - i ≡ suc (n - suc i) = omega (arith, small) in
      record {
        two = length-set h.sides j (side_after p (get_or io i nan) (channel_at t j) (take (e - a) (drop a k)) (side_at h j)) ∙ w.two;
        same = sym (λ q. side_turns p seat (n - suc i) (suc i) (turned_one p t io k j i a e starts ends there q) (flanked_one p t io k j i a e starts ends there h q))
            ∙ ap (λ (c : ℕ). side_turns p seat (n - suc i) (suc i) (turn_of p c i (framed t io k)) (side_turn p c i (framed t io k) h)) is_seat
            ∙ sym (ap (λ (c : ℕ). side_turns p seat c i (framed t io k) h) one_less) ∙ w.same;
      }

  -- the same as the code has it, which reads the channel and its side where they stand
  module _ {i : ℕ} {t : Sampler} {io : List Float} {k : List ℕ} {h : Backing} (w : Flanked i t io k h) (small : i < n) (j : ℕ) (is_seat : j ≡ seat i) (low : j < 2) (a e : ℕ) (starts : a ≡ j * t.capacity) (ends : e ≡ a + t.capacity) (there : i < length io) (two : length t.channels ≡ 2) (spare : Side) where
    abbrev x' : Float
    x' = get_or io i nan

    abbrev c : Channel
    c = get_or t.channels j none

    abbrev d : Side
    d = get_or h.sides j spare

    abbrev part' : List ℕ
    part' = take (e - a) (drop a k)

    pub flanked_next : (r : Heard) (c' : Channel) (k' : List ℕ) (d' : Side) → r ≡ at_volume p (heard_of (channel_sample_of p x' c part')) → c' ≡ (channel_sample_of p x' c part').channel
        → k' ≡ take a k ++ (memory_of x' c part' ++ drop (e - a) (drop a k)) → d' ≡ side_after p x' c part' d
        → Flanked (i + 1) (with_channels (set t.channels j c') t) (set io i r.output) k' (with_side h j d')
    flanked_next r c' k' d' gives becomes leaves follows =
        let c_is : c ≡ channel_at t j = channel_is t two j low in
        let d_is : d ≡ side_at h j = side_is h spare w.two j low in
        let is_r : r ≡ at_volume p (heard_of (channel_sample_of p x' (channel_at t j) part')) = gives ∙ ap (λ (b : Channel). at_volume p (heard_of (channel_sample_of p x' b part'))) c_is in
        let is_c : c' ≡ (channel_sample_of p x' (channel_at t j) part').channel = becomes ∙ ap (λ (b : Channel). (channel_sample_of p x' b part').channel) c_is in
        let is_k : k' ≡ take a k ++ (memory_of x' (channel_at t j) part' ++ drop (e - a) (drop a k)) = leaves ∙ ap (λ (b : Channel). take a k ++ (memory_of x' b part' ++ drop (e - a) (drop a k))) c_is in
        let is_d : d' ≡ side_after p x' (channel_at t j) part' (side_at h j) = follows ∙ (λ q. side_after p x' (c_is q) part' (d_is q)) in
        subst (λ (X : Type 0). X)
        (λ q. Flanked (sym (add-one i) q) (with_channels (set t.channels j (sym is_c q)) t) (set io i (sym is_r q).output) (sym is_k q) (with_side h j (sym is_d q)))
        (flanked_on i t io k h j a e w small is_seat starts ends there)

pub flanked_starts : (p : Params) (seat : ℕ → ℕ) (n : ℕ) (s : Sampler) (l : List Float) (m : List ℕ) (f : Backing) → length f.sides ≡ 2 → Flanked p seat n (framed s l m) f 0 s l m f
flanked_starts p seat n s l m f two = record { two = two; same = ap (λ (c : ℕ). side_turns p seat c 0 (framed s l m) f) (sub-zero n) }

-- ---- the whole calls
module _ (s : Sampler) (l : List Float) (p : Params) (m : List ℕ) (f : Backing) where
  abbrev left : Result (Unit {0}) Refusal → Backing
  left d = cond (eqb (code_of d) 0) (entries_backing p (length l) 0 (framed s l m) f) f

  pub whole_frame : frame_judged s (length l) p (length m) ≡ Ok tt → side_turns p (λ i. i) (length l) 0 (framed s l m) f ≡ frame_backing s l p m f
  unfolding frame_backing
  whole_frame accepted = frame_turns p (length l) 0 (framed s l m) f ∙ sym (ap left accepted)

  pub frame_refused : (r : Refusal) → frame_judged s (length l) p (length m) ≡ Err r → f ≡ frame_backing s l p m f
  unfolding frame_backing
  frame_refused r e = sym (ap left e ∙ ap (λ (b : Bool). cond b (entries_backing p (length l) 0 (framed s l m) f) f) (numbered r))

  abbrev frames : ℕ
  frames = (run_answer s (length l) p (length m)).frames

  pub whole_run : rested_backing (side_turns p (λ i. run_seat i s.count) (frames * s.count) 0 (framed s l m) f) ≡ run_backing s l p m f
  unfolding run_backing run_answer frames_backing side_turns
  whole_run = ap rested_backing (go frames refl)
    where
      go : (n : ℕ) → frames ≡ n → side_turns p (λ i. run_seat i s.count) (frames * s.count) 0 (framed s l m) f ≡ frames_backing p frames (framed s l m) f
      go zero a = ap (λ (n : ℕ). side_turns p (λ i. run_seat i s.count) n 0 (framed s l m) f) (ap (λ (n : ℕ). n * s.count) a ∙ zero-mul s.count) ∙ sym (ap (λ (n : ℕ). frames_backing p n (framed s l m) f) a)
      go (suc n) a = let g = done_fitting s l p m (omega (arith, a)) in run_turns p s.count frames s l m f refl g.some g.few (inside s l p m)
