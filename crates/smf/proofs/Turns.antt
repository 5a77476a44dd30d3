-- A turn of the loop over a track's events: what is left of the song, put behind what was counted and written, is the whole song. Assumes nothing.
use Rattle.std.specs.Prelude.{Result, Ok, Err}
use mathlib.Core.Path.{◌≡◌, refl, sym, ap, ◌∙◌}
use mathlib.Core.Bool.{true, false, cond}
use mathlib.Core.List.{List, [], ◌∷◌, ◌++◌}
use Prim.Native.Nat.{ℕ, zero, suc, pred, ◌+◌, ◌-◌, ◌*◌, ◌≤◌, ◌<◌, min}
use native.Mathlib.Nat.{mul-add, add-zero}
use native.Mathlib.Omega.{arith}
use lib.ListN.{length, length-append}
use lib.Seq.{sets}
use Rattle.walks.proofs.Lists.Runs.{run-append}
use Rattle.smf.specs.Faults.{fault_at}
use Rattle.smf.specs.Events.{step_at}
use Rattle.smf.specs.Files.{Events, behind_track, events_on, events_from, chunk_events}
use Rattle.smf.specs.Files.Events.{over}
use Rattle.smf.specs.Times.{first_tempo, frame_at, last_frame, unit_of, clock_at}
use Rattle.smf.specs.Cues.{Entry, Song, event_entries, tempo_after, too_late, empty_with, entries_first, song_from, count_closed, count_of, numbers_of, WrittenList}
use Rattle.smf.specs.declared.faults.Reason.TheVariants.{LateFrame}
use Rattle.smf.specs.declared.faults.Fault.{Fault}
use Rattle.smf.specs.declared.clock.Clock.{Clock}
use Rattle.smf.specs.declared.events.Event.{Event}
use Rattle.smf.specs.declared.events.Event.TheVariants.{Note, Tempo, Other}
use Rattle.smf.specs.declared.events.Step.{Step}
use Rattle.smf.specs.declared.events.Step.TheVariants as step
use Rattle.smf.proofs.Frames.{clock_zero, clock_bounds, late_same, entries_same}

-- ---- two numbers an entry
pub numbers_append : (xs ys : List Entry) → numbers_of (xs ++ ys) ≡ numbers_of xs ++ numbers_of ys
unfolding numbers_of
numbers_append [] ys = refl
numbers_append (x ∷ xs) ys = ap (λ (l : List ℕ). x.frame ∷ x.key ∷ l) (numbers_append xs ys)

pub numbers_length : (xs : List Entry) → length (numbers_of xs) ≡ 2 * length xs
unfolding numbers_of
numbers_length [] = refl
numbers_length (x ∷ xs) = omega (arith, numbers_length xs)

-- ---- a step of the track, where one is left
pub events_on_lem : (n : ℕ) (f : List ℕ) (full running at : ℕ) → 0 < n
    → events_from n f full running at ≡ events_on f full (events_from (pred n) f full) (step_at f (min full (length f)) running at)
unfolding events_from
events_on_lem zero f full running at h = absurd (omega arith)
events_on_lem (suc n) f full running at h = refl

module _ (f : List ℕ) (rate division full : ℕ) where
  -- the song from here on
  abbrev pub left : ℕ → ℕ → ℕ → ℕ → ℕ → Song
  left steps running place tempo sum = song_from rate division tempo sum (events_from steps f full running place)

  pub record Going (whole : Song) (list₀ : List ℕ) (place running tempo : ℕ) (clock : Clock) (count : ℕ) (list : List ℕ) : Type 0 where
    pub steps : ℕ
    pub sum : ℕ
    pub inside : place ≤ min full (length f)
    pub enough : min full (length f) - place < steps
    pub counted : count ≤ place
    pub time : clock ≡ clock_at (unit_of division) (rate * sum)
    pub kept : length list ≡ length list₀
    pub verdict : (left steps running place tempo sum).verdict ≡ whole.verdict
    pub counts : count + length (left steps running place tempo sum).entries ≡ length whole.entries
    pub writes : 2 * length whole.entries ≤ length list₀ → sets list (2 * count) (numbers_of (left steps running place tempo sum).entries) ≡ sets list₀ 0 (numbers_of whole.entries)

  -- before the first event
  pub begun : (list : List ℕ) (at : ℕ) → 0 < at → at ≤ min full (length f)
      → Going (song_from rate division first_tempo 0 (chunk_events f full at)) list at 0 first_tempo (record { frames = 0; rest = 0 }) 0 list
  begun list at some room = record {
    steps = length f;
    sum = 0;
    inside = room;
    enough = omega arith;
    counted = omega arith;
    time = sym (clock_zero (unit_of division) rate);
    kept = refl;
    verdict = refl;
    counts = omega arith;
    writes = λ _. refl;
  }

  module _ {whole : Song} {list₀ : List ℕ} {place running tempo : ℕ} {clock : Clock} {count : ℕ} {list : List ℕ}
      (g : Going whole list₀ place running tempo clock count list) where
    -- what the clock may hold
    pub bounded : 0 < unit_of division → (clock.frames ≤ last_frame + 1) × (clock.rest < unit_of division)
    bounded some = rw g.time (clock_bounds (unit_of division) some (rate * g.sum))

    -- the step at hand
    abbrev pub here : Result Step Fault
    here = step_at f (min full (length f)) running place

    on : left g.steps running place tempo g.sum ≡ song_from rate division tempo g.sum (events_on f full (events_from (pred g.steps) f full) here)
    on = ap (song_from rate division tempo g.sum) (events_on_lem g.steps f full running place (let h = g.enough in omega arith))

    -- nothing is left
    done : (v : Result (Unit {0}) Fault) → left g.steps running place tempo g.sum ≡ empty_with v → (count_closed v count ≡ count_of whole) × WrittenList list₀ list whole.entries
    unfolding numbers_of
    done v e =
        let verdict : v ≡ whole.verdict = sym (ap (λ (s : Song). s.verdict) e) ∙ g.verdict in
        let counts : count + 0 ≡ length whole.entries = sym (ap (λ (s : Song). count + length s.entries) e) ∙ g.counts in (
          ap (count_closed v) (sym (add-zero count) ∙ counts) ∙ ap (λ (w : Result (Unit {0}) Fault). count_closed w (length whole.entries)) verdict,
          λ room. sym (ap (λ (s : Song). sets list (2 * count) (numbers_of s.entries)) e) ∙ g.writes room,
        )

    pub broken : (why : Fault) → here ≡ Err why → (count_closed (Err why) count ≡ count_of whole) × WrittenList list₀ list whole.entries
    unfolding song_from events_on
    broken why e = done (Err why) (on ∙ rw e)

    pub ended : (next : ℕ) → here ≡ Ok (step.End next) → (count_closed (behind_track f full next) count ≡ count_of whole) × WrittenList list₀ list whole.entries
    unfolding song_from events_on
    ended next e = done (behind_track f full next) (on ∙ rw e)

    -- an event, at the clock afterwards
    module _ (delta : ℕ) (event : Event) (status next : ℕ) (is : here ≡ Ok (step.Is delta event status next)) (clock' : Clock)
        (time' : clock' ≡ clock_at (unit_of division) (rate * g.sum + rate * (delta * tempo))) where
      abbrev sum' : ℕ
      sum' = g.sum + delta * tempo

      exact : clock' ≡ clock_at (unit_of division) (rate * sum')
      exact = time' ∙ ap (clock_at (unit_of division)) (sym (mul-add rate g.sum (delta * tempo)))

      abbrev behind : Song
      behind = left (pred g.steps) status next (tempo_after tempo event) sum'

      on_event : left g.steps running place tempo g.sum
          ≡ cond (too_late (frame_at rate division sum') event) (empty_with (Err (fault_at LateFrame (next - 1)))) (entries_first (event_entries (frame_at rate division sum') event) behind)
      unfolding song_from events_on
      on_event = on ∙ rw is

      late_there : too_late clock'.frames event ≡ too_late (frame_at rate division sum') event
      unfolding frame_at
      late_there = ap (λ (k : Clock). too_late k.frames event) exact ∙ late_same (unit_of division) (rate * sum') event

      pub late : too_late clock'.frames event ≡ true → (count_closed (Err (fault_at LateFrame (next - 1))) count ≡ count_of whole) × WrittenList list₀ list whole.entries
      late h = let there : too_late (frame_at rate division sum') event ≡ true = sym late_there ∙ h in
          done (Err (fault_at LateFrame (next - 1))) (on_event ∙ rw there)

      entries_there : too_late clock'.frames event ≡ false → event_entries clock'.frames event ≡ event_entries (frame_at rate division sum') event
      unfolding frame_at
      entries_there h =
          ap (λ (k : Clock). event_entries k.frames event) exact ∙ entries_same (unit_of division) (rate * sum') event (sym late_there ∙ h)

      module _ (h : too_late clock'.frames event ≡ false) where
        abbrev es : List Entry
        es = event_entries clock'.frames event

        goes : left g.steps running place tempo g.sum ≡ entries_first es behind
        goes =
            let there : too_late (frame_at rate division sum') event ≡ false = sym late_there ∙ h in
            on_event ∙ (rw there) ∙ ap (λ (l : List Entry). entries_first l behind) (sym (entries_there h))

        counts' : count + length es + length behind.entries ≡ length whole.entries
        counts' =
            let e : count + length (es ++ behind.entries) ≡ length whole.entries = sym (ap (λ (s : Song). count + length s.entries) goes) ∙ g.counts in
            omega (arith, length-append es behind.entries)

        pub again : (list' : List ℕ) (count' : ℕ) → count' ≡ count + length es → length list' ≡ length list
            → (2 * count' ≤ length list → list' ≡ sets list (2 * count) (numbers_of es)) → length es ≤ 1 → (place < next) × (next ≤ min full (length f))
            → Going whole list₀ next status (tempo_after tempo event) clock' count' list'
        again list' count' is' kept' stored few moves = record {
          steps = pred g.steps;
          sum = sum';
          inside = moves.1;
          enough = (let a = g.enough in omega arith);
          counted = (let a = g.counted in omega arith);
          time = exact;
          kept = kept' ∙ g.kept;
          verdict = sym (ap (λ (s : Song). s.verdict) goes) ∙ g.verdict;
          counts = ap (λ (n : ℕ). n + length behind.entries) is' ∙ counts';
          writes = λ room.
              let fits : 2 * count' ≤ length list = (let a = g.kept in omega (arith, counts')) in
              let place' : 2 * count' ≡ 2 * count + length (numbers_of es) = omega (arith, numbers_length es) in
              ap (λ (l : List ℕ). sets l (2 * count') (numbers_of behind.entries)) (stored fits)
              ∙ ap (λ (n : ℕ). sets (sets list (2 * count) (numbers_of es)) n (numbers_of behind.entries)) place'
              ∙ run-append list (numbers_of es) (numbers_of behind.entries) (2 * count)
              ∙ ap (sets list (2 * count)) (sym (numbers_append es behind.entries))
              ∙ sym (ap (λ (s : Song). sets list (2 * count) (numbers_of s.entries)) goes)
              ∙ g.writes room;
        }

-- an event adds one entry at most
pub one_entry : (frame : ℕ) (e : Event) → length (event_entries frame e) ≤ 1
unfolding event_entries
one_entry frame (Note key) = omega arith
one_entry frame (Tempo new) = omega arith
one_entry frame Other = omega arith

-- ---- a song without events
pub over_now : (rate division : ℕ) (list : List ℕ) (v : Result (Unit {0}) Fault) (es : Events) → es ≡ over v
    → (count_closed v 0 ≡ count_of (song_from rate division first_tempo 0 es)) × WrittenList list list (song_from rate division first_tempo 0 es).entries
unfolding song_from numbers_of
over_now rate division list v es e = rw e (refl, λ _. refl)
