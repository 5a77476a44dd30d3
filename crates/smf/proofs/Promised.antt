-- A song's list is what the request says: `specs/Promised.antt`. Assumes nothing.
use Rattle.std.specs.Prelude.{Result, Ok, Err}
use mathlib.Core.Path.{◌≡◌, refl, sym, ap, ◌∙◌}
use mathlib.Core.Bool.{Bool, true, false, cond, not}
use mathlib.Core.List.{List, [], ◌∷◌, ◌++◌}
use mathlib.Core.Logic.{◌≢◌, ⊎_elim}
use Prim.Native.Nat.{ℕ, ◌+◌, ◌*◌, ◌/◌, ◌%◌, ◌^◌, ◌≤◌, ◌<◌, zero-le}
use native.Mathlib.Nat.{le_trans, le_refl, mul-le-mul_left, le-add_right, div-zero, div-mul-le_self, le-div_iff_mul-le, eq-zero-or-pos}
use native.Mathlib.Omega.{arith}
use lib.Dec.{leb, eqb}
use lib.ListN.{length, drop}
use lib.Ieee.{binary32, div}
use Rattle.binary32.specs.Leaves.{as_float}
use borrow.Author.Tests.{le-leb, lt-leb, ltb-false}
use Rattle.walks.specs.Each.{Each}
use Rattle.smf.specs.Faults.{refusal_of}
use Rattle.smf.specs.Files.{Events, header_of, events_of}
use Rattle.smf.specs.Files.Events.{then, over}
use Rattle.smf.specs.Times.{first_tempo, frame_at, last_frame, unit_of}
use Rattle.smf.specs.Cues.{Entry, Song, event_entries, tempo_after, too_late, song_from, song_in, song_of, count_closed, numbers_of, good_rate, room_judged, counted_judged, cues_after, list_of, cues_number, cue_of}
use Rattle.smf.specs.Promised.{Timed, timed_of, tempo_behind, tempo_sum, sounds_behind, NeverFall, Rows, FaultNumbers, Promised}
use Rattle.smf.proofs.Inside.{both}
use Rattle.smf.specs.declared.faults.Reason.{Reason}
use Rattle.smf.specs.declared.faults.Reason.TheVariants.{Missing, NoHeader, ShortHeader, OtherFormat, OtherTrackCount, SmpteDivision, NoDivision, SecondHeader, SecondTrack, NoTrack, NoEndOfTrack, BehindEndOfTrack, LongQuantity, NoRunningStatus, SystemStatus, NoDataByte, NoMetaType, ShortTempo, LateFrame}
use Rattle.smf.specs.declared.events.Event.{Event}
use Rattle.smf.specs.declared.events.Event.TheVariants.{Note, Tempo, Other}
use Rattle.smf.specs.declared.SongRefusal.{SongRefusal}
use Rattle.smf.specs.declared.SongRefusal.TheVariants.{BadRate, Faulty, Short}
use Rattle.smf.specs.declared.faults.Fault.{Fault}

-- ---- exact: what the song carries along is the sum and the tempo of the events behind it
exact_from : (rate division : ℕ) (past : List Timed) (es : Events) → (song_from rate division (tempo_behind past) (tempo_sum past) es).verdict ≡ Ok tt
    → (song_from rate division (tempo_behind past) (tempo_sum past) es).entries ≡ sounds_behind rate division past (timed_of es)
unfolding song_from timed_of sounds_behind tempo_sum tempo_behind frame_at
exact_from rate division past (over v) = λ h. refl
exact_from rate division past (then delta event next rest) =
    let frame = frame_at rate division (tempo_sum past + delta * tempo_behind past) in
    let t : Timed = record { delta = delta; event = event } in
    both (λ (s : Song). s.verdict ≡ (Ok tt) → s.entries ≡ sounds_behind rate division past (t ∷ timed_of rest)) (too_late frame event) _ _
    (λ _ e. cc)
    (λ _ e. ap (λ (l : List Entry). event_entries frame event ++ l) (exact_from rate division (t ∷ past) rest e))

exact : (rate : ℕ) (f : List ℕ) (division next : ℕ) → header_of f ≡ Ok (division, next) → (song_of rate f).verdict ≡ Ok tt
    → (song_of rate f).entries ≡ sounds_behind rate division [] (timed_of (events_of f next))
unfolding song_of tempo_sum tempo_behind
exact rate f division next e h =
    let is : song_of rate f ≡ song_from rate division first_tempo 0 (events_of f next) = ap (song_in rate f) e in
    ap (λ (s : Song). s.entries) is ∙ exact_from rate division [] (events_of f next) (sym (ap (λ (s : Song). s.verdict) is) ∙ h)

-- ---- in order
div_mono : (a b k : ℕ) → a ≤ b → a / k ≤ b / k
div_mono a b k h = ⊎_elim
    (λ z. rw z (rw (div-zero, div-zero) (le_refl 0)))
    (λ some. (le-div_iff_mul-le {k = k} {x = a / k} {y = b} some).1 (le_trans (div-mul-le_self a k) h))
    (eq-zero-or-pos k)

later_frame : (rate division sum more : ℕ) → frame_at rate division sum ≤ frame_at rate division (sum + more)
unfolding frame_at
later_frame rate division sum more = div_mono (rate * sum) (rate * (sum + more)) (unit_of division) (mul-le-mul_left rate (le-add_right sum more))

joined : (frame n : ℕ) (event : Event) (l : List Entry) → n ≤ frame → ((m : ℕ) → m ≤ frame → NeverFall m l) → NeverFall n (event_entries frame event ++ l)
unfolding event_entries NeverFall
joined frame n (Note key) l h k = (h, k frame (le_refl frame))
joined frame n (Tempo new) l h k = k n h
joined frame n Other l h k = k n h

order_from : (rate division tempo sum n : ℕ) (es : Events) → n ≤ frame_at rate division sum → NeverFall n (song_from rate division tempo sum es).entries
unfolding song_from NeverFall
order_from rate division tempo sum n (over v) h = tt
order_from rate division tempo sum n (then delta event next rest) h =
    let frame = frame_at rate division (sum + delta * tempo) in
    both (λ (s : Song). NeverFall n s.entries) (too_late frame event) _ _
    (λ _. tt)
    (λ _. joined frame n event (song_from rate division (tempo_after tempo event) (sum + delta * tempo) rest).entries
    (le_trans h (later_frame rate division sum (delta * tempo)))
    (λ m k. order_from rate division (tempo_after tempo event) (sum + delta * tempo) m rest k))

-- ---- in range
abbrev InRange : Entry → Type 0
InRange e = e.frame ≤ 2 ^ 48

ranged : (frame : ℕ) (event : Event) (l : List Entry) → too_late frame event ≡ false → Each InRange l → Each InRange (event_entries frame event ++ l)
unfolding event_entries too_late Each
ranged frame (Note key) l h k = (ltb-false last_frame frame h, k)
ranged frame (Tempo new) l h k = k
ranged frame Other l h k = k

range_from : (rate division tempo sum : ℕ) (es : Events) → Each InRange (song_from rate division tempo sum es).entries
unfolding song_from Each
range_from rate division tempo sum (over v) = tt
range_from rate division tempo sum (then delta event next rest) =
    let frame = frame_at rate division (sum + delta * tempo) in
    both (λ (s : Song). Each InRange s.entries) (too_late frame event) _ _
    (λ _. tt)
    (λ e. ranged frame event (song_from rate division (tempo_after tempo event) (sum + delta * tempo) rest).entries e
    (range_from rate division (tempo_after tempo event) (sum + delta * tempo) rest))

-- what holds of every song from its events on holds of a file's
of_song : (P : List Entry → Type 0) (rate : ℕ) (f : List ℕ) → P [] → ((division : ℕ) (es : Events) → P (song_from rate division first_tempo 0 es).entries) → P (song_of rate f).entries
unfolding song_of
of_song P rate f none some = go (header_of f)
  where
    go : (o : Result (ℕ × ℕ) Fault) → P (song_in rate f o).entries
    go (Ok (division, next)) = some division (events_of f next)
    go (Err why) = none

in_order : (rate : ℕ) (f : List ℕ) → NeverFall 0 (song_of rate f).entries
unfolding NeverFall
in_order rate f = of_song (NeverFall 0) rate f tt (λ division es. order_from rate division first_tempo 0 0 es zero-le)

in_range : (rate : ℕ) (f : List ℕ) → Each InRange (song_of rate f).entries
unfolding Each
in_range rate f = of_song (Each InRange) rate f tt (λ division es. range_from rate division first_tempo 0 es)

-- ---- numbers
others_12 : (why : Reason) → why ≢ OtherFormat → why ≢ SmpteDivision → why ≢ LateFrame → refusal_of why ≡ 12
unfolding refusal_of
others_12 Missing f s l = refl
others_12 NoHeader f s l = refl
others_12 ShortHeader f s l = refl
others_12 OtherFormat f s l = absurd (f refl)
others_12 OtherTrackCount f s l = refl
others_12 SmpteDivision f s l = absurd (s refl)
others_12 NoDivision f s l = refl
others_12 SecondHeader f s l = refl
others_12 SecondTrack f s l = refl
others_12 NoTrack f s l = refl
others_12 NoEndOfTrack f s l = refl
others_12 BehindEndOfTrack f s l = refl
others_12 LongQuantity f s l = refl
others_12 NoRunningStatus f s l = refl
others_12 SystemStatus f s l = refl
others_12 NoDataByte f s l = refl
others_12 NoMetaType f s l = refl
others_12 ShortTempo f s l = refl
others_12 LateFrame f s l = absurd (l refl)

fault_numbers : FaultNumbers
unfolding refusal_of
fault_numbers = record { format = refl; smpte = refl; late = refl; others = others_12 }

song_rows : (f : List ℕ) (rate room : ℕ) → Rows f rate room
unfolding counted_judged count_closed cues_number
song_rows f rate room = record {
  rate_row = λ h. rw h;
  fault_row = λ why g v. rw (g, v);
  room_row = λ g v h. rw (g, v, lt-leb (2 * length (song_of rate f).entries) room h);
  done_row = λ g v h. rw (g, v, le-leb (2 * length (song_of rate f).entries) room h);
}

-- ---- the list
held_at : (es : List Entry) (list : List ℕ) (c : Result ℕ SongRefusal) → (cues_number c ≡ 0 → ⊥) → cues_after es list c ≡ list
unfolding cues_number
held_at es list (Ok n) h = absurd (h refl)
held_at es list (Err BadRate) h = refl
held_at es list (Err (Faulty why)) h = refl
held_at es list (Err (Short n)) h = refl

held : (f : List ℕ) (rate : ℕ) (list : List ℕ) → (cues_number (counted_judged f rate (length list)) ≡ 0 → ⊥) → list_of f rate list ≡ list
unfolding list_of
held f rate list h = held_at (song_of rate f).entries list (counted_judged f rate (length list)) h

no_zero : (why : Reason) → refusal_of why ≡ 0 → ⊥
unfolding refusal_of
no_zero Missing e = omega arith
no_zero NoHeader e = omega arith
no_zero ShortHeader e = omega arith
no_zero OtherFormat e = omega arith
no_zero OtherTrackCount e = omega arith
no_zero SmpteDivision e = omega arith
no_zero NoDivision e = omega arith
no_zero SecondHeader e = omega arith
no_zero SecondTrack e = omega arith
no_zero NoTrack e = omega arith
no_zero NoEndOfTrack e = omega arith
no_zero BehindEndOfTrack e = omega arith
no_zero LongQuantity e = omega arith
no_zero NoRunningStatus e = omega arith
no_zero SystemStatus e = omega arith
no_zero NoDataByte e = omega arith
no_zero NoMetaType e = omega arith
no_zero ShortTempo e = omega arith
no_zero LateFrame e = omega arith

written : (f : List ℕ) (rate : ℕ) (list : List ℕ) → cues_number (counted_judged f rate (length list)) ≡ 0
    → list_of f rate list ≡ numbers_of (song_of rate f).entries ++ drop (2 * length (song_of rate f).entries) list
unfolding list_of counted_judged count_closed cues_number
written f rate list = go (good_rate rate) (song_of rate f).verdict
  where
    es : List Entry
    es = (song_of rate f).entries

    fits : (b : Bool) → cues_number (cond b (Ok (length es)) (Err (Short (length es)))) ≡ 0 → cues_after es list (cond b (Ok (length es)) (Err (Short (length es)))) ≡ numbers_of es ++ drop (2 * length es) list
    fits true e = refl
    fits false e = absurd (omega arith)

    go : (b : Bool) (v : Result (Unit {0}) Fault) → cues_number (cond b (room_judged (length list) (count_closed v (length es))) (Err BadRate)) ≡ 0
        → cues_after es list (cond b (room_judged (length list) (count_closed v (length es))) (Err BadRate)) ≡ numbers_of es ++ drop (2 * length es) list
    go true (Ok done) e = fits (leb (2 * length es) (length list)) e
    go true (Err why) e = absurd (no_zero why.reason e)
    go false v e = absurd (omega arith)

counted : (f : List ℕ) (rate room n : ℕ) → counted_judged f rate room ≡ Ok n → ((song_of rate f).verdict ≡ Ok tt) × (length (song_of rate f).entries ≡ n)
unfolding counted_judged count_closed cues_number
counted f rate room n = go (good_rate rate) (song_of rate f).verdict
  where
    size : ℕ
    size = length (song_of rate f).entries

    never : {A : Type 0} {c : Result ℕ SongRefusal} → c ≡ Ok n → cues_number c ≢ 0 → A
    never e h = absurd (h (ap cues_number e))

    fits : (b : Bool) → cond b (Ok size) (Err (Short size)) ≡ Ok n → size ≡ n
    fits true e = cc
    fits false e = never e (λ z. omega arith)

    go : (b : Bool) (v : Result (Unit {0}) Fault) → cond b (room_judged room (count_closed v size)) (Err BadRate) ≡ Ok n → (v ≡ Ok tt) × (size ≡ n)
    go true (Ok done) e = (refl, fits (leb (2 * size) room) e)
    go true (Err why) e = never e (no_zero why.reason)
    go false v e = never e (λ z. omega arith)

-- ---- an entry read back
read_back : (frame key channel velocity : ℕ) → key < 128 → channel < 16 → velocity < 128
    → cue_of frame (key * 256 + channel + velocity * 65536) ≡ record {
      frame = frame;
      velocity = div binary32 (as_float velocity) (as_float 127);
      note = key * 256 + channel;
      starts = not (eqb velocity 0);
    }
unfolding cue_of
read_back frame key channel velocity h k l =
    let packed = key * 256 + channel + velocity * 65536 in
    let word : packed / 65536 % 256 ≡ velocity = omega arith in
    let note : packed % 65536 ≡ key * 256 + channel = omega arith in
    rw (word, note)

pub promised : Promised
promised = record {
  exact = exact;
  in_order = in_order;
  in_range = in_range;
  song_rows = song_rows;
  fault_numbers = fault_numbers;
  counted = counted;
  read_back = read_back;
  held = held;
  written = written;
  settled = λ f rate list r s l m a b x y. (a ∙ sym b, x ∙ sym y);
}
