-- An event that is read ends behind its first byte and not past the end of its track. Assumes nothing.
use Rattle.std.specs.Prelude.{Result, Ok, Err}
use mathlib.Core.Path.{◌≡◌, refl, subst}
use mathlib.Core.Bool.{Bool, true, false, cond, ◌||◌}
use mathlib.Core.List.{List}
use Prim.Native.Nat.{ℕ, ◌+◌, ◌-◌, ◌≤◌, ◌<◌}
use native.Mathlib.Omega.{arith}
use lib.Dec.{ltb, leb, eqb}
use borrow.Author.Tests.{ltb-true, leb-true}
use Rattle.octets.specs.Octets.{byte_at}
use Rattle.smf.specs.Fields.{quantity_at}
use Rattle.smf.specs.Events.{data_at, is_one_byte, with_data, channel_event, past, with_quantity, sysex_at, tempo_of, meta_of, meta_at, status_of, event_at, step_timed, with_delta, step_at}
use Rattle.smf.specs.declared.events.Read.{Read}
use Rattle.smf.specs.declared.events.Read.TheVariants.{Is, End}
use Rattle.smf.specs.declared.events.Step.{Step}
use Rattle.smf.specs.declared.events.Step.TheVariants as step
use Rattle.smf.proofs.Quantities.{Within, quantity_within}
use Rattle.smf.specs.declared.faults.Fault.{Fault}

-- ---- a test that picks one of two
pub both : {A : Type 0} (P : A → Type 0) (b : Bool) (x y : A) → (b ≡ true → P x) → (b ≡ false → P y) → P (cond b x y)
both P true x y h k = h refl
both P false x y h k = k refl

-- ---- a data byte lies before the end
abbrev pub Seen : ℕ → ℕ → Result ℕ Fault → Type 0
Seen end at (Ok b) = at < end
Seen end at (Err why) = Unit {0}

pub data_seen : (f : List ℕ) (end at : ℕ) → Seen end at (data_at f end at)
unfolding data_at
data_seen f end at =
    both (Seen end at) (ltb at end) _ _
    (λ e. both (Seen end at) (ltb (byte_at f at) 128) _ _ (λ _. ltb-true at end e) (λ _. tt))
    (λ _. tt)

-- ---- events
abbrev pub Inside : ℕ → ℕ → Result Read Fault → Type 0
Inside end at (Ok (Is event status next)) = (at < next) × (next ≤ end)
Inside end at (Ok (End next)) = (at < next) × (next ≤ end)
Inside end at (Err why) = Unit {0}

-- one that begins later
sooner : (end at from : ℕ) (r : Result Read Fault) → at ≤ from → Inside end from r → Inside end at r
sooner end at from (Ok (Is event status next)) h k = (omega arith, k.1)
sooner end at from (Ok (End next)) h k = (omega arith, k.1)
sooner end at from (Err why) h k = tt

with_data_lem : (end at : ℕ) (d : Result ℕ Fault) (found : ℕ → Result Read Fault) (place : ℕ) → Seen end place d → (place < end → (b : ℕ) → Inside end at (found b))
    → Inside end at (with_data d found)
with_data_lem end at (Ok b) found place h k = k h b
with_data_lem end at (Err why) found place h k = tt

channel_inside : (f : List ℕ) (end status at : ℕ) → Inside end at (channel_event f end status at)
unfolding channel_event
channel_inside f end status at =
    with_data_lem end at (data_at f end at) _ at (data_seen f end at)
    (λ h first. both (Inside end at) (is_one_byte status) _ _ (λ _. (omega arith, omega arith))
    (λ _. with_data_lem end at (data_at f end (at + 1)) _ (at + 1) (data_seen f end (at + 1)) (λ k second. (omega arith, omega arith))))

-- what is skipped
past_inside : (end size at from : ℕ) (found : Result Read Fault) → at ≤ end → (size ≤ end - at → Inside end from found) → Inside end from (past end size at found)
past_inside end size at from found h k = both (Inside end from) (leb size (end - at)) _ _ (λ e. k (leb-true size (end - at) e)) (λ _. tt)

with_quantity_lem : (end at place : ℕ) (q : Result (ℕ × ℕ) Fault) (found : ℕ → ℕ → Result Read Fault) → Within end place q
    → ((size next : ℕ) → place < next → next ≤ end → Inside end at (found size next)) → Inside end at (with_quantity q found)
with_quantity_lem end at place (Ok (size, next)) found h k = k size next h.0 h.1
with_quantity_lem end at place (Err why) found h k = tt

sysex_inside : (f : List ℕ) (end at : ℕ) → Inside end at (sysex_at f end at)
unfolding sysex_at
sysex_inside f end at =
    with_quantity_lem end at at (quantity_at f end at) _ (quantity_within 3 f end 0 at)
    (λ size next h k. past_inside end size next at _ k (λ room. (omega arith, omega arith)))

-- of an event whose first byte lies at `from`
meta_of_inside : (f : List ℕ) (end kind size at from : ℕ) → from < at → at ≤ end → Inside end from (meta_of f end kind size at)
unfolding meta_of tempo_of
meta_of_inside f end kind size at from h k =
    both (Inside end from) (eqb kind 0x51) _ _
    (λ _. both (Inside end from) (ltb size 3) _ _ (λ _. tt) (λ _. past_inside end size at from _ k (λ room. (omega arith, omega arith))))
    (λ _. past_inside end size at from _ k (λ room. both (Inside end from) (eqb kind 0x2f) _ _ (λ _. (omega arith, omega arith)) (λ _. (omega arith, omega arith))))

meta_inside : (f : List ℕ) (end at : ℕ) → Inside end at (meta_at f end at)
unfolding meta_at
meta_inside f end at =
    both (Inside end at) (ltb at end) _ _
    (λ _. both (Inside end at) (ltb (byte_at f at) 128) _ _
    (λ _. with_quantity_lem end at (at + 1) (quantity_at f end (at + 1)) _ (quantity_within 3 f end 0 (at + 1))
    (λ size next h k. meta_of_inside f end (byte_at f at) size next at (omega arith) k))
    (λ _. tt))
    (λ _. tt)

status_inside : (f : List ℕ) (end status at : ℕ) → Inside end at (status_of f end status at)
unfolding status_of
status_inside f end status at =
    both (Inside end at) (ltb status 240) _ _ (λ _. channel_inside f end status at)
    (λ _. both (Inside end at) (eqb status 255) _ _ (λ _. meta_inside f end at)
    (λ _. both (Inside end at) (eqb status 240 || eqb status 247) _ _ (λ _. sysex_inside f end at) (λ _. tt)))

pub event_inside : (f : List ℕ) (end running at : ℕ) → Inside end at (event_at f end running at)
unfolding event_at
event_inside f end running at =
    both (Inside end at) (ltb at end) _ _
    (λ _. both (Inside end at) (leb 128 (byte_at f at)) _ _
    (λ _. sooner end at (at + 1) (status_of f end (byte_at f at) (at + 1)) (omega arith) (status_inside f end (byte_at f at) (at + 1)))
    (λ _. both (Inside end at) (eqb running 0) _ _ (λ _. tt) (λ _. channel_inside f end running at)))
    (λ _. tt)

-- ---- with its delta-time
abbrev pub Moves : ℕ → ℕ → Result Step Fault → Type 0
Moves end at (Ok (step.Is delta event status next)) = (at < next) × (next ≤ end)
Moves end at (Ok (step.End next)) = (at < next) × (next ≤ end)
Moves end at (Err why) = Unit {0}

timed_moves : (end at from delta : ℕ) (r : Result Read Fault) → at < from → Inside end from r → Moves end at (step_timed delta r)
timed_moves end at from delta (Ok (Is event status next)) h k = (omega arith, k.1)
timed_moves end at from delta (Ok (End next)) h k = (omega arith, k.1)
timed_moves end at from delta (Err why) h k = tt

with_delta_lem : (f : List ℕ) (end running at : ℕ) (q : Result (ℕ × ℕ) Fault) → Within end at q → Moves end at (with_delta q (event_at f end running))
with_delta_lem f end running at (Ok (delta, next)) h = timed_moves end at next delta (event_at f end running next) h.0 (event_inside f end running next)
with_delta_lem f end running at (Err why) h = tt

pub step_moves : (f : List ℕ) (end running at : ℕ) → Moves end at (step_at f end running at)
unfolding step_at
step_moves f end running at =
    both (Moves end at) (ltb at end) _ _ (λ _. with_delta_lem f end running at (quantity_at f end at) (quantity_within 3 f end 0 at)) (λ _. tt)

-- ---- the same of what was read
pub seen : (f : List ℕ) (end at b : ℕ) → data_at f end at ≡ Ok b → at < end
seen f end at b e = subst (Seen end at) e (data_seen f end at)

pub quantity_ends : (f : List ℕ) (end at v next : ℕ) → quantity_at f end at ≡ Ok (v, next) → (at < next) × (next ≤ end)
quantity_ends f end at v next e = subst (Within end at) e (quantity_within 3 f end 0 at)

pub step-ends : (f : List ℕ) (end running at : ℕ) (s : Result Step Fault) → step_at f end running at ≡ s → Moves end at s
step-ends f end running at s e = subst (Moves end at) e (step_moves f end running at)
