-- The part of a memory that the recorder is handed: it lies within it, and what is put in its place leaves the rest. Assumes nothing.
use mathlib.Core.Path.{◌≡◌, sym, ap, ◌∙◌}
use mathlib.Core.List.{List, ◌++◌}
use Prim.Native.Nat.{ℕ, ◌+◌, ◌-◌, ◌≤◌, min}
use native.Mathlib.Nat.{min-le_right, le_refl}
use native.Mathlib.Omega.{arith}
use mathlib.Core.Bool.{Bool, true, false, cond}
use lib.Dec.{leb}
use lib.ListN.{length, take, drop, take-append-drop, length-take, length-drop, length-append}
use lib.Seq.{drop-drop, length-take-le}
use lib.Ieee.{Float}
use Rattle.binary32.specs.Leaves.{bits_of}
use Rattle.phrases.specs.declared.Room.{Room}
use Rattle.phrases.specs.Phrases.{room_of}
use Rattle.phrases.proofs.Rooms.{room_inside}
use Rattle.recorder.specs.Recording.{recorded_of, data_after}
use Rattle.channel.specs.Heads.{with_recorded, recording_in, written_in}
use Rattle.channel.specs.Channels.{with_head, behind_in, taken_of, memory_of}
use Rattle.channel.specs.declared.Head.{Head}
use Rattle.channel.specs.declared.Channel.{Channel}

pub written_inside : (behind : ℕ) (h : Head) (size : ℕ) → ((written_in behind h size).from ≤ (written_in behind h size).to) × ((written_in behind h size).to ≤ size)
unfolding written_in
written_inside behind h size = go (leb behind h.start)
  where
    go : (b : Bool) → let r : Room = cond b (record { from = min h.start size; to = size }) (room_of (recording_in h) size) in (r.from ≤ r.to) × (r.to ≤ size)
    go true = (min-le_right h.start size, le_refl size)
    go false = room_inside (recording_in h) size

module _ (behind : ℕ) (h : Head) (m : List ℕ) where
  abbrev from : ℕ
  from = (written_in behind h (length m)).from

  abbrev to : ℕ
  to = (written_in behind h (length m)).to

  abbrev part : List ℕ
  part = take (to - from) (drop from m)

  -- what stands behind it
  pub written_rest : drop (to - from) (drop from m) ≡ drop to m
  written_rest =
      let whole : from + (to - from) ≡ to = omega (arith, (written_inside behind h (length m)).0) in
      drop-drop (to - from) from m ∙ ap (λ (n : ℕ). drop n m) whole

  -- as it was, it leaves the memory as it was
  pub written_same : take from m ++ (part ++ drop to m) ≡ m
  written_same =
      ap (λ (l : List ℕ). take from m ++ (part ++ l)) (sym written_rest)
      ∙ ap (λ (l : List ℕ). take from m ++ l) (take-append-drop (to - from) (drop from m))
      ∙ take-append-drop from m

  pub written_length : (k : List ℕ) → length k ≡ length part → length (take from m ++ (k ++ drop to m)) ≡ length m
  written_length k e = simp (length-append, length-take, length-drop, e) (omega (arith, (written_inside behind h (length m)).0, (written_inside behind h (length m)).1))

  pub part_length : length part ≡ to - from
  part_length = length-take-le (to - from) (drop from m) (omega (arith, (written_inside behind h (length m)).0, (written_inside behind h (length m)).1, length-drop from m))

-- ---- what a sample leaves, as it is recorded there
module _ (c : Channel) (m : List ℕ) (r : Room) (is : r ≡ written_in (behind_in c) c.head (length m)) where
  abbrev handed : Room → List ℕ
  handed z = take (z.to - z.from) (drop z.from m)

  pub taken_there : (h : Head) → h ≡ with_recorded (recorded_of c.head.recorder c.head.data_len (length (handed r))) c.head → with_head h c ≡ taken_of m c
  unfolding taken_of
  taken_there h e =
      let size : length (handed r) ≡ (written_in (behind_in c) c.head (length m)).to - (written_in (behind_in c) c.head (length m)).from = ap (λ (z : Room). length (handed z)) is ∙ part_length (behind_in c) c.head m in
      ap (λ (g : Head). with_head g c) (e ∙ ap (λ (n : ℕ). with_recorded (recorded_of c.head.recorder c.head.data_len n) c.head) size)

  pub memory_there : (x : Float) (last : List ℕ) → last ≡ data_after c.head.recorder (bits_of x) (handed r)
      → take r.from m ++ (last ++ drop (r.to - r.from) (drop r.from m)) ≡ memory_of x c m
  unfolding memory_of
  memory_there x last e =
      let w = written_in (behind_in c) c.head (length m) in
      (λ i. take (is i).from m ++ ((e ∙ ap (λ (z : Room). data_after c.head.recorder (bits_of x) (handed z)) is) i ++ drop ((is i).to - (is i).from) (drop (is i).from m)))
      ∙ ap (λ (l : List ℕ). take w.from m ++ (data_after c.head.recorder (bits_of x) (handed w) ++ l)) (written_rest (behind_in c) c.head m)
