-- A note packed and unpacked is the note, and a number unpacked and packed is its lowest 16 bits. Assumes nothing.
use mathlib.Core.Path.{◌≡◌, ap₂}
use Prim.Native.Nat.{ℕ, ◌+◌, ◌*◌, ◌/◌, ◌%◌, ◌^◌, ◌<◌}
use native.Mathlib.Omega.{arith}
use Rattle.common_types.specs.declared.Note.{Note}
use Rattle.common_types.specs.Notes.{note_of, into_u64_of, from_u64_of}

upper : (a b : ℕ) → a < 256 → b < 256 → (a * 256 + b) / 256 % 256 ≡ a
upper a b h k = omega arith

lower : (a b : ℕ) → b < 256 → (a * 256 + b) % 256 ≡ b
lower a b k = omega arith

pub unpack_pack : (n : Note) → n.note < 256 → n.channel < 256 → from_u64_of (into_u64_of n) ≡ n
unpack_pack n h k = ap₂ note_of (upper n.note n.channel h k) (lower n.note n.channel k)

pub pack_unpack : (v : ℕ) → into_u64_of (from_u64_of v) ≡ v % 2 ^ 16
pack_unpack v = omega arith

pub pack_unpack_small : (v : ℕ) → v < 2 ^ 16 → into_u64_of (from_u64_of v) ≡ v
pack_unpack_small v h = omega arith

pub packed_below : (n : Note) → n.note < 256 → n.channel < 256 → into_u64_of n < 2 ^ 16
packed_below n h k = omega arith
