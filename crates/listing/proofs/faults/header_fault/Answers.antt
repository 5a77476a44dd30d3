-- `header_fault` meets its contract. Assumes nothing.
-- a version that there isn't
use mathlib.Core.Path.{◌≡◌, sym, ◌∙◌}
use mathlib.Core.Bool.{true, false, ◌||◌}
use mathlib.Core.List.{List}
use Prim.Native.Nat.{ℕ}
use Rattle.std.specs.Prelude.{Some}
use lib.Dec.{eqb}
use lib.ListN.{length}
use borrow.Author.Tests.{lt-leb, le-leb, ne_eqb}
use Rattle.octets.specs.Octets.{byte_at}
use Rattle.listing.specs.declared.faults.HeaderFault.TheVariants as header
use Rattle.listing.specs.Faults.{header_fault_of}
use Rattle.listing.proofs.faults.header_fault.Goals as goal

other_version : (b : List ℕ) (version : ℕ) → version ≡ byte_at b 0 → length b ≡ 3
    → (eqb version 1 || eqb version 2) ≡ false → Some (header.Version version) ≡ header_fault_of b
unfolding header_fault_of
other_version b version v size other = simp (← v, size, other)

-- a number of channels that there isn't
channels : (b : List ℕ) (version count : ℕ) → version ≡ byte_at b 0 → count ≡ byte_at b 1 → length b ≡ 3
    → (eqb version 1 || eqb version 2) ≡ true → (eqb count 1 || eqb count 2) ≡ false → Some (header.Channels count) ≡ header_fault_of b
unfolding header_fault_of
channels b version count v n size known other = simp (← v, ← n, size, known, other)

pub returns-then-is_empty : goal.returns-then-is_empty
unfolding header_fault_of
returns-then-is_empty c = simp (sym c.is_empty.ensures ∙ c.if-is_empty.true)

pub returns-then-bytes-ne3 : goal.returns-then-bytes-ne3
unfolding header_fault_of
returns-then-bytes-ne3 c = simp (sym c.is_empty.ensures ∙ c.if-is_empty.false, ne_eqb _ _ c.if-bytes-ne3.true)

pub returns-then-not-version : goal.returns-then-not-version
returns-then-not-version c = other_version c.args.bytes.now _ c.byte_at-version.ensures c.if-bytes-ne3.false c.if-not-version.true

pub returns-then-not-count : goal.returns-then-not-count
returns-then-not-count c = channels c.args.bytes.now _ _ c.byte_at-version.ensures c.byte_at-count.ensures c.if-bytes-ne3.false c.if-not-version.false c.if-not-count.true

pub returns-then-passthru-gt1 : goal.returns-then-passthru-gt1
unfolding header_fault_of
returns-then-passthru-gt1 c = simp (← c.byte_at-version.ensures, ← c.byte_at-count.ensures, ← c.byte_at-passthru.ensures, c.if-bytes-ne3.false, c.if-not-version.false, c.if-not-count.false, lt-leb _ _ c.if-passthru-gt1.true)

pub returns : goal.returns
unfolding header_fault_of
returns c = simp (← c.byte_at-version.ensures, ← c.byte_at-count.ensures, ← c.byte_at-passthru.ensures, c.if-bytes-ne3.false, c.if-not-version.false, c.if-not-count.false, le-leb _ _ c.if-passthru-gt1.false)
