-- `refusal` meets its contract: the three that are named, and all others. Assumes nothing.
use mathlib.Core.Path.{◌≡◌, refl}
use Rattle.smf.specs.Faults.{refusal_of}
use Rattle.smf.specs.declared.faults.Reason.{Reason}
use Rattle.smf.specs.declared.faults.Reason.TheVariants.{Missing, NoHeader, ShortHeader, OtherFormat, OtherTrackCount, SmpteDivision, NoDivision, SecondHeader, SecondTrack, NoTrack, NoEndOfTrack, BehindEndOfTrack, LongQuantity, NoRunningStatus, SystemStatus, NoDataByte, NoMetaType, ShortTempo, LateFrame}
use Rattle.smf.proofs.faults.refusal.Goals as goal

-- the variants that no arm names
other : (r : Reason) → (r ≡ OtherFormat → ⊥) → (r ≡ SmpteDivision → ⊥) → (r ≡ LateFrame → ⊥) → 12 ≡ refusal_of r
unfolding refusal_of
other Missing f g h = refl
other NoHeader f g h = refl
other ShortHeader f g h = refl
other OtherFormat f g h = absurd (f refl)
other OtherTrackCount f g h = refl
other SmpteDivision f g h = absurd (g refl)
other NoDivision f g h = refl
other SecondHeader f g h = refl
other SecondTrack f g h = refl
other NoTrack f g h = refl
other NoEndOfTrack f g h = refl
other BehindEndOfTrack f g h = refl
other LongQuantity f g h = refl
other NoRunningStatus f g h = refl
other SystemStatus f g h = refl
other NoDataByte f g h = refl
other NoMetaType f g h = refl
other ShortTempo f g h = refl
other LateFrame f g h = absurd (h refl)

pub returns-in-OtherFormat : goal.returns-in-OtherFormat
unfolding refusal_of
returns-in-OtherFormat c = simp c.in-OtherFormat.is

pub returns-in-SmpteDivision : goal.returns-in-SmpteDivision
unfolding refusal_of
returns-in-SmpteDivision c = simp c.in-SmpteDivision.is

pub returns-in-LateFrame : goal.returns-in-LateFrame
unfolding refusal_of
returns-in-LateFrame c = simp c.in-LateFrame.is

pub returns-in_default : goal.returns-in_default
returns-in_default c = let d = c.in_default in other c.args.reason d.not-OtherFormat d.not-SmpteDivision d.not-LateFrame
