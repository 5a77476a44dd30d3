-- Tracks and what they are merged into, computed: what is read of the one is what is read of the others, merged. `oracle/compare merges` holds the program to the
-- same bytes. Assumes nothing.
use mathlib.Core.Path.{◌≡◌, refl}
use mathlib.Core.List.{List, [], ◌∷◌, ◌++◌, map}
use Prim.Native.String.{String}
use lib.ListN.{length}
use Rattle.octets.proofs.Hex.{from_hex}
use Rattle.smf.specs.Files.{track_of}
use Rattle.smf.specs.Promised.{Timed, timed_of}
use Rattle.smf.proofs.Examples.{computing}
use Rattle.song_merge.specs.Merges.{among, merged_of, merged_with, merged_all}
use Rattle.song_merge.specs.Written.{delta_bytes}

abbrev events : String → List Timed
events text = timed_of (track_of (from_hex "4D54726B 000000" ++ (length (from_hex text) ∷ []) ++ from_hex text) 0)

abbrev Merge : List String → String → Type 0
Merge tracks merged = merged_all (map events tracks) ≡ events merged

-- at one tick the first track's event is the first
tie : Merge ("00 903C40 10 803C40 00 FF2F00" ∷ "00 904040 10 804040 00 FF2F00" ∷ []) "00 903C40 00 904040 10 803C40 00 804040 00 FF2F00"
unfolding computing timed_of among merged_of merged_with
tie = refl

-- tempos in a track of their own
tempos : Merge ("00 FF510307A120 60 FF510303D090 00 FF2F00" ∷ "30 903C40 60 803C40 00 FF2F00" ∷ []) "00 FF510307A120 30 903C40 30 FF510303D090 30 803C40 00 FF2F00"
unfolding computing timed_of among merged_of merged_with
tempos = refl

-- running status is of one track, and is written out
running : Merge ("00 903C40 10 3C00 00 FF2F00" ∷ "08 914040 08 4000 00 FF2F00" ∷ []) "00 903C40 08 914040 08 903C00 00 914000 00 FF2F00"
unfolding computing timed_of among merged_of merged_with
running = refl

one_track : Merge ("00 903C40 10 3C00 05 FF2F00" ∷ []) "00 903C40 10 903C00 05 FF2F00"
unfolding computing timed_of among merged_of merged_with
one_track = refl

-- a track that ends last
ends_last : Merge ("00 903C40 10 803C40 00 FF2F00" ∷ "8120 FF2F00" ∷ []) "00 903C40 10 803C40 8110 FF2F00"
unfolding computing timed_of among merged_of merged_with
ends_last = refl

-- three tracks at one tick, in their order
three : Merge ("05 900101 00 FF2F00" ∷ "05 910202 00 FF2F00" ∷ "05 920303 00 FF2F00" ∷ []) "05 900101 00 910202 00 920303 00 FF2F00"
unfolding computing timed_of among merged_of merged_with
three = refl

-- delta-times at the edges of their sizes
deltas : map delta_bytes (0 ∷ 127 ∷ 128 ∷ 16383 ∷ 16384 ∷ 2097151 ∷ 2097152 ∷ 0x0FFFFFFF ∷ [])
    ≡ from_hex "00" ∷ from_hex "7F" ∷ from_hex "8100" ∷ from_hex "FF7F" ∷ from_hex "818000" ∷ from_hex "FFFF7F" ∷ from_hex "81808000" ∷ from_hex "FFFFFF7F" ∷ []
unfolding computing delta_bytes
deltas = refl
