-- `song` meets its contract. Assumes nothing.
use Rattle.std.proofs.Common.{rules}
use mathlib.Core.Path.{refl, sym, ap, ◌∙◌}
use native.Mathlib.Omega.{arith}
use Rattle.smf.specs.Cues.{count_closed, numbers_of, song_in, song_of}
use Rattle.smf.proofs.Searches.{header_divided}
use Rattle.smf.proofs.tracks.song.Goals as goal

pub tracks-requires : goal.tracks-requires
tracks-requires c = let h = header_divided _ _ _ (sym c.header.ensures ∙ c.in_ok-division.was) in (omega arith, h.0, h.1)

pub returns-in_err-division : goal.returns-in_err-division
unfolding count_closed numbers_of song_of
returns-in_err-division c = let e = ap (song_in c.args.rate c.args.file.now) (sym c.header.ensures ∙ c.in_err-division.was) in rw e (record { value = search rules; written_list = λ _. refl })

pub returns : goal.returns
unfolding song_of
returns c = let e = ap (song_in c.args.rate c.args.file.now) (sym c.header.ensures ∙ c.in_ok-division.was) in rw e c.tracks.ensures
