-- `params` meets its contract: each field from its place. Assumes nothing.
use Rattle.listing.specs.Records.{params_of}
use Rattle.listing.proofs.records.params.Goals as goal

pub returns : goal.returns
unfolding params_of
returns c = simp (c.note_off.ensures, c.byte_at-4.ensures, c.loop_mode.ensures, c.byte_at-3.ensures, c.byte_at-2.ensures, c.float_at-4.ensures, c.float_at-3.ensures, c.float_at-2.ensures, c.loop_length.ensures, c.float_at.ensures, c.byte_at.ensures, c.transport.ensures, c.word_at-2.ensures, c.word_at.ensures)
