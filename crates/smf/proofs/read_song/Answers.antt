-- `read_song` meets its contract. Assumes nothing.
use Rattle.smf.specs.declared.SongRefusal.TheVariants.{Faulty}
use Rattle.std.specs.Prelude.{Err, ◌≡◌, ℕ}
use Rattle.std.proofs.Common.{rules}
use mathlib.Core.Path.{sym, ◌∙◌}
use native.Mathlib.Omega.{arith}
use Rattle.smf.proofs.Answers.{low_rate, high_rate, faulty, too_short, done}
use Rattle.smf.proofs.read_song.Goals as goal

pub returns-then-rate-lt1 : goal.returns-then-rate-lt1
returns-then-rate-lt1 c = let both = low_rate _ _ _ c.if-rate-lt1.true in record { value = both.0; list_after = both.1 }

pub returns-then-rate-gt192000 : goal.returns-then-rate-gt192000
returns-then-rate-gt192000 c = let both = high_rate _ _ _ c.if-rate-lt1.false c.if-rate-gt192000.true in record { value = both.0; list_after = both.1 }

pub returns-then-list-count : goal.returns-then-list-count
returns-then-list-count c = let both = too_short _ _ _ c.if-rate-lt1.false c.if-rate-gt192000.false _ (sym c.song.ensures.value) _ c.in_ok-count.was (omega arith) in record { value = both.0; list_after = both.1 }

pub returns-in_err-count : goal.returns-in_err-count
returns-in_err-count c =
    let both = faulty _ _ _ c.if-rate-lt1.false c.if-rate-gt192000.false _ (sym c.song.ensures.value) _ c.in_err-count.was in
    let e : c.from_residual.result ≡ Err (Faulty c.in_err-count.field-0.0) = search rules in record { value = e ∙ both.0; list_after = both.1 }

pub returns-in_err-song : goal.returns-in_err-song
returns-in_err-song c =
    let none : ◌≡◌ {A = ℕ} 0 1 = cc (c.song.ensures.value, c.song-2.ensures.value, c.in_ok-count.was, c.in_err-song.was) in
    absurd (omega arith)

pub returns : goal.returns
returns c = let both = done _ _ _ c.if-rate-lt1.false c.if-rate-gt192000.false _ (sym c.song.ensures.value) _ c.in_ok-count.was (omega arith) _ c.song-2.ensures.written_list in record { value = both.0; list_after = both.1 }
