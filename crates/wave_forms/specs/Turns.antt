-- What `turn` answers, and what it leaves in the output. Definitions only.
use Rattle.std.specs.Prelude.{Option, Some, None, cond, List, ◌++◌, ℕ, ◌+◌, ◌*◌, ltb, length, drop}
use Rattle.wave.specs.Files.{file_of}
use Rattle.wave_forms.specs.Reader.{file_judged, words_in}
use Rattle.wave_forms.specs.declared.Source.{Source}
use Rattle.wave_forms.specs.declared.Turned.{Turned}

abbrev pub bytes_of : Source → ℕ
bytes_of s = 58 + 4 * s.count

abbrev pub turned_into : ℕ → Option Source → Turned
turned_into room (Some s) = record { length = bytes_of s; number = cond (ltb room (bytes_of s)) 8 0 }
turned_into room None = record { length = 0; number = 17 }

unfoldable pub turn_answer : List ℕ → ℕ → Turned
turn_answer f room = turned_into room (file_judged f)

-- the file of 10/12's form; a longer output keeps its rest
abbrev pub file_from : List ℕ → Source → List ℕ
file_from f s = file_of s.form.rate s.form.channels s.samples (words_in f s)

abbrev pub output_by : List ℕ → List ℕ → Option Source → List ℕ
output_by f out (Some s) = cond (ltb (length out) (bytes_of s)) out (file_from f s ++ drop (bytes_of s) out)
output_by f out None = out

unfoldable pub output_after : List ℕ → List ℕ → List ℕ
output_after f out = output_by f out (file_judged f)
