-- What is asked of files of other forms, said of the definitions that `turn` is proved to equal. `proofs/Promised: promised`
-- proves it.
use Rattle.std.specs.Prelude.{◌≡◌, List, ◌++◌, ◌⊎◌, ℕ, ◌+◌, ◌-◌, ◌*◌, ◌^◌, ◌≤◌, ◌<◌, length, drop, get_or, T, Float}
use Rattle.std.specs.Float.{binary32}
use Rattle.std.specs.Float.Ieee.{fits}
use Rattle.std.specs.Float.Ieee.Exact.{HasValue}
use Rattle.octets.specs.Octets.{Bytes}
use Rattle.wave.specs.Files.{file_of}
use Rattle.wave.specs.Reader.{read_of}
use Rattle.wave.specs.Reader.Reading.{is}
use Rattle.wave.specs.Grammar.{IsWave}
use Rattle.wave_forms.specs.Values.{negative, magnitude, whole_of, narrow_of, number_word}
use Rattle.wave_forms.specs.Grammar.{IsForm, words_of_file}
use Rattle.wave_forms.specs.Turns.{turn_answer, output_after}

-- a file of some form
pub record Formed (f : List ℕ) : Type 0 where
  pub rate : ℕ
  pub channels : ℕ
  pub tag : ℕ
  pub bits : ℕ
  pub numbers : List ℕ
  pub form : IsForm f rate channels tag bits numbers

pub record Promised : Type 0 where
  -- what isn't answered 17 is of a known form,
  pub answered : (f : List ℕ) (room : ℕ) → Bytes f → ((turn_answer f room).number ≡ 17 → ⊥) → Formed f
  -- and a file of a known form is turned where there is room: the bytes of 10/12's writer stand in front
  pub good : (f out : List ℕ) (rate channels tag bits : ℕ) (numbers : List ℕ)
      → (g : IsForm f rate channels tag bits numbers) → 58 + 4 * length numbers ≤ length out
      → (turn_answer f (length out) ≡ record { length = 58 + 4 * length numbers; number = 0 })
      × (output_after f out
      ≡ file_of rate channels g.samples (words_of_file tag bits numbers) ++ drop (58 + 4 * length numbers) out)
  -- else it is answered 8 with the length that is needed
  pub short : (f : List ℕ) (room rate channels tag bits : ℕ) (numbers : List ℕ)
      → IsForm f rate channels tag bits numbers → room < 58 + 4 * length numbers
      → turn_answer f room ≡ record { length = 58 + 4 * length numbers; number = 8 }
  pub numbered : (f : List ℕ) (room : ℕ)
      → ((turn_answer f room).number ≡ 0) ⊎ ((turn_answer f room).number ≡ 8)
      ⊎ (turn_answer f room ≡ record { length = 0; number = 17 })
  -- refused or short leaves the output as it was
  pub held : (f out : List ℕ) → ((turn_answer f (length out)).number ≡ 0 → ⊥) → output_after f out ≡ out
  -- what is written is so long, and 10/12's reader takes it
  pub file_length : (f : List ℕ) (rate channels tag bits : ℕ) (numbers : List ℕ)
      → (g : IsForm f rate channels tag bits numbers)
      → length (file_of rate channels g.samples (words_of_file tag bits numbers)) ≡ 58 + 4 * length numbers
  pub taken : (f : List ℕ) (rate channels tag bits : ℕ) (numbers : List ℕ)
      → (g : IsForm f rate channels tag bits numbers)
      → read_of (file_of rate channels g.samples (words_of_file tag bits numbers))
      ≡ is rate channels (words_of_file tag bits numbers)
  -- word k is the value of number k
  pub word_at : (tag bits : ℕ) (numbers : List ℕ) (k : ℕ) → k < length numbers
      → get_or (words_of_file tag bits numbers) k 0 ≡ number_word tag bits (get_or numbers k 0)
  -- 16 and 24 bits lose nothing: the value is exactly the number over 2 ^ (bits - 1)
  pub exact : (bits n : ℕ) → 1 ≤ bits → bits ≤ 24 → n < 2 ^ bits
      → HasValue (whole_of bits n) (negative bits n) (magnitude bits n) (2 ^ (bits - 1))
  -- and a float of 64 bits that 32 hold is kept
  pub kept : (x : Float) → T (fits binary32 x) → narrow_of x ≡ x
  -- a file of 10/12's form is of a known one, and its words are kept
  pub own_form : (f : List ℕ) (rate channels : ℕ) (words : List ℕ) → IsWave f rate channels words
      → 50 + 4 * length words < 2 ^ 32 → IsForm f rate channels 3 32 words × (words_of_file 3 32 words ≡ words)
  -- a file holds one recording
  pub one_form : (f : List ℕ) (rate channels tag bits rate₁ channels₁ tag₁ bits₁ : ℕ) (numbers numbers₁ : List ℕ)
      → IsForm f rate channels tag bits numbers → IsForm f rate₁ channels₁ tag₁ bits₁ numbers₁
      → (rate ≡ rate₁) × (channels ≡ channels₁) × (tag ≡ tag₁) × (bits ≡ bits₁) × (numbers ≡ numbers₁)
