-- The samples of a phrase of a channel's part, as they stand in the whole memory. Assumes nothing.
use mathlib.Core.Path.{◌≡◌, sym, ap, ◌∙◌}
use mathlib.Core.List.{List}
use Prim.Native.Nat.{ℕ, ◌+◌, ◌*◌, ◌≤◌, ◌<◌}
use native.Mathlib.Omega.{arith}
use lib.ListN.{take, drop, length-take, length-drop}
use lib.Seq.{ext_get_or, get_or-take, get_or-drop, drop-drop}
use Rattle.phrases.specs.declared.Phrase.{Phrase}
use Rattle.phrases.specs.Phrases.{stored_in}
use Rattle.sampler.specs.declared.Sampler.{Sampler}
use Rattle.sampler.specs.Samplers.{part_of}

-- n from place a on, of a front that reaches so far
module _ (n a b : ℕ) (l : List ℕ) (within : a + n ≤ b) where
  front_enough : take n (drop a (take b l)) ≡ take n (drop a l)
  front_enough =
      ext_get_or 0 _ _ (simp (length-take, length-drop) (omega arith))
      (λ i less. let h : i < n = omega (arith, length-take n (drop a (take b l))) in
      get_or-take n (drop a (take b l)) i 0 h ∙ get_or-drop a (take b l) i 0 ∙ get_or-take b l (a + i) 0 (omega arith)
      ∙ sym (get_or-take n (drop a l) i 0 h ∙ get_or-drop a l i 0))

pub stored_at : (s : Sampler) (j : ℕ) (m : List ℕ) (p : Phrase) → p.start + p.length ≤ s.capacity
    → stored_in p (part_of s j m) ≡ take p.length (drop (j * s.capacity + p.start) m)
unfolding stored_in part_of
stored_at s j m p within =
    front_enough p.length p.start s.capacity (drop (j * s.capacity) m) within
    ∙ ap (take p.length) (drop-drop p.start (j * s.capacity) m)
