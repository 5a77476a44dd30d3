-- Playing the list equals making the calls by hand. Assumes nothing.
use Rattle.std.proofs.Common.{◌≡◌, ℕ, ◌+◌, ◌*◌, Bool, true, false, cond, leb, List, [], ◌∷◌, ◌++◌, length, drop, refl, arith}
use Rattle.std.specs.List.{fold}
use Rattle.std.specs.Prelude.{Result, is_ok}
use Rattle.refusals.specs.declared.Refusal.{Refusal}
use Rattle.common_types.specs.declared.Params.{Params}
use Rattle.sampler.specs.declared.Sampler.{Sampler}
use Rattle.smf.specs.declared.Cue.{Cue}
use Rattle.songs.specs.Plays.{cue_call, one_more_refused, cues_of, cues_played, play_of, due_of, refused_of, ByHand}
use Rattle.songs.specs.declared.Playing.{Playing}

module _ (at : ℕ) (p : Params) where
  abbrev made : Sampler → Cue → Sampler
  made s c = (cue_call s c p).sampler

  -- a list whose first is due, or isn't
  pick : (P : Playing → List Cue → Type 0) (b : Bool) (x y : Playing) (c : Cue) (cs : List Cue) → P x (c ∷ cs) → P y [] → P (cond b x y) (cond b (c ∷ cs) [])
  pick P true x y c cs h k = h
  pick P false x y c cs h k = k

  one_more : (refused : ℕ) (done : Result (Unit {0}) Refusal) (n : ℕ) (c : Cue) (cs : List Cue) → n ≡ one_more_refused refused done + length cs → n ≡ refused + length (cond (is_ok done) [] (c ∷ []) ++ cs)
  unfolding one_more_refused
  one_more refused done n c cs = go (is_ok done)
    where
      go : (b : Bool) → n ≡ cond b refused (refused + 1) + length cs → n ≡ refused + length (cond b [] (c ∷ []) ++ cs)
      go true e = e
      go false e = omega arith

  -- the engine, the next entry and the refused calls, after those that are due
  abbrev Made : Sampler → ℕ → ℕ → Playing → List Cue → Type 0
  Made s next refused r due = (r.sampler ≡ fold made s due) × (r.next ≡ next + length due) × (r.refused ≡ refused + length (refused_of s due p))

  hands : (s : Sampler) (cs : List Cue) (next refused : ℕ) → Made s next refused (cues_played s cs next at p refused) (due_of at cs)
  unfolding cues_played due_of refused_of
  hands s [] next refused = (refl, omega arith, omega arith)
  hands s (c ∷ cs) next refused =
      let a = cue_call s c p in
      let rest = hands a.sampler cs (next + 1) (one_more_refused refused a.done) in
      pick (Made s next refused) (leb c.frame at) _ _ c (due_of at cs)
      (rest.0, (let k = rest.1 in omega arith), one_more refused a.done _ c (refused_of a.sampler (due_of at cs) p) rest.2)
      (refl, omega arith, omega arith)

pub by_hand : (s : Sampler) (list : List ℕ) (next at : ℕ) (p : Params) → ByHand s list next at p
unfolding play_of
by_hand s list next at p =
    let h = hands at p s (cues_of (drop (2 * next) list)) next 0 in
    record { calls = h.0; places = h.1; refusals = (let k = h.2 in omega arith) }
