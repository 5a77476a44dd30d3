-- The plain engine has exactly the voices that request 9/12 says, and moves their positions by one. Assumes nothing.
use Rattle.std.proofs.Common.{◌≡◌, ℕ, ◌+◌, ◌*◌, ◌^◌, ◌<◌, ◌≤◌, Bool, true, false, cond, not, ◌&&◌, sym, refl, ap, ◌∙◌, subst, true≢false, mod-lt, div-add-mod', arith, le-ltb, lt-ltb, le-leb}
use Rattle.binary32.specs.Leaves.{as_whole}
use Rattle.clip.specs.declared.Clip.{Clip}
use Rattle.clip.specs.Positions.{elapsed_at}
use Rattle.clip.specs.Plain.{is_plain, plain_at}
use Rattle.plain_voice.specs.declared.Hot.{Hot}
use Rattle.plain_voice.specs.Hots.{cold, plays_plain, hot_after, hot_at, judged_of, stepped_hot}
use Rattle.plain_voice.specs.Exactly.{Exactly}
use Rattle.plain_voice.proofs.Hots.{plays_so, sized, stepped_to}

module _ (c : Clip) (smooth : Bool) (now : ℕ) where
  abbrev e : ℕ
  e = elapsed_at c now

  -- below 2^24 it is 8/12's own test
  plays_early : e < 2 ^ 24 → plays_plain smooth c now ≡ (not smooth && plain_at c now)
  unfolding plays_plain plain_at
  plays_early few = ap (λ (b : Bool). not smooth && (is_plain c && b)) (lt-ltb e (2 ^ 24) few ∙ sym (le-leb e (2 ^ 24) (omega (arith, few))))

  plays_late : 2 ^ 24 ≤ e → plays_plain smooth c now ≡ false
  unfolding plays_plain
  plays_late late = ap (λ (b : Bool). not smooth && (is_plain c && b)) (le-ltb e (2 ^ 24) late) ∙ none (not smooth) (is_plain c)
    where
      none : (a b : Bool) → (a && (b && false)) ≡ false
      none true true = refl
      none true false = refl
      none false b = refl

  hot_plain : (hot_at smooth c now).plain ≡ plays_plain smooth c now
  unfolding hot_at hot_after cold
  hot_plain = go (plays_plain smooth c now)
    where
      go : (b : Bool) → (cond b (hot_after c e) cold).plain ≡ b
      go true = refl
      go false = refl

  judged_plain : (h : Hot) → (judged_of h smooth c now).plain ≡ (h.plain && plays_plain smooth c now)
  unfolding judged_of hot_after cold
  judged_plain h = go h.plain refl (plays_plain smooth c now)
    where
      go : (a : Bool) → h.plain ≡ a → (b : Bool) → (cond a (cond b (hot_after c (e + 1)) cold) h).plain ≡ (a && b)
      go true is true = refl
      go true is false = refl
      go false is b = is

  by_one : (h : Hot) → (judged_of h smooth c now).plain ≡ true → h ≡ hot_after c e → judged_of h smooth c now ≡ stepped_hot h (as_whole 64 c.length)
  unfolding judged_of hot_after
  by_one h plain is =
      let n : ℕ = as_whole 64 c.length in
      let both = both_true h.plain (plays_plain smooth c now) (sym (judged_plain h) ∙ plain) in
      let plays = plays_so smooth c now both.1 in
      let size = sized c plays.profile in
      ap (λ (a : Bool). cond a (cond (plays_plain smooth c now) (hot_after c (e + 1)) cold) h) both.0
      ∙ ap (λ (b : Bool). cond b (hot_after c (e + 1)) cold) both.1
      ∙ sym (stepped_to c h e n refl (sym (ap (λ (x : Hot). x.start) is))
      (subst (λ (x : Hot). x.lap * n + x.place ≡ e) (sym is) (div-add-mod' e n)) (subst (λ (x : Hot). x.place < n) (sym is) (mod-lt e size.length_low)) size.length_top plays.early)
    where
      both_true : (a b : Bool) → (a && b) ≡ true → (a ≡ true) × (b ≡ true)
      both_true true b h = (refl, h)
      both_true false b h = absurd (true≢false (sym h))

  pub exactly : Exactly c smooth now
  exactly = record {
    taken = λ start. hot_plain ∙ plays_early (omega (arith, start));
    kept = λ h few. judged_plain h ∙ ap (λ (b : Bool). h.plain && b) (plays_early few);
    handed_back = λ h late. judged_plain h ∙ ap (λ (b : Bool). h.plain && b) (plays_late late) ∙ off h.plain;
    by_one = by_one;
  }
    where
      off : (a : Bool) → (a && false) ≡ false
      off true = refl
      off false = refl
