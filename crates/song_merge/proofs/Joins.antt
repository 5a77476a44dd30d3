-- Two tracks in one, event by event. Assumes nothing.
use mathlib.Core.Path.{◌≡◌, refl, sym, ap, ◌∙◌, subst}
use mathlib.Core.Bool.{Bool, true, false, cond, not, ◌&&◌, ◌||◌}
use mathlib.Core.List.{List, [], ◌∷◌, ◌++◌, append_assoc}
use mathlib.Core.Logic.{◌⊎◌, inl, inr}
use Prim.Native.Nat.{ℕ, ◌+◌, ◌-◌, ◌^◌, ◌≤◌, ◌<◌, max}
use native.Mathlib.Omega.{arith}
use lib.Dec.{leb}
use lib.ListN.{length, length-append}
use lib.Seq.{sets}
use borrow.Author.Tests.{leb-true, leb-false}
use Rattle.octets.specs.Octets.{byte_at}
use Rattle.smf.specs.Promised.{Timed}
use Rattle.smf.specs.declared.events.Event.{Event}
use Rattle.song_grammar.specs.Grammar.{Quantity, OneEvent}
use Rattle.song_grammar.specs.Grammar.Digits.{last}
use Rattle.song_grammar.proofs.Segments.{From, from_length}
use Rattle.song_merge.specs.declared.cursors.Cursor.{Cursor}
use Rattle.song_merge.specs.Merges.{merged_of}
use Rattle.song_merge.specs.Written.{delta_bytes, whole_event, event_bytes, end_bytes}
use Rattle.song_merge.specs.Gathers.{Joined}
use Rattle.song_merge.specs.Standing.{TrackSized, Held, Before, Views, CursorPlaced}
use Rattle.song_merge.specs.Standing.TrackSized.{ended, then}
use Rattle.song_merge.proofs.Bytes.{from_more, bytes_are, sets_long}
use Rattle.song_merge.proofs.Deltas.{quantity_of, shrinks, some_delta, long_4}
use Rattle.song_merge.proofs.Events.{told_is, told_long, event_short}
use Rattle.song_merge.proofs.Merges.{later, NoEarlier, left_goes, Later, right_goes}

-- ---- a track that has begun: with the rest of one it is one
abbrev pub Begun : List ℕ → List Timed → Type 0
Begun pre done = (rest : List ℕ) (ts : List Timed) (k : ℕ) → ((r : ℕ) → TrackSized r rest ts k) → (r : ℕ) → TrackSized r (pre ++ rest) (done ++ ts) (length pre + k)

resized : {running : ℕ} {bytes : List ℕ} {ts : List Timed} {k : ℕ} (m : ℕ) → k ≡ m → TrackSized running bytes ts k → TrackSized running bytes ts m
resized {running} {bytes} {ts} m e s = subst (TrackSized running bytes ts) e s

pub at_most : {running : ℕ} {bytes : List ℕ} {ts : List Timed} {k : ℕ} (m : ℕ) → k ≤ m → TrackSized running bytes ts k → TrackSized running bytes ts m
at_most m h (ended body q r fits) = ended {k = m} body q r (omega arith)
at_most m h (then {k = k} {j = j} q o told fits more) =
    let same : m - j + j ≡ m = omega arith in
    resized m same (then {k = m - j} q o (λ small. omega (arith, told small)) (omega arith) more)

pub not_begun : Begun [] []
not_begun rest ts k t r = resized (0 + k) (omega arith) (t r)

pub one_more : (pre : List ℕ) (done : List Timed) → Begun pre done → {d event : List ℕ} {ticks status : ℕ} {e : Event}
    → Quantity d ticks → 128 ≤ byte_at event 0 → ((r : ℕ) → OneEvent r event e status)
    → Begun (pre ++ (d ++ event)) (done ++ (record { delta = ticks; event = e } ∷ []))
one_more pre done b {d} {event} {ticks} {status} {e} q high o rest ts k t r =
    let new : Timed = record { delta = ticks; event = e } in
    let one : (r : ℕ) → TrackSized r (d ++ (event ++ rest)) (new ∷ ts) (length d + length event + k) = (λ r. then {k = length d + length event} q (o r) (λ small. absurd (omega arith)) (omega arith) (t status)) in
    let all = b (d ++ (event ++ rest)) (new ∷ ts) (length d + length event + k) one r in
    let bytes : pre ++ (d ++ (event ++ rest)) ≡ (pre ++ (d ++ event)) ++ rest = simp append_assoc in
    let events : done ++ (new ∷ ts) ≡ (done ++ (new ∷ [])) ++ ts = simp append_assoc in
    resized (length (pre ++ (d ++ event)) + k) (omega (arith, length-append pre (d ++ event), length-append d event))
    (subst (λ (l : List ℕ). TrackSized r l ((done ++ (new ∷ [])) ++ ts) (length pre + (length d + length event + k))) bytes
    (subst (λ (l : List Timed). TrackSized r (pre ++ (d ++ (event ++ rest))) l (length pre + (length d + length event + k))) events all))

-- ---- cursors
never : {A : Type 0} {b : Bool} → b ≡ true → b ≡ false → A
never {b = b} h k = let z : ◌≡◌ {A = ℕ} 0 1 = cc in absurd (omega arith)

-- so many ticks later
abbrev pub waited_of : Cursor → ℕ → Cursor
waited_of c ticks = record { ended = c.ended; wait = c.wait - ticks; before = c.before; after = c.after; from = c.from; next = c.next }

module _ (f : List ℕ) (end : ℕ) (c : Cursor) where
  pub waits : (ticks : ℕ) (ts : List Timed) (k : ℕ) → Views f end c ts k → Views f end (waited_of c ticks) (later ticks ts) k
  unfolding whole_event
  waits ticks [] k (over, size) = (
    over,
    omega (arith, shrinks (c.wait - ticks) c.wait (omega arith), length-append (delta_bytes c.wait) (0xFF ∷ 0x2F ∷ 0 ∷ []), length-append (delta_bytes (c.wait - ticks)) (0xFF ∷ 0x2F ∷ 0 ∷ [])),
  )
  waits ticks (t ∷ ts) k b = record {
    going = b.going;
    wait = ap (λ (n : ℕ). n - ticks) b.wait;
    event = b.event;
    left = b.left;
    rest = b.rest;
    size =
        let size = b.size in
        omega (arith, shrinks (c.wait - ticks) c.wait (omega arith), length-append (delta_bytes c.wait) (whole_event f c), length-append (delta_bytes (c.wait - ticks)) (whole_event f c));
  }

  -- the event that is next
  pub record Next (ts : List Timed) (k : ℕ) : Type 0 where
    pub first : Timed
    pub others : List Timed
    pub is : ts ≡ first ∷ others
    pub before : Before f end c first others k

  pub next : (ts : List Timed) (k : ℕ) → Views f end c ts k → c.ended ≡ false → Next ts k
  next [] k (over, size) e = never over e
  next (t ∷ ts) k b e = record { first = t; others = ts; is = refl; before = b }

  pub none_left : (ts : List Timed) (k : ℕ) → Views f end c ts k → c.ended ≡ true → (ts ≡ []) × (length (end_bytes c.wait) ≤ k)
  none_left [] k (over, size) e = (refl, size)
  none_left (t ∷ ts) k b e = never e b.going

  -- it is no earlier, or later, than the cursor's
  pub no_earlier : (t : Timed) (ts : List Timed) (k wait : ℕ) → Views f end c ts k → wait ≡ t.delta → (c.ended ≡ true) ⊎ (wait ≤ c.wait) → NoEarlier t ts
  no_earlier t [] k wait v e h = tt
  no_earlier t (u ∷ us) k wait b e (inl over) = never over b.going
  no_earlier t (u ∷ us) k wait b e (inr h) = let w = b.wait in omega arith

  pub is_later : (t : Timed) (ts : List Timed) (k wait : ℕ) → Views f end c ts k → wait ≡ t.delta → (c.ended ≡ true) ⊎ (wait < c.wait) → Later t ts
  is_later t [] k wait v e h = tt
  is_later t (u ∷ us) k wait b e (inl over) = never over b.going
  is_later t (u ∷ us) k wait b e (inr h) = let w = b.wait in omega arith

  -- what it takes
  pub takes : (t : Timed) (ts : List Timed) (k : ℕ) → Before f end c t ts k → 1 + (c.next - c.from) ≤ k
  takes t ts k b = let size = b.size in omega (arith, length-append (delta_bytes c.wait) (whole_event f c), some_delta c.wait, told_long f c)

-- ---- written
pub record Put (out : List ℕ) (w : ℕ) (done : List Timed) : Type 0 where
  pub pre : List ℕ
  pub begun : Begun pre done
  pub there : From out 0 pre w

module _ (f : List ℕ) (end : ℕ) (c : Cursor) (small : c.wait < 2 ^ 28) where
  pub put : (out out' : List ℕ) (w w' : ℕ) (done : List Timed) (t : Timed) (ts : List Timed) (k : ℕ) → Before f end c t ts k → Put out w done
      → w + length (event_bytes f c) ≤ length out → w' ≡ w + length (event_bytes f c) → out' ≡ sets out w (event_bytes f c) → Put out' w' (done ++ (t ∷ []))
  put out out' w w' done t ts k b p room e s =
      let told = told_is f c t.event b.event in
      let same : record { delta = c.wait; event = t.event } ≡ t = ap (λ (n : ℕ). record { delta = n; event = t.event }) b.wait in
      record {
        pre = p.pre ++ event_bytes f c;
        begun = subst (λ (u : Timed). Begun (p.pre ++ event_bytes f c) (done ++ (u ∷ []))) same (one_more p.pre done p.begun (quantity_of c.wait small) told.0 told.1);
        there =
            subst (λ (l : List ℕ). From l 0 (p.pre ++ event_bytes f c) w') (sym s)
            (subst (From (sets out w (event_bytes f c)) 0 (p.pre ++ event_bytes f c)) (sym e) (from_more (event_bytes f c) out p.pre 0 w p.there room));
      }

-- ---- the state between two events
module _ (a : List ℕ) (a_end : ℕ) (f : List ℕ) (end : ℕ) where
  pub record So (x y : Cursor) (w : ℕ) (out : List ℕ) (whole : List Timed) (total : ℕ) : Type 0 where
    pub done : List Timed
    pub put : Put out w done
    pub left : List Timed
    pub right : List Timed
    pub j : ℕ
    pub k : ℕ
    pub sees_left : Views a a_end x left j
    pub sees_right : Views f end y right k
    pub same : done ++ merged_of left right ≡ whole
    pub size : w + j + k ≤ total

  onward : (done : List Timed) (t : Timed) (rest before whole : List Timed) → before ≡ t ∷ rest → done ++ before ≡ whole → (done ++ (t ∷ [])) ++ rest ≡ whole
  onward done t rest before whole e h = append_assoc done (t ∷ []) rest ∙ ap (λ (l : List Timed). done ++ l) (sym e) ∙ h

  -- the left one goes on
  pub left_on : (x y : Cursor) (w : ℕ) (out : List ℕ) (whole : List Timed) (total : ℕ) → So x y w out whole total
      → x.wait < 2 ^ 28 → x.ended ≡ false → (y.ended ≡ true) ⊎ (x.wait ≤ y.wait)
      → (x' : Cursor) → ((ts : List Timed) (k : ℕ) → Held a x.after x.next a_end ts k → Views a a_end x' ts k)
      → (w' : ℕ) (out' : List ℕ) → w + length (event_bytes a x) ≤ length out → w' ≡ w + length (event_bytes a x) → out' ≡ sets out w (event_bytes a x)
      → So x' (waited_of y x.wait) w' out' whole total
  left_on x y w out whole total s small going first x' look w' out' room e stored =
      let n = next a a_end x s.left s.j s.sees_left going in
      let b = n.before in
      let t = n.first in
      let wait = b.wait in
      let size = b.size in
      let all = s.size in
      let goes = left_goes t n.others s.right (no_earlier f end y t s.right s.k x.wait s.sees_right wait first) in
      record {
        done = s.done ++ (t ∷ []);
        put = put a a_end x small out out' w w' s.done t n.others s.j b s.put room e stored;
        left = n.others;
        right = later t.delta s.right;
        j = b.left;
        k = s.k;
        sees_left = look n.others b.left b.rest;
        sees_right = subst (λ (d : ℕ). Views f end (waited_of y x.wait) (later d s.right) s.k) wait (waits f end y x.wait s.right s.k s.sees_right);
        same = onward s.done t (merged_of n.others (later t.delta s.right)) (merged_of s.left s.right) whole (ap (λ (l : List Timed). merged_of l s.right) n.is ∙ goes) s.same;
        size = omega arith;
      }

  pub right_on : (x y : Cursor) (w : ℕ) (out : List ℕ) (whole : List Timed) (total : ℕ) → So x y w out whole total
      → y.wait < 2 ^ 28 → y.ended ≡ false → (x.ended ≡ true) ⊎ (y.wait < x.wait)
      → (y' : Cursor) → ((ts : List Timed) (k : ℕ) → Held f y.after y.next end ts k → Views f end y' ts k)
      → (w' : ℕ) (out' : List ℕ) → w + length (event_bytes f y) ≤ length out → w' ≡ w + length (event_bytes f y) → out' ≡ sets out w (event_bytes f y)
      → So (waited_of x y.wait) y' w' out' whole total
  right_on x y w out whole total s small going first y' look w' out' room e stored =
      let n = next f end y s.right s.k s.sees_right going in
      let b = n.before in
      let t = n.first in
      let wait = b.wait in
      let size = b.size in
      let all = s.size in
      let goes = right_goes t n.others s.left (is_later a a_end x t s.left s.j y.wait s.sees_left wait first) in
      record {
        done = s.done ++ (t ∷ []);
        put = put f end y small out out' w w' s.done t n.others s.k b s.put room e stored;
        left = later t.delta s.left;
        right = n.others;
        j = s.j;
        k = b.left;
        sees_left = subst (λ (d : ℕ). Views a a_end (waited_of x y.wait) (later d s.left) s.j) wait (waits a a_end x y.wait s.left s.j s.sees_left);
        sees_right = look n.others b.left b.rest;
        same = onward s.done t (merged_of (later t.delta s.left) n.others) (merged_of s.left s.right) whole (ap (merged_of s.left) n.is ∙ goes) s.same;
        size = omega arith;
      }

  -- both are over
  pub over_size : (x y : Cursor) (w : ℕ) (out : List ℕ) (whole : List Timed) (total : ℕ) → So x y w out whole total → x.ended ≡ true → y.ended ≡ true
      → (m : ℕ) → m ≡ max x.wait y.wait → w + length (end_bytes m) ≤ total
  over_size x y w out whole total s x_over y_over m is =
      let all = s.size in
      omega (
        arith,
        within,
        (none_left a a_end x s.left s.j s.sees_left x_over).1,
        (none_left f end y s.right s.k s.sees_right y_over).1,
        length-append (delta_bytes m) (0xFF ∷ 0x2F ∷ 0 ∷ []),
        length-append (delta_bytes x.wait) (0xFF ∷ 0x2F ∷ 0 ∷ []),
        length-append (delta_bytes y.wait) (0xFF ∷ 0x2F ∷ 0 ∷ []),
      )
    where
      go : (b : Bool) → leb x.wait y.wait ≡ b → length (delta_bytes m) ≤ length (delta_bytes x.wait) + length (delta_bytes y.wait)
      go true h = let k = leb-true x.wait y.wait h in omega (arith, shrinks m y.wait (omega arith))
      go false h = let k = leb-false x.wait y.wait h in omega (arith, shrinks m x.wait (omega arith))

      within : length (delta_bytes m) ≤ length (delta_bytes x.wait) + length (delta_bytes y.wait)
      within = go (leb x.wait y.wait) refl

  pub over : (x y : Cursor) (w : ℕ) (out : List ℕ) (whole : List Timed) (total : ℕ) → So x y w out whole total
      → x.ended ≡ true → y.ended ≡ true → (m : ℕ) → m ≡ max x.wait y.wait → m < 2 ^ 28
      → (w' : ℕ) (out' : List ℕ) → w + length (end_bytes m) ≤ length out → w' ≡ w + length (end_bytes m) → out' ≡ sets out w (end_bytes m)
      → Held out' 0 0 w' whole total
  unfolding merged_of
  over x y w out whole total s x_over y_over m is small w' out' room e stored =
      let nl = none_left a a_end x s.left s.j s.sees_left x_over in
      let nr = none_left f end y s.right s.k s.sees_right y_over in
      let p = s.put in
      let none : merged_of s.left s.right ≡ [] = ap (λ (l : List Timed). merged_of l s.right) nl.0 ∙ nr.0 in
      let events : s.done ++ [] ≡ whole = ap (λ (l : List Timed). s.done ++ l) (sym none) ∙ s.same in
      let all = p.begun (end_bytes m) [] (length (delta_bytes m) + 3) (λ r. ended {k = length (delta_bytes m) + 3} {size = 0 ∷ []} [] (quantity_of m small) (last {b = 0} (omega arith)) (omega arith)) 0 in
      let bytes = bytes_are out' (p.pre ++ end_bytes m) 0 w' (there p) in
      at_most total (omega (arith, over_size x y w out whole total s x_over y_over m is, from_length out 0 p.pre w p.there, length-append (delta_bytes m) (0xFF ∷ 0x2F ∷ 0 ∷ [])))
      (subst (λ (l : List ℕ). TrackSized 0 l whole (length p.pre + (length (delta_bytes m) + 3))) (sym bytes)
      (subst (λ (ts : List Timed). TrackSized 0 (p.pre ++ end_bytes m) ts (length p.pre + (length (delta_bytes m) + 3))) events all))
    where
      there : (p : Put out w s.done) → From out' 0 (p.pre ++ end_bytes m) w'
      there p =
          subst (λ (l : List ℕ). From l 0 (p.pre ++ end_bytes m) w') (sym stored)
          (subst (From (sets out w (end_bytes m)) 0 (p.pre ++ end_bytes m)) (sym e) (from_more (end_bytes m) out p.pre 0 w p.there room))

  -- too little room
  pub short_left : (x y : Cursor) (w : ℕ) (out : List ℕ) (whole : List Timed) (total : ℕ) → So x y w out whole total → x.ended ≡ false → w + 1 + (x.next - x.from) ≤ total
  short_left x y w out whole total s going =
      let n = next a a_end x s.left s.j s.sees_left going in
      let all = s.size in
      omega (arith, takes a a_end x n.first n.others s.j n.before)

  pub short_right : (x y : Cursor) (w : ℕ) (out : List ℕ) (whole : List Timed) (total : ℕ) → So x y w out whole total → y.ended ≡ false → w + 1 + (y.next - y.from) ≤ total
  short_right x y w out whole total s going =
      let n = next f end y s.right s.k s.sees_right going in
      let all = s.size in
      omega (arith, takes f end y n.first n.others s.k n.before)

  pub short_over : (x y : Cursor) (w : ℕ) (out : List ℕ) (whole : List Timed) (total : ℕ) → So x y w out whole total → x.ended ≡ true → y.ended ≡ true → w + 8 ≤ total
  short_over x y w out whole total s x_over y_over =
      let all = s.size in
      omega (
        arith,
        (none_left a a_end x s.left s.j s.sees_left x_over).1,
        (none_left f end y s.right s.k s.sees_right y_over).1,
        some_delta x.wait,
        some_delta y.wait,
        length-append (delta_bytes x.wait) (0xFF ∷ 0x2F ∷ 0 ∷ []),
        length-append (delta_bytes y.wait) (0xFF ∷ 0x2F ∷ 0 ∷ []),
      )

-- ---- the loop
pub record Fits (end : ℕ) (c : Cursor) : Type 0 where
  pub small : c.wait < 2 ^ 28
  pub up : c.from ≤ c.next
  pub going : c.ended ≡ false → c.next ≤ end

pub fits : (end at : ℕ) (c : Cursor) → CursorPlaced end at c → Fits end c
fits end at c p = record { small = p.small; up = p.up; going = λ e. (p.going e).1 }

pub fits_later : (end ticks : ℕ) (c c' : Cursor) → Fits end c → c' ≡ waited_of c ticks → Fits end c'
fits_later end ticks c c' p e = subst (Fits end) (sym e) (record { small = (let s = p.small in omega arith); up = p.up; going = p.going })

-- what is left of a track: a step for each of its bytes, and one for its end
abbrev pub left_of : ℕ → Cursor → ℕ
left_of end c = end - c.next + cond c.ended 0 1

pub less : (end : ℕ) (c c' : Cursor) → Fits end c → c.ended ≡ false → CursorPlaced end c.next c' → left_of end c' < left_of end c
less end c c' p e q = rw e (go c'.ended refl)
  where
    go : (b : Bool) → c'.ended ≡ b → end - c'.next + cond c'.ended 0 1 < end - c.next + 1
    go true k = let low = q.low in rw k (omega arith)
    go false k = let up = q.going k in let room = p.going e in rw k (omega arith)

pub first_true : (p q : Bool) (m n : ℕ) → not p && (q || leb m n) ≡ true → (p ≡ false) × ((q ≡ true) ⊎ (m ≤ n))
first_true true q m n e = absurd (let z : ◌≡◌ {A = ℕ} 0 1 = cc in omega arith)
first_true false true m n e = (refl, inl refl)
first_true false false m n e = (refl, inr (leb-true m n e))

pub first_false : (p q : Bool) (m n : ℕ) → not p && (q || leb m n) ≡ false → ((q ≡ true → p ≡ true) × (q ≡ false → (p ≡ true) ⊎ (n < m)))
first_false true q m n e = (λ _. refl, λ _. inl refl)
first_false false true m n e = absurd (let z : ◌≡◌ {A = ℕ} 0 1 = cc in omega arith)
first_false false false m n e = (λ k. k, λ _. inr (leb-false m n e))

pub record Going (a : List ℕ) (a_end : ℕ) (f : List ℕ) (at end : ℕ) (before out : List ℕ) (x y : Cursor) (w : ℕ) : Type 0 where
  pub within : w ≤ length out
  pub kept : length out ≡ length before
  pub left : Fits a_end x
  pub right : Fits end y
  pub so : (ts us : List Timed) (j k : ℕ) → Held a 0 22 a_end ts j → Held f 0 at end us k → So a a_end f end x y w out (merged_of ts us) (j + k)

pub begins : (a : List ℕ) (a_end : ℕ) (f : List ℕ) (at end : ℕ) (out : List ℕ) (x y : Cursor)
    → CursorPlaced a_end 22 x × ((ts : List Timed) (k : ℕ) → Held a 0 22 a_end ts k → Views a a_end x ts k)
    → CursorPlaced end at y × ((ts : List Timed) (k : ℕ) → Held f 0 at end ts k → Views f end y ts k)
    → Going a a_end f at end out out x y 0
begins a a_end f at end out x y (px, vx) (py, vy) = record {
  within = omega arith;
  kept = refl;
  left = fits a_end 22 x px;
  right = fits end at y py;
  so = λ ts us j k hx hy. record {
    done = [];
    put = record { pre = []; begun = not_begun; there = refl };
    left = ts;
    right = us;
    j = j;
    k = k;
    sees_left = vx ts j hx;
    sees_right = vy us k hy;
    same = refl;
    size = omega arith;
  };
}

module _ (a : List ℕ) (a_end : ℕ) (f : List ℕ) (at end : ℕ) (before out : List ℕ) (x y : Cursor) (w : ℕ) (g : Going a a_end f at end before out x y w) where
  abbrev goes : Bool
  goes = not x.ended && (y.ended || leb x.wait y.wait)

  abbrev pub Ends : ℕ → List ℕ → Type 0
  Ends r out = Joined a a_end f at end out r

  -- no room
  stops : ((ts us : List Timed) (j k : ℕ) → Held a 0 22 a_end ts j → Held f 0 at end us k → length out < j + k + 5) → Ends 0 out
  stops h = record {
    within = omega arith;
    merged = λ ts us j k hx hy z. absurd (omega arith);
    long = λ ts us j k hx hy. omega arith;
    room = λ ts us j k hx hy r. absurd (omega (arith, h ts us j k hx hy));
  }

  pub left_stops : goes ≡ true → length before - w < 5 + (x.next - x.from) → Ends 0 out
  left_stops e h =
      let kept = g.kept in
      stops (λ ts us j k hx hy. omega (arith, short_left a a_end f end x y w out (merged_of ts us) (j + k) (g.so ts us j k hx hy) (first_true x.ended y.ended x.wait y.wait e).0))

  pub right_stops : y.ended ≡ false → length before - w < 5 + (y.next - y.from) → Ends 0 out
  right_stops e h =
      let kept = g.kept in
      stops (λ ts us j k hx hy. omega (arith, short_right a a_end f end x y w out (merged_of ts us) (j + k) (g.so ts us j k hx hy) e))

  pub over_stops : goes ≡ false → y.ended ≡ true → length before - w < 7 → Ends 0 out
  over_stops e y_over h =
      let kept = g.kept in
      stops (λ ts us j k hx hy. omega (arith, short_over a a_end f end x y w out (merged_of ts us) (j + k) (g.so ts us j k hx hy) ((first_false x.ended y.ended x.wait y.wait e).0 y_over) y_over))

  -- the end
  pub over_ends : goes ≡ false → y.ended ≡ true → w + 7 ≤ length out → (m : ℕ) → m ≡ max x.wait y.wait → (r : ℕ) (out' : List ℕ) → r ≡ w + length (end_bytes m) → out' ≡ sets out w (end_bytes m) → Ends r out'
  over_ends e y_over room m is r out' er eo =
      let x_over = (first_false x.ended y.ended x.wait y.wait e).0 y_over in
      let x_small = g.left.small in
      let y_small = g.right.small in
      let long = length-append (delta_bytes m) (0xFF ∷ 0x2F ∷ 0 ∷ []) in
      let short = long_4 m in
      let kept = sets_long out (end_bytes m) w eo in
      record {
        within = omega arith;
        merged = λ ts us j k hx hy z. over a a_end f end x y w out (merged_of ts us) (j + k) (g.so ts us j k hx hy) x_over y_over m is (omega arith) r out' (omega arith) er eo;
        long = λ ts us j k hx hy. omega (arith, over_size a a_end f end x y w out (merged_of ts us) (j + k) (g.so ts us j k hx hy) x_over y_over m is);
        room = λ ts us j k hx hy z. omega arith;
      }

  -- the next turn
  module _ (x' y' : Cursor) (w' : ℕ) (out' : List ℕ) where
    pub left_again : goes ≡ true → w + 5 + (x.next - x.from) ≤ length out → w' ≡ w + length (event_bytes a x) → out' ≡ sets out w (event_bytes a x) → y' ≡ waited_of y x.wait
        → CursorPlaced a_end x.next x' × ((ts : List Timed) (k : ℕ) → Held a x.after x.next a_end ts k → Views a a_end x' ts k) → Going a a_end f at end before out' x' y' w'
    left_again e room ew eo ey (px, vx) =
        let first = first_true x.ended y.ended x.wait y.wait e in
        let short = event_short a x in
        let kept = sets_long out (event_bytes a x) w eo in
        record {
          within = omega arith;
          kept = kept ∙ g.kept;
          left = fits a_end x.next x' px;
          right = fits_later end x.wait y y' g.right ey;
          so = λ ts us j k hx hy.
              subst (λ (c : Cursor). So a a_end f end x' c w' out' (merged_of ts us) (j + k)) (sym ey)
              (left_on a a_end f end x y w out (merged_of ts us) (j + k) (g.so ts us j k hx hy) g.left.small first.0 first.1 x' vx w' out' (omega arith) ew eo);
        }

    pub right_again : goes ≡ false → y.ended ≡ false → w + 5 + (y.next - y.from) ≤ length out → w' ≡ w + length (event_bytes f y) → out' ≡ sets out w (event_bytes f y) → x' ≡ waited_of x y.wait
        → CursorPlaced end y.next y' × ((ts : List Timed) (k : ℕ) → Held f y.after y.next end ts k → Views f end y' ts k) → Going a a_end f at end before out' x' y' w'
    right_again e going room ew eo ex (py, vy) =
        let first = (first_false x.ended y.ended x.wait y.wait e).1 going in
        let short = event_short f y in
        let kept = sets_long out (event_bytes f y) w eo in
        record {
          within = omega arith;
          kept = kept ∙ g.kept;
          left = fits_later a_end y.wait x x' g.left ex;
          right = fits end y.next y' py;
          so = λ ts us j k hx hy.
              subst (λ (c : Cursor). So a a_end f end c y' w' out' (merged_of ts us) (j + k)) (sym ex)
              (right_on a a_end f end x y w out (merged_of ts us) (j + k) (g.so ts us j k hx hy) g.right.small going first y' vy w' out' (omega arith) ew eo);
        }

    pub left_less : goes ≡ true → y' ≡ waited_of y x.wait → CursorPlaced a_end x.next x' → left_of a_end x' + left_of end y' < left_of a_end x + left_of end y
    left_less e ey px =
        let fewer = less a_end x x' g.left (first_true x.ended y.ended x.wait y.wait e).0 px in
        let same : left_of end y' ≡ left_of end y = ap (left_of end) ey in
        omega arith

    pub right_less : y.ended ≡ false → x' ≡ waited_of x y.wait → CursorPlaced end y.next y' → left_of a_end x' + left_of end y' < left_of a_end x + left_of end y
    right_less e ex py =
        let fewer = less end y y' g.right e py in
        let same : left_of a_end x' ≡ left_of a_end x = ap (left_of a_end) ex in
        omega arith
