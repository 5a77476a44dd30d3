-- The tracks of a file, one after another. Assumes nothing.
use Rattle.std.specs.Prelude.{Option, Some, None, Result, Ok, Err}
use mathlib.Core.Path.{◌≡◌, refl, sym, ap, ◌∙◌, subst}
use mathlib.Core.List.{List, [], ◌∷◌, ◌++◌}
use mathlib.Core.Logic.{◌⊎◌, inl, inr}
use Prim.Native.Nat.{ℕ, zero, suc, ◌+◌, ◌-◌, ◌*◌, ◌^◌, ◌≤◌, ◌<◌}
use native.Mathlib.Omega.{arith}
use lib.Dec.{ltb, eqb}
use lib.ListN.{length}
use borrow.Author.Tests.{ltb-true, ltb-false, eqb-true, eqb-false}
use Rattle.octets.specs.Octets.{bytes_at}
use Rattle.smf.specs.Fields.{four_at}
use Rattle.smf.specs.Files.{track_at}
use Rattle.smf.specs.Promised.{Timed}
use Rattle.smf.proofs.Inside.{both}
use Rattle.smf.proofs.Searches.{track_over}
use Rattle.song_grammar.specs.Grammar.{Track, MTrk, Aliens}
use Rattle.song_grammar.proofs.Segments.{From, from_length, join, split}
use Rattle.song_grammar.proofs.Chunks.{Chunked, chunked, chunk_there, Searched, search}
use Rattle.song_grammar.proofs.Wholes.{Octets, chunk_stands, aliens_passed, track_there}
use Rattle.song_merge.specs.declared.merging.Unmerged.TheVariants.{Short, Broken}
use Rattle.song_merge.specs.Songs.{Tracks}
use Rattle.song_merge.specs.Songs.Tracks.{none, track}
use Rattle.song_merge.specs.Merges.{merged_of, merged_with, merged_all}
use Rattle.song_merge.specs.Standing.{TrackStands, Held, ChunkEnd}
use Rattle.song_merge.specs.Gathers.{Grown, Started, gathered_to, TracksFrom, GathersTracks}
use Rattle.song_merge.proofs.Bytes.{bytes_from, bytes_are, bytes_long}
use Rattle.song_merge.proofs.Tracks.{sized_of, track_of}
use Rattle.smf.specs.declared.faults.Fault.{Fault}

up_to : (n b : ℕ) → (0 < n → n ≤ b) → n ≤ b
up_to zero b h = omega arith
up_to (suc n) b h = h (omega arith)

positive : (n : ℕ) → (n ≡ 0 → ⊥) → 0 < n
positive zero h = absurd (h refl)
positive (suc n) h = omega arith

module _ (f : List ℕ) where
  -- all that stands from a place on
  abbrev pub Behind : ℕ → List (List Timed) → Type 0
  Behind place tss = Tracks (bytes_at (length f - place) f place) tss

  -- the first of several tracks
  pub record First (place : ℕ) (ts : List Timed) (tss : List (List Timed)) : Type 0 where
    pub chunk : ℕ
    pub end : ℕ
    pub is_found : track_at f place ≡ Ok (Some chunk)
    pub low : place ≤ chunk
    pub is : end ≡ chunk + 8 + four_at f (chunk + 4)
    pub room : end ≤ length f
    pub stands : TrackStands f (chunk + 8) end ts
    pub rest : Behind end tss

  abbrev pub Firsts : ℕ → List (List Timed) → Type 0
  Firsts place tss = ((track_at f place ≡ Ok None) × (tss ≡ [])) ⊎ ((ts : List Timed) × (uss : List (List Timed)) × (tss ≡ ts ∷ uss) × First place ts uss)

  -- ---- between two tracks
  module _ (count at spare : ℕ) where
    pub record Left (out : List ℕ) (place end i : ℕ) (uss : List (List Timed)) : Type 0 where
      pub tss : List (List Timed)
      pub acc : List Timed
      pub k : ℕ
      pub rest : Behind place tss
      pub number : i + length tss ≡ count
      pub held : 0 < end → Held out 0 22 end acc k
      pub merged : merged_with acc tss ≡ merged_all uss
      pub size : k ≤ 4 + 2 * (place - at)
      pub long : end ≤ 22 + k
      pub roomy : 14 ≤ at → at < length f → 2 * length f ≤ spare → 2 * length f ≤ length out → 0 < end

    pub record Round (before out : List ℕ) (place end i : ℕ) : Type 0 where
      pub room : place ≤ length f
      pub low : at ≤ place
      pub within : end ≤ length out
      pub kept : length out ≡ length before
      pub some : 0 < end → 22 ≤ end
      pub few : i ≤ count
      pub back : (tss : List (List Timed)) → Behind place tss → (uss : List (List Timed)) × Behind at uss × (length uss ≡ i + length tss)
      pub on : (uss : List (List Timed)) → TracksFrom f at count uss → Left out place end i uss

module _ (f : List ℕ) (octets : Octets f) where
  -- ---- what the grammar spells is found
  first_of : {bytes : List ℕ} {tss : List (List Timed)} → Tracks bytes tss → (place : ℕ) → place ≤ length f → From f place bytes (length f) → Firsts f place tss
  unfolding track_at
  first_of (none a) place room from =
      let p = aliens_passed f octets a (length f) place (length f) from (omega arith) (omega arith) in
      inl (p.same ∙ track_over p.left f (length f) (omega arith), refl)
  first_of (track {before} {body} {chunk} {rest} {ts} {tss} a k t more) place room from =
      let s₂ = split f place before (chunk ++ rest) (length f) from in
      let s₃ = split f s₂.mid chunk rest (length f) s₂.right in
      let up₂ = s₂.up in
      let up₃ = s₃.up in
      let low = s₂.place in
      let p = aliens_passed f octets a (length f) place s₂.mid s₂.left up₂ (omega arith) in
      let there = chunk_stands f k s₂.mid s₃.mid s₃.left in
      let ends = there.ends in
      let size = there.size in
      inr (
        ts,
        tss,
        refl,
        record {
          chunk = s₂.mid;
          end = s₃.mid;
          is_found = p.same ∙ track_there f octets p.left s₂.mid s₃.mid there up₃ p.enough;
          low = omega arith;
          is = omega arith;
          room = up₃;
          stands = subst (λ (l : List ℕ). Track 0 l ts) (sym (bytes_are f body (s₂.mid + 8) s₃.mid there.inside)) t;
          rest = subst (λ (l : List ℕ). Tracks l tss) (sym (bytes_are f rest s₃.mid (length f) s₃.right)) more;
        },
      )

  pub firsts : (place : ℕ) (tss : List (List Timed)) → place ≤ length f → Behind f place tss → Firsts f place tss
  firsts place tss room t = first_of t place room (bytes_from f place (length f) room)

  -- ---- what is found the grammar spells
  searched : (place : ℕ) (r : Result (Option ℕ) Fault) → place ≤ length f → track_at f place ≡ r → Searched f octets place r
  unfolding track_at
  searched place r room e = subst (Searched f octets place) e (search f octets (length f) place room (omega arith))

  pub back_none : (place : ℕ) → place ≤ length f → track_at f place ≡ (Ok None) → Behind f place []
  back_none place room e =
      let s = searched place (Ok None) room e in
      none (subst Aliens (sym (bytes_are f s.bytes place (length f) s.there)) s.is)

  pub back_one : (place chunk end : ℕ) (ts : List Timed) (tss : List (List Timed)) → place ≤ length f → track_at f place ≡ Ok (Some chunk)
      → end ≡ chunk + 8 + four_at f (chunk + 4) → end ≤ length f → TrackStands f (chunk + 8) end ts → Behind f end tss → Behind f place (ts ∷ tss)
  back_one place chunk end ts tss room e is up t more =
      let (others, type, inside) = searched place (Ok (Some chunk)) room e in
      let body = bytes_at (end - (chunk + 8)) f (chunk + 8) in
      let rest = bytes_at (length f - end) f end in
      let long : four_at f (chunk + 4) ≡ length body = omega (arith, bytes_long f (end - (chunk + 8)) (chunk + 8)) in
      let bytes = Chunked f chunk MTrk type body in
      let there = chunk_there f chunk MTrk type body end (bytes_from f (chunk + 8) end (omega arith)) in
      let all = join f place others.bytes chunk (bytes ++ rest) (length f) others.there (join f chunk bytes end rest (length f) there (bytes_from f end (length f) up)) in
      subst (λ (l : List ℕ). Tracks l (ts ∷ tss)) (sym (bytes_are f (others.bytes ++ (bytes ++ rest)) place (length f) all))
      (track others.is (chunked f chunk MTrk type body long) t more)

  pub found_inside : (place chunk : ℕ) → place ≤ length f → track_at f place ≡ Ok (Some chunk) → (place ≤ chunk) × (chunk + 4 ≤ length f)
  found_inside place chunk room e =
      let (others, type, inside) = searched place (Ok (Some chunk)) room e in
      (omega (arith, from_length f place others.bytes chunk others.there), inside)

  -- ---- between two tracks
  module _ (count at spare : ℕ) where
    pub begins : (before out : List ℕ) (end : ℕ) → at ≤ length f → length out ≡ length before → Started out end → Round f count at spare before out at end 0
    begins before out end room kept s = record {
      room = room;
      low = omega arith;
      within = s.within;
      kept = kept;
      some = s.some;
      few = omega arith;
      back = λ tss t. (tss, t, omega arith);
      on = λ uss (t, n). record {
        tss = uss;
        acc = [];
        k = 4;
        rest = t;
        number = omega arith;
        held = s.empty;
        merged = refl;
        size = omega arith;
        long = (let l = s.long in omega arith);
        roomy = λ h l p q. s.room (omega arith);
      };
    }

    module _ (before out : List ℕ) (place end i : ℕ) (r : Round f count at spare before out place end i) where
      broken : ((uss : List (List Timed)) → TracksFrom f at count uss → ⊥) → GathersTracks f count at spare out (Err Broken)
      broken h = record {
        told = λ no. absurd (no refl);
        taken = λ uss c e. h uss c;
        merged = λ uss c. absurd (h uss c);
        room = λ uss c. absurd (h uss c);
      }

      pub no_track : i < count → (q : Result (Option ℕ) Fault) → track_at f place ≡ q → ((chunk : ℕ) → q ≡ Ok (Some chunk) → ⊥) → GathersTracks f count at spare out (Err Broken)
      no_track more q e other = broken (λ uss c. let l = r.on uss c in go l (firsts place l.tss r.room l.rest))
        where
          go : {uss : List (List Timed)} (l : Left f count at spare out place end i uss) → Firsts f place l.tss → ⊥
          go l (inl (nothing, is)) = let n = l.number in let z = ap length is in omega arith
          go l (inr (ts, tss, is, f₁)) = other f₁.chunk (sym e ∙ f₁.is_found)

      pub no_chunk : i < count → (chunk : ℕ) → track_at f place ≡ Ok (Some chunk) → ChunkEnd f chunk 0 → GathersTracks f count at spare out (Err Broken)
      no_chunk more chunk e c₀ = broken (λ uss c. let l = r.on uss c in go l (firsts place l.tss r.room l.rest))
        where
          go : {uss : List (List Timed)} (l : Left f count at spare out place end i uss) → Firsts f place l.tss → ⊥
          go l (inl (nothing, is)) = let z : ◌≡◌ {A = ℕ} 0 1 = cc in omega arith
          go l (inr (ts, tss, is, f₁)) =
              let read = f₁.is_found in
              let same : f₁.chunk ≡ chunk = cc in
              let end_is : f₁.end ≡ chunk + 8 + four_at f (chunk + 4) = f₁.is ∙ ap (λ (n : ℕ). n + 8 + four_at f (n + 4)) same in
              omega (arith, c₀.taken ts f₁.end end_is f₁.room (subst (λ (n : ℕ). TrackStands f (n + 8) f₁.end ts) same f₁.stands))

      -- one more
      module _ (chunk full : ℕ) (e : track_at f place ≡ Ok (Some chunk)) (c₁ : ChunkEnd f chunk full) (real : 0 < full) (out' : List ℕ) (end' : ℕ) (g : Grown out end f (chunk + 8) full spare out' end') (same_long : length out' ≡ length out) where
        joined : {uss : List (List Timed)} → Left f count at spare out place end i uss → Left f count at spare out' full end' (i + 1) uss
        unfolding merged_with
        joined {uss} l = go (firsts place l.tss r.room l.rest)
          where
            go : Firsts f place l.tss → Left f count at spare out' full end' (i + 1) uss
            go (inl (nothing, is)) = absurd (let z : ◌≡◌ {A = ℕ} 0 1 = cc in omega arith)
            go (inr (ts, tss, is, f₁)) =
                let read = f₁.is_found in
                let same : f₁.chunk ≡ chunk = cc in
                let (Full-is, up, us, u) = c₁.told real in
                let end_is : f₁.end ≡ full = f₁.is ∙ ap (λ (n : ℕ). n + 8 + four_at f (n + 4)) same ∙ sym Full-is in
                let stands : TrackStands f (chunk + 8) full ts =
                subst (λ (n : ℕ). TrackStands f (n + 8) full ts) same (subst (λ (n : ℕ). TrackStands f (f₁.chunk + 8) n ts) end_is f₁.stands) in
                let m = 2 * length (bytes_at (full - (chunk + 8)) f (chunk + 8)) in
                let one : Held f 0 (chunk + 8) full ts m = sized_of f stands in
                let wide = bytes_long f (full - (chunk + 8)) (chunk + 8) in
                let inside = found_inside place chunk r.room e in
                let count-is = l.number in
                let fewer = ap length is in
                let small = l.size in
                let low = r.low in
                record {
                  tss = tss;
                  acc = merged_of l.acc ts;
                  k = l.k + m;
                  rest = subst (λ (n : ℕ). Behind f n tss) end_is f₁.rest;
                  number = omega arith;
                  held = λ z. g.merged l.acc ts l.k m (l.held (g.some z).1) one z;
                  merged = ap (merged_with l.acc) (sym is) ∙ l.merged;
                  size = omega arith;
                  long = up_to end' (22 + (l.k + m)) (λ z. omega (arith, g.long l.acc ts l.k m (l.held (g.some z).1) one));
                  roomy = λ h w p q. g.room l.acc ts l.k m (l.held (l.roomy h w p (omega arith))) one (omega arith) (omega arith);
                }

        pub again : i < count → Round f count at spare before out' full end' (i + 1)
        again more =
            let (is, up, ts, t) = c₁.told real in
            record {
              room = up;
              low = (let l = r.low in omega (arith, found_inside place chunk r.room e));
              within = g.within;
              kept = same_long ∙ r.kept;
              some = λ z. (g.some z).0;
              few = omega arith;
              back = λ tss b.
                  let (uss, u, n) = r.back (ts ∷ tss) (back_one place chunk full ts tss r.room e is up t b) in
                  (uss, u, omega arith);
              on = λ uss c. joined (r.on uss c);
            }

      -- the last
      module _ (done : count ≤ i) where
        all : (uss : List (List Timed)) → TracksFrom f at count uss → (track_at f place ≡ Ok None) × (l : Left f count at spare out place end i uss) × (l.tss ≡ [])
        all uss c = let l = r.on uss c in go l (firsts place l.tss r.room l.rest)
          where
            go : (l : Left f count at spare out place end i uss) → Firsts f place l.tss → (track_at f place ≡ Ok None) × (l : Left f count at spare out place end i uss) × (l.tss ≡ [])
            go l (inl (nothing, is)) = (nothing, l, is)
            go l (inr (ts, tss, is, f₁)) = let n = l.number in let z = ap length is in absurd (omega arith)

        no_more : (q : Result (Option ℕ) Fault) → track_at f place ≡ q → (q ≡ (Ok None) → ⊥) → GathersTracks f count at spare out (Err Broken)
        no_more q e other = broken (λ uss c. other (sym e ∙ (all uss c).0))

        module _ (nothing : track_at f place ≡ Ok None) where
          told : (uss : List (List Timed)) × TracksFrom f at count uss
          told =
              let (uss, u, n) = r.back [] (back_none place r.room nothing) in
              let few = r.few in
              (uss, (u, omega arith))

          short : ((uss : List (List Timed)) → TracksFrom f at count uss → 14 ≤ at → at < length f → 2 * length f ≤ spare → 2 * length f ≤ length out → length f < 2 ^ 31 → ⊥) → GathersTracks f count at spare out (Err Short)
          short h = record {
            told = λ _. told;
            taken = λ uss c e. let z : ◌≡◌ {A = ℕ} 0 1 = cc in omega arith;
            merged = λ uss c end e. absurd (let z : ◌≡◌ {A = ℕ} 0 1 = cc in omega arith);
            room = λ uss c p q s t u _. h uss c p q s t u;
          }

          no_end : end ≡ 0 → GathersTracks f count at spare out (Err Short)
          no_end e = short (λ uss c p q s t u. omega (arith, (all uss c).1.roomy p q s t))

          too_long : 0xFFFFFFFF < end → GathersTracks f count at spare out (Err Short)
          too_long e = short (λ uss c p q s t u. let l = (all uss c).1 in let size = l.size in let long = l.long in let room = r.room in omega arith)

          ends : 0 < end → end ≤ 0xFFFFFFFF → GathersTracks f count at spare out (Ok end)
          unfolding merged_with
          ends some high = record {
            told = λ _. told;
            taken = λ uss c e. let z : ◌≡◌ {A = ℕ} 0 1 = cc in omega arith;
            merged = λ uss c end' e.
                let same : end ≡ end' = cc in
                let (nothing', l, is) = all uss c in
                let events : l.acc ≡ merged_all uss = ap (merged_with l.acc) (sym is) ∙ l.merged in
                let stands : TrackStands out 22 end (merged_all uss) = subst (TrackStands out 22 end) events (track_of (l.held some)) in
                let low = r.some some in
                let within = r.within in
                (omega arith, omega arith, omega arith, subst (λ (n : ℕ). TrackStands out 22 n (merged_all uss)) same stands);
            room = λ uss c p q s t u e. let z : ◌≡◌ {A = ℕ} 0 1 = cc in omega arith;
          }

        pub closes : GathersTracks f count at spare out (gathered_to (track_at f place) end)
        unfolding gathered_to
        closes = go (track_at f place) refl
          where
            go : (q : Result (Option ℕ) Fault) → track_at f place ≡ q → GathersTracks f count at spare out (gathered_to q end)
            go (Ok (Some chunk)) e = no_more (Ok (Some chunk)) e (λ k. let z : ◌≡◌ {A = ℕ} 0 1 = cc in omega arith)
            go (Err why) e = no_more (Err why) e (λ k. let z : ◌≡◌ {A = ℕ} 0 1 = cc in omega arith)
            go (Ok None) e =
                both (GathersTracks f count at spare out) (eqb end 0) _ _ (λ k. no_end e (eqb-true end 0 k))
                (λ k. both (GathersTracks f count at spare out) (ltb 0xFFFFFFFF end) _ _ (λ h. too_long e (ltb-true 0xFFFFFFFF end h))
                (λ h. ends e (positive end (eqb-false end 0 k)) (ltb-false 0xFFFFFFFF end h)))
