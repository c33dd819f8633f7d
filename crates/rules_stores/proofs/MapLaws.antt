-- The frame at a page of TT, looked for span by span and holder by holder.
use Rattle.std.proofs.Common.{◌≡◌, ℕ, zero, suc, ◌+◌, ◌-◌, ◌<◌, true, false, List, [], ◌∷◌, ◌++◌, length, drop, get_or, drop-cons, inl, inr, Option, Some, None, refl, ap, sym, ◌∙◌, arith, if◌then◌else◌}
use Rattle.std.specs.Prelude.{◌==◌, ◌&&◌, nat_le, nat_lt, filter_map, flat_map, find, option_map, option_and_then, slice_get, zip}
use Rattle.std.specs.Option.{option_or}
use Rattle.std.specs.List.{cons_option}
use Rattle.std.proofs.lemmas.Grind.{common_steps}
use Rattle.std.proofs.lemmas.Bool.{cases_lt}
use Rattle.std.proofs.lemmas.Bool.Decides.{nat_tests}
use Rattle.ttm_base.specs.declared.Span.{Span}
use Rattle.ttm_base.specs.declared.Loc.{Loc}
use Rattle.ttm_base.specs.ListWords.{count_from}
use Rattle.ttm_base.specs.Reach.{length_of}
use Rattle.journal_model.specs.declared.state.Buffer.{Buffer}
use Rattle.journal_model.specs.declared.state.Core.{Core}
use Rattle.journal_model.specs.rules.Places.{pages_of, frame_of, mapped_in, aperture}
use Rattle.rules_stores.specs.Maps.{frame_beside, frame_in_table, frame_in_frames, at_span, live_mapped, ghost_mapped}

-- among two lists
pub frame_beside-append : (page : ℕ) (xs ys : List (ℕ × ℕ)) → frame_beside page (xs ++ ys) ≡ option_or (frame_beside page xs) (frame_beside page ys)
frame_beside-append page [] ys = refl
frame_beside-append page (x ∷ xs) ys = let e = frame_beside-append page xs ys in grind (arith, common_steps)

-- a page with its frame, if it has one
abbrev pub named : {X : Type 0} → (X → Option ℕ) → ℕ × X → Option (ℕ × ℕ)
named frame e = option_map (λ f. (e.0, f)) (frame e.1)

-- nothing stands beside pages in an empty table
zip-none : {X : Type 0} (pages : List ℕ) → zip {X = X} pages [] ≡ []
zip-none [] = refl
zip-none (p ∷ pages) = refl

-- one page in front
beside_first : (page start : ℕ) (o : Option ℕ) (rest : List (ℕ × ℕ)) → frame_beside page (cons_option (option_map (λ f. (start, f)) o) rest) ≡ option_or (if start == page then o else None) (frame_beside page rest)
beside_first page start None rest = elim (start == page) as (λ b. frame_beside page rest ≡ option_or (if b then None else None) (frame_beside page rest)) [ true ↦ refl | false ↦ refl ]
beside_first page start (Some f) rest =
    elim (start == page) as (λ b. option_map (λ e. e.1) (if b then Some (start, f) else find (λ e. e.0 == page) rest) ≡ option_or (if b then Some f else None) (frame_beside page rest)) [ true ↦ refl | false ↦ refl ]

-- the frame beside the page so far after a start, if it is below an end
abbrev at_place : {X : Type 0} → (X → Option ℕ) → List X → ℕ → ℕ → ℕ → Option ℕ
at_place frame table page start end = if nat_le start page && nat_lt page end then option_and_then frame (slice_get table (page - start)) else None

-- a table with one more in front
place_first : {X : Type 0} (frame : X → Option ℕ) (page n start : ℕ) (t : X) (table : List X) (rest : Option ℕ) →
    option_or (if start == page then frame t else None) (option_or (at_place frame table page (1 + start) (1 + start + n)) rest) ≡ option_or (at_place frame (t ∷ table) page start (start + suc n)) rest
place_first frame page n start t table rest =
    elim (cases_lt page start) [
      | inl below ↦ grind (arith, nat_tests)
      | inr from ↦ elim (cases_lt start page) [
        | inl above ↦
            let e : page - start ≡ suc (page - (1 + start)) = omega arith in
            let g : slice_get (t ∷ table) (page - start) ≡ slice_get table (page - (1 + start)) = ap (slice_get (t ∷ table)) e in
            grind (arith, nat_tests, g)
        | inr to ↦
            let e : page - start ≡ 0 = omega arith in
            let g : slice_get (t ∷ table) (page - start) ≡ Some t = ap (slice_get (t ∷ table)) e in
            grind (arith, nat_tests, g)
      ]
    ]

-- the pages of one span, and those after it
beside_count : {X : Type 0} (frame : X → Option ℕ) (page n start : ℕ) (more : List ℕ) (table : List X) →
    frame_beside page (filter_map (named frame) (zip (count_from 1 n start ++ more) table)) ≡ option_or (at_place frame table page start (start + n)) (frame_beside page (filter_map (named frame) (zip more (drop n table))))
beside_count frame page zero start more table = grind (arith, nat_tests)
beside_count {X = X} frame page (suc n) start more [] =
    let z = zip-none {X = X} more in
    elim (nat_le start page && nat_lt page (start + suc n)) as (λ b. None ≡ option_or (if b then None else None) (frame_beside page (filter_map (named frame) (zip more [])))) [
      | true ↦ rw z
      | false ↦ rw z
    ]
beside_count frame page (suc n) start more (t ∷ table) =
    let e = beside_count frame page n (1 + start) more table in
    let rest = frame_beside page (filter_map (named frame) (zip more (drop n table))) in
    beside_first page start (frame t) _ ∙ ap (λ o. option_or (if start == page then frame t else None) o) e ∙ place_first frame page n start t table rest

-- the same by the span
place_span : {X : Type 0} (frame : X → Option ℕ) (s : Span) (table : List X) (page : ℕ) → at_place frame table page s.start (s.start + length_of s) ≡ at_span frame s table page
place_span frame s table page = grind (arith, nat_tests)

-- of some spans the first, and those after it
beside_span : {X : Type 0} (frame : X → Option ℕ) (spans : List Span) (k : ℕ) (d : Span) (table : List X) (page : ℕ) → k < length spans →
    frame_beside page (filter_map (named frame) (zip (pages_of (drop k spans)) table))
    ≡ option_or (at_span frame (get_or spans k d) table page) (frame_beside page (filter_map (named frame) (zip (pages_of (drop (k + 1) spans)) (drop (length_of (get_or spans k d)) table))))
beside_span frame spans k d table page h =
    let s = get_or spans k d in
    let more_one : suc k ≡ k + 1 = omega arith in
    let e : drop k spans ≡ s ∷ drop (k + 1) spans = drop-cons spans k d h ∙ ap (λ n. s ∷ drop n spans) more_one in
    ap (λ x. frame_beside page (filter_map (named frame) (zip (pages_of x) table))) e
    ∙ beside_count frame page (length_of s) s.start (pages_of (drop (k + 1) spans)) table
    ∙ ap (λ o. option_or o (frame_beside page (filter_map (named frame) (zip (pages_of (drop (k + 1) spans)) (drop (length_of s) table))))) (place_span frame s table page)

-- by a page table
pub table_span : (spans : List Span) (k : ℕ) (d : Span) (table : List Loc) (page : ℕ) → k < length spans →
    frame_in_table (drop k spans) table page ≡ option_or (at_span frame_of (get_or spans k d) table page) (frame_in_table (drop (k + 1) spans) (drop (length_of (get_or spans k d)) table) page)
table_span spans k d table page h = beside_span frame_of spans k d table page h

-- each frame of a list is one
all_named : (pages frames : List ℕ) → filter_map (named (λ f. Some f)) (zip pages frames) ≡ zip pages frames
all_named [] frames = refl
all_named (p ∷ pages) [] = refl
all_named (p ∷ pages) (f ∷ frames) = ap (λ es. (p, f) ∷ es) (all_named pages frames)

-- by a list of frames
pub frames_span : (spans : List Span) (k : ℕ) (d : Span) (frames : List ℕ) (page : ℕ) → k < length spans →
    frame_in_frames (drop k spans) frames page ≡ option_or (at_span (λ f. Some f) (get_or spans k d) frames page) (frame_in_frames (drop (k + 1) spans) (drop (length_of (get_or spans k d)) frames) page)
frames_span spans k d frames page h =
    let s = get_or spans k d in
    ap (frame_beside page) (sym (all_named (pages_of (drop k spans)) frames))
    ∙ beside_span (λ f. Some f) spans k d frames page h
    ∙ ap (λ es. option_or (at_span (λ f. Some f) s frames page) (frame_beside page es)) (all_named (pages_of (drop (k + 1) spans)) (drop (length_of s) frames))

-- of some holders the first, and those after it
pub beside_holder : {X : Type 0} (mapped : X → List (ℕ × ℕ)) (holders : List X) (k : ℕ) (d : X) (page : ℕ) → k < length holders →
    frame_beside page (flat_map mapped (drop k holders)) ≡ option_or (frame_beside page (mapped (get_or holders k d))) (frame_beside page (flat_map mapped (drop (k + 1) holders)))
beside_holder mapped holders k d page h =
    let x = get_or holders k d in
    let more_one : suc k ≡ k + 1 = omega arith in
    let e : drop k holders ≡ x ∷ drop (k + 1) holders = drop-cons holders k d h ∙ ap (λ n. x ∷ drop n holders) more_one in
    ap (λ xs. frame_beside page (flat_map mapped xs)) e ∙ frame_beside-append page (mapped x) (flat_map mapped (drop (k + 1) holders))

-- the pages of TT that live buffers have, by declared number
live_mapped_all : (buffers : List (Option Buffer)) → flat_map (λ x. mapped_in x.mem x) (filter_map (λ x. x) buffers) ≡ flat_map live_mapped buffers
live_mapped_all [] = refl
live_mapped_all (None ∷ buffers) = live_mapped_all buffers
live_mapped_all (Some x ∷ buffers) = ap (λ es. mapped_in x.mem x ++ es) (live_mapped_all buffers)

-- the aperture, holder by holder
pub aperture_is : (c : Core) (page : ℕ) → aperture c page ≡ option_or (frame_beside page (flat_map live_mapped c.buffers)) (frame_beside page (flat_map ghost_mapped c.ghosts))
aperture_is c page = rw (live_mapped_all c.buffers) (frame_beside-append page (flat_map live_mapped c.buffers) (flat_map ghost_mapped c.ghosts))

-- the first of two answers is the whole one's
pub first_found : (f : ℕ) (here rest part all : Option ℕ) → Some f ≡ here → part ≡ option_or here rest → part ≡ all → Some f ≡ all
first_found f here rest part all h s i = ap (λ o. option_or o rest) h ∙ sym s ∙ i

-- without a first answer the second is the whole one's
pub first_passed : (here rest part all : Option ℕ) → None ≡ here → part ≡ option_or here rest → part ≡ all → rest ≡ all
first_passed here rest part all h s i = ap (λ o. option_or o rest) h ∙ sym s ∙ i
