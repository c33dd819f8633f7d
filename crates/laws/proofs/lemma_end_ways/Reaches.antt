-- A choice lies in its place, so that a buffer which stands there meets its command.
use Rattle.std.proofs.Common.{◌≡◌, ℕ, ◌<◌, ◌≤◌, ◌+◌, ◌-◌, ◌^◌, zero, suc, Bool, true, false, List, [], ◌∷◌, length, Option, Some, None, refl, sym, ◌∙◌, ap, ap₂, subst, arith, ⊎_elim}
use Rattle.std.specs.Prelude.{slice_get, map, filter, filter_map, option_map, unwrap_or, cond, max, min, not, nat_lt, nat_le, ◌==◌, ◌&&◌, ◌||◌, if◌then◌else◌}
use Rattle.std.specs.List.{list_all, list_any}
use Rattle.std.proofs.lemmas.Bool.{and_parts, and_from, or_left, or_right, or_cases}
use Rattle.std.proofs.lemmas.Bool.Decides.{nat_tests}
use Rattle.ttm_base.specs.declared.Mem.{Mem}
use Rattle.ttm_base.specs.declared.Mem.TheVariants.{System, Tt, Vram}
use Rattle.ttm_base.specs.declared.Span.{Span}
use Rattle.ttm_base.specs.declared.Mode.{Mode}
use Rattle.ttm_base.specs.declared.Mode.TheVariants.{Best, Low, High}
use Rattle.ttm_base.specs.declared.BufId.{BufId}
use Rattle.ttm_base.specs.declared.Place.{Place}
use Rattle.ttm_base.specs.declared.FlaggedPlace.{FlaggedPlace}
use Rattle.ttm_base.specs.Reach.{same_mem, reach, common, length_of, is_inside, is_contiguous}
use Rattle.ttm_base.specs.Placement.{forced_places, accepts, compatible}
use Rattle.ttm_base.specs.Holes.{holes, has_page}
use Rattle.ttm_base.specs.RangeChoice.{Fit, fit_in, best_fit, fitting_hole, range_choice, start_to_test}
use Rattle.ttm_base.specs.BlockStarts.{starts_of, candidate_at}
use Rattle.ttm_base.proofs.OrderLaws.{order_suffices}
use Rattle.ttm_base.proofs.StartLaws.{candidate_by_start}
use Rattle.ttm_base.specs.BuddyChoice.{Candidate, block_around, is_free_block, candidate_of, candidate, first_candidate, log2, order_of, taken_after, scattered, contiguous}
use Rattle.journal_model.specs.declared.script.Script.{Script}
use Rattle.journal_model.specs.declared.script.Decl.{Decl}
use Rattle.journal_model.specs.declared.script.Command.{Command}
use Rattle.journal_model.specs.declared.script.Command.TheVariants as command
use Rattle.journal_model.specs.declared.state.Core.{Core}
use Rattle.journal_model.specs.declared.state.Buffer.{Buffer}
use Rattle.journal_model.specs.rules.Commands.{decl, undeclared, asked_places, whole, unflagged}
use Rattle.journal_model.specs.scripts.CommandRules.{is_between}
use Rattle.journal_model.specs.scripts.ScriptRules.{is_name, is_group, is_flagged, is_old_list, is_new_list, is_place_list, is_decl}
use Rattle.journal_model.specs.rules.Holds.{size_of, is_free_page}
use Rattle.journal_model.specs.rules.Choice.{choice, choice_in, range_at, blocks_at, reach_of}
use Rattle.journal_model.specs.rules.Ready.{meets}
use Rattle.journal_model.specs.rules.Search.{PlaceSearch}
use Rattle.laws.proofs.law_state.JobsKeep.{all_at}
use Rattle.laws.proofs.law_state.Rules.{Rules}
use Rattle.laws.proofs.law_sound.Gifts.{PlaceOf, first, forced}
use Rattle.laws.proofs.law_owners.Choices.{Each, least_is, first_is, last_is, each_given}
use Rattle.laws.proofs.law_owners.Blocks.{chosen_is_block}

-- nothing is asked of each
each_any : {X : Type 0} (xs : List X) → Each (λ x. Unit {0}) xs
each_any [] = tt
each_any (x ∷ xs) = (tt, each_any xs)

-- ---- a range

fit_inside : (pages start : ℕ) (hole range : Span) (fit : Fit) →
    (if nat_lt 0 pages && nat_le (common hole range).start start && nat_le (start + pages) (common hole range).end
    then Some (record { hole = hole; taken = record { start = start; end = start + pages } }) else None) ≡ Some fit
    → is_inside range fit.taken ≡ true
fit_inside pages start hole range fit e = by (nat_lt 0 pages && nat_le (max hole.start range.start) start && nat_le (start + pages) (min hole.end range.end)) refl e
  where
    tests : (pages start a b c d : ℕ) → (nat_lt 0 pages && nat_le (max a b) start && nat_le (start + pages) (min c d)) ≡ true → (nat_le b start && nat_le (start + pages) d) ≡ true
    tests pages start a b c d h = grind (arith, nat_tests)

    by : (q : Bool) → (nat_lt 0 pages && nat_le (max hole.start range.start) start && nat_le (start + pages) (min hole.end range.end)) ≡ q →
        (if q then Some (record { hole = hole; taken = record { start = start; end = start + pages } }) else None) ≡ Some fit → is_inside range fit.taken ≡ true
    by true t f =
        let same : (record { hole = hole; taken = record { start = start; end = start + pages } }) ≡ fit = cc in
        subst (λ g. is_inside range g.taken ≡ true) same (tests pages start hole.start range.start hole.end range.end t)
    by false t f = cc

best_is : (P : Fit → Type 0) (mode : Mode) (fits : List Fit) (fit : Fit) → Each P fits → best_fit mode fits ≡ Some fit → P fit
best_is P Best fits fit h e = least_is P (λ f. length_of f.hole) fits fit h e
best_is P Low fits fit h e = first_is P fits 0 fit h e
best_is P High fits fit h e = last_is P fits fit h e

range_inside : (mode : Mode) (spans : List Span) (pages align : ℕ) (range span : Span) → range_choice mode spans pages align range ≡ Some span → is_inside range span ≡ true
range_inside mode spans pages align range span e =
    by (fitting_hole mode spans pages align range)
    (λ fit g. best_is (λ fit. is_inside range fit.taken ≡ true) mode (filter_map (fit_in mode pages align range) spans) fit
    (each_given (λ x. Unit {0}) (λ fit. is_inside range fit.taken ≡ true) (fit_in mode pages align range)
    (λ hole fit u g. fit_inside pages (start_to_test mode pages align (common hole range)) hole range fit g) spans (each_any spans)) g)
    e
  where
    by : (o : Option Fit) → ((fit : Fit) → o ≡ Some fit → is_inside range fit.taken ≡ true) → option_map (λ f. f.taken) o ≡ Some span → is_inside range span ≡ true
    by None k g = cc
    by (Some fit) k g = let same : fit.taken ≡ span = cc in subst (λ z. is_inside range z ≡ true) same (k fit refl)

-- ---- blocks

candidate_inside : (f : ℕ → Bool) (size : ℕ) (range : Span) (k start : ℕ) (c : Candidate) → candidate_at f size range k start ≡ Some c → is_inside range c.block ≡ true
candidate_inside f size range k start c e = by (is_inside range (block_around k start) && is_free_block f size (block_around k start)) refl e
  where
    by : (q : Bool) → (is_inside range (block_around k start) && is_free_block f size (block_around k start)) ≡ q →
        (if q then Some (candidate_of f size k (block_around k start)) else None) ≡ Some c → is_inside range c.block ≡ true
    by true t g =
        let same : candidate_of f size k (block_around k start) ≡ c = cc in
        subst (λ z. is_inside range z.block ≡ true) same (and_parts (is_inside range (block_around k start)) (is_free_block f size (block_around k start)) t).0
    by false t g = cc

chosen_inside : (f : ℕ → Bool) (size : ℕ) (range : Span) (topdown : Bool) (k : ℕ) (c : Candidate) → candidate f size range topdown k ≡ Some c → is_inside range c.block ≡ true
chosen_inside f size range topdown k c e =
    let starts : List ℕ = starts_of topdown k size in
    least_is (λ z. is_inside range z.block ≡ true) (λ c. c.whole) (filter_map (candidate_at f size range k) starts) c
    (each_given (λ x. Unit {0}) (λ z. is_inside range z.block ≡ true) (candidate_at f size range k) (λ x y u g. candidate_inside f size range k x y g) starts (each_any starts))
    (sym (candidate_by_start f size range k topdown) ∙ e)

first_inside : (range : Span) (at : ℕ → Option Candidate) → ((k : ℕ) (c : Candidate) → at k ≡ Some c → is_inside range c.block ≡ true) → (n : ℕ) (c : Candidate) → first_candidate at n ≡ Some c → is_inside range c.block ≡ true
first_inside range at h zero c e = cc
first_inside range at h (suc k) c e = by (at k) refl (first_inside range at h k c) e
  where
    by : (o : Option Candidate) → at k ≡ o → (first_candidate at k ≡ Some c → is_inside range c.block ≡ true) → (elim o as (λ o. Option Candidate) [ Some d ↦ Some d | None ↦ first_candidate at k ]) ≡ Some c → is_inside range c.block ≡ true
    by None q rest g = rest g
    by (Some d) q rest g = let same : d ≡ c = cc in h k c (subst (λ d. at k ≡ Some d) same q)

scattered_inside : (fuel : ℕ) (f : ℕ → Bool) (size : ℕ) (range : Span) (topdown : Bool) (left : ℕ) (spans : List Span) → scattered fuel f size range topdown left ≡ Some spans → list_all (is_inside range) spans ≡ true
scattered_inside fuel f size range topdown zero spans e = let same : [] ≡ spans = cc in subst (λ z. list_all (is_inside range) z ≡ true) same refl
scattered_inside zero f size range topdown (suc left) spans e = cc
scattered_inside (suc fuel) f size range topdown (suc left) spans e =
    by (first_candidate (candidate f size range topdown) (log2 (suc left) + 1))
    (λ c g. first_inside range (candidate f size range topdown) (λ k d q. chosen_inside f size range topdown k d q) (log2 (suc left) + 1) c g)
    (λ c. scattered_inside fuel (λ page. f page && not (has_page page c.block)) size range topdown (suc left - (c.block.end - c.block.start)))
    e
  where
    onto : (c : Candidate) (o : Option (List Span)) → is_inside range c.block ≡ true → ((rest : List Span) → o ≡ Some rest → list_all (is_inside range) rest ≡ true) → taken_after o c.block ≡ Some spans → list_all (is_inside range) spans ≡ true
    onto c None h k g = cc
    onto c (Some rest) h k g = let same : c.block ∷ rest ≡ spans = cc in subst (λ z. list_all (is_inside range) z ≡ true) same (and_from (is_inside range c.block) (list_all (is_inside range) rest) h (k rest refl))

    by : (o : Option Candidate) → ((c : Candidate) → o ≡ Some c → is_inside range c.block ≡ true)
        → ((c : Candidate) (rest : List Span) → scattered fuel (λ page. f page && not (has_page page c.block)) size range topdown (suc left - (c.block.end - c.block.start)) ≡ Some rest → list_all (is_inside range) rest ≡ true)
        → (elim o as (λ o. Option (List Span)) [
          | None ↦ None
          | Some c ↦ taken_after (scattered fuel (λ page. f page && not (has_page page c.block)) size range topdown (suc left - (c.block.end - c.block.start))) c.block
        ]) ≡ Some spans → list_all (is_inside range) spans ≡ true
    by None h k g = cc
    by (Some c) h k g = onto c (scattered fuel (λ page. f page && not (has_page page c.block)) size range topdown (suc left - (c.block.end - c.block.start))) (h c refl) (k c) g

-- part of a span that is inside
part_inside : (range : Span) (start pages end : ℕ) → start + pages ≤ end → is_inside range (record { start = start; end = end }) ≡ true → is_inside range (record { start = start; end = start + pages }) ≡ true
part_inside range start pages end l h = by range.start range.end start pages end l h
  where
    by : (a b start pages end : ℕ) → start + pages ≤ end → (nat_le a start && nat_le end b) ≡ true → (nat_le a start && nat_le (start + pages) b) ≡ true
    by a b start pages end l h = grind (arith, nat_tests)

-- one span, and inside
pub record OneInside (range : Span) (spans : List Span) : Type 0 where
  pub inside : list_all (is_inside range) spans ≡ true
  pub joined : is_contiguous spans ≡ true

one_inside : (range span : Span) → is_inside range span ≡ true → OneInside range (span ∷ [])
one_inside range span h = record { inside = and_from (is_inside range span) true h refl; joined = refl }

contiguous_inside : (f : ℕ → Bool) (size : ℕ) (range : Span) (topdown : Bool) (pages : ℕ) (spans : List Span) → contiguous f size range topdown pages ≡ Some spans → OneInside range spans
contiguous_inside f size range topdown pages spans e =
    by (candidate f size range topdown (order_of pages)) refl e
  where
    long : pages ≤ 2 ^ order_of pages
    long = order_suffices pages

    by : (o : Option Candidate) → candidate f size range topdown (order_of pages) ≡ o → option_map (λ c. record { start = c.block.start; end = c.block.start + pages } ∷ []) o ≡ Some spans → OneInside range spans
    by None h g = cc
    by (Some c) h g =
        let block = chosen_is_block f size range topdown (order_of pages) c h in
        let ends = block.long in
        let l = long in
        let same : (record { start = c.block.start; end = c.block.start + pages }) ∷ [] ≡ spans = cc in
        subst (OneInside range) same
        (one_inside range (record { start = c.block.start; end = c.block.start + pages })
        (part_inside range c.block.start pages c.block.end (omega (arith, ends, l)) (chosen_inside f size range topdown (order_of pages) c h)))

-- ---- the choice of a place

accepted : (place : Place) (spans : List Span) (size : ℕ) → OneInside (reach place size) spans → accepts place.mem spans size place ≡ true
accepted place spans size h =
    and_from (same_mem place.mem place.mem && list_all (is_inside (reach place size)) spans) (not place.contig || is_contiguous spans)
    (and_from (same_mem place.mem place.mem) (list_all (is_inside (reach place size)) spans) (self place.mem) h.inside)
    (or_right (not place.contig) (is_contiguous spans) h.joined)
  where
    self : (m : Mem) → same_mem m m ≡ true
    self System = refl
    self Tt = refl
    self Vram = refl

pub same_mem_self : (m : Mem) → same_mem m m ≡ true
same_mem_self System = refl
same_mem_self Tt = refl
same_mem_self Vram = refl

range_accepted : (script : Script) (c : Core) (b : BufId) (place : Place) (spans : List Span) → range_at script c b place ≡ Some spans → accepts place.mem spans (size_of script place.mem) place ≡ true
range_accepted script c b place spans e =
    by (range_choice (if place.topdown then High else Best) (holes (is_free_page place.mem c) (size_of script place.mem)) (decl script b).pages (decl script b).align (reach_of script place)) refl e
  where
    by : (o : Option Span) → range_choice (if place.topdown then High else Best) (holes (is_free_page place.mem c) (size_of script place.mem)) (decl script b).pages (decl script b).align (reach_of script place) ≡ o
        → option_map (λ span. span ∷ []) o ≡ Some spans → accepts place.mem spans (size_of script place.mem) place ≡ true
    by None q g = cc
    by (Some span) q g =
        let same : span ∷ [] ≡ spans = cc in
        subst (λ z. accepts place.mem z (size_of script place.mem) place ≡ true) same
        (accepted place (span ∷ []) (size_of script place.mem)
        (one_inside (reach_of script place) span (range_inside (if place.topdown then High else Best) (holes (is_free_page place.mem c) (size_of script place.mem)) (decl script b).pages (decl script b).align (reach_of script place) span q)))

blocks_accepted : (script : Script) (c : Core) (b : BufId) (place : Place) (spans : List Span) → blocks_at script c b place ≡ Some spans → accepts place.mem spans (size_of script place.mem) place ≡ true
blocks_accepted script c b place spans e = by place.contig refl e
  where
    by : (q : Bool) → place.contig ≡ q →
        (if q then contiguous (is_free_page place.mem c) (size_of script place.mem) (reach_of script place) place.topdown (decl script b).pages
        else scattered (decl script b).pages (is_free_page place.mem c) (size_of script place.mem) (reach_of script place) place.topdown (decl script b).pages) ≡ Some spans → accepts place.mem spans (size_of script place.mem) place ≡ true
    by true q g =
        accepted place spans (size_of script place.mem)
        (contiguous_inside (is_free_page place.mem c) (size_of script place.mem) (reach_of script place) place.topdown (decl script b).pages spans g)
    by false q g =
        and_from (same_mem place.mem place.mem && list_all (is_inside (reach_of script place)) spans) (not place.contig || is_contiguous spans)
        (and_from (same_mem place.mem place.mem) (list_all (is_inside (reach_of script place)) spans) (same_mem_self place.mem)
        (scattered_inside (decl script b).pages (is_free_page place.mem c) (size_of script place.mem) (reach_of script place) place.topdown (decl script b).pages spans g))
        (or_left (not place.contig) (is_contiguous spans) (ap not q))

in_system : (place : Place) (size : ℕ) → accepts place.mem [] size place ≡ true
in_system place size = accepted place [] size (record { inside = refl; joined = refl })

choice_accepted_in : (script : Script) → Rules script → (c : Core) (b : BufId) (place : Place) (mem : Mem) (spans : List Span) → choice_in mem script c b place ≡ Some spans → accepts place.mem spans (size_of script place.mem) place ≡ true
choice_accepted_in script r c b place System spans e = let same : [] ≡ spans = cc in subst (λ z. accepts place.mem z (size_of script place.mem) place ≡ true) same (in_system place (size_of script place.mem))
choice_accepted_in script r c b place Tt spans e = range_accepted script c b place spans e
choice_accepted_in script r c b place Vram spans e = by script.sizes.buddy e
  where
    by : (q : Bool) → (elim q as (λ q. Option (List Span)) [ true ↦ blocks_at script c b place | false ↦ range_at script c b place ]) ≡ Some spans → accepts place.mem spans (size_of script place.mem) place ≡ true
    by true g = blocks_accepted script c b place spans g
    by false g = range_accepted script c b place spans g

-- a place accepts its own choice
pub choice_accepted : (script : Script) → Rules script → (c : Core) (b : BufId) (place : Place) (spans : List Span) → choice script c b place ≡ Some spans → accepts place.mem spans (size_of script place.mem) place ≡ true
choice_accepted script r c b place spans e = choice_accepted_in script r c b place place.mem spans e

-- in SYSTEM no span is chosen
pub system_choice : (script : Script) (c : Core) (b : BufId) (place : Place) (spans : List Span) → place.mem ≡ System → choice script c b place ≡ Some spans → spans ≡ []
system_choice script c b place spans m e =
    let it : Some [] ≡ Some spans = sym (ap (λ z. choice_in z script c b place) m) ∙ e in
    let same : [] ≡ spans = cc in
    sym same

-- ---- places of a list

-- what holds of the place holds of one of the list
abbrev pub IsListed : Place → List FlaggedPlace → Type 0
IsListed place list = (test : Place → Bool) → test place ≡ true → list_any (λ p. test p.place) list ≡ true

kept_listed : (q : FlaggedPlace → Bool) (list : List FlaggedPlace) (i : ℕ) (place : Place) → slice_get (map (λ p. p.place) (filter q list)) i ≡ Some place → IsListed place list
kept_listed q [] i place h test t = cc
kept_listed q (p ∷ list) i place h test t = by (q p) i (λ j k. kept_listed q list j place k test t) h
  where
    by : (w : Bool) (i : ℕ) → ((j : ℕ) → slice_get (map (λ p. p.place) (filter q list)) j ≡ Some place → list_any (λ p. test p.place) list ≡ true) →
        slice_get (map (λ p. p.place) (cond w (p ∷ filter q list) (filter q list))) i ≡ Some place → (test p.place || list_any (λ p. test p.place) list) ≡ true
    by true zero rest g = let it : p.place ≡ place = cc in or_left (test p.place) (list_any (λ p. test p.place) list) (subst (λ z. test z ≡ true) (sym it) t)
    by true (suc j) rest g = or_right (test p.place) (list_any (λ p. test p.place) list) (rest j g)
    by false j rest g = or_right (test p.place) (list_any (λ p. test p.place) list) (rest j g)

get_below : {X : Type 0} (xs : List X) (i : ℕ) → i < length xs → (x : X) × (slice_get xs i ≡ Some x)
get_below [] i h = absurd (omega arith)
get_below (x ∷ xs) zero h = (x, refl)
get_below (x ∷ xs) (suc i) h = get_below xs i (omega arith)

-- the place of a search is one of its list, as long as a forced place is left
pub place_listed : (q : PlaceSearch) (place : Place) → PlaceOf q place → q.dry < length (forced_places q.list) → IsListed place q.list
place_listed q place (first i f h) left = kept_listed (λ p. not p.fallback) q.list i place h
place_listed q place (forced e) left =
    let it = get_below (forced_places q.list) q.dry left in
    let same : place ≡ it.0 = e ∙ ap (λ o. unwrap_or o (whole System)) it.1 in
    kept_listed (λ p. not p.desired) q.list q.dry place (it.1 ∙ ap Some (sym same))

-- ---- where the command wants it

pub asked_fits : (script : Script) → Rules script → (c : Core) (cmd : Command) (b : BufId) (place : Place) (mem : Mem) (spans : List Span) (x : Buffer) → IsListed place (asked_places script cmd b)
    → place.mem ≡ mem → choice script c b place ≡ Some spans → x.mem ≡ mem → x.spans ≡ spans → meets script cmd b x ≡ true
asked_fits script r c cmd b place mem spans x listed m e xm xs = by cmd listed
  where
    placed : IsListed place (decl script b).placement.list → compatible x.mem x.spans (decl script b).placement (size_of script x.mem) ≡ true
    placed l =
        ap₂ (λ z w. compatible z w (decl script b).placement (size_of script z)) (xm ∙ sym m) xs
        ∙ l (λ p. accepts place.mem spans (size_of script place.mem) p) (choice_accepted script r c b place spans e)

    only : (to : Mem) → IsListed place (unflagged (whole to) ∷ []) → same_mem x.mem to ≡ true
    only to l =
        ap (λ z. same_mem z to) (xm ∙ sym m)
        ∙ ⊎_elim (λ k. k) (λ k. absurd (let z : false ≡ true = k in cc)) (or_cases (same_mem place.mem to) false (l (λ p. same_mem place.mem p.mem) (same_mem_self place.mem)))

    by : (cmd : Command) → IsListed place (asked_places script cmd b) → meets script cmd b x ≡ true
    by (command.Submit engine ops) l = placed l
    by (command.Find d) l = placed l
    by (command.Move d to) l = only to l
    by (command.SwapOut d) l = only System l
    by cmd l = refl

-- some place is tried under pressure
one_forced : (version : ℕ) (d : Decl) → is_decl version d ≡ true → 0 < length (forced_places d.placement.list)
one_forced version d h = listed (and_parts (is_name d.name && is_between 1 4096 d.pages && nat_le d.prio 3 && is_group d.group && is_between 1 4096 d.align) (is_place_list version d.placement.list) h).1
  where
    by_version : (v : Bool) → (if v then is_old_list d.placement.list else is_new_list d.placement.list) ≡ true → 0 < length (forced_places d.placement.list)
    by_version true k = grind (arith, nat_tests)
    by_version false k = grind (arith, nat_tests)

    listed : is_place_list version d.placement.list ≡ true → 0 < length (forced_places d.placement.list)
    listed k = by_version (version == 1) (and_parts (list_all is_flagged d.placement.list) (if version == 1 then is_old_list d.placement.list else is_new_list d.placement.list) k).1

pub some_forced : (script : Script) → Rules script → (cmd : Command) (b : BufId) → b.0 < length script.buffers → 0 < length (forced_places (asked_places script cmd b))
some_forced script r cmd b inside = by cmd
  where
    declared : 0 < length (forced_places (decl script b).placement.list)
    declared =
        let g = get_below script.buffers b.0 inside in
        let is : decl script b ≡ g.0 = ap (λ o. unwrap_or o undeclared) g.1 in
        subst (λ d. 0 < length (forced_places d.placement.list)) (sym is) (one_forced script.version g.0 (all_at (is_decl script.version) script.buffers b.0 g.0 r.decls g.1))

    by : (cmd : Command) → 0 < length (forced_places (asked_places script cmd b))
    by (command.Move d to) = omega arith
    by (command.SwapOut d) = omega arith
    by cmd = declared
