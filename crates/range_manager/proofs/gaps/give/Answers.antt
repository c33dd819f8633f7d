use Rattle.std.proofs.Common.{◌≡◌, ℕ, ◌+◌, false, refl, ap, sym, subst, ◌∙◌, inl, inr, arith, is_some}
use Rattle.std.specs.List.{find, list_any}
use Rattle.std.proofs.lemmas.Bool.{cases_lt}
use Rattle.ttm_base.specs.declared.Span.{Span}
use Rattle.ttm_base.specs.Holes.{has_page}
use Rattle.hole_tree.specs.HoleSet.{starts_at, without}
use Rattle.range_manager.specs.Kept.{IsSpaced, IsClear}
use Rattle.range_manager.proofs.SpanLaws.{apart_of_clear, disjoint_of_clear, spaced_with, pages_with}
use Rattle.range_manager.proofs.GapLaws.{hole_some, taken_out, none_of_rest, grown_down_clear, grown_down_pages, found_beside, IsBelow, below_found, below_none, IsAbove, above_found, above_none, clear_beside}
use Rattle.range_manager.proofs.gaps.give.Goals as goal
use Rattle.range_manager.proofs.gaps.give.Goals.{In-None-None, In-Some-None, In-None-Some, In-Some-Some}

pub beside-before-requires-clause-held : goal.beside-before-requires-clause-held
beside-before-requires-clause-held c = disjoint_of_clear c.args.pages c.args.holes.now.holes c.requires.spaced c.requires.some c.requires.clear

-- ---- no hole touches them

pub put-requires-clause-clear : goal.put-requires-clause-clear
put-requires-clause-clear c =
    let hs = c.args.holes.now.holes in
    let below = below_none hs c.args.pages c.requires.some c.requires.clear (sym c.beside-before.ensures.before ∙ c.in-None-None.is-0) in
    let above = above_none hs c.args.pages c.requires.some c.requires.clear (sym c.beside-before.ensures.behind ∙ c.in-None-None.is-1) in
    clear_beside hs c.args.pages c.requires.clear below above

-- ---- one below them alone

pub grow-requires-clause-hole : goal.grow-requires-clause-hole
grow-requires-clause-hole c = (below_found c.args.holes.now.holes c.args.pages c.in-Some-None.below c.requires.spaced (sym c.beside-before.ensures.before ∙ c.in-Some-None.is-0)).hole

pub grow-requires-clause-touch : goal.grow-requires-clause-touch
grow-requires-clause-touch c = (below_found c.args.holes.now.holes c.args.pages c.in-Some-None.below c.requires.spaced (sym c.beside-before.ensures.before ∙ c.in-Some-None.is-0)).touch

pub grow-requires-clause-above : goal.grow-requires-clause-above
grow-requires-clause-above c = above_none c.args.holes.now.holes c.args.pages c.requires.some c.requires.clear (sym c.beside-before.ensures.behind ∙ c.in-Some-None.is-1)

-- ---- one above them alone

above : (c : In-None-Some) → IsAbove c.args.holes.now.holes c.args.pages c.in-None-Some.above
above c = above_found c.args.holes.now.holes c.args.pages c.in-None-Some.above c.requires.spaced (sym c.beside-before.ensures.behind ∙ c.in-None-Some.is-1)

none_below : (c : In-None-Some) → (p : ℕ) → p + 1 ≡ c.args.pages.start → list_any (has_page p) c.args.holes.now.holes ≡ false
none_below c = below_none c.args.holes.now.holes c.args.pages c.requires.some c.requires.clear (sym c.beside-before.ensures.before ∙ c.in-None-Some.is-0)

pub resize-requires-clause-held : goal.resize-requires-clause-held
resize-requires-clause-held c = (above (goal.at.resize-requires-clause-held c).In-None-Some).hole

pub resize-requires-clause-whole : goal.resize-requires-clause-whole
resize-requires-clause-whole c =
    let found = above (goal.at.resize-requires-clause-whole c).In-None-Some in
    let own = hole_some c.args.holes.now.holes c.in-None-Some.above c.requires.spaced found.hole in
    let touch = found.touch in
    let some = c.requires.some in
    omega arith

pub resize-requires-clause-starts : goal.resize-requires-clause-starts
resize-requires-clause-starts c =
    let found = above (goal.at.resize-requires-clause-starts c).In-None-Some in
    let own = hole_some c.args.holes.now.holes c.in-None-Some.above c.requires.spaced found.hole in
    let touch = found.touch in
    let some = c.requires.some in
    omega arith

pub resize-requires-clause-ends : goal.resize-requires-clause-ends
resize-requires-clause-ends c =
    let found = above (goal.at.resize-requires-clause-ends c).In-None-Some in
    let own = hole_some c.args.holes.now.holes c.in-None-Some.above c.requires.spaced found.hole in
    let touch = found.touch in
    let some = c.requires.some in
    omega arith

pub resize-requires-clause-apart : goal.resize-requires-clause-apart
resize-requires-clause-apart c =
    let hs = c.args.holes.now.holes in
    let hole = c.in-None-Some.above in
    let at = (goal.at.resize-requires-clause-apart c).In-None-Some in
    let found = above at in
    let own = hole_some hs hole c.requires.spaced found.hole in
    let touch = found.touch in
    let some = c.requires.some in
    let rest = without hole.start hs in
    let out = taken_out hs hole rest c.requires.spaced found.hole refl in
    let to : Span = record { start = c.args.pages.start; end = hole.end } in
    let clear : IsClear 1 to rest = grown_down_clear hs hole c.args.pages rest out (sym touch) (omega arith) c.requires.clear (none_below at) in
    apart_of_clear to rest out.spaced (omega arith) clear

pub returns-in-None-Some-clause-spaced : goal.returns-in-None-Some-clause-spaced
returns-in-None-Some-clause-spaced c =
    let hs = c.args.holes.now.holes in
    let hole = c.in-None-Some.above in
    let at = (goal.at.returns-in-None-Some-clause-spaced c).In-None-Some in
    let found = above at in
    let own = hole_some hs hole c.requires.spaced found.hole in
    let touch = found.touch in
    let some = c.requires.some in
    let rest = without hole.start hs in
    let out = taken_out hs hole rest c.requires.spaced found.hole refl in
    let to : Span = record { start = c.args.pages.start; end = hole.end } in
    let clear : IsClear 1 to rest = grown_down_clear hs hole c.args.pages rest out (sym touch) (omega arith) c.requires.clear (none_below at) in
    subst (IsSpaced 1) (sym c.resize.ensures.holes) (spaced_with 1 to rest out.spaced (omega arith) clear)

pub returns-in-None-Some-clause-pages : goal.returns-in-None-Some-clause-pages
returns-in-None-Some-clause-pages c = λ page.
    let hs = c.args.holes.now.holes in
    let hole = c.in-None-Some.above in
    let found = above (goal.at.returns-in-None-Some-clause-pages c).In-None-Some in
    let own = hole_some hs hole c.requires.spaced found.hole in
    let some = c.requires.some in
    let rest = without hole.start hs in
    let out = taken_out hs hole rest c.requires.spaced found.hole refl in
    let to : Span = record { start = c.args.pages.start; end = hole.end } in
    ap (list_any (has_page page)) c.resize.ensures.holes ∙ pages_with to rest page ∙ grown_down_pages hs hole c.args.pages rest page out (sym found.touch) (omega arith) (omega arith)

-- ---- one on either side

above_both : (c : In-Some-Some) → IsAbove c.args.holes.now.holes c.args.pages c.in-Some-Some.above
above_both c = above_found c.args.holes.now.holes c.args.pages c.in-Some-Some.above c.requires.spaced (sym c.beside-before.ensures.behind ∙ c.in-Some-Some.is-1)

below_both : (c : In-Some-Some) → IsBelow c.args.holes.now.holes c.args.pages c.in-Some-Some.below
below_both c = below_found c.args.holes.now.holes c.args.pages c.in-Some-Some.below c.requires.spaced (sym c.beside-before.ensures.before ∙ c.in-Some-Some.is-0)

pub remove-requires : goal.remove-requires
remove-requires c = ap is_some (above_both (goal.at.remove-requires c).In-Some-Some).hole

pub grow-requires-in-Some-Some-clause-spaced : goal.grow-requires-in-Some-Some-clause-spaced
grow-requires-in-Some-Some-clause-spaced c =
    let found = above_both (goal.at.grow-requires-in-Some-Some-clause-spaced c).In-Some-Some in
    (taken_out c.args.holes.now.holes c.in-Some-Some.above c.remove.new.self.holes c.requires.spaced found.hole c.remove.ensures.left).spaced

pub grow-requires-in-Some-Some-clause-hole : goal.grow-requires-in-Some-Some-clause-hole
grow-requires-in-Some-Some-clause-hole c =
    let hs = c.args.holes.now.holes in
    let over = c.in-Some-Some.above in
    let under = c.in-Some-Some.below in
    let at = (goal.at.grow-requires-in-Some-Some-clause-hole c).In-Some-Some in
    let found = above_both at in
    let below = below_both at in
    let under_own = hole_some hs under c.requires.spaced below.hole in
    let touch = found.touch in
    let below_touch = below.touch in
    let some = c.requires.some in
    ap (λ ys. find (starts_at under.start) ys) c.remove.ensures.left ∙ found_beside under.start over.start hs (λ e. omega arith) ∙ below.hole

pub grow-requires-in-Some-Some-clause-touch : goal.grow-requires-in-Some-Some-clause-touch
grow-requires-in-Some-Some-clause-touch c = (below_both (goal.at.grow-requires-in-Some-Some-clause-touch c).In-Some-Some).touch

pub grow-requires-in-Some-Some-clause-some : goal.grow-requires-in-Some-Some-clause-some
grow-requires-in-Some-Some-clause-some c =
    let found = above_both (goal.at.grow-requires-in-Some-Some-clause-some c).In-Some-Some in
    let own = hole_some c.args.holes.now.holes c.in-Some-Some.above c.requires.spaced found.hole in
    let touch = found.touch in
    let some = c.requires.some in
    omega arith

pub grow-requires-in-Some-Some-clause-clear : goal.grow-requires-in-Some-Some-clause-clear
grow-requires-in-Some-Some-clause-clear c = λ page l u.
    let hs = c.args.holes.now.holes in
    let over = c.in-Some-Some.above in
    let found = above_both (goal.at.grow-requires-in-Some-Some-clause-clear c).In-Some-Some in
    let own = hole_some hs over c.requires.spaced found.hole in
    let touch = found.touch in
    let some = c.requires.some in
    let out = taken_out hs over c.remove.new.self.holes c.requires.spaced found.hole c.remove.ensures.left in
    elim (cases_lt page c.args.pages.end) [
      | inl m ↦ none_of_rest hs over c.remove.new.self.holes page out (c.requires.clear page (omega arith) (omega arith))
      | inr m ↦ out.clear page (omega arith) (omega arith)
    ]

pub grow-requires-in-Some-Some-clause-above : goal.grow-requires-in-Some-Some-clause-above
grow-requires-in-Some-Some-clause-above c =
    let hs = c.args.holes.now.holes in
    let over = c.in-Some-Some.above in
    let found = above_both (goal.at.grow-requires-in-Some-Some-clause-above c).In-Some-Some in
    let own = hole_some hs over c.requires.spaced found.hole in
    let out = taken_out hs over c.remove.new.self.holes c.requires.spaced found.hole c.remove.ensures.left in
    out.clear over.end (omega arith) (omega arith)

pub returns-in-Some-Some-clause-pages : goal.returns-in-Some-Some-clause-pages
returns-in-Some-Some-clause-pages c = λ page.
    let hs = c.args.holes.now.holes in
    let over = c.in-Some-Some.above in
    let found = above_both (goal.at.returns-in-Some-Some-clause-pages c).In-Some-Some in
    let own = hole_some hs over c.requires.spaced found.hole in
    let some = c.requires.some in
    let out = taken_out hs over c.remove.new.self.holes c.requires.spaced found.hole c.remove.ensures.left in
    c.grow-in-Some-Some.ensures.pages page ∙ grown_down_pages hs over c.args.pages c.remove.new.self.holes page out (sym found.touch) (omega arith) (omega arith)
