use Rattle.std.proofs.Common.{◌≡◌, ℕ, false, Some, length, refl, sym, subst, arith}
use Rattle.ttm_base.specs.declared.Span.{Span}
use Rattle.block_tree.specs.declared.request.Request.{Request}
use Rattle.block_tree.specs.FreeSet.{is_free}
use Rattle.block_tree.specs.Masks.{is_marked}
use Rattle.block_tree.proofs.Numbers.{small_order}
use Rattle.block_tree.proofs.FoundLaws.{no_piece_chosen, first_chosen, first_free, found_within, found_first, found_end, some_not_none, found_len}
use Rattle.block_tree.proofs.free_blocks.FreeBlocks.take.Goals as goal

pub returns-in_err-found : goal.returns-in_err-found
returns-in_err-found c = rw c.from_residual.ensures (record { choice = λ test h. no_piece_chosen test (is_free c.args.self.now) (length c.args.self.now) c.args.range c.args.topdown c.args.order h c.in_err-found.ensures.chosen; size = refl; taken = tt; none = λ _. refl; free = tt; within = tt; small = tt; len = tt })

pub split-requires : goal.split-requires
split-requires c = c.in_ok-found.ensures.chosen.is.around

pub pages-requires : goal.pages-requires
pages-requires c =
    let r : Request = record { order = c.args.order; range = c.args.range; topdown = c.args.topdown } in
    let h = c.in_ok-found.ensures.chosen.is in
    let w = found_within (is_free c.args.self.now) (length c.args.self.now) r c.in_ok-found.found.free.order c.in_ok-found.found h in
    let z = c.choose.ensures.size in
    let p = h.piece in
    record { order = small_order c.in_ok-found.found.piece.order 31 (omega (arith, w, z)); small = omega (arith, w, z) }

pub returns-clause-choice : goal.returns-clause-choice
returns-clause-choice c = λ test h.
    let r : Request = record { order = c.args.order; range = c.args.range; topdown = c.args.topdown } in
    first_chosen test (is_free c.args.self.now) (length c.args.self.now) c.args.range c.args.topdown c.args.order c.in_ok-found.found.free.order (Some c.pages.result) h c.in_ok-found.ensures.chosen.least (found_first (is_free c.args.self.now) (length c.args.self.now) r c.in_ok-found.found.free.order c.in_ok-found.found c.pages.result c.in_ok-found.ensures.chosen.is c.pages.ensures)

pub returns-clause-free : goal.returns-clause-free
returns-clause-free c =
    let r : Request = record { order = c.args.order; range = c.args.range; topdown = c.args.topdown } in
    first_free (is_free c.args.self.now) (length c.args.self.now) c.args.range c.args.topdown c.args.order c.in_ok-found.found.free.order (Some c.pages.result) (found_first (is_free c.args.self.now) (length c.args.self.now) r c.in_ok-found.found.free.order c.in_ok-found.found c.pages.result c.in_ok-found.ensures.chosen.is c.pages.ensures)

pub returns-clause-len : goal.returns-clause-len
returns-clause-len c =
    let r : Request = record { order = c.args.order; range = c.args.range; topdown = c.args.topdown } in
    found_len r c.in_ok-found.found c.pages.result c.in_ok-found.ensures.chosen.is.piece c.pages.ensures

pub returns-clause-within : goal.returns-clause-within
returns-clause-within c =
    let r : Request = record { order = c.args.order; range = c.args.range; topdown = c.args.topdown } in
    found_end (is_free c.args.self.now) (length c.args.self.now) r c.in_ok-found.found.free.order c.in_ok-found.found c.pages.result c.in_ok-found.ensures.chosen.is c.pages.ensures

pub returns-clause-small : goal.returns-clause-small
returns-clause-small c =
    let r : Request = record { order = c.args.order; range = c.args.range; topdown = c.args.topdown } in
    let e = found_end (is_free c.args.self.now) (length c.args.self.now) r c.in_ok-found.found.free.order c.in_ok-found.found c.pages.result c.in_ok-found.ensures.chosen.is c.pages.ensures in
    let z = c.choose.ensures.size in
    omega (arith, e, z)

pub returns-clause-taken : goal.returns-clause-taken
returns-clause-taken c = subst (λ (b : Span). (page : ℕ) → is_free c.split.new.self page ≡ is_marked b false (is_free c.args.self.now page) page) (sym c.pages.ensures) c.split.ensures.marked

pub returns-clause-none : goal.returns-clause-none
returns-clause-none c = λ e. absurd (some_not_none c.pages.result (Some c.pages.result) refl e)
