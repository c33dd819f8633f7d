use Rattle.std.proofs.Common.{◌≡◌, ◌+◌, ap, drop, List, true, sym, ◌∙◌}
use Rattle.std.specs.Prelude.{not}
use Rattle.std.proofs.lemmas.List.{take_rest}
use Rattle.ttm_base.specs.declared.Loc.{Loc}
use Rattle.journal_model.specs.rules.Places.{is_frame}
use Rattle.bo_table.specs.Pages.{first_unfilled, has_no_frame}
use Rattle.bo_table.proofs.PageLaws.{first_raised}
use Rattle.bo_table.proofs.page_table.first_unfilled_after.Goals as goal

pub returns-then-page-first : goal.returns-then-page-first
returns-then-page-first c =
    let next = c.args.page + 1 in
    let at : c.args.page ≡ first_unfilled c.args.places.now = c.if-page-first.true ∙ c.requires.first in
    let filled : true ≡ is_frame c.args.place = c.if-not-is_frame.ensures in
    let more : c.filled_front.result ≡ first_unfilled (drop next c.args.places.now) =
    c.filled_front.ensures.value ∙ ap first_unfilled (take_rest c.items.result.now next) ∙ ap (λ (places : List Loc). first_unfilled (drop next places)) c.items.ensures in
    ap (λ n. next + n) more ∙ sym (first_raised has_no_frame c.args.places.now c.args.page c.args.place (ap not (sym filled)) at c.requires.page)
