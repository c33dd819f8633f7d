use Rattle.std.proofs.Common.{◌≡◌, ◌+◌, ap, drop, List, false, sym, slice_set, ◌∙◌}
use Rattle.std.proofs.lemmas.List.{take_rest}
use Rattle.ttm_base.specs.declared.Loc.{Loc}
use Rattle.journal_model.specs.rules.Places.{is_frame}
use Rattle.bo_table.specs.Pages.{first_filled}
use Rattle.bo_table.proofs.PageLaws.{first_raised, none_filled}
use Rattle.bo_table.proofs.Setting.{length_set}
use Rattle.bo_table.proofs.page_table.first_filled_after.Goals as goal

pub returns-then-frames-eq0 : goal.returns-then-frames-eq0
returns-then-frames-eq0 c =
    let after = slice_set c.args.places.now c.args.page c.args.place in
    c.len.ensures ∙ sym (length_set c.args.places.now c.args.page c.args.place) ∙ sym (none_filled after (sym c.requires.count ∙ c.if-frames-eq0.true))

pub returns-then-page-first : goal.returns-then-page-first
returns-then-page-first c =
    let next = c.args.page + 1 in
    let at : c.args.page ≡ first_filled c.args.places.now = c.if-page-first.true ∙ c.requires.first in
    let empty : false ≡ is_frame c.args.place = c.if-is_frame.ensures in
    let more : c.empty_front.result ≡ first_filled (drop next c.args.places.now) =
    c.empty_front.ensures.value ∙ ap first_filled (take_rest c.items.result.now next) ∙ ap (λ (places : List Loc). first_filled (drop next places)) c.items.ensures in
    ap (λ n. next + n) more ∙ sym (first_raised is_frame c.args.places.now c.args.page c.args.place (sym empty) at c.requires.page)
