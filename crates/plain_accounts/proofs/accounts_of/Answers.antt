use Rattle.std.proofs.Common.{◌∙◌, List, ap, refl, filter, length}
use Rattle.ttm_base.specs.declared.Mem.TheVariants.{Tt, Vram}
use Rattle.ttm_base.specs.declared.Span.{Span}
use Rattle.ttm_base.specs.Holes.{is_free_beside}
use Rattle.ttm_base.specs.ListWords.{count_from}
use Rattle.page_accounts.specs.declared.accounts.Accounts.{Accounts}
use Rattle.plain_accounts.proofs.HoldingLaws.{frames_are, pages_are, slots_are}
use Rattle.plain_accounts.proofs.accounts_of.Goals as goal

pub returns : goal.returns
returns c =
    let script = c.args.script.now in
    let core = c.args.state.now.core in
    let held = c.count_held-held.result in
    let counts = c.count_held-held.ensures in
    record {
      vram = pages_are script Vram core c.in_ok-with_free.field-0 held.vram c.count_free_pages.result c.in_ok-with_free.ensures.free
          (c.count_free_pages.ensures ∙ ap (λ (l : List Span). length (filter (is_free_beside l) (count_from 1 script.sizes.vram 0))) (c.items.ensures ∙ c.in_ok-vram.ensures))
          (ap (λ (a : Accounts). a.vram.live) counts) c.in_ok-with_free.ensures.live
          (ap (λ (a : Accounts). a.vram.target) counts) c.in_ok-with_free.ensures.target
          (ap (λ (a : Accounts). a.vram.ghosts) counts) c.in_ok-with_free.ensures.ghosts refl;
      tt = pages_are script Tt core c.in_ok-with_free-2.field-0 held.tt c.count_free_pages-2.result c.in_ok-with_free-2.ensures.free
          (c.count_free_pages-2.ensures ∙ ap (λ (l : List Span). length (filter (is_free_beside l) (count_from 1 script.sizes.tt 0))) (c.items-2.ensures ∙ c.in_ok-tt.ensures))
          (ap (λ (a : Accounts). a.tt.live) counts) c.in_ok-with_free-2.ensures.live
          (ap (λ (a : Accounts). a.tt.target) counts) c.in_ok-with_free-2.ensures.target
          (ap (λ (a : Accounts). a.tt.ghosts) counts) c.in_ok-with_free-2.ensures.ghosts refl;
      frames = frames_are script core c.in_ok-with_free-3.field-0 held.frames c.in_ok-free_frames.free_frames c.in_ok-with_free-3.ensures.free c.in_ok-free_frames.ensures
          (ap (λ (a : Accounts). a.frames.live) counts) c.in_ok-with_free-3.ensures.live (ap (λ (a : Accounts). a.frames.target) counts)
          (ap (λ (a : Accounts). a.frames.ghosts) counts) c.in_ok-with_free-3.ensures.ghosts;
      swap = slots_are script core c.in_ok-with_free-4.field-0 held.swap c.in_ok-free_slots.free_slots c.in_ok-with_free-4.ensures.free c.in_ok-free_slots.ensures
          (ap (λ (a : Accounts). a.swap.live) counts) c.in_ok-with_free-4.ensures.live (ap (λ (a : Accounts). a.swap.target) counts) (ap (λ (a : Accounts). a.swap.ghosts) counts);
    }
