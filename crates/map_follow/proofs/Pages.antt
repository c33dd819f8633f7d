-- Over the pages that were found, page by page.
use Rattle.std.proofs.Common.{◌≡◌, ℕ, ◌+◌, ◌-◌, ◌<◌, ◌≤◌, List, Option, ap, sym, ◌∙◌}
use Rattle.ttm_base.specs.declared.BufId.{BufId}
use Rattle.ttm_base.specs.declared.PagePlace.{PagePlace}
use Rattle.ttm_base.specs.ListWords.{count_from}
use Rattle.cpu_maps.specs.declared.area.Area.{Area}
use Rattle.map_access.proofs.Pages.{count_ends, count_next}
use Rattle.map_follow.specs.Founds.{with_page, with_pages}

module _ (t : ℕ) (b : BufId) (place : ℕ → Option PagePlace) (areas new : List Area) (page end : ℕ) where
  pub found_next : page < end → new ≡ with_page t b page (place page) areas →
      with_pages t b place new (count_from 1 (end - (page + 1)) (page + 1)) ≡ with_pages t b place areas (count_from 1 (end - page) page)
  found_next h put =
      ap (λ xs. with_pages t b place xs (count_from 1 (end - (page + 1)) (page + 1))) put
      ∙ sym (ap (with_pages t b place areas) (count_next page end h))

  pub found_ends : end ≤ page → with_pages t b place areas (count_from 1 (end - page) page) ≡ areas
  found_ends h = ap (with_pages t b place areas) (count_ends page end h)
