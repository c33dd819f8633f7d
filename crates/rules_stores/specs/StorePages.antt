-- The page that a store page is.
use Rattle.ttm_base.specs.Pages.{Page, nowhere, vram, frame, slot}
use Rattle.rules_stores.specs.declared.pages.StorePage.{StorePage}
use Rattle.rules_stores.specs.declared.pages.StorePage.TheVariants as store

abbrev pub page_of : StorePage → Page
page_of store.Nowhere = nowhere
page_of (store.Vram p) = vram p
page_of (store.Frame f) = frame f
page_of (store.Slot k) = slot k
