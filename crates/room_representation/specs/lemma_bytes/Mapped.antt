-- What stores are after an entry, an aperture after pages were mapped or cleared, and tables that are full of frames.
use Rattle.std.specs.Prelude.{◌≡◌, ℕ, ◌<◌, Bool, true, false, List, [], ◌∷◌, Option, Some, None, length, slice_get, slice_set}
use Rattle.ttm_base.specs.declared.Actor.{Actor}
use Rattle.ttm_base.specs.declared.Loc.{Loc}
use Rattle.ttm_base.specs.declared.Loc.TheVariants as loc
use Rattle.ttm_base.specs.Pages.{PageBytes}
use Rattle.copy_packet.specs.declared.stores.Stores.{Stores}
use Rattle.journal_model.specs.declared.script.Script.{Script}
use Rattle.journal_model.specs.declared.entry.Kind.{Kind}
use Rattle.journal_model.specs.declared.entry.Kind.TheVariants as kind
use Rattle.journal_model.specs.declared.state.State.{State}
use Rattle.journal_model.specs.rules.Places.{frame_of, aperture}
use Rattle.journal_model.specs.rules.Stores.{within, stores_after}
use Rattle.journal_model.specs.rules.Apply.{applied}
use Rattle.room_representation.specs.Pages.{AreStores}

-- the stores have the bytes and the aperture of a state
abbrev pub HasStores : Script → State → PageBytes → Stores → Type 0
HasStores script s bytes st = AreStores script.sizes (aperture s.core) bytes st

-- the stores have the bytes and the aperture after an entry
abbrev pub HasStoresAfter : Script → State → PageBytes → Actor → Kind → Stores → Type 0
HasStoresAfter script s bytes who k st = AreStores script.sizes (aperture (applied script s who k).core) (within script.sizes (stores_after script s who k bytes)) st

-- the kind changes no buffer, no ghost and no byte
abbrev pub leaves_stores : Kind → Bool
leaves_stores (kind.Ticket stamp) = true
leaves_stores (kind.Reserve b) = true
leaves_stores (kind.Backoff b stamp) = true
leaves_stores (kind.Loose b) = true
leaves_stores (kind.Skip b) = true
leaves_stores (kind.Dry b k w) = true
leaves_stores (kind.NoPages b) = true
leaves_stores (kind.Done n) = true
leaves_stores (kind.Bulk group) = true
leaves_stores (kind.Refused d) = true
leaves_stores _ = false

-- the aperture, where each page is mapped to the frame at the same place of a table
abbrev pub mapped_to : List (Option ℕ) → List ℕ → List Loc → List (Option ℕ)
mapped_to aper [] table = aper
mapped_to aper (p ∷ ps) [] = aper
mapped_to aper (p ∷ ps) (l ∷ table) = mapped_to (slice_set aper p (frame_of l)) ps table

-- the aperture, where the pages are no longer mapped
abbrev pub cleared : List (Option ℕ) → List ℕ → List (Option ℕ)
cleared aper [] = aper
cleared aper (p ∷ ps) = cleared (slice_set aper p None) ps

-- each page of a table has a frame
abbrev pub IsFull : List Loc → Type 0
IsFull table = (k : ℕ) → k < length table → (f : ℕ) × (slice_get table k ≡ Some (loc.Frame f))
