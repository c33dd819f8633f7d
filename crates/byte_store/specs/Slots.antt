-- Pages of bytes that lie in slots of their own, and pages of zeros.
use Rattle.std.specs.Prelude.{◌≡◌, ℕ, suc, ◌+◌, ◌*◌, ◌<◌, ◌≤◌, List, [], ◌∷◌, ◌++◌, length}
use Rattle.std.specs.List.{slice_index_or}
use Rattle.byte_store.specs.Parts.{filled, overwritten, part}
use Rattle.byte_store.specs.declared.slots.Stored.{Stored}
use Rattle.byte_store.specs.declared.slots.Stored.TheVariants as stored

-- the slot that has the bytes of a page: slot 0, which is zeros, or the page's own
abbrev pub shown_slot : Stored → ℕ
shown_slot stored.Zeros = 0
shown_slot (stored.Cleared k) = 0
shown_slot (stored.Written k) = suc k

-- the slot that is the page's own, or 0 where it has none
abbrev pub own_slot : Stored → ℕ
own_slot stored.Zeros = 0
own_slot (stored.Cleared k) = suc k
own_slot (stored.Written k) = suc k

-- how a page is stored
abbrev pub stored_at : List Stored → ℕ → Stored
stored_at table page = slice_index_or table page stored.Zeros

-- the bytes of a slot
abbrev pub slot_bytes : List ℕ → ℕ → List ℕ
slot_bytes slots k = part slots (4096 * k) 4096

-- the bytes of all pages
abbrev pub page_bytes : List Stored → List ℕ → List ℕ
page_bytes [] slots = []
page_bytes (page ∷ table) slots = slot_bytes slots (shown_slot page) ++ page_bytes table slots

-- how many pages have slots of their own
abbrev pub count_begun : List Stored → ℕ
count_begun [] = 0
count_begun (stored.Zeros ∷ table) = count_begun table
count_begun (stored.Cleared k ∷ table) = suc (count_begun table)
count_begun (stored.Written k ∷ table) = suc (count_begun table)

-- slot 0 is zeros, there is room for a slot of each page, and no two pages have the same slot
pub record HasSlots (table : List Stored) (slots : List ℕ) (capacity : ℕ) : Type 0 where
  pub zeros : slot_bytes slots 0 ≡ filled 4096 0
  pub full : length slots ≡ 4096 + 4096 * count_begun table
  pub room : 4096 + 4096 * length table ≤ capacity
  pub few : length table < 4294967296
  pub inside : (p : ℕ) → own_slot (stored_at table p) ≤ count_begun table
  pub apart : (p q : ℕ) → own_slot (stored_at table p) ≡ own_slot (stored_at table q) → 0 < own_slot (stored_at table p) → p ≡ q

-- the bytes from place `to` of the slots on are those of the page's own slot from offset `at` in it
pub record IsPlace (table : List Stored) (page at to : ℕ) : Type 0 where
  pub own : 0 < shown_slot (stored_at table page)
  pub there : to ≡ 4096 * shown_slot (stored_at table page) + at

-- what is written over len bytes at place `to` of the slots is written over those of the pages from position `at` on
pub record IsReady (table : List Stored) (slots : List ℕ) (bytes : List ℕ) (to at len : ℕ) : Type 0 where
  pub after : (others : List ℕ) → length others ≡ len → page_bytes table (overwritten slots to others) ≡ overwritten bytes at others
