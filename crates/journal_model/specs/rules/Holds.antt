-- Who holds what of VRAM, TT, frames and swap slots, and what is free.
use Rattle.std.specs.Prelude.{ℕ, Bool, List, [], ◌∷◌, ◌++◌, Option, not, nat_eq, filter_map, flat_map, find, map, option_map, if◌then◌else◌}
use Rattle.std.specs.List.{list_any, enumerate_from}
use Rattle.journal_model.specs.Types.{BufId, Buffer, Core, Ghost, Mem, Owner, Script, Span}
use Rattle.ttm_base.specs.declared.Mem.TheVariants.{System, Tt, Vram}
use Rattle.ttm_base.specs.declared.Owner.TheVariants as owner
use Rattle.ttm_base.specs.ListWords.{count_from}
use Rattle.ttm_base.specs.Reach.{same_mem}
use Rattle.ttm_base.specs.Holes.{is_free_beside}
use Rattle.journal_model.specs.rules.State.{target_spans}
use Rattle.journal_model.specs.rules.Places.{frames_of, slots_of}

-- an owner, and the spans that it holds (ttm_resource_manager)
pub record Hold : Type 0 where
  pub owner : Owner
  pub spans : List Span

-- the live buffers with their numbers
abbrev pub live_entry : ℕ × Option Buffer → Option (BufId × Buffer)
live_entry e = option_map (λ x. (record { 0 = e.0 }, x)) e.1

-- each live buffer by its number
abbrev pub live_buffers : Core → List (BufId × Buffer)
live_buffers c = filter_map live_entry (enumerate_from 0 c.buffers)

-- ---- VRAM and TT

-- the spans that a buffer, or a ghost, has in a memory type
abbrev pub spans_in : Mem → Buffer → List Span
spans_in mem x = if same_mem x.mem mem then x.spans else []

-- the spans of a ghost
abbrev pub ghost_spans : Mem → Ghost → List Span
ghost_spans System g = []
ghost_spans Tt g = g.tt
ghost_spans Vram g = g.vram

-- a buffer holds its own spans and those of its target
abbrev pub buffer_holds : Mem → BufId × Buffer → List Hold
buffer_holds mem e =
    record { owner = owner.Live e.0; spans = spans_in mem e.1 }
    ∷ record { owner = owner.Target e.0; spans = target_spans mem e.1 }
    ∷ []

-- a ghost holds its spans
abbrev pub ghost_hold : Mem → Ghost → Hold
ghost_hold mem g = record { owner = owner.Ghost g.num; spans = ghost_spans mem g }

-- who holds what of a memory type
abbrev pub holds : Mem → Core → List Hold
holds mem c = flat_map (buffer_holds mem) (live_buffers c) ++ map (ghost_hold mem) c.ghosts

-- all spans that are held
abbrev pub held_spans : Mem → Core → List Span
held_spans mem c = flat_map (λ h. h.spans) (holds mem c)

-- nobody holds the page
abbrev pub is_free_page : Mem → Core → ℕ → Bool
is_free_page mem c = is_free_beside (held_spans mem c)

-- how many pages a memory type has
abbrev pub size_of : Script → Mem → ℕ
size_of script System = 0
size_of script Tt = script.sizes.tt
size_of script Vram = script.sizes.vram

-- ---- frames and slots

-- the frames in page tables
abbrev pub live_frames : Core → List ℕ
live_frames c = flat_map (λ e. frames_of e.1) (live_buffers c)

-- the frames of ghosts
abbrev pub ghost_frames : Core → List ℕ
ghost_frames c = flat_map (λ g. g.frames) c.ghosts

-- all frames that are held
abbrev pub held_frames : Core → List ℕ
held_frames c = live_frames c ++ ghost_frames c

-- the slots in page tables
abbrev pub held_slots : Core → List ℕ
held_slots c = flat_map (λ e. slots_of e.1) (live_buffers c)

-- the list has the number
abbrev pub has_number : List ℕ → ℕ → Bool
has_number ns n = list_any (nat_eq n) ns

-- the lowest number below size that isn't held
abbrev pub lowest_free : List ℕ → ℕ → Option ℕ
lowest_free held size = find (λ n. not (has_number held n)) (count_from 1 size 0)

-- the lowest free frame
abbrev pub free_frame : Script → Core → Option ℕ
free_frame script c = lowest_free (held_frames c) script.sizes.frames

-- the lowest free slot
abbrev pub free_slot : Script → Core → Option ℕ
free_slot script c = lowest_free (held_slots c) script.sizes.swap
