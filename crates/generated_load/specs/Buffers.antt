-- The sizes and the buffers of a generated script.
use Rattle.std.specs.Prelude.{ℕ, zero, suc, ◌+◌, ◌/◌, ◌%◌, true, List, [], ◌∷◌, ◌++◌, Some, nat_le, nat_lt, if◌then◌else◌}
use Rattle.rand_pcg.specs.Lcg.{Lcg}
use Rattle.ttm_base.specs.declared.Mem.TheVariants.{Tt, Vram}
use Rattle.ttm_base.specs.declared.Placement.{Placement}
use Rattle.journal_model.specs.declared.script.Decl.{Decl}
use Rattle.journal_model.specs.declared.script.Sizes.{Sizes}
use Rattle.journal_model.specs.scripts.Words.{Text}
use Rattle.journal_model.specs.rules.Commands.{whole, as_desired, as_fallback}
use Rattle.generated_load.specs.Draws.{draw}

-- the sizes: 64 pages of VRAM in buddy blocks, 512 of TT, 192 frames, 256 slots, two user engines
abbrev pub load_sizes : Sizes
load_sizes = record { buddy = true; vram = 64; tt = 512; frames = 192; swap = 256; engines = 2 }

-- the name of a buffer: the letter b, and the number in digits
abbrev pub load_name : ℕ → Text
load_name n = 98 ∷ (if nat_le 10 n then (48 + n / 10) ∷ (48 + n % 10) ∷ [] else (48 + n % 10) ∷ [])

-- the pages of a buffer: the eight buffers of each thread have 4, 4, 8, 8, 8, 12, 12 and 16
abbrev pub load_pages : ℕ → ℕ
load_pages n = if nat_lt n 6 then 4 else if nat_lt n 15 then 8 else if nat_lt n 21 then 12 else 16

-- the placement of each buffer: in VRAM, and under pressure in VRAM or TT
abbrev pub load_placement : Placement
load_placement = record { list = as_desired (whole Vram) ∷ as_fallback (whole Vram) ∷ as_fallback (whole Tt) ∷ [] }

-- Buffer number `n`. The threads' buffers stand in turn, and those of a thread are a group.
abbrev pub load_buffer : ℕ → ℕ → Decl
load_buffer n prio = record {
  name = load_name n;
  pages = load_pages n;
  prio = prio;
  group = Some (n % 3);
  align = 1;
  placement = load_placement;
}

-- the buffers below the given number, whose priorities are drawn one after another, and the generator after them
unfoldable pub load_buffers : ℕ → Lcg → List Decl × Lcg
load_buffers zero g = ([], g)
load_buffers (suc n) g =
    let before = load_buffers n g in
    let prio = draw 4 before.1 in
    (before.0 ++ load_buffer n prio.0 ∷ [], prio.1)
