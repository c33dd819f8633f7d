-- How the pages, frames and slots are held, by number.
use Rattle.std.specs.Prelude.{ℕ, ◌+◌, Bool, true, List, [], ◌∷◌, not, filter, sum_by, length, ◌==◌, ◌&&◌}
use Rattle.journal_model.specs.Types.{Core, Mem, Script, Span}
use Rattle.ttm_base.specs.declared.Mem.TheVariants.{Tt, Vram}
use Rattle.ttm_base.specs.ListWords.{count_from}
use Rattle.ttm_base.specs.Reach.{length_of}
use Rattle.journal_model.specs.rules.State.{target_spans}
use Rattle.journal_model.specs.rules.Places.{pages_of}
use Rattle.journal_model.specs.rules.Holds.{live_buffers, spans_in, ghost_spans, held_spans, is_free_page, size_of, live_frames, ghost_frames, held_frames, held_slots, has_number}

-- pages, frames or slots by how they are held
pub record Account : Type 0 where
  pub free : ℕ
  pub live : ℕ
  pub target : ℕ
  pub ghost : ℕ

-- how many pages spans have
abbrev pub count_spans : List Span → ℕ
count_spans spans = sum_by length_of spans

-- the pages of VRAM or TT
abbrev pub account_of : Mem → Script → Core → Account
account_of mem script c =
    record {
      free = length (filter (is_free_page mem c) (count_from 1 (size_of script mem) 0));
      live = sum_by (λ e. count_spans (spans_in mem e.1)) (live_buffers c);
      target = sum_by (λ e. count_spans (target_spans mem e.1)) (live_buffers c);
      ghost = sum_by (λ g. count_spans (ghost_spans mem g)) c.ghosts;
    }

-- how many numbers below the size aren't held
abbrev pub count_free : List ℕ → ℕ → ℕ
count_free held size = length (filter (λ n. not (has_number held n)) (count_from 1 size 0))

-- the frames
abbrev pub frame_account : Script → Core → Account
frame_account script c =
    record {
      free = count_free (held_frames c) script.sizes.frames;
      live = length (live_frames c);
      target = 0;
      ghost = length (ghost_frames c);
    }

-- the slots
abbrev pub slot_account : Script → Core → Account
slot_account script c =
    record { free = count_free (held_slots c) script.sizes.swap; live = length (held_slots c); target = 0; ghost = 0 }

-- all parts together
abbrev pub total : Account → ℕ
total a = a.free + a.live + a.target + a.ghost

-- no number stands twice
abbrev pub are_distinct : List ℕ → Bool
are_distinct [] = true
are_distinct (n ∷ ns) = not (has_number ns n) && are_distinct ns

-- nothing is held twice, and the parts make the size
abbrev pub is_balanced : List ℕ → Account → ℕ → Bool
is_balanced held account size = are_distinct held && (total account == size)

-- the accounts of a state hold
abbrev pub has_accounts : Script → Core → Bool
has_accounts script c =
    is_balanced (pages_of (held_spans Vram c)) (account_of Vram script c) script.sizes.vram
    && is_balanced (pages_of (held_spans Tt c)) (account_of Tt script c) script.sizes.tt
    && is_balanced (held_frames c) (frame_account script c) script.sizes.frames
    && is_balanced (held_slots c) (slot_account script c) script.sizes.swap
