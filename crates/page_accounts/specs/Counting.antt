-- The accounts, counted buffer by buffer and ghost by ghost. Each count saturates at 2^64 - 1.
use Rattle.std.specs.Prelude.{ℕ, ◌+◌, ◌-◌, ◌^◌, ◌<◌, List, Option, Some, None, length, min}
use Rattle.ttm_base.specs.declared.Mem.TheVariants.{Tt, Vram}
use Rattle.ttm_base.specs.declared.Span.{Span}
use Rattle.journal_model.specs.declared.script.Sizes.{Sizes}
use Rattle.journal_model.specs.declared.state.Buffer.{Buffer}
use Rattle.journal_model.specs.rules.State.{target_spans}
use Rattle.journal_model.specs.rules.Places.{frames_of, slots_of}
use Rattle.journal_model.specs.rules.Holds.{spans_in}
use Rattle.journal_model.specs.statements.Account.{count_spans}
use Rattle.page_accounts.specs.declared.accounts.Account.{Account}
use Rattle.page_accounts.specs.declared.accounts.Accounts.{Accounts}

-- ---- numbers

-- the greatest number of 64 bits
abbrev pub most : ℕ
most = 18446744073709551615

-- a sum that saturates
abbrev pub more : ℕ → ℕ → ℕ
more a b = min (a + b) most

-- ---- one account

abbrev pub nothing_held : Account
nothing_held = record { free = 0; live = 0; target = 0; ghosts = 0 }

-- an account with what a live buffer and its target hold
abbrev pub with_held : Account → ℕ → ℕ → Account
with_held a live target = record a { live = more a.live live; target = more a.target target }

-- an account with what a ghost holds
abbrev pub with_ghosts : Account → ℕ → Account
with_ghosts a n = record a { ghosts = more a.ghosts n }

-- a closed account: what is not held of the size is free
abbrev pub closed_account : ℕ → Account → Account
closed_account size a = record a { free = size - more (more a.live a.target) a.ghosts }

-- ---- all four

abbrev pub nothing : Accounts
nothing = record { vram = nothing_held; tt = nothing_held; frames = nothing_held; swap = nothing_held }

-- the accounts with a live buffer
abbrev pub with_buffer : Accounts → Buffer → Accounts
with_buffer a x =
    record {
      vram = with_held a.vram (count_spans (spans_in Vram x)) (count_spans (target_spans Vram x));
      tt = with_held a.tt (count_spans (spans_in Tt x)) (count_spans (target_spans Tt x));
      frames = with_held a.frames (length (frames_of x)) 0;
      swap = with_held a.swap (length (slots_of x)) 0;
    }

-- the accounts with a buffer, if it is live
abbrev pub with_where_live : Accounts → Option Buffer → Accounts
with_where_live a None = a
with_where_live a (Some x) = with_buffer a x

-- the accounts with a ghost, by its pages of VRAM and TT, and its number of frames
abbrev pub with_ghost : Accounts → List Span → List Span → ℕ → Accounts
with_ghost a vram tt frames =
    record a { vram = with_ghosts a.vram (count_spans vram); tt = with_ghosts a.tt (count_spans tt); frames = with_ghosts a.frames frames }

abbrev pub closed : Sizes → Accounts → Accounts
closed sizes a =
    record {
      vram = closed_account sizes.vram a.vram;
      tt = closed_account sizes.tt a.tt;
      frames = closed_account sizes.frames a.frames;
      swap = closed_account sizes.swap a.swap;
    }

-- the sizes have 32 bits
pub record AreSmall (sizes : Sizes) : Type 0 where
  pub vram : sizes.vram < 2 ^ 32
  pub tt : sizes.tt < 2 ^ 32
  pub frames : sizes.frames < 2 ^ 32
  pub swap : sizes.swap < 2 ^ 32
