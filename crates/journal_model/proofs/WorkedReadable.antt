-- Which entries a text can tell, by the greatest number of each type and the least above it.
use Rattle.std.proofs.Common.{◌≡◌, Bool, true, false, [], ◌∷◌, refl}
use Rattle.std.specs.List.{list_all, list_any}
use Rattle.ttm_base.specs.declared.Mem.TheVariants.{Tt, Vram}
use Rattle.ttm_base.specs.declared.Actor.{Actor}
use Rattle.ttm_base.specs.declared.Actor.TheVariants as actor
use Rattle.journal_model.specs.declared.script.Script.{Script}
use Rattle.journal_model.specs.declared.entry.Kind.{Kind}
use Rattle.journal_model.specs.declared.entry.Kind.TheVariants as kind
use Rattle.journal_model.specs.declared.entry.Shown.TheVariants as shown
use Rattle.journal_model.specs.declared.entry.Left.TheVariants as left
use Rattle.journal_model.specs.declared.entry.DryWhy.TheVariants as dry
use Rattle.journal_model.specs.declared.entry.Cause.TheVariants as cause
use Rattle.journal_model.specs.rules.Commands.{whole}
use Rattle.journal_model.specs.scripts.Readable.{is_readable}
use Rattle.journal_model.proofs.Rows.{sizes, buf, buf_id, stamp, span}

-- one buffer, and no thread
abbrev one_buffer : Script
one_buffer =
    record { version = 2; sizes = sizes false 8 8 16 4 1; buffers = buf 4 (whole Vram) ∷ []; threads = []; turns = []; marks = [] }

abbrev can_tell : Kind → Bool
can_tell k = is_readable one_buffer (record { who = actor.Reaper; kind = k })

abbrev is_told_of : Actor → Bool
is_told_of who = is_readable one_buffer (record { who = who; kind = kind.Result shown.Plain })

at_the_bound : list_all can_tell
    (kind.Ticket (stamp 18446744073709551615)
    ∷ kind.Free (buf_id 0) 18446744073709551615
    ∷ kind.Take (buf_id 0) Vram (span 4294967294 4294967295)
    ∷ kind.Take (buf_id 0) Vram []
    ∷ kind.Populate (buf_id 0) 4294967295 4294967295
    ∷ kind.SwapIn (buf_id 0) 4294967295 4294967295 4294967295
    ∷ kind.SwapOut (buf_id 0) 4294967295 4294967295
    ∷ kind.Move (buf_id 0) Vram 18446744073709551615 (left.Ghost 18446744073709551615)
    ∷ kind.Dry (buf_id 0) 4294967295 (dry.Of (record { b = buf_id 0; cause = cause.Reserved (stamp 18446744073709551615) } ∷ []))
    ∷ kind.Arm 4294967295 18446744073709551615
    ∷ kind.Packet 18446744073709551615 4294967295 (255 ∷ [])
    ∷ kind.Bulk 4294967295
    ∷ kind.Result (shown.Read [])
    ∷ kind.Result (shown.Find Tt (span 0 4294967295))
    ∷ [])
    ≡ true
at_the_bound = refl

above_the_bound : list_any can_tell
    (kind.Ticket (stamp 18446744073709551616)
    ∷ kind.Reserve (buf_id 1)
    ∷ kind.Backoff (buf_id 0) (stamp 18446744073709551616)
    ∷ kind.Free (buf_id 0) 18446744073709551616
    ∷ kind.Take (buf_id 0) Vram (span 3 3)
    ∷ kind.Take (buf_id 0) Vram (span 4 3)
    ∷ kind.Take (buf_id 0) Vram (span 0 4294967296)
    ∷ kind.Populate (buf_id 0) 4294967296 0
    ∷ kind.Populate (buf_id 0) 0 4294967296
    ∷ kind.SwapIn (buf_id 0) 0 4294967296 0
    ∷ kind.SwapOut (buf_id 0) 0 4294967296
    ∷ kind.Move (buf_id 0) Vram 18446744073709551616 left.Now
    ∷ kind.Move (buf_id 0) Vram 0 (left.Ghost 18446744073709551616)
    ∷ kind.Dry (buf_id 0) 4294967296 dry.Short
    ∷ kind.Dry (buf_id 0) 0 (dry.Of (record { b = buf_id 1; cause = cause.Pinned } ∷ []))
    ∷ kind.Dry (buf_id 0) 0 (dry.Of (record { b = buf_id 0; cause = cause.Reserved (stamp 18446744073709551616) } ∷ []))
    ∷ kind.Arm 4294967296 0
    ∷ kind.Arm 0 18446744073709551616
    ∷ kind.Packet 18446744073709551616 0 []
    ∷ kind.Packet 0 4294967296 []
    ∷ kind.Packet 0 0 (256 ∷ [])
    ∷ kind.Done 18446744073709551616
    ∷ kind.Reap 18446744073709551616
    ∷ kind.Bulk 4294967296
    ∷ kind.Result (shown.Read (0 ∷ 256 ∷ []))
    ∷ kind.Result (shown.Find Tt (span 2 2))
    ∷ [])
    ≡ false
above_the_bound = refl

-- an actor may be missing in the script
actors_at_the_bound : list_all is_told_of (actor.Thread 4294967295 ∷ actor.Engine 4294967295 ∷ actor.Reaper ∷ []) ≡ true
actors_at_the_bound = refl

actors_above_the_bound : list_any is_told_of (actor.Thread 4294967296 ∷ actor.Engine 4294967296 ∷ []) ≡ false
actors_above_the_bound = refl
