-- What an entry does to the bytes, in the words of the code.
use Rattle.std.proofs.Common.{◌≡◌, ℕ, ◌+◌, List, refl, ap, zero-add}
use Rattle.ttm_base.specs.declared.BufId.{BufId}
use Rattle.ttm_base.specs.declared.Actor.{Actor}
use Rattle.ttm_base.specs.Pages.{Page, PageBytes, with_bytes}
use Rattle.journal_model.specs.declared.script.Script.{Script}
use Rattle.journal_model.specs.declared.state.State.{State}
use Rattle.journal_model.specs.declared.entry.Kind.{Kind}
use Rattle.journal_model.specs.declared.entry.Kind.TheVariants as kind
use Rattle.journal_model.specs.declared.entry.Shown.{Shown}
use Rattle.journal_model.specs.rules.Stores.{stores_after}
use Rattle.rules_stores.specs.Kept.{KeptBytes, BecomesBytes, bytes_of}
use Rattle.rules_stores.proofs.KeptLaws.{becomes_cut}

-- a page that was copied whole
pub becomes_copy : (old new : KeptBytes) (to from : Page) → BecomesBytes old new (with_bytes (bytes_of old) to 0 4096 (λ i. bytes_of old from (0 + i))) → BecomesBytes old new (with_bytes (bytes_of old) to 0 4096 (bytes_of old from))
becomes_copy old new to from h = becomes_cut old new to 0 4096 4096 (λ i. bytes_of old from (0 + i)) (bytes_of old from) h refl (λ i w. ap (bytes_of old from) (zero-add i))

-- entries of the other kinds leave the bytes alone
pub stores_stay : (script : Script) (s : State) (who : Actor) (k : Kind) (stores : PageBytes) →
    ((b : BufId) (page f : ℕ) → k ≡ kind.Populate b page f → ⊥) →
    ((b : BufId) (page slot f : ℕ) → k ≡ kind.SwapIn b page slot f → ⊥) →
    ((b : BufId) (page slot : ℕ) → k ≡ kind.SwapOut b page slot → ⊥) →
    ((n i : ℕ) (piece : List ℕ) → k ≡ kind.Packet n i piece → ⊥) →
    ((r : Shown) → k ≡ kind.Result r → ⊥) → stores ≡ stores_after script s who k stores
stores_stay script s who (kind.Populate b page f) stores p i o n r = absurd (p b page f refl)
stores_stay script s who (kind.SwapIn b page slot f) stores p i o n r = absurd (i b page slot f refl)
stores_stay script s who (kind.SwapOut b page slot) stores p i o n r = absurd (o b page slot refl)
stores_stay script s who (kind.Packet m k piece) stores p i o n r = absurd (n m k piece refl)
stores_stay script s who (kind.Result shown) stores p i o n r = absurd (r shown refl)
stores_stay script s who (kind.Ticket stamp) stores p i o n r = refl
stores_stay script s who (kind.Reserve b) stores p i o n r = refl
stores_stay script s who (kind.Backoff b stamp) stores p i o n r = refl
stores_stay script s who (kind.New b) stores p i o n r = refl
stores_stay script s who (kind.Free b g) stores p i o n r = refl
stores_stay script s who (kind.Take b mem spans) stores p i o n r = refl
stores_stay script s who (kind.Untake b mem) stores p i o n r = refl
stores_stay script s who (kind.Depopulate b) stores p i o n r = refl
stores_stay script s who (kind.Bind b) stores p i o n r = refl
stores_stay script s who (kind.Unbind b) stores p i o n r = refl
stores_stay script s who (kind.Move b mem m l) stores p i o n r = refl
stores_stay script s who (kind.Catch b w) stores p i o n r = refl
stores_stay script s who (kind.Loose b) stores p i o n r = refl
stores_stay script s who (kind.Skip b) stores p i o n r = refl
stores_stay script s who (kind.Dry b k w) stores p i o n r = refl
stores_stay script s who (kind.NoPages b) stores p i o n r = refl
stores_stay script s who (kind.Arm engine m) stores p i o n r = refl
stores_stay script s who (kind.Done m) stores p i o n r = refl
stores_stay script s who (kind.Reap g) stores p i o n r = refl
stores_stay script s who (kind.Bulk group) stores p i o n r = refl
stores_stay script s who (kind.Refused d) stores p i o n r = refl
