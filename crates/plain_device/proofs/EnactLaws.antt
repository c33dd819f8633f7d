-- What entries do to the bytes: results by the places that they leave alone, and few other kinds.
use Rattle.std.proofs.Common.{◌≡◌, ℕ, ◌<◌, Bool, true, false, length, Option, Some, None, Result, Ok, Err, OnOk, OnErr, refl, sym, ◌∙◌, ap, arith}
use Rattle.std.specs.Prelude.{◌&&◌, nat_le, is_err}
use Rattle.std.specs.List.{list_all}
use Rattle.std.proofs.lemmas.Bool.Decides.{nat_tests}
use Rattle.ttm_base.specs.declared.Actor.{Actor}
use Rattle.ttm_base.specs.Pages.{PageBytes}
use Rattle.journal_model.specs.declared.script.Script.{Script}
use Rattle.journal_model.specs.declared.script.Command.{Command}
use Rattle.journal_model.specs.declared.script.Command.TheVariants as command
use Rattle.journal_model.specs.declared.state.State.{State}
use Rattle.journal_model.specs.declared.state.Core.{Core}
use Rattle.journal_model.specs.declared.entry.Entry.{Entry}
use Rattle.journal_model.specs.declared.entry.Kind.{Kind}
use Rattle.journal_model.specs.declared.entry.Kind.TheVariants as kind
use Rattle.journal_model.specs.rules.State.{buffer_in}
use Rattle.journal_model.specs.rules.Commands.{command_at_work}
use Rattle.journal_model.specs.rules.Apply.{apply, applied, thread_of}
use Rattle.journal_model.specs.rules.Stores.{put_bytes, written, stores_after}
use Rattle.journal_model.specs.scripts.CommandRules.{is_command, is_range_of, is_byte}
use Rattle.laws.proofs.law_state.Rules.{Rules, at_work_rules}
use Rattle.rules_stores.specs.Writes.{CanStore, IsShortWrite}
use Rattle.rules_apply.specs.Sure.{takes_no_memory}
use Rattle.plain_device.specs.Held.{is_result}

module _ {X E : Type 0} where
  pub when_ok : {P : Type 0} (r : Result X E) → P → OnOk r P
  when_ok (Ok x) p = p
  when_ok (Err e) p = tt

  pub both_on_err : (A B C : Type 0) (r : Result X E) → OnErr r A → OnErr r B → (B → C) → OnErr r (A × C)
  both_on_err A B C (Ok x) a b f = tt
  both_on_err A B C (Err e) a b f = (a, f b)

  pub of_ok : (P : Type 0) (r : Result X E) → is_err r ≡ false → OnOk r P → P
  of_ok P (Ok x) h p = p
  of_ok P (Err e) h p = cc

  pub of_err : (P : Type 0) (r : Result X E) → is_err r ≡ true → OnErr r P → P
  of_err P (Ok x) h p = cc
  of_err P (Err e) h p = p

-- a write goes by the core alone
written_alike : (s z : State) (cmd : Option Command) (stores : PageBytes) → s.core ≡ z.core → written s cmd stores ≡ written z cmd stores
written_alike s z None stores h = refl
written_alike s z (Some (command.New b)) stores h = refl
written_alike s z (Some (command.Free b)) stores h = refl
written_alike s z (Some (command.Pin b)) stores h = refl
written_alike s z (Some (command.Unpin b)) stores h = refl
written_alike s z (Some (command.Find b)) stores h = refl
written_alike s z (Some (command.SwapOut b)) stores h = refl
written_alike s z (Some (command.Write b off bytes)) stores h = ap (λ (c : Core). put_bytes (buffer_in c b) off bytes stores) h
written_alike s z (Some (command.Read b off len)) stores h = refl
written_alike s z (Some (command.Move b mem)) stores h = refl
written_alike s z (Some (command.Touch group)) stores h = refl
written_alike s z (Some (command.Submit engine ops)) stores h = refl

-- a result that stands leaves the places of its write
by_kind : (script : Script) (s : State) (who : Actor) (k : Kind) (stores : PageBytes) → is_result k ≡ true → written (applied script s who k) (command_at_work script s (thread_of who)) stores ≡ stores_after script s who k stores
by_kind script s who (kind.Ticket stamp) stores h = cc
by_kind script s who (kind.Reserve b) stores h = cc
by_kind script s who (kind.Backoff b stamp) stores h = cc
by_kind script s who (kind.New b) stores h = cc
by_kind script s who (kind.Free b g) stores h = cc
by_kind script s who (kind.Take b mem spans) stores h = cc
by_kind script s who (kind.Untake b mem) stores h = cc
by_kind script s who (kind.Populate b page f) stores h = cc
by_kind script s who (kind.SwapIn b page slot f) stores h = cc
by_kind script s who (kind.Depopulate b) stores h = cc
by_kind script s who (kind.Bind b) stores h = cc
by_kind script s who (kind.Unbind b) stores h = cc
by_kind script s who (kind.Move b mem num left) stores h = cc
by_kind script s who (kind.Catch b w) stores h = cc
by_kind script s who (kind.Loose b) stores h = cc
by_kind script s who (kind.Skip b) stores h = cc
by_kind script s who (kind.Dry b p w) stores h = cc
by_kind script s who (kind.SwapOut b page slot) stores h = cc
by_kind script s who (kind.NoPages b) stores h = cc
by_kind script s who (kind.Arm engine num) stores h = cc
by_kind script s who (kind.Packet num p piece) stores h = cc
by_kind script s who (kind.Done num) stores h = cc
by_kind script s who (kind.Reap g) stores h = cc
by_kind script s who (kind.Bulk group) stores h = cc
by_kind script s who (kind.Result shown) stores h = written_alike (applied script s who (kind.Result shown)) s (command_at_work script s (thread_of who)) stores refl
by_kind script s who (kind.Refused d) stores h = cc

pub answered_write : (script : Script) (s new : State) (e : Entry) (cmd : Option Command) (stores : PageBytes) → is_result e.kind ≡ true → new ≡ apply script s e → cmd ≡ command_at_work script s (thread_of e.who) →
    written new cmd stores ≡ stores_after script s e.who e.kind stores
answered_write script s new e cmd stores is at c = ap (λ z. written z cmd stores) at ∙ ap (λ d. written (apply script s e) d stores) c ∙ by_kind script s e.who e.kind stores is

-- an entry that takes memory, and isn't a result, leaves the bytes alone
pub no_bytes : (script : Script) (s : State) (who : Actor) (k : Kind) (stores : PageBytes) → is_result k ≡ false → takes_no_memory k ≡ false → stores_after script s who k stores ≡ stores
no_bytes script s who (kind.Ticket stamp) stores r m = refl
no_bytes script s who (kind.Reserve b) stores r m = refl
no_bytes script s who (kind.Backoff b stamp) stores r m = refl
no_bytes script s who (kind.New b) stores r m = refl
no_bytes script s who (kind.Free b g) stores r m = refl
no_bytes script s who (kind.Take b mem spans) stores r m = refl
no_bytes script s who (kind.Untake b mem) stores r m = refl
no_bytes script s who (kind.Populate b page f) stores r m = cc
no_bytes script s who (kind.SwapIn b page slot f) stores r m = cc
no_bytes script s who (kind.Depopulate b) stores r m = refl
no_bytes script s who (kind.Bind b) stores r m = refl
no_bytes script s who (kind.Unbind b) stores r m = refl
no_bytes script s who (kind.Move b mem num left) stores r m = refl
no_bytes script s who (kind.Catch b w) stores r m = refl
no_bytes script s who (kind.Loose b) stores r m = refl
no_bytes script s who (kind.Skip b) stores r m = refl
no_bytes script s who (kind.Dry b p w) stores r m = refl
no_bytes script s who (kind.SwapOut b page slot) stores r m = cc
no_bytes script s who (kind.NoPages b) stores r m = refl
no_bytes script s who (kind.Arm engine num) stores r m = refl
no_bytes script s who (kind.Packet num p piece) stores r m = cc
no_bytes script s who (kind.Done num) stores r m = refl
no_bytes script s who (kind.Reap g) stores r m = refl
no_bytes script s who (kind.Bulk group) stores r m = refl
no_bytes script s who (kind.Result shown) stores r m = cc
no_bytes script s who (kind.Refused d) stores r m = refl

-- the bytes of a write are few
short_write : (script : Script) → Rules script → (cmd : Command) → is_command script cmd ≡ true → IsShortWrite (Some cmd)
short_write script r (command.New b) h = tt
short_write script r (command.Free b) h = tt
short_write script r (command.Pin b) h = tt
short_write script r (command.Unpin b) h = tt
short_write script r (command.Find b) h = tt
short_write script r (command.SwapOut b) h = tt
short_write script r (command.Write b off bytes) h = few (length bytes) (part (is_range_of script b off (length bytes)) (nat_le (length bytes) 256) (list_all is_byte bytes) h)
  where
    part : (a b c : Bool) → (a && b && c) ≡ true → b ≡ true
    part a b c t = grind arith

    few : (n : ℕ) → nat_le n 256 ≡ true → n < 4294967296
    few n t = grind (arith, nat_tests)
short_write script r (command.Read b off len) h = tt
short_write script r (command.Move b mem) h = tt
short_write script r (command.Touch group) h = tt
short_write script r (command.Submit engine ops) h = tt

at_work_short : (script : Script) → Rules script → (s : State) (t : ℕ) → IsShortWrite (command_at_work script s t)
at_work_short script r s t = by (command_at_work script s t) refl
  where
    by : (o : Option Command) → command_at_work script s t ≡ o → IsShortWrite o
    by None e = tt
    by (Some cmd) e = short_write script r cmd (at_work_rules script r s t cmd e).command

pub can_store : (script : Script) → Rules script → (s : State) (who : Actor) (k : Kind) → CanStore script s who k
can_store script r s who (kind.Ticket stamp) = tt
can_store script r s who (kind.Reserve b) = tt
can_store script r s who (kind.Backoff b stamp) = tt
can_store script r s who (kind.New b) = tt
can_store script r s who (kind.Free b g) = tt
can_store script r s who (kind.Take b mem spans) = tt
can_store script r s who (kind.Untake b mem) = tt
can_store script r s who (kind.Populate b page f) = tt
can_store script r s who (kind.SwapIn b page slot f) = tt
can_store script r s who (kind.Depopulate b) = tt
can_store script r s who (kind.Bind b) = tt
can_store script r s who (kind.Unbind b) = tt
can_store script r s who (kind.Move b mem num left) = tt
can_store script r s who (kind.Catch b w) = tt
can_store script r s who (kind.Loose b) = tt
can_store script r s who (kind.Skip b) = tt
can_store script r s who (kind.Dry b p w) = tt
can_store script r s who (kind.SwapOut b page slot) = tt
can_store script r s who (kind.NoPages b) = tt
can_store script r s who (kind.Arm engine num) = tt
can_store script r s who (kind.Packet num p piece) = tt
can_store script r s who (kind.Done num) = tt
can_store script r s who (kind.Reap g) = tt
can_store script r s who (kind.Bulk group) = tt
can_store script r s who (kind.Result shown) = at_work_short script r s (thread_of who)
can_store script r s who (kind.Refused d) = tt
