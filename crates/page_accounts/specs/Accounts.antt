-- The accounts of a state.
use Rattle.std.specs.Prelude.{◌≡◌}
use Rattle.ttm_base.specs.declared.Mem.TheVariants.{Tt, Vram}
use Rattle.journal_model.specs.declared.script.Script.{Script}
use Rattle.journal_model.specs.declared.state.Core.{Core}
use Rattle.journal_model.specs.statements.Account as model
use Rattle.page_accounts.specs.declared.accounts.Account.{Account}
use Rattle.page_accounts.specs.declared.accounts.Accounts.{Accounts}

-- an account as the definitions have it
abbrev pub as_account : Account → model.Account
as_account a = record { free = a.free; live = a.live; target = a.target; ghost = a.ghosts }

-- they are the accounts of the buffers and ghosts
pub record AreAccountsOf (script : Script) (c : Core) (a : Accounts) : Type 0 where
  pub vram : as_account a.vram ≡ model.account_of Vram script c
  pub tt : as_account a.tt ≡ model.account_of Tt script c
  pub frames : as_account a.frames ≡ model.frame_account script c
  pub swap : as_account a.swap ≡ model.slot_account script c
