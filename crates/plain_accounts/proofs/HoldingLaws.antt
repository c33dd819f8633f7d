-- The accounts of a state, by sums over buffers and ghosts that didn't saturate.
use Rattle.std.proofs.Common.{◌≡◌, ℕ, ◌+◌, ◌<◌, List, [], ◌∷◌, Option, Some, None, ap, refl, ◌∙◌, sym, arith, min}
use Rattle.std.specs.Prelude.{sum_by, filter_map}
use Rattle.std.specs.List.{enumerate_from}
use Rattle.std.proofs.lemmas.Bool.Decides.{nat_tests}
use Rattle.std.proofs.lemmas.List.Sums.{sum_by-cons}
use Rattle.std.proofs.lemmas.List.Concat.{length-flat_map}
use Rattle.ttm_base.specs.declared.BufId.{BufId}
use Rattle.ttm_base.specs.declared.Mem.{Mem}
use Rattle.journal_model.specs.declared.script.Script.{Script}
use Rattle.journal_model.specs.declared.state.Core.{Core}
use Rattle.journal_model.specs.declared.state.Buffer.{Buffer}
use Rattle.journal_model.specs.rules.Places.{frames_of, slots_of}
use Rattle.journal_model.specs.rules.Holds.{live_buffers, live_entry}
use Rattle.journal_model.specs.statements.Account as model
use Rattle.page_accounts.specs.declared.accounts.Account.{Account}
use Rattle.page_accounts.specs.Accounts.{as_account}
use Rattle.page_accounts.specs.Amounts.{Holding, Pages, Targets, Frames, Slots, amount, amount_of_ghost, amount_where_live}
use Rattle.page_accounts.specs.Counting.{most}

-- a sum over the live buffers
live_sum : (what : Holding) (k : ℕ) (buffers : List (Option Buffer)) → sum_by (λ e. amount what e.1) (filter_map live_entry (enumerate_from k buffers)) ≡ sum_by (amount_where_live what) buffers
live_sum what k [] = refl
live_sum what k (None ∷ buffers) =
    let rest = live_sum what (k + 1) buffers in
    let whole = sum_by-cons (amount_where_live what) None buffers in
    omega (arith, rest, whole)
live_sum what k (Some x ∷ buffers) =
    sum_by-cons (λ (e : BufId × Buffer). amount what e.1) (record { 0 = k }, x) (filter_map live_entry (enumerate_from (k + 1) buffers)) ∙ ap (λ n. amount what x + n) (live_sum what (k + 1) buffers)
    ∙ sym (sum_by-cons (amount_where_live what) (Some x) buffers)

-- a count that didn't saturate
exact : (n m : ℕ) → m ≡ min n most → m < most → m ≡ n
exact n m e h = grind (arith, nat_tests, e, h)

-- an account by its parts
account_is : (a held : Account) (b : model.Account) (free : ℕ) → a ≡ record held { free = free } → free ≡ b.free → held.live ≡ b.live → held.target ≡ b.target → held.ghosts ≡ b.ghost → as_account a ≡ b
account_is a held b free e f l t g =
    let of : ℕ → ℕ → ℕ → ℕ → model.Account = λ n m k j. record { free = n; live = m; target = k; ghost = j } in
    ap as_account e ∙ ap (λ n. of n held.live held.target held.ghosts) f ∙ ap (λ n. of b.free n held.target held.ghosts) l
    ∙ ap (λ n. of b.free b.live n held.ghosts) t ∙ ap (λ n. of b.free b.live b.target n) g

-- ---- the accounts

pub pages_are : (script : Script) (mem : Mem) (c : Core) (a held : Account) (free : ℕ) → a ≡ record held { free = free } → free ≡ (model.account_of mem script c).free
    → held.live ≡ min (sum_by (amount_where_live (Pages mem)) c.buffers) most → held.live < most
    → held.target ≡ min (sum_by (amount_where_live (Targets mem)) c.buffers) most → held.target < most
    → held.ghosts ≡ min (sum_by (amount_of_ghost (Pages mem)) c.ghosts) most → held.ghosts < most
    → sum_by (amount_of_ghost (Pages mem)) c.ghosts ≡ (model.account_of mem script c).ghost
    → as_account a ≡ model.account_of mem script c
pages_are script mem c a held free e f l l' t t' g g' ghosts =
    account_is a held (model.account_of mem script c) free e f
    (exact _ held.live l l' ∙ sym (live_sum (Pages mem) 0 c.buffers))
    (exact _ held.target t t' ∙ sym (live_sum (Targets mem) 0 c.buffers))
    (exact _ held.ghosts g g' ∙ ghosts)

pub frames_are : (script : Script) (c : Core) (a held : Account) (free : ℕ) → a ≡ record held { free = free } → free ≡ (model.frame_account script c).free
    → held.live ≡ min (sum_by (amount_where_live Frames) c.buffers) most → held.live < most → held.target ≡ 0
    → held.ghosts ≡ min (sum_by (amount_of_ghost Frames) c.ghosts) most → held.ghosts < most
    → as_account a ≡ model.frame_account script c
frames_are script c a held free e f l l' t g g' =
    account_is a held (model.frame_account script c) free e f
    (exact _ held.live l l' ∙ sym (live_sum Frames 0 c.buffers) ∙ sym (length-flat_map (λ e. frames_of e.1) (live_buffers c)))
    t
    (exact _ held.ghosts g g' ∙ sym (length-flat_map (λ g. g.frames) c.ghosts))

pub slots_are : (script : Script) (c : Core) (a held : Account) (free : ℕ) → a ≡ record held { free = free } → free ≡ (model.slot_account script c).free
    → held.live ≡ min (sum_by (amount_where_live Slots) c.buffers) most → held.live < most → held.target ≡ 0 → held.ghosts ≡ 0
    → as_account a ≡ model.slot_account script c
slots_are script c a held free e f l l' t g =
    account_is a held (model.slot_account script c) free e f
    (exact _ held.live l l' ∙ sym (live_sum Slots 0 c.buffers) ∙ sym (length-flat_map (λ e. slots_of e.1) (live_buffers c)))
    t g
