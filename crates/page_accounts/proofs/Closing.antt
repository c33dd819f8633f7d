-- What is counted of all buffers and ghosts are the accounts of the state, since nothing is held twice.
use Rattle.std.proofs.Common.{◌≡◌, ℕ, ◌+◌, ◌-◌, ◌<◌, ◌^◌, Bool, true, false, List, [], ◌∷◌, length, Option, Some, None, IsTrue, refl, sym, ◌∙◌, ap, arith, min}
use Rattle.std.specs.Prelude.{sum_by, filter_map, ◌==◌, ◌&&◌}
use Rattle.std.specs.List.{enumerate_from}
use Rattle.std.proofs.lemmas.Bool.Decides.{nat_tests}
use Rattle.std.proofs.lemmas.List.Sums.{sum_by-cons}
use Rattle.std.proofs.lemmas.List.Concat.{length-flat_map}
use Rattle.ttm_base.specs.declared.BufId.{BufId}
use Rattle.ttm_base.specs.declared.Mem.{Mem}
use Rattle.ttm_base.specs.declared.Mem.TheVariants.{Tt, Vram}
use Rattle.journal_model.specs.declared.script.Script.{Script}
use Rattle.journal_model.specs.declared.state.Core.{Core}
use Rattle.journal_model.specs.declared.state.Buffer.{Buffer}
use Rattle.journal_model.specs.rules.Places.{frames_of, slots_of, pages_of}
use Rattle.journal_model.specs.rules.Holds.{live_buffers, live_entry, held_spans, held_frames, held_slots}
use Rattle.journal_model.specs.statements.Account as model
use Rattle.journal_model.specs.statements.Account.{account_of, frame_account, slot_account, total, are_distinct, has_accounts}
use Rattle.page_accounts.specs.declared.accounts.Account.{Account}
use Rattle.page_accounts.specs.Accounts.{AreAccountsOf, as_account}
use Rattle.page_accounts.specs.Counting.{AreSmall, most, closed, closed_account}
use Rattle.page_accounts.specs.Amounts.{Holding, Pages, Targets, Frames, Slots, amount, amount_where_live, amount_of_ghost, counted}

-- a sum over the live buffers
live_sum : (what : Holding) (k : ℕ) (buffers : List (Option Buffer)) → sum_by (λ e. amount what e.1) (filter_map live_entry (enumerate_from k buffers)) ≡ sum_by (amount_where_live what) buffers
live_sum what k [] = refl
live_sum what k (None ∷ buffers) =
    let rest = live_sum what (k + 1) buffers in
    let whole = sum_by-cons (amount_where_live what) None buffers in
    omega (arith, rest, whole)
live_sum what k (Some x ∷ buffers) =
    sum_by-cons (λ (e : BufId × Buffer). amount what e.1) (record { 0 = k }, x) (filter_map live_entry (enumerate_from (k + 1) buffers)) ∙ ap (λ n. amount what x + n) (live_sum what (k + 1) buffers)
    ∙ sym (sum_by-cons (amount_where_live what) (Some x) buffers)

-- an account whose parts make the size is what is counted and closed
account_is : (a : model.Account) (size live target left : ℕ) → total a ≡ size → size < 2 ^ 32 → live ≡ a.live → target ≡ a.target → left ≡ a.ghost →
    as_account (closed_account size (record { free = 0; live = min live most; target = min target most; ghosts = min left most })) ≡ a
account_is a size live target left t s l k g =
    let of : ℕ → ℕ → ℕ → ℕ → model.Account = λ n m j i. record { free = n; live = m; target = j; ghost = i } in
    let e1 : min live most ≡ a.live = grind (arith, nat_tests) in
    let e2 : min target most ≡ a.target = grind (arith, nat_tests) in
    let e3 : min left most ≡ a.ghost = grind (arith, nat_tests) in
    let e0 : size - min (min (a.live + a.target) most + a.ghost) most ≡ a.free = grind (arith, nat_tests) in
    ap (λ n. as_account (closed_account size (record { free = 0; live = n; target = min target most; ghosts = min left most }))) e1
    ∙ ap (λ n. as_account (closed_account size (record { free = 0; live = a.live; target = n; ghosts = min left most }))) e2
    ∙ ap (λ n. as_account (closed_account size (record { free = 0; live = a.live; target = a.target; ghosts = n }))) e3
    ∙ ap (λ n. of n a.live a.target a.ghost) e0

-- the last of two tests that both hold
second : (p q : Bool) → (p && q) ≡ true → q ≡ true
second true q h = h
second false q h = cc

sums : (held : List ℕ) (a : model.Account) (size : ℕ) → (are_distinct held && (total a == size)) ≡ true → total a ≡ size
sums held a size h = let e = second (are_distinct held) (total a == size) h in grind (arith, nat_tests, e)

-- all four
record AreBalanced (script : Script) (c : Core) : Type 0 where
  vram : total (account_of Vram script c) ≡ script.sizes.vram
  tt : total (account_of Tt script c) ≡ script.sizes.tt
  frames : total (frame_account script c) ≡ script.sizes.frames
  swap : total (slot_account script c) ≡ script.sizes.swap

balanced : (script : Script) (c : Core) → has_accounts script c ≡ true → AreBalanced script c
balanced script c h =
    by
    (are_distinct (pages_of (held_spans Vram c)) && (total (account_of Vram script c) == script.sizes.vram))
    (are_distinct (pages_of (held_spans Tt c)) && (total (account_of Tt script c) == script.sizes.tt))
    (are_distinct (held_frames c) && (total (frame_account script c) == script.sizes.frames))
    (are_distinct (held_slots c) && (total (slot_account script c) == script.sizes.swap))
    refl refl refl refl h
  where
    by : (p q r t : Bool)
        → (are_distinct (pages_of (held_spans Vram c)) && (total (account_of Vram script c) == script.sizes.vram)) ≡ p
        → (are_distinct (pages_of (held_spans Tt c)) && (total (account_of Tt script c) == script.sizes.tt)) ≡ q
        → (are_distinct (held_frames c) && (total (frame_account script c) == script.sizes.frames)) ≡ r
        → (are_distinct (held_slots c) && (total (slot_account script c) == script.sizes.swap)) ≡ t
        → (p && q && r && t) ≡ true → AreBalanced script c
    by true true true true a b d e g = record {
      vram = sums (pages_of (held_spans Vram c)) (account_of Vram script c) script.sizes.vram a;
      tt = sums (pages_of (held_spans Tt c)) (account_of Tt script c) script.sizes.tt b;
      frames = sums (held_frames c) (frame_account script c) script.sizes.frames d;
      swap = sums (held_slots c) (slot_account script c) script.sizes.swap e;
    }
    by false q r t a b d e g = cc
    by true false r t a b d e g = cc
    by true true false t a b d e g = cc
    by true true true false a b d e g = cc

pub counted_all : (script : Script) (c : Core) → IsTrue (has_accounts script c) → AreSmall script.sizes
    → AreAccountsOf script c (closed script.sizes (counted (λ what. sum_by (amount_where_live what) c.buffers) (λ what. sum_by (amount_of_ghost what) c.ghosts)))
counted_all script c h small =
    let all = balanced script c h in
    record {
      vram = account_is (account_of Vram script c) script.sizes.vram _ _ _ all.vram small.vram (sym (live_sum (Pages Vram) 0 c.buffers)) (sym (live_sum (Targets Vram) 0 c.buffers)) refl;
      tt = account_is (account_of Tt script c) script.sizes.tt _ _ _ all.tt small.tt (sym (live_sum (Pages Tt) 0 c.buffers)) (sym (live_sum (Targets Tt) 0 c.buffers)) refl;
      frames = account_is (frame_account script c) script.sizes.frames _ 0 _ all.frames small.frames
          (sym (live_sum Frames 0 c.buffers) ∙ sym (length-flat_map (λ e. frames_of e.1) (live_buffers c))) refl (sym (length-flat_map (λ g. g.frames) c.ghosts));
      swap = account_is (slot_account script c) script.sizes.swap _ 0 0 all.swap small.swap
          (sym (live_sum Slots 0 c.buffers) ∙ sym (length-flat_map (λ e. slots_of e.1) (live_buffers c))) refl refl;
    }
