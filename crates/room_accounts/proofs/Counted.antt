-- What is counted over the parts are the accounts of the state.
use Rattle.std.proofs.Common.{◌≡◌, ℕ, suc, ◌+◌, ◌<◌, ◌≤◌, List, [], ◌∷◌, length, Option, Some, None, IsTrue, refl, sym, ◌∙◌, ap, ap₂, subst, arith}
use Rattle.std.specs.Prelude.{sum_by, map, option_map}
use Rattle.std.proofs.lemmas.Bool.Decides.{nat_tests}
use Rattle.std.proofs.lemmas.List.Sums.{sum_by-cons}
use Rattle.ttm_base.specs.declared.Mem.TheVariants.{System, Tt, Vram}
use Rattle.journal_model.specs.declared.script.Script.{Script}
use Rattle.journal_model.specs.declared.entry.Entry.{Entry}
use Rattle.journal_model.specs.declared.state.Core.{Core}
use Rattle.journal_model.specs.declared.state.Buffer.{Buffer}
use Rattle.journal_model.specs.declared.state.Ghost as state
use Rattle.journal_model.specs.declared.state.Job.{Job}
use Rattle.journal_model.specs.statements.Account.{count_spans}
use Rattle.journal_model.specs.scripts.ScriptRules.{is_script}
use Rattle.journal_model.specs.rules.Legal.{state_of}
use Rattle.laws.proofs.law_owners.Accounts.{account_law}
use Rattle.laws.proofs.law_state.GoodStates.{good_law}
use Rattle.laws.proofs.law_sound.Along.{sound_law}
use Rattle.page_accounts.specs.declared.accounts.Accounts.{Accounts}
use Rattle.page_accounts.specs.Accounts.{AreAccountsOf}
use Rattle.page_accounts.specs.Amounts.{Holding, Pages, Targets, Frames, Slots, amount_where_live, amount_left, amount_of_ghost, counted}
use Rattle.page_accounts.specs.Counting.{AreSmall, closed}
use Rattle.page_accounts.proofs.Adding.{held_by, left_by, same_counts}
use Rattle.page_accounts.proofs.Closing.{counted_all}
use Rattle.page_accounts.proofs.Sums.{all_taken, summed_seen}
use Rattle.room_representation.specs.declared.parts.Parts.{Parts}
use Rattle.room_representation.specs.declared.parts.Ghost.{Ghost}
use Rattle.room_representation.specs.Bos.{unfenced}
use Rattle.room_representation.specs.Ghosts.{AreGhosts, IsGhost}
use Rattle.room_representation.specs.Held.{AreHeld}

-- what a buffer holds is seen without its fences
unfenced_amount : (what : Holding) (o : Option Buffer) → amount_where_live what (option_map unfenced o) ≡ amount_where_live what o
unfenced_amount what None = refl
unfenced_amount (Pages mem) (Some x) = refl
unfenced_amount (Targets mem) (Some x) = refl
unfenced_amount Frames (Some x) = refl
unfenced_amount Slots (Some x) = refl

-- what a ghost of the parts holds
abbrev amount_in_parts : Holding → Ghost → ℕ
amount_in_parts what r = amount_left what r.vram r.tt (length r.frames)

one_ghost : (what : Holding) (jobs : List Job) (last : List ℕ) (g : state.Ghost) (r : Ghost) → IsGhost jobs last g r → amount_in_parts what r ≡ amount_of_ghost what g
one_ghost (Pages System) jobs last g r h = refl
one_ghost (Pages Tt) jobs last g r h = ap count_spans h.tt
one_ghost (Pages Vram) jobs last g r h = ap count_spans h.vram
one_ghost (Targets mem) jobs last g r h = refl
one_ghost Frames jobs last g r h = ap length h.frames
one_ghost Slots jobs last g r h = refl

ghost_sum : (what : Holding) (jobs : List Job) (last : List ℕ) (gs : List state.Ghost) (rs : List Ghost) → AreGhosts jobs last gs rs → sum_by (amount_in_parts what) rs ≡ sum_by (amount_of_ghost what) gs
ghost_sum what jobs last [] [] h = refl
ghost_sum what jobs last [] (r ∷ rs) h = elim h [ ]
ghost_sum what jobs last (g ∷ gs) [] h = elim h [ ]
ghost_sum what jobs last (g ∷ gs) (r ∷ rs) h =
    sum_by-cons (amount_in_parts what) r rs ∙ ap₂ (λ a b. a + b) (one_ghost what jobs last g r h.0) (ghost_sum what jobs last gs rs h.1)
    ∙ sym (sum_by-cons (amount_of_ghost what) g gs)

-- a script has few buffers
pub few_buffers : (script : Script) → IsTrue (is_script script) → length script.buffers ≤ 256
few_buffers script h = grind (arith, nat_tests)

module _ (script : Script) (journal : List Entry) (p : Parts) (held : AreHeld script journal p) where
  abbrev core : Core
  core = (state_of script journal).core

  -- what all buffers hold of it
  of_buffers : (what : Holding) → held_by p.bos.buffers (length p.bos.buffers) what ≡ sum_by (amount_where_live what) core.buffers
  of_buffers what =
      all_taken (amount_where_live what) p.bos.buffers (length p.bos.buffers) (omega arith)
      ∙ ap (sum_by (amount_where_live what)) held.represents.bos.buffers_are
      ∙ summed_seen (amount_where_live what) (amount_where_live what) (option_map unfenced) (unfenced_amount what) core.buffers

  -- and all ghosts
  of_ghosts : (j : ℕ) → length p.ghosts ≤ j → (what : Holding) → left_by (λ r. r.vram) (λ r. r.tt) (λ r. length r.frames) p.ghosts j what ≡ sum_by (amount_of_ghost what) core.ghosts
  of_ghosts j ended what =
      all_taken (amount_in_parts what) p.ghosts j ended
      ∙ ghost_sum what core.jobs (state_of script journal).last_jobs core.ghosts p.ghosts held.represents.ghosts

  -- the buffers of the table are the declared ones
  pub many_buffers : length p.bos.buffers ≡ length script.buffers
  many_buffers = ap length held.represents.bos.buffers_are ∙ same (option_map unfenced) core.buffers ∙ (good_law script held.fits journal held.legal).many
    where
      same : {X Y : Type 0} (f : X → Y) (xs : List X) → length (map f xs) ≡ length xs
      same f [] = refl
      same f (x ∷ xs) = ap suc (same f xs)

  -- and can be lent
  pub many_lent : length script.buffers ≤ length p.bos.reservations
  many_lent =
      let many = (good_law script held.fits journal held.legal).many in
      let reservations = (sound_law script journal held.fits held.legal).owned.reservations in
      let same = ap length held.represents.bos.reservations_are in
      omega (arith, many, reservations, same)

  -- all were counted, and then the accounts were closed
  pub accounts_are : (j : ℕ) (a b : Accounts) → AreSmall script.sizes → length p.ghosts ≤ j
      → a ≡ counted (held_by p.bos.buffers (length p.bos.buffers)) (left_by (λ r. r.vram) (λ r. r.tt) (λ r. length r.frames) p.ghosts j) → b ≡ closed script.sizes a → AreAccountsOf script core b
  accounts_are j a b small ended counts close =
      let whole = same_counts _ _ _ _ of_buffers (of_ghosts j ended) in
      subst (λ (x : Accounts). AreAccountsOf script core x) (sym (close ∙ ap (closed script.sizes) (counts ∙ whole)))
      (counted_all script core (account_law script journal held.fits held.legal) small)
