-- What is held is one of the pages, frames and slots that the script sets up.
use Rattle.std.proofs.Common.{◌≡◌, ℕ, ◌+◌, ◌≤◌, Bool, true, false, refl, arith}
use Rattle.std.specs.Prelude.{nat_lt}
use Rattle.ttm_base.specs.Pages as pages
use Rattle.journal_model.specs.declared.script.Script.{Script}
use Rattle.journal_model.specs.declared.state.Core.{Core}
use Rattle.journal_model.specs.rules.Stores.{is_there}
use Rattle.laws.specs.lemma_bytes_model.Memory.{Page}
use Rattle.laws.specs.lemma_bytes_model.View.{Owner}
use Rattle.laws.proofs.law_owners.Counts.{one}
use Rattle.laws.proofs.law_owners.Weights.{room_size, in_buffers, in_ghosts}
use Rattle.laws.proofs.law_owners.Law.{AreHeldOnce}
use Rattle.laws.specs.law_holders.Holding.{seen, Holds}
use Rattle.laws.proofs.law_holders.HeldOnce.{room_of, number_of, Spot, at_buffer, at_ghost, spot_of, spot_weight, hold_weighs, of_one, of_ghost_one}

module _ (script : Script) (c : Core) (once : AreHeldOnce script c) where
  below : (q : Bool) (a b k w : ℕ) → 1 ≤ a → a ≤ b → b + k ≤ w → w ≤ one q → q ≡ true
  below true a b k w h l m n = refl
  below false a b k w h l m n = absurd (omega (arith, h, l, m, n))

  spot_within : (x : Page) (q : Spot) → 1 ≤ spot_weight c x q → nat_lt (number_of x) (room_size script (room_of x)) ≡ true
  spot_within x (at_buffer b) h =
      let one_of = of_one script c once x b in
      let most = once (room_of x) (number_of x) in
      below (nat_lt (number_of x) (room_size script (room_of x))) (spot_weight c x (at_buffer b)) (in_buffers (room_of x) (number_of x) c.buffers) (in_ghosts (room_of x) (number_of x) c.ghosts)
      (in_buffers (room_of x) (number_of x) c.buffers + in_ghosts (room_of x) (number_of x) c.ghosts) h one_of (omega arith) most
  spot_within x (at_ghost i) h =
      let one_of = of_ghost_one script c once x i in
      let most = once (room_of x) (number_of x) in
      below (nat_lt (number_of x) (room_size script (room_of x))) (spot_weight c x (at_ghost i)) (in_ghosts (room_of x) (number_of x) c.ghosts) (in_buffers (room_of x) (number_of x) c.buffers)
      (in_buffers (room_of x) (number_of x) c.buffers + in_ghosts (room_of x) (number_of x) c.ghosts) h one_of (omega arith) most

  pub held_there : (p : pages.Page) (o : Owner) → Holds c (seen p) o → (p ≡ pages.nowhere → ⊥) → is_there script.sizes p ≡ true
  held_there pages.nowhere o h ne = absurd (ne refl)
  held_there (pages.vram n) o h ne = spot_within (seen (pages.vram n)) (spot_of c (seen (pages.vram n)) o h) (hold_weighs c (seen (pages.vram n)) o h (λ e. cc))
  held_there (pages.frame n) o h ne = spot_within (seen (pages.frame n)) (spot_of c (seen (pages.frame n)) o h) (hold_weighs c (seen (pages.frame n)) o h (λ e. cc))
  held_there (pages.slot n) o h ne = spot_within (seen (pages.slot n)) (spot_of c (seen (pages.slot n)) o h) (hold_weighs c (seen (pages.slot n)) o h (λ e. cc))
