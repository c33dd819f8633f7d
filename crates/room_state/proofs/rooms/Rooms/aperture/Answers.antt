use Rattle.std.proofs.Common.{◌≡◌, ℕ, length, subst}
use Rattle.aperture_table.specs.Translation.{frame_at}
use Rattle.journal_model.specs.rules.Places.{aperture}
use Rattle.room_state.specs.Kept.{Kept, state_behind}
use Rattle.room_state.proofs.rooms.Rooms.aperture.Goals as goal

pub returns-clause-size : goal.returns-clause-size
returns-clause-size c = subst (λ (k : Kept). length c.self.inside.parts.stores.aper ≡ k.script.sizes.tt) c.self.view_is c.self.invariant.represents.stores.aper_size

pub returns-clause-mapped : goal.returns-clause-mapped
returns-clause-mapped c =
    subst (λ (k : Kept). (page : ℕ) → frame_at c.self.inside.parts.stores.aper page ≡ aperture (state_behind k).core page) c.self.view_is c.self.invariant.represents.stores.mapped
