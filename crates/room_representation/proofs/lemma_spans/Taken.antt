-- The manager of a memory type may hold the spans that a legal journal's next entry takes there.
use Rattle.std.proofs.Common.{◌≡◌, ℕ, ◌≤◌, false, List, Some, Ok, IsTrue, length, refl}
use Rattle.ttm_base.specs.declared.Mem.{Mem}
use Rattle.ttm_base.specs.declared.Mem.TheVariants.{System, Tt, Vram}
use Rattle.ttm_base.specs.declared.Span.{Span}
use Rattle.ttm_base.specs.declared.BufId.{BufId}
use Rattle.ttm_base.specs.declared.Owner.{Owner}
use Rattle.ttm_base.specs.declared.Owner.TheVariants as owner
use Rattle.ttm_base.specs.declared.Actor.TheVariants as actor
use Rattle.buddy_manager.specs.Taking.{AreTaken}
use Rattle.resource_core.specs.Resources.{Resources, holds, is_free}
use Rattle.journal_model.specs.declared.script.Script.{Script}
use Rattle.journal_model.specs.declared.entry.Entry.{Entry}
use Rattle.journal_model.specs.declared.entry.Kind.TheVariants as kind
use Rattle.journal_model.specs.declared.state.State.{State}
use Rattle.journal_model.specs.rules.State.{live_in, buffer}
use Rattle.journal_model.specs.rules.Holds.{size_of}
use Rattle.journal_model.specs.rules.Next.{next}
use Rattle.journal_model.specs.scripts.ScriptRules.{is_script}
use Rattle.journal_model.specs.rules.Legal.{IsLegal, state_of}
use Rattle.room_representation.specs.lemma_spans.Owned.{FirstOfNumber, HoldsAsIn}
use Rattle.room_representation.proofs.lemma_spans.Chosen.{tt_free, tt_some, vram_free, vram_some}
use Rattle.room_representation.proofs.lemma_spans.Declared.{live_asks}
use Rattle.room_representation.proofs.lemma_spans.Facts.{no_target}
use Rattle.room_representation.proofs.lemma_spans.Holders.{target_fresh}
use Rattle.room_representation.proofs.lemma_spans.Legal.{take_sought}

-- what `hold` asks: an owner without spans, and some spans that are free and apart
pub record MayHold (o : Owner) (spans : List Span) (r : Resources) : Type 0 where
  pub fresh : holds o r.held ≡ false
  pub some : 1 ≤ length spans
  pub free : AreTaken (is_free r.held) r.size spans

module _ (script : Script) (journal : List Entry) (t : ℕ) (fits : IsTrue (is_script script)) (legal : IsLegal script journal) where
  abbrev s : State
  s = state_of script journal

  -- an entry that takes spans of VRAM or TT for a live buffer
  pub take_may_hold : (b : BufId) (mine : Mem) (spans : List Span) (r : Resources) → (mine ≡ System → ⊥) → next script s (actor.Thread t) ≡ Ok (kind.Take b mine spans) →
      live_in s.core.buffers b ≡ Some (buffer s b) → FirstOfNumber s.core.ghosts → HoldsAsIn (size_of script mine) mine s r → MayHold (owner.Target b) spans r
  take_may_hold b System spans r out h live once representation = absurd (out refl)
  take_may_hold b Tt spans r out h live once representation =
      let k = take_sought script journal t fits legal b Tt spans h in
      let pages = (live_asks script journal fits legal b (buffer s b) live).some in
      record {
        fresh = target_fresh script.sizes.tt Tt s r representation b live (no_target Tt (buffer s b) (k.untargeted out));
        some = tt_some script s.core b k.place pages spans k.chosen k.there r representation once;
        free = tt_free script s.core b k.place pages spans k.chosen k.there r representation once;
      }
  take_may_hold b Vram spans r out h live once representation =
      let k = take_sought script journal t fits legal b Vram spans h in
      let pages = (live_asks script journal fits legal b (buffer s b) live).some in
      record {
        fresh = target_fresh script.sizes.vram Vram s r representation b live (no_target Vram (buffer s b) (k.untargeted out));
        some = vram_some script s.core b k.place pages spans k.chosen k.there r representation once;
        free = vram_free script s.core b k.place pages spans k.chosen k.there r representation once;
      }
