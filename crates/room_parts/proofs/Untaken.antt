-- All parts after entries on targets.
use Rattle.std.proofs.Common.{◌≡◌, ℕ, List, [], ◌∷◌, ◌++◌, Option, None, refl, sym, ◌∙◌, ap, subst}
use Rattle.ttm_base.specs.declared.Actor.TheVariants as actor
use Rattle.ttm_base.specs.declared.BufId.{BufId}
use Rattle.ttm_base.specs.declared.Mem.{Mem}
use Rattle.ttm_base.specs.declared.Mem.TheVariants.{Tt, Vram}
use Rattle.resource_core.specs.Resources.{Resources}
use Rattle.resource_core.specs.Vram as room
use Rattle.bo_table.specs.Seen.{Bos, with_changed}
use Rattle.journal_model.specs.declared.script.Script.{Script}
use Rattle.journal_model.specs.declared.state.State.{State}
use Rattle.journal_model.specs.declared.entry.Entry.{Entry}
use Rattle.journal_model.specs.declared.entry.Kind.TheVariants as kind
use Rattle.journal_model.specs.rules.ApplyPages.{with_spans, after_untake}
use Rattle.journal_model.specs.rules.Legal.{IsLegalNext, state_of, stores_of, world_of}
use Rattle.laws.specs.lemma_bytes_told.Told.{IsThere, Told, still, untakes}
use Rattle.laws.proofs.law_transparent.Carried.{told_law}
use Rattle.room_representation.specs.lemma_spans.Calls.{untaken}
use Rattle.room_representation.proofs.lemma_spans.Targets.{untake_spans}
use Rattle.ttm_base.specs.declared.Span.{Span}
use Rattle.room_representation.specs.declared.parts.Parts.{Parts}
use Rattle.room_representation.specs.Held.{AreHeld}
use Rattle.room_representation.specs.Managers.{IsTt}
use Rattle.room_representation.specs.lemma_spans.Owned.{HoldsAsOwned}
use Rattle.room_representation.proofs.lemma_spans.MoveFence.{untaken_fence}
use Rattle.room_representation.proofs.steps.Steps.{held_still, step_as}
use Rattle.room_representation.proofs.steps.Frames.{LeavesInPlace, changed_represented}

-- another target, or none, leaves a buffer in its place
pub target_stays : (mem : Mem) (spans : Option (List Span)) → LeavesInPlace (with_spans mem spans)
target_stays mem spans = record { places = record { mem = λ x. refl; spans = λ x. refl; table = λ x. refl }; fences = λ x. refl; past = λ x. refl }

module _ (script : Script) (journal : List Entry) (p : Parts) (entry : Entry) (t : ℕ) (b : BufId) (mem : Mem) (held : AreHeld script journal p) (is : entry ≡ record { who = actor.Thread t; kind = kind.Untake b mem }) (legal : IsLegalNext script (world_of script journal) entry) where
  abbrev s : State
  s = state_of script journal

  there_in : Told script s t (kind.Untake b mem) → IsThere s b
  there_in (still h) = cc
  there_in (untakes l) = l

  live : IsThere s b
  live = there_in (told_law script journal t (kind.Untake b mem) held.fits held.legal (step_as script journal entry (record { who = actor.Thread t; kind = kind.Untake b mem }) is legal refl))

  pub untake_held : (v : room.Vram) (u : Resources) (bos : Bos) → v.resources ≡ untaken Vram mem b p.vram.resources → room.spans_of_kind v.kind ≡ room.spans_of_kind p.vram.kind → u ≡ untaken Tt mem b p.tt → bos ≡ with_changed (with_spans mem None) p.bos b →
      AreHeld script (journal ++ entry ∷ []) (record p { vram = v; tt = u; bos = bos })
  untake_held v u bos ve rule ue be =
      held_still script journal p (record p { vram = v; tt = u; bos = bos }) entry (record { who = actor.Thread t; kind = kind.Untake b mem }) held is legal refl
      (changed_represented script s (stores_of script journal) p held.represents (with_spans mem None) (target_stays mem None) b bos v u be
      (record {
        rule = rule ∙ held.represents.vram.rule;
        held_as = subst (λ x. HoldsAsOwned script.sizes.vram Vram (after_untake s b mem).core.buffers s.core.ghosts x) (sym ve) (untake_spans script.sizes.vram Vram mem s b p.vram.resources held.represents.vram.held_as live);
        fence = record { kept_is = ap (λ (x : Resources). x.move_fence) ve ∙ untaken_fence Vram mem b p.vram.resources ∙ held.represents.vram.fence.kept_is; known = held.represents.vram.fence.known };
      })
      (subst (λ x. IsTt script.sizes (after_untake s b mem).core.buffers s.core.ghosts x) (sym ue)
      (untake_spans script.sizes.tt Tt mem s b p.tt held.represents.tt live)))
