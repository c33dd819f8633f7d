-- What a manager chooses is the choice of the definitions, and its spans may be held.
use Rattle.std.proofs.Common.{◌≡◌, ℕ, ◌≤◌, Bool, true, false, List, Option, Some, length, refl, sym, ◌∙◌, ap}
use Rattle.std.specs.Prelude.{option_map, if◌then◌else◌}
use Rattle.ttm_base.specs.declared.Mem.{Mem}
use Rattle.ttm_base.specs.declared.Mem.TheVariants.{Tt, Vram}
use Rattle.ttm_base.specs.declared.Mode.TheVariants.{Best, High}
use Rattle.ttm_base.specs.declared.Place.{Place}
use Rattle.ttm_base.specs.declared.Span.{Span}
use Rattle.ttm_base.specs.declared.BufId.{BufId}
use Rattle.ttm_base.specs.Holes.{holes}
use Rattle.ttm_base.specs.RangeChoice.{range_choice}
use Rattle.ttm_base.specs.Reach.{reach}
use Rattle.buddy_manager.specs.Taking.{AreTaken}
use Rattle.resource_core.specs.Resources.{Resources, is_free}
use Rattle.resource_core.specs.Choices.{mode_for, one_span, range_spans, buddy_spans}
use Rattle.resource_core.specs.Vram.{spans_of_kind}
use Rattle.resource_core.specs.Vram as room
use Rattle.resource_core.specs.BuddyTaken.{buddy_takes_free, buddy_takes_some}
use Rattle.resource_core.specs.RangeTaken.{range_takes_free, range_takes_some}
use Rattle.journal_model.specs.declared.script.Script.{Script}
use Rattle.journal_model.specs.declared.state.Core.{Core}
use Rattle.journal_model.specs.rules.Commands.{decl}
use Rattle.journal_model.specs.rules.Choice.{choice, choice_in, range_at, blocks_at}
use Rattle.journal_model.specs.rules.Holds.{size_of, is_free_page}
use Rattle.room_representation.specs.lemma_spans.Owned.{FirstOfNumber, HoldsAsOwned, HoldsVram, kind_of}
use Rattle.room_representation.proofs.lemma_spans.Free.{free_same}

mode_is : (t : Bool) → (if t then High else Best) ≡ mode_for t
mode_is true = refl
mode_is false = refl

module _ (script : Script) (c : Core) (b : BufId) (place : Place) where
  -- a choice among pages that nobody holds, in ranges
  range_is : range_at script c b place ≡ range_spans (is_free_page place.mem c) (size_of script place.mem) (decl script b).pages (decl script b).align place
  range_is =
      ap (λ m. option_map one_span (range_choice m (holes (is_free_page place.mem c) (size_of script place.mem)) (decl script b).pages (decl script b).align (reach place (size_of script place.mem)))) (mode_is place.topdown)

  -- in blocks
  blocks_is : blocks_at script c b place ≡ buddy_spans (is_free_page place.mem c) (size_of script place.mem) (decl script b).pages (decl script b).align place
  blocks_is = refl

  module _ (mem : Mem) (at : place.mem ≡ mem) (r : Resources) (representation : HoldsAsOwned (size_of script mem) mem c.buffers c.ghosts r) (once : FirstOfNumber c.ghosts) where
    free_there : (rule : (ℕ → Bool) → ℕ → ℕ → ℕ → Place → Option (List Span)) →
        rule (is_free r.held) r.size (decl script b).pages (decl script b).align place ≡ rule (is_free_page place.mem c) (size_of script place.mem) (decl script b).pages (decl script b).align place
    free_there rule =
        ap (λ n. rule (is_free r.held) n (decl script b).pages (decl script b).align place) representation.size_is
        ∙ ap (λ f. rule f (size_of script mem) (decl script b).pages (decl script b).align place) (free_same mem c (size_of script mem) r representation once)
        ∙ ap (λ m. rule (is_free_page m c) (size_of script m) (decl script b).pages (decl script b).align place) (sym at)

  -- what a manager of TT chooses
  pub tt_choice : place.mem ≡ Tt → (r : Resources) → HoldsAsOwned script.sizes.tt Tt c.buffers c.ghosts r → FirstOfNumber c.ghosts →
      range_spans (is_free r.held) r.size (decl script b).pages (decl script b).align place ≡ choice script c b place
  tt_choice at r representation once = free_there Tt at r representation once range_spans ∙ sym (ap (λ m. choice_in m script c b place) at ∙ range_is)

  -- what a manager of VRAM chooses, which keeps ranges or blocks as the script says
  pub vram_choice : place.mem ≡ Vram → (r : Resources) → HoldsAsOwned script.sizes.vram Vram c.buffers c.ghosts r → FirstOfNumber c.ghosts →
      spans_of_kind (kind_of script.sizes.buddy) (is_free r.held) r.size (decl script b).pages (decl script b).align place ≡ choice script c b place
  vram_choice at r representation once = free_there Vram at r representation once (spans_of_kind (kind_of script.sizes.buddy)) ∙ sym (ap (λ m. choice_in m script c b place) at ∙ by script.sizes.buddy)
    where
      by : (q : Bool) → (elim q [ true ↦ blocks_at script c b place | false ↦ range_at script c b place ]) ≡ spans_of_kind (kind_of q) (is_free_page place.mem c) (size_of script place.mem) (decl script b).pages (decl script b).align place
      by true = blocks_is
      by false = range_is

  -- so does a room of VRAM
  pub vram_room_choice : place.mem ≡ Vram → (v : room.Vram) → HoldsVram script.sizes.vram script.sizes.buddy c.buffers c.ghosts v → FirstOfNumber c.ghosts →
      spans_of_kind v.kind (is_free v.resources.held) v.resources.size (decl script b).pages (decl script b).align place ≡ choice script c b place
  vram_room_choice at v representation once =
      ap (λ k. spans_of_kind k (is_free v.resources.held) v.resources.size (decl script b).pages (decl script b).align place) representation.kind_is ∙ vram_choice at v.resources representation.holds once

  -- ---- what is chosen may be held, as `hold` asks

  module _ (pages : 1 ≤ (decl script b).pages) (spans : List Span) (chosen : choice script c b place ≡ Some spans) where
    -- spans of TT are free and apart
    pub tt_free : place.mem ≡ Tt → (r : Resources) → HoldsAsOwned script.sizes.tt Tt c.buffers c.ghosts r → FirstOfNumber c.ghosts → AreTaken (is_free r.held) r.size spans
    tt_free at r representation once = range_takes_free (is_free r.held) r.size (decl script b).pages (decl script b).align place spans (tt_choice at r representation once ∙ chosen)

    -- there is one at least
    pub tt_some : place.mem ≡ Tt → (r : Resources) → HoldsAsOwned script.sizes.tt Tt c.buffers c.ghosts r → FirstOfNumber c.ghosts → 1 ≤ length spans
    tt_some at r representation once = range_takes_some (is_free r.held) r.size (decl script b).pages (decl script b).align place spans (tt_choice at r representation once ∙ chosen)

    -- so are spans of VRAM
    pub vram_free : place.mem ≡ Vram → (r : Resources) → HoldsAsOwned script.sizes.vram Vram c.buffers c.ghosts r → FirstOfNumber c.ghosts → AreTaken (is_free r.held) r.size spans
    vram_free at r representation once = by script.sizes.buddy (vram_choice at r representation once ∙ chosen)
      where
        by : (q : Bool) → spans_of_kind (kind_of q) (is_free r.held) r.size (decl script b).pages (decl script b).align place ≡ Some spans → AreTaken (is_free r.held) r.size spans
        by true e = buddy_takes_free (is_free r.held) r.size (reach place r.size) place.topdown place.contig (decl script b).pages spans pages e
        by false e = range_takes_free (is_free r.held) r.size (decl script b).pages (decl script b).align place spans e

    -- there is one at least
    pub vram_some : place.mem ≡ Vram → (r : Resources) → HoldsAsOwned script.sizes.vram Vram c.buffers c.ghosts r → FirstOfNumber c.ghosts → 1 ≤ length spans
    vram_some at r representation once = by script.sizes.buddy (vram_choice at r representation once ∙ chosen)
      where
        by : (q : Bool) → spans_of_kind (kind_of q) (is_free r.held) r.size (decl script b).pages (decl script b).align place ≡ Some spans → 1 ≤ length spans
        by true e = buddy_takes_some (is_free r.held) r.size (reach place r.size) place.topdown place.contig (decl script b).pages spans pages e
        by false e = range_takes_some (is_free r.held) r.size (decl script b).pages (decl script b).align place spans e
