-- What the managers choose is the choice of the definitions, and a choice changes nothing that is held.
use Rattle.std.proofs.Common.{◌≡◌, ℕ, ◌<◌, true, List, Option, Result, IfOk, length, sym, ◌∙◌, ap, ap₂, subst, arith}
use Rattle.std.specs.Prelude.{unwrap_or}
use Rattle.std.proofs.lemmas.Bool.Decides.{nat_tests}
use Rattle.ttm_base.specs.declared.BufId.{BufId}
use Rattle.ttm_base.specs.declared.Mem.TheVariants.{Tt, Vram}
use Rattle.ttm_base.specs.declared.NoMemory.{NoMemory}
use Rattle.ttm_base.specs.declared.Place.{Place}
use Rattle.ttm_base.specs.declared.Span.{Span}
use Rattle.resource_core.specs.Choices.{range_spans}
use Rattle.resource_core.specs.Resources.{Resources, is_free}
use Rattle.resource_core.specs.Vram as room
use Rattle.resource_core.specs.Vram.{spans_of_kind}
use Rattle.journal_model.specs.declared.script.Script.{Script}
use Rattle.journal_model.specs.declared.script.Decl.{Decl}
use Rattle.journal_model.specs.declared.entry.Entry.{Entry}
use Rattle.journal_model.specs.rules.Choice.{choice}
use Rattle.journal_model.specs.rules.Commands.{decl, undeclared}
use Rattle.journal_model.specs.scripts.ScriptRules.{is_decl}
use Rattle.journal_model.specs.rules.Legal.{state_of}
use Rattle.laws.proofs.law_transparent.PagesLaw.{ghosts_law}
use Rattle.laws.proofs.law_state.JobsKeep.{all_at}
use Rattle.laws.proofs.law_state.Rules.{rules_of}
use Rattle.room_representation.specs.lemma_spans.Owned.{FirstOfNumber, HoldsAsOwned}
use Rattle.room_representation.proofs.lemma_spans.Chosen.{tt_choice, vram_choice}
use Rattle.room_representation.proofs.lemma_spans.Declared.{IsRequest}
use Rattle.room_representation.specs.declared.parts.Parts.{Parts}
use Rattle.room_representation.specs.Held.{AreHeld}
use Rattle.room_queries.proofs.Known.{get_below}

-- a declaration is a request that managers take
decl_asks : (version : ℕ) (d : Decl) → is_decl version d ≡ true → IsRequest d.pages d.align
decl_asks version d h = record { some = grind (arith, nat_tests); aligned = grind (arith, nat_tests); most = grind (arith, nat_tests) }

module _ (script : Script) (journal : List Entry) (p : Parts) (held : AreHeld script journal p) where
  -- each ghost is the first of its number
  once : FirstOfNumber (state_of script journal).core.ghosts
  once = (ghosts_law script journal held.fits held.legal).first

  -- a choice in VRAM changes nothing
  pub vram_same : (v : room.Vram) → v.resources ≡ p.vram.resources → spans_of_kind v.kind ≡ spans_of_kind p.vram.kind → AreHeld script journal (record p { vram = v })
  vram_same v same rule =
      let t = held.represents in
      record {
        fits = held.fits;
        legal = held.legal;
        represents = record {
          bos = t.bos;
          timeline = t.timeline;
          rings = t.rings;
          ghosts = t.ghosts;
          vram = record {
            rule = rule ∙ t.vram.rule;
            held_as = subst (λ r. HoldsAsOwned script.sizes.vram Vram (state_of script journal).core.buffers (state_of script journal).core.ghosts r) (sym same) t.vram.held_as;
            fence = record { kept_is = ap (λ (r : Resources). r.move_fence) same ∙ t.vram.fence.kept_is; known = t.vram.fence.known };
          };
          tt = t.tt;
          pool = t.pool;
          swap = t.swap;
          stores = t.stores;
          lists = t.lists;
          courses = t.courses;
          stamp = t.stamp;
          ghost = t.ghost;
          no_more = t.no_more;
        };
      }

  -- nor does one in TT
  pub tt_same : (r : Resources) → r ≡ p.tt → AreHeld script journal (record p { tt = r })
  tt_same r same = subst (λ x. AreHeld script journal (record p { tt = x })) (sym same) held

  module _ (b : BufId) (declared : b.0 < length script.buffers) where
    -- what is declared is a request
    pub asks : IsRequest (decl script b).pages (decl script b).align
    asks =
        let g = get_below script.buffers b.0 declared in
        let is : decl script b ≡ g.0 = ap (λ o. unwrap_or o undeclared) g.1 in
        subst (λ d. IsRequest d.pages d.align) (sym is) (decl_asks script.version g.0 (all_at (is_decl script.version) script.buffers b.0 g.0 (rules_of script held.fits).decls g.1))

    -- so is what was read of it
    pub asks_as : (pages align : ℕ) → pages ≡ (decl script b).pages → align ≡ (decl script b).align → IsRequest pages align
    asks_as pages align e f =
        let a = asks in
        let some = a.some in
        let aligned = a.aligned in
        let most = a.most in
        record { some = omega (arith, e, some); aligned = omega (arith, f, aligned); most = omega (arith, f, most) }

    module _ (place : Place) (pages align : ℕ) (pages_are : pages ≡ (decl script b).pages) (align_is : align ≡ (decl script b).align) (result : Result (Option (List Span)) NoMemory) where
      -- what VRAM has is the choice
      pub vram_found : place.mem ≡ Vram → IfOk result (λ o. o ≡ spans_of_kind p.vram.kind (is_free p.vram.resources.held) p.vram.resources.size pages align place) → IfOk result (λ o. o ≡ choice script (state_of script journal).core b place)
      vram_found at h =
          subst (λ x. IfOk result (λ o. o ≡ x))
          (ap₂ (λ n a. spans_of_kind p.vram.kind (is_free p.vram.resources.held) p.vram.resources.size n a place) pages_are align_is
          ∙ ap (λ f. f (is_free p.vram.resources.held) p.vram.resources.size (decl script b).pages (decl script b).align place) held.represents.vram.rule
          ∙ vram_choice script (state_of script journal).core b place at p.vram.resources held.represents.vram.held_as once) h

      -- and so is what TT has
      pub tt_found : place.mem ≡ Tt → IfOk result (λ o. o ≡ range_spans (is_free p.tt.held) p.tt.size pages align place) → IfOk result (λ o. o ≡ choice script (state_of script journal).core b place)
      tt_found at h =
          subst (λ x. IfOk result (λ o. o ≡ x))
          (ap₂ (λ n a. range_spans (is_free p.tt.held) p.tt.size n a place) pages_are align_is
          ∙ tt_choice script (state_of script journal).core b place at p.tt held.represents.tt once) h
