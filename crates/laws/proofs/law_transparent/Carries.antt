-- Moves of a buffer, wherever it stands.
use Rattle.std.proofs.Common.{◌≡◌, ℕ, true, [], ◌∷◌, ◌++◌, Some, sym, subst, ◌∙◌, ap}
use Rattle.ttm_base.specs.declared.Mem.{Mem}
use Rattle.ttm_base.specs.declared.Mem.TheVariants as mem
use Rattle.ttm_base.specs.declared.BufId.{BufId}
use Rattle.ttm_base.specs.declared.JobId.{JobId}
use Rattle.ttm_base.specs.Pages as pages
use Rattle.journal_model.specs.declared.script.Script.{Script}
use Rattle.journal_model.specs.declared.state.Core.{Core}
use Rattle.journal_model.specs.declared.state.Buffer.{Buffer}
use Rattle.journal_model.specs.rules.State.{has_target}
use Rattle.journal_model.specs.rules.PlainMemory.{Memory, OwedProbes}
use Rattle.journal_model.specs.rules.Ready.{has_all_frames}
use Rattle.journal_model.specs.rules.ApplyMoves.{ghost_of_moved}
use Rattle.laws.proofs.law_owners.Law.{AreHeldOnce}
use Rattle.laws.proofs.lemma_bytes_view.Binds.{IsAt}
use Rattle.laws.proofs.lemma_bytes_view.Moving.{moved_core}
use Rattle.laws.proofs.lemma_bytes_view.Viewed.{Viewed}
use Rattle.laws.proofs.lemma_bytes_view.Tables.{full_is}
use Rattle.laws.proofs.lemma_bytes_view.Ups.{up_viewed}
use Rattle.laws.proofs.lemma_bytes_view.Acrosses.{across_viewed}
use Rattle.laws.proofs.lemma_bytes_view.Downs.{down_viewed, evict_viewed}
use Rattle.laws.proofs.lemma_bytes_told.Shapes.{Shapely}

module _ (script : Script) (c : Core) (owed_probes : OwedProbes) (m : Memory) (bytes : pages.PageBytes) (u : Viewed script c owed_probes m bytes) (held : AreHeldOnce script c) (n gn : ℕ) (undue : (k : ℕ) → owed_probes (record { ctx = 0; num = n }) k ≡ []) where
  -- the buffer, by its parts
  abbrev parts : Mem → Buffer → Buffer
  parts l x = record { mem = l; spans = x.spans; table = x.table; targets = x.targets; fences = x.fences }

  abbrev to_ghost : BufId → Mem → Buffer → Core
  to_ghost b l x = moved_core c b x l n (c.ghosts ++ ghost_of_moved x (record { ctx = 0; num = n }) gn ∷ []) c.move_fence

  abbrev at_once : BufId → Buffer → Core
  at_once b x = moved_core c b x mem.Tt n c.ghosts (Some (record { ctx = 0; num = n }))

  is_parts : (x : Buffer) (l : Mem) → x.mem ≡ l → x ≡ parts l x
  is_parts x l e = ap (λ k. parts k x) e

  pub moved_up : (b : BufId) (x : Buffer) → IsAt c b x → x.mem ≡ mem.Tt → has_target mem.Vram x ≡ true → Shapely x → AreHeldOnce script (to_ghost b mem.Vram x) → Viewed script (to_ghost b mem.Vram x) owed_probes m bytes
  moved_up b x is e t sh once =
      let q = is_parts x mem.Tt e in
      subst (λ y. Viewed script (to_ghost b mem.Vram y) owed_probes m bytes) (sym q)
      (up_viewed script c owed_probes m bytes u b x.spans x.table x.targets x.fences (record { live = is.live ∙ ap Some q }) n gn held (subst (λ y. AreHeldOnce script (to_ghost b mem.Vram y)) q once)
      (sh.full e) (sh.long (λ z. let w : mem.Tt ≡ mem.System = sym e ∙ z in cc)) (sh.targets mem.Vram (λ z. cc) t) undue)

  pub moved_across : (b : BufId) (x : Buffer) → IsAt c b x → x.mem ≡ mem.Vram → has_target mem.Vram x ≡ true → Shapely x → AreHeldOnce script (to_ghost b mem.Vram x) → Viewed script (to_ghost b mem.Vram x) owed_probes m bytes
  moved_across b x is e t sh once =
      let q = is_parts x mem.Vram e in
      subst (λ y. Viewed script (to_ghost b mem.Vram y) owed_probes m bytes) (sym q)
      (across_viewed script c owed_probes m bytes u b x.spans x.table x.targets x.fences (record { live = is.live ∙ ap Some q }) n gn held (subst (λ y. AreHeldOnce script (to_ghost b mem.Vram y)) q once)
      (sh.long (λ z. let w : mem.Vram ≡ mem.System = sym e ∙ z in cc)) (sh.targets mem.Vram (λ z. cc) t) undue)

  pub moved_down : (b : BufId) (x : Buffer) → IsAt c b x → x.mem ≡ mem.Vram → has_target mem.Tt x ≡ true → has_all_frames x ≡ true → Shapely x → AreHeldOnce script (to_ghost b mem.Tt x) → Viewed script (to_ghost b mem.Tt x) owed_probes m bytes
  moved_down b x is e t f sh once =
      let q = is_parts x mem.Vram e in
      subst (λ y. Viewed script (to_ghost b mem.Tt y) owed_probes m bytes) (sym q)
      (down_viewed script c owed_probes m bytes u b x.spans x.table x.targets x.fences (record { live = is.live ∙ ap Some q }) n held (full_is x.table f)
      (sh.long (λ z. let w : mem.Vram ≡ mem.System = sym e ∙ z in cc)) (sh.targets mem.Tt (λ z. cc) t) undue gn (subst (λ y. AreHeldOnce script (to_ghost b mem.Tt y)) q once))

  pub moved_out : (b : BufId) (x : Buffer) → IsAt c b x → x.mem ≡ mem.Vram → has_target mem.Tt x ≡ true → has_all_frames x ≡ true → Shapely x → ((i : JobId) → c.move_fence ≡ Some i → i.ctx ≡ 0) → AreHeldOnce script (at_once b x) → Viewed script (at_once b x) owed_probes m bytes
  moved_out b x is e t f sh ring once =
      let q = is_parts x mem.Vram e in
      subst (λ y. Viewed script (at_once b y) owed_probes m bytes) (sym q)
      (evict_viewed script c owed_probes m bytes u b x.spans x.table x.targets x.fences (record { live = is.live ∙ ap Some q }) n held (full_is x.table f)
      (sh.long (λ z. let w : mem.Vram ≡ mem.System = sym e ∙ z in cc)) (sh.targets mem.Tt (λ z. cc) t) undue (subst (λ y. AreHeldOnce script (at_once b y)) q once) ring)
