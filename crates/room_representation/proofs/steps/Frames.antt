-- What stays where an entry changes how buffers are held and where threads stand, or one buffer, which stands where it stood.
use Rattle.std.proofs.Common.{◌≡◌, ℕ, List, ◌++◌, Option, Some, refl, sym, ◌∙◌, ap, subst}
use Rattle.std.specs.Prelude.{◌==◌, find, flat_map, length, option_map, zip}
use Rattle.ttm_base.specs.declared.BufId.{BufId}
use Rattle.ttm_base.specs.Pages.{PageBytes}
use Rattle.fence_core.specs.Histories.{set_of}
use Rattle.lru_bulk.specs.Lists.{Order}
use Rattle.resource_core.specs.Resources.{Resources}
use Rattle.resource_core.specs.Vram.{Vram}
use Rattle.bo_table.specs.Seen.{Bos, with_changed}
use Rattle.journal_model.specs.declared.script.Script.{Script}
use Rattle.journal_model.specs.declared.state.State.{State}
use Rattle.journal_model.specs.declared.state.Buffer.{Buffer}
use Rattle.journal_model.specs.declared.state.Course.{Course}
use Rattle.journal_model.specs.declared.state.Ghost.{Ghost}
use Rattle.journal_model.specs.declared.state.Reservation.{Reservation}
use Rattle.journal_model.specs.rules.State.{changed}
use Rattle.journal_model.specs.rules.ApplyPages as pages
use Rattle.journal_model.specs.rules.Holds.{ghost_frames}
use Rattle.journal_model.specs.rules.Places.{pages_of}
use Rattle.room_representation.specs.lemma_lists.Listed.{AreListed}
use Rattle.room_representation.proofs.lemma_lists.KindLaws.{changed_unseen}
use Rattle.room_representation.specs.declared.parts.Parts.{Parts}
use Rattle.room_representation.specs.Bos.{AreBos, unfenced}
use Rattle.room_representation.specs.Fences.{fences_of, jobs_in, are_emitted}
use Rattle.room_representation.specs.Managers.{IsVram, IsTt}
use Rattle.room_representation.specs.Pages.{ArePooled, AreSlots, AreStores}
use Rattle.room_representation.specs.Represents.{Represents}
use Rattle.room_representation.proofs.lemma_jobs.Stays.{KeepsPlaces, frames_kept, slots_kept, maps_kept}
use Rattle.room_representation.proofs.lemma_jobs.Told.{told_same, all_same, unfenced_as}

-- a change that leaves a buffer where it stands, with its frames and slots, and with its fences, at which it doesn't look
pub record LeavesInPlace (f : Buffer → Buffer) : Type 0 where
  pub places : KeepsPlaces f
  pub fences : (x : Buffer) → (f x).fences ≡ x.fences
  pub past : (x : Buffer) → unfenced (f x) ≡ f (unfenced x)

-- the table of buffers after a change of one that keeps its fences, and doesn't look at them
pub changed_bos : (f : Buffer → Buffer) → ((x : Buffer) → (f x).fences ≡ x.fences) → ((x : Buffer) → unfenced (f x) ≡ f (unfenced x)) → (script : Script) (bs : List (Option Buffer)) (reservations : List Reservation) (last : List ℕ) (t : Bos) →
    AreBos script bs reservations last t → (b : BufId) (bos : Bos) → bos ≡ with_changed f t b → AreBos script (changed f bs b) reservations last bos
changed_bos f fences past script bs reservations last t h b bos e =
    subst (λ x. AreBos script (changed f bs b) reservations last x) (sym e)
    (record {
      buffers_are = ap (λ xs. changed f xs b) h.buffers_are ∙ sym (unfenced_as f f past bs b);
      reservations_are = h.reservations_are;
      fences_are = record {
        sets_are = h.fences_are.sets_are ∙ sym (told_same (λ o. set_of (length last) (fences_of o)) f (λ x. ap (set_of (length last)) (fences x)) bs b);
        known = all_same (λ o. are_emitted last (jobs_in (fences_of o))) f (λ x. ap (λ l. are_emitted last (jobs_in l)) (fences x)) bs b ∙ h.fences_are.known;
      };
      pages_are = h.pages_are;
    })

module _ (script : Script) (s : State) (bytes : PageBytes) (p : Parts) (t : Represents script s bytes p) where
  -- entries that change holders, courses, the last stamp and the lists alone
  pub eased_represented : (bos : Bos) (o : Order) (courses : List Course) (stamp : ℕ) (reservations : List Reservation) (lists : List (List BufId)) (cs : List Course) (n : ℕ) →
      bos ≡ record p.bos { reservations = reservations } → AreListed script s.core.buffers reservations lists o → courses ≡ cs → stamp ≡ n →
      Represents script (record s { reservations = reservations; lists = lists; courses = cs; last_stamp = n }) bytes (record p { bos = bos; lru = o; courses = courses; tickets = stamp })
  eased_represented bos o courses stamp reservations lists cs n b l c d =
      record {
        bos = subst (λ x. AreBos script s.core.buffers reservations s.last_jobs x) (sym b)
            (record { buffers_are = t.bos.buffers_are; reservations_are = refl; fences_are = t.bos.fences_are; pages_are = t.bos.pages_are });
        timeline = t.timeline;
        rings = t.rings;
        ghosts = t.ghosts;
        vram = t.vram;
        tt = t.tt;
        pool = t.pool;
        swap = t.swap;
        stores = t.stores;
        lists = l;
        courses = c;
        stamp = d;
        ghost = t.ghost;
        no_more = t.no_more;
      }

  -- entries that change one buffer, which stands where it stood, with its frames and slots; its fences and targets are told apart
  pub placed_represented : (f : Buffer → Buffer) → KeepsPlaces f → (b : BufId) (bos : Bos) (v : Vram) (r : Resources) → AreBos script (changed f s.core.buffers b) s.reservations s.last_jobs bos →
      IsVram script.sizes s.last_jobs (changed f s.core.buffers b) s.core.ghosts s.core.move_fence v → IsTt script.sizes (changed f s.core.buffers b) s.core.ghosts r →
      Represents script (pages.with_changed f b s) bytes (record p { bos = bos; vram = v; tt = r })
  placed_represented f keeps b bos v r table vram tt =
      let bs = s.core.buffers in
      record {
        bos = table;
        timeline = t.timeline;
        rings = t.rings;
        ghosts = t.ghosts;
        vram = vram;
        tt = tt;
        pool = subst (λ held. ArePooled script.sizes.frames (held ++ ghost_frames s.core) p.pool) (sym (frames_kept f keeps bs b)) t.pool;
        swap = subst (λ held. AreSlots script.sizes.swap held bytes p.swap) (sym (slots_kept f keeps bs b)) t.swap;
        stores = subst (λ maps. AreStores script.sizes (λ page. option_map (λ e. e.1) (find (λ e. e.0 == page) (maps ++ flat_map (λ (g : Ghost). zip (pages_of g.tt) g.frames) s.core.ghosts))) bytes p.stores) (sym (maps_kept f keeps bs b)) t.stores;
        lists = changed_unseen script f bs s.reservations s.lists p.lru b keeps.mem t.lists;
        courses = t.courses;
        stamp = t.stamp;
        ghost = t.ghost;
        no_more = t.no_more;
      }

  -- where the fences stay, too
  pub changed_represented : (f : Buffer → Buffer) → LeavesInPlace f → (b : BufId) (bos : Bos) (v : Vram) (r : Resources) → bos ≡ with_changed f p.bos b →
      IsVram script.sizes s.last_jobs (changed f s.core.buffers b) s.core.ghosts s.core.move_fence v → IsTt script.sizes (changed f s.core.buffers b) s.core.ghosts r →
      Represents script (pages.with_changed f b s) bytes (record p { bos = bos; vram = v; tt = r })
  changed_represented f keeps b bos v r e vram tt =
      placed_represented f keeps.places b bos v r (changed_bos f keeps.fences keeps.past script s.core.buffers s.reservations s.last_jobs p.bos t.bos b bos e) vram tt
