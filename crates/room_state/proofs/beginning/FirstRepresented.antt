-- The first parts tell the first state: no buffer is live, no job was emitted, and nothing is held.
use Rattle.std.proofs.Common.{◌≡◌, ℕ, zero, suc, ◌+◌, ◌*◌, ◌≤◌, Bool, true, false, List, [], ◌∷◌, ◌++◌, Option, None, IsTrue, refl, sym, ◌∙◌, ap, subst, arith, length, replicate}
use Rattle.std.specs.Prelude.{◌==◌, filter_map, find, flat_map, map, nat_lt, option_map, slice_get, slice_index, unwrap_or, if◌then◌else◌}
use Rattle.std.proofs.lemmas.Bool.Decides.{nat_tests}
use Rattle.std.proofs.lemmas.List.{length-replicate}
use Rattle.ttm_base.specs.declared.Mem.TheVariants.{Tt, Vram}
use Rattle.byte_store.specs.Parts.{filled}
use Rattle.copy_packet.specs.StoreBytes.{byte_at}
use Rattle.bo_table.specs.Seen.{first_bos}
use Rattle.journal_model.specs.declared.script.Script.{Script}
use Rattle.journal_model.specs.declared.script.Decl.{Decl}
use Rattle.journal_model.specs.declared.state.Buffer.{Buffer}
use Rattle.journal_model.specs.declared.state.State.{State}
use Rattle.journal_model.specs.scripts.ScriptRules.{is_script}
use Rattle.journal_model.specs.rules.Places.{mapped_in, aperture}
use Rattle.journal_model.specs.rules.Legal.{first_state}
use Rattle.journal_model.specs.rules.Stores.{zeros}
use Rattle.room_representation.proofs.lemma_lists.ScriptLaws.{first_lists}
use Rattle.room_representation.specs.lemma_spans.Owned.{kind_of}
use Rattle.room_representation.proofs.lemma_spans.First.{first_spans}
use Rattle.room_representation.specs.declared.parts.Ghost.{Ghost}
use Rattle.room_representation.specs.declared.parts.Parts.{Parts}
use Rattle.room_representation.specs.Bos.{AreBos, unfenced}
use Rattle.room_representation.specs.Managers.{IsVram}
use Rattle.room_representation.specs.Pages.{AreStores}
use Rattle.room_representation.specs.Represents.{Represents}
use Rattle.room_representation.specs.Held.{AreHeld}
use Rattle.room_representation.proofs.lemma_jobs.First.{first_timeline, first_rings, first_fences, first_move}
use Rattle.room_representation.proofs.lemma_bytes.First.{first_pool, first_slots}
use Rattle.room_state.specs.declared.beginning.first.Buffers.{Buffers}
use Rattle.room_state.specs.declared.beginning.first.Memory.{Memory}
use Rattle.room_state.specs.declared.beginning.first.Work.{Work}
use Rattle.room_state.specs.beginning.First.{contexts_of, first_buffers, first_memory, first_stores, first_work, free_pages}

-- ---- buffers

-- dead buffers have no fence to leave out
dead_unfenced : (decls : List Decl) → map (λ d. None) decls ≡ map (option_map unfenced) (map (λ d. None) decls)
dead_unfenced [] = refl
dead_unfenced (d ∷ ds) = ap (λ xs. None ∷ xs) (dead_unfenced ds)

-- all buffers are dead
first_table : (script : Script) (n : ℕ) → AreBos script (first_state script).core.buffers (first_state script).reservations (replicate n 0) (first_bos script.buffers n)
first_table script n = record { buffers_are = dead_unfenced script.buffers; reservations_are = refl; fences_are = first_fences n script.buffers; pages_are = refl }

-- ---- pages

-- each page of VRAM is free
first_vram : (script : Script) (last : List ℕ) →
    IsVram script.sizes last (first_state script).core.buffers [] None (record { kind = kind_of script.sizes.buddy; resources = free_pages script.sizes.vram })
first_vram script last = record { rule = refl; held_as = first_spans script.sizes.vram Vram script.buffers None; fence = first_move last }

-- ---- bytes

-- each item of a list of one thing repeated is that thing
all_alike : {X : Type 0} (n i : ℕ) (x : X) → unwrap_or (slice_get (replicate n x) i) x ≡ x
all_alike zero i x = refl
all_alike (suc n) zero x = refl
all_alike (suc n) (suc i) x = all_alike n i x

-- a byte that is read from zeros
zero_read : (n i : ℕ) → slice_index (replicate n 0) i ≡ 0
zero_read zero i = refl
zero_read (suc n) zero = refl
zero_read (suc n) (suc i) = zero_read n i

-- bytes that are one byte
filled_is : (n byte : ℕ) → filled n byte ≡ replicate n byte
unfolding filled
filled_is n byte = refl

-- as many as they are
filled_length : (n byte : ℕ) → length (filled n byte) ≡ n
filled_length n byte = ap length (filled_is n byte) ∙ length-replicate n byte

-- each byte is zero
zero_byte : (n page o : ℕ) → byte_at (filled n 0) page o ≡ 0
zero_byte n page o = ap (λ bytes. byte_at bytes page o) (filled_is n 0) ∙ by (nat_lt o 4096)
  where
    by : (b : Bool) → (if b then slice_index (replicate n 0) (4096 * page + o) else 0) ≡ 0
    by true = zero_read n (4096 * page + o)
    by false = refl

-- none of them is there to be mapped
none_mapped : (decls : List Decl) → filter_map (λ (x : Option Buffer). x) (map (λ d. None) decls) ≡ []
none_mapped [] = refl
none_mapped (d ∷ ds) = none_mapped ds

-- no page of TT is mapped
none_reached : (script : Script) (page : ℕ) → aperture (first_state script).core page ≡ None
none_reached script page =
    ap (λ xs. option_map (λ (e : ℕ × ℕ). e.1) (find (λ e. e.0 == page) (flat_map (λ (x : Buffer). mapped_in x.mem x) xs ++ []))) (none_mapped script.buffers)

-- all bytes are zero
first_bytes : (script : Script) → AreStores script.sizes (aperture (first_state script).core) zeros (first_stores script.sizes)
first_bytes script =
    record {
      vram_size = filled_length (4096 * script.sizes.vram) 0;
      frame_size = filled_length (4096 * script.sizes.frames) 0;
      aper_size = length-replicate script.sizes.tt None;
      in_vram = λ p o. zero_byte (4096 * script.sizes.vram) p o;
      in_frames = λ f o. zero_byte (4096 * script.sizes.frames) f o;
      mapped = λ p. all_alike script.sizes.tt p None ∙ sym (none_reached script p);
    }

-- ---- sizes

-- a script has few engines
pub few_engines : (script : Script) → IsTrue (is_script script) → script.sizes.engines ≤ 8
few_engines script h = grind (arith, nat_tests)

-- and few buffers
pub few_buffers : (script : Script) → IsTrue (is_script script) → length script.buffers ≤ 256
few_buffers script h = grind (arith, nat_tests)

-- ---- all parts

-- all parts of these
abbrev parts_of : Buffers → Work → Memory → List Ghost → ℕ → Parts
parts_of buffers work memory ghosts tickets =
    record {
      bos = buffers.bos;
      timeline = work.timeline;
      rings = work.rings;
      ghosts = ghosts;
      vram = memory.vram;
      tt = memory.tt;
      pool = memory.pool;
      swap = memory.swap;
      stores = memory.stores;
      lru = buffers.lru;
      courses = work.courses;
      tickets = tickets;
      last_ghost = 0;
    }

-- all parts as they are made
abbrev first_of : Script → Parts
first_of script = parts_of (first_buffers script) (first_work script) (first_memory script.sizes) [] 0

-- they tell the first state
first_held : (script : Script) → IsTrue (is_script script) → AreHeld script [] (first_of script)
first_held script fits = record { fits = fits; legal = tt; represents = told }
  where
    s : State
    s = first_state script

    contexts : ℕ
    contexts = contexts_of script.sizes

    told : Represents script s zeros (first_of script)
    told =
        record {
          bos = first_table script contexts;
          timeline = first_timeline contexts;
          rings = first_rings contexts;
          ghosts = tt;
          vram = first_vram script s.last_jobs;
          tt = first_spans script.sizes.tt Tt script.buffers None;
          pool = first_pool script;
          swap = first_slots script (filled (4096 * script.sizes.swap) 0) (zero_byte (4096 * script.sizes.swap));
          stores = first_bytes script;
          lists = first_lists script;
          courses = refl;
          stamp = refl;
          ghost = refl;
          no_more = λ page o h. refl;
        }

-- so do those that were made
pub made_held : (script : Script) → IsTrue (is_script script) → (buffers : Buffers) (work : Work) (memory : Memory) (ghosts : List Ghost) (tickets : ℕ) →
    buffers ≡ first_buffers script → work ≡ first_work script → memory ≡ first_memory script.sizes → ghosts ≡ [] → tickets ≡ 0 →
    AreHeld script [] (parts_of buffers work memory ghosts tickets)
made_held script fits buffers work memory ghosts tickets b w m g t =
    subst (λ x. AreHeld script [] (parts_of x work memory ghosts tickets)) (sym b)
    (subst (λ x. AreHeld script [] (parts_of (first_buffers script) x memory ghosts tickets)) (sym w)
    (subst (λ x. AreHeld script [] (parts_of (first_buffers script) (first_work script) x ghosts tickets)) (sym m)
    (subst (λ x. AreHeld script [] (parts_of (first_buffers script) (first_work script) (first_memory script.sizes) x tickets)) (sym g)
    (subst (λ x. AreHeld script [] (parts_of (first_buffers script) (first_work script) (first_memory script.sizes) [] x)) (sym t)
    (first_held script fits)))))
