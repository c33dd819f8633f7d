-- Entries that emit no job and put no byte: pages get other owners, and buffers other fences.
use Rattle.std.proofs.Common.{◌≡◌, ℕ, Bool, true, List, Option, Some, None, refl, sym, subst, ◌∙◌, ap, ◌⊎◌, inl, inr, ⊎_elim}
use Rattle.std.specs.Prelude.{slice_get, drop, option_map, unwrap_or}
use Rattle.ttm_base.specs.declared.BufId.{BufId}
use Rattle.ttm_base.specs.Pages as pages
use Rattle.journal_model.specs.declared.script.Script.{Script}
use Rattle.journal_model.specs.declared.state.Core.{Core}
use Rattle.journal_model.specs.declared.state.Buffer.{Buffer}
use Rattle.journal_model.specs.declared.state.Ghost as ghosts
use Rattle.journal_model.specs.rules.State.{live_in, changed, new_buffer}
use Rattle.journal_model.specs.rules.Places.{aperture, place_of}
use Rattle.journal_model.specs.rules.PlainMemory.{Memory, OwedProbes}
use Rattle.laws.proofs.law_state.Lists.{live_changed}
use Rattle.laws.specs.lemma_bytes_model.Memory as memory
use Rattle.laws.specs.lemma_bytes_model.Memory.{Page, Nowhere, touched}
use Rattle.laws.specs.lemma_bytes_model.View.{View, Fences, Owner, Idle, Free, Live, Kept, Target, Ghost}
use Rattle.laws.specs.lemma_bytes_model.Entries.{retitled}
use Rattle.laws.specs.law_holders.Holding.{seen, live_at, kept_in, target_at, buffer_at, Holds, HeldOnce}
use Rattle.laws.proofs.law_holders.Owner.{owner_of, owner_same}
use Rattle.laws.proofs.lemma_bytes_view.World.{Seen, bare, IsChanging, IsUsing, IsGhostly}
use Rattle.laws.proofs.lemma_bytes_view.Apertures.{Spared, steps_same}

-- ---- one buffer was changed

-- each buffer is as it was, or changed
pub buffer_either : (f : Buffer → Buffer) (c : Core) (b : BufId) (e : ℕ) →
    (buffer_at (record c { buffers = changed f c.buffers b }) e ≡ buffer_at c e) ⊎ (buffer_at (record c { buffers = changed f c.buffers b }) e ≡ f (buffer_at c e))
buffer_either f c b e =
    ⊎_elim
    (λ h. inl (ap (λ o. unwrap_or o (new_buffer 0)) h))
    (λ h. by (live_in c.buffers (record { 0 = e })) refl h)
    (live_changed f c.buffers b (record { 0 = e }))
  where
    by : (o : Option Buffer) → live_in c.buffers (record { 0 = e }) ≡ o → live_in (changed f c.buffers b) (record { 0 = e }) ≡ option_map f (live_in c.buffers (record { 0 = e })) →
        (buffer_at (record c { buffers = changed f c.buffers b }) e ≡ buffer_at c e) ⊎ (buffer_at (record c { buffers = changed f c.buffers b }) e ≡ f (buffer_at c e))
    by None q h = inl (ap (λ o. unwrap_or o (new_buffer 0)) (h ∙ ap (option_map f) q) ∙ sym (ap (λ o. unwrap_or o (new_buffer 0)) q))
    by (Some x) q h = inr (ap (λ o. unwrap_or o (new_buffer 0)) (h ∙ ap (option_map f) q) ∙ ap f (sym (ap (λ o. unwrap_or o (new_buffer 0)) q)))

-- what a change of each buffer keeps is kept
pub kept_by : {A : Type 0} (h : Buffer → A) (f : Buffer → Buffer) → ((x : Buffer) → h (f x) ≡ h x) → (c : Core) (b : BufId) (e : ℕ) → h (buffer_at (record c { buffers = changed f c.buffers b }) e) ≡ h (buffer_at c e)
kept_by h f same c b e = ⊎_elim (λ q. ap h q) (λ q. ap h q ∙ same (buffer_at c e)) (buffer_either f c b e)

-- ---- the same holds

pub record SameHolds (c d : Core) : Type 0 where
  pub live : (b k : ℕ) → live_at (buffer_at d b) k ≡ live_at (buffer_at c b) k
  pub kept : (b k : ℕ) → kept_in (buffer_at d b).mem (buffer_at d b) k ≡ kept_in (buffer_at c b).mem (buffer_at c b) k
  pub target : (b k : ℕ) → target_at (buffer_at d b) k ≡ target_at (buffer_at c b) k
  pub ghosts : d.ghosts ≡ c.ghosts

holds_there : (c d : Core) → SameHolds c d → (x : Page) (o : Owner) → Holds c x o → Holds d x o
holds_there c d same x Idle h = h
holds_there c d same x Free h = h
holds_there c d same x (Live b k) h = same.live b k ∙ h
holds_there c d same x (Kept b k) h = same.kept b k ∙ h
holds_there c d same x (Target b k) h = same.target b k ∙ h
holds_there c d same x (Ghost n) h = (h.0, h.1, ap (λ (gs : List ghosts.Ghost). slice_get gs h.0) same.ghosts ∙ h.2, h.3, h.4)

turned : (c d : Core) → SameHolds c d → SameHolds d c
turned c d same = record { live = λ b k. sym (same.live b k); kept = λ b k. sym (same.kept b k); target = λ b k. sym (same.target b k); ghosts = sym same.ghosts }

pub owners_same : (c d : Core) → HeldOnce d → SameHolds c d → (x : Page) → owner_of d x ≡ owner_of c x
owners_same c d once same x = by x refl
  where
    at : (x : Page) → (x ≡ Nowhere → ⊥) → owner_of d x ≡ owner_of c x
    at x ne = owner_same c d once x ne (holds_there c d same x) (holds_there d c (turned c d same) x)

    by : (y : Page) → x ≡ y → owner_of d y ≡ owner_of c y
    by Nowhere e = refl
    by (memory.Vram n) e = at (memory.Vram n) (λ q. cc)
    by (memory.Frame n) e = at (memory.Frame n) (λ q. cc)
    by (memory.Slot n) e = at (memory.Slot n) (λ q. cc)
    by (memory.Own b i) e = at (memory.Own b i) (λ q. cc)

-- ---- the view after such an entry

pub record Retitled (script : Script) (c : Core) (v : View) (buffers : List (Option Buffer)) (left : List ghosts.Ghost) (f : Fences) : Type 0 where
  pub prior : f.prior ≡ v.fences.prior
  pub strong : (b j : ℕ) → f.strong b j ≡ true → IsChanging (record c { buffers = buffers; ghosts = left }) b j
  pub shared : (b j : ℕ) → f.shared b j ≡ true → IsUsing (record c { buffers = buffers; ghosts = left }) b j
  pub ghost : (n j : ℕ) → f.ghost n j ≡ true → IsGhostly (record c { buffers = buffers; ghosts = left }) n j
  pub mover : f.mover ≡ v.fences.mover
  pub place : (b i : ℕ) → place_of (record c { buffers = buffers; ghosts = left }) (record { 0 = b }) i ≡ place_of c (record { 0 = b }) i
  pub spared : (i p : ℕ) → Spared (aperture c) (aperture (record c { buffers = buffers; ghosts = left })) (touched (v.left i)) p

pub retitled_seen : (script : Script) (c : Core) (owed_probes : OwedProbes) (m : Memory) (stores : pages.PageBytes) (v : View) (buffers : List (Option Buffer)) (left : List ghosts.Ghost) (f : Fences) →
    Seen script c owed_probes m stores v → Retitled script c v buffers left f →
    Seen script (record c { buffers = buffers; ghosts = left }) owed_probes m stores (retitled f (owner_of (bare (record c { buffers = buffers; ghosts = left }))) v)
retitled_seen script c owed_probes m stores v buffers left f s r =
    record {
      count = s.count;
      left = λ i x e.
          let was = s.left i x e in
          was
          ∙ sym (steps_same (aperture c) (aperture (record c { buffers = buffers; ghosts = left })) (owed_probes x.id) x.ran (drop x.ran x.packets)
          (λ p. subst (λ l. Spared (aperture c) (aperture (record c { buffers = buffers; ghosts = left })) (touched l) p) was (r.spared i p)));
      begun = s.begun;
      done = s.done;
      prior = λ j i h. s.prior j i (ap (λ (g : ℕ → ℕ → Bool). g j i) (sym r.prior) ∙ h);
      strong = r.strong;
      shared = r.shared;
      ghost = r.ghost;
      mover = λ j h. let old = s.mover j (sym r.mover ∙ h) in record { job = old.job; at = old.at; is = old.is };
      place = λ b i. s.place b i ∙ ap seen (sym (r.place b i));
      owner = λ x. refl;
      there = s.there;
      stores = s.stores;
      cut = s.cut;
      plain = s.plain;
    }
