-- Which changes of buffers leave a page where it is.
use Rattle.std.proofs.Common.{◌≡◌, ℕ, true, false, List, [], ◌∷◌, Option, Some, None, refl, sym, subst, ◌∙◌, ap, ⊎_elim}
use Rattle.std.specs.Prelude.{fold, option_and_then, option_map, slice_get, slice_set, unwrap_or}
use Rattle.std.proofs.lemmas.Bool.{cases_eq}
use Rattle.ttm_base.specs.declared.BufId.{BufId}
use Rattle.ttm_base.specs.declared.JobId.{JobId}
use Rattle.ttm_base.specs.declared.Loc.{Loc}
use Rattle.ttm_base.specs.declared.Loc.TheVariants as loc
use Rattle.ttm_base.specs.declared.Mem.{Mem}
use Rattle.ttm_base.specs.declared.Mem.TheVariants.{System, Tt, Vram}
use Rattle.ttm_base.specs.declared.Op.{Op}
use Rattle.ttm_base.specs.declared.Usage.TheVariants as usage
use Rattle.journal_model.specs.declared.state.Buffer.{Buffer}
use Rattle.journal_model.specs.rules.State.{changed, live_in, new_buffer}
use Rattle.journal_model.specs.rules.Places.{is_frame, loc_of, page_at, page_in, page_in_table, page_in_vram, pages_of}
use Rattle.journal_model.specs.rules.Waits.{use_of}
use Rattle.journal_model.specs.rules.ApplyJobs.{with_use}
use Rattle.journal_model.specs.rules.ApplyPages.{with_fence, with_kernel_fences, with_loc}
use Rattle.journal_model.specs.rules.ApplyVictims.{leaves_tt}
use Rattle.laws.proofs.law_state.Lists.{set_at}

-- in SYSTEM the page has a frame
abbrev pub Settled : Buffer → ℕ → Type 0
Settled x i = x.mem ≡ System → is_frame (loc_of x i) ≡ true

-- a settled page stays where it is, and settled
abbrev pub Stays : Buffer → Buffer → ℕ → Type 0
Stays x y i = Settled x i → (page_at y i ≡ page_at x i) × Settled y i

pub stays_same : (x y : Buffer) (i : ℕ) → y ≡ x → Stays x y i
stays_same x y i e h = (ap (λ z. page_at z i) e, subst (λ z. Settled z i) (sym e) h)

stays_on : (x y z : Buffer) (i : ℕ) → Stays x y i → Stays y z i → Stays x z i
stays_on x y z i f g h = let a = f h in let b = g a.1 in (b.0 ∙ a.0, b.1)

-- a buffer that isn't live has no settled page
pub dead_stays : (o : Option Buffer) (n i : ℕ) → o ≡ None → Stays (unwrap_or o (new_buffer 0)) (new_buffer n) i
dead_stays None n i e h = let z : false ≡ true = h refl in cc
dead_stays (Some x) n i e h = cc

-- ---- changes that leave place and table

pub record Alike (x y : Buffer) : Type 0 where
  pub mem : y.mem ≡ x.mem
  pub spans : y.spans ≡ x.spans
  pub table : y.table ≡ x.table

page_alike : (x y : Buffer) (i : ℕ) (l : Mem) → Alike x y → page_in l y i ≡ page_in l x i
page_alike x y i Vram a = ap (λ spans. page_in_vram (slice_get (pages_of spans) i)) a.spans
page_alike x y i Tt a = ap (λ table. page_in_table (unwrap_or (slice_get table i) loc.Zero)) a.table
page_alike x y i System a = ap (λ table. page_in_table (unwrap_or (slice_get table i) loc.Zero)) a.table

pub stays_alike : (x y : Buffer) (i : ℕ) → Alike x y → Stays x y i
stays_alike x y i a h = (
  ap (λ l. page_in l y i) a.mem ∙ page_alike x y i x.mem a,
  λ e. ap (λ table. is_frame (unwrap_or (slice_get table i) loc.Zero)) a.table ∙ h (sym a.mem ∙ e),
)

-- fences
pub kernel_alike : (jobs : List JobId) (x y : Buffer) → Alike x y → Alike x (with_kernel_fences jobs y)
kernel_alike [] x y a = a
kernel_alike (j ∷ jobs) x y a = kernel_alike jobs x (with_fence j usage.Kernel y) (record { mem = a.mem; spans = a.spans; table = a.table })

-- the target of a victim
pub caught_alike : (l : Mem) (x : Buffer) → Alike x (leaves_tt l x)
caught_alike Tt x = record { mem = refl; spans = refl; table = refl }
caught_alike Vram x = record { mem = refl; spans = refl; table = refl }
caught_alike System x = record { mem = refl; spans = refl; table = refl }

-- ---- changes of a table

-- one of another page
pub stays_beside : (x : Buffer) (page i : ℕ) (l : Loc) → (page ≡ i → ⊥) → Stays x (with_loc page l x) i
stays_beside x page i l other h = (by x.mem, λ e. ap (λ o. is_frame (unwrap_or o loc.Zero)) kept ∙ h e)
  where
    kept : slice_get (slice_set x.table page l) i ≡ slice_get x.table i
    kept = ⊎_elim (λ q. q) (λ q. absurd (other q.0)) (set_at x.table page i l)

    by : (m : Mem) → page_in m (with_loc page l x) i ≡ page_in m x i
    by Vram = refl
    by Tt = ap (λ o. page_in_table (unwrap_or o loc.Zero)) kept
    by System = ap (λ o. page_in_table (unwrap_or o loc.Zero)) kept

system_vram : {l : Mem} → l ≡ Vram → l ≡ System → ⊥
system_vram e h = let z : Vram ≡ System = sym e ∙ h in cc

-- in VRAM the table says nothing of a place
pub stays_in_vram : (x y : Buffer) (i : ℕ) → x.mem ≡ Vram → y.mem ≡ x.mem → y.spans ≡ x.spans → Stays x y i
stays_in_vram x y i e m s h = (
  ap (λ l. page_in l y i) (m ∙ e) ∙ (ap (λ spans. page_in_vram (slice_get (pages_of spans) i)) s ∙ ap (λ l. page_in l x i) (sym e)),
  λ k. absurd (system_vram (m ∙ e) k),
)

-- the page may be filled: it has no frame, and isn't in TT
pub record IsOpen (x : Buffer) (page : ℕ) : Type 0 where
  pub elsewhere : x.mem ≡ Tt → ⊥
  pub unfilled : is_frame (loc_of x page) ≡ false

-- a page that is filled has no settled place
pub stays_filled : (x : Buffer) (page i : ℕ) (l : Loc) → IsOpen x page → Stays x (with_loc page l x) i
stays_filled x page i l may h = ⊎_elim (λ e. here e x.mem refl h) (λ d. stays_beside x page i l d h) (cases_eq page i)
  where
    clash : true ≡ false → ⊥
    clash k = cc

    here : page ≡ i → (m : Mem) → x.mem ≡ m → Stays x (with_loc page l x) i
    here e System m h = absurd (clash (sym (h m) ∙ (ap (λ n. is_frame (loc_of x n)) (sym e) ∙ may.unfilled)))
    here e Tt m h = absurd (may.elsewhere m)
    here e Vram m h = stays_in_vram x (with_loc page l x) i m refl refl h

-- ---- changes of one buffer among all

-- a buffer, where it is known to be live
abbrev pub buffer_among : List (Option Buffer) → BufId → Buffer
buffer_among buffers d = unwrap_or (live_in buffers d) (new_buffer 0)

pub set_stays : (buffers : List (Option Buffer)) (b d : BufId) (i : ℕ) (o : Option Buffer) → (b ≡ d → Stays (buffer_among buffers d) (unwrap_or o (new_buffer 0)) i) →
    Stays (buffer_among buffers d) (buffer_among (slice_set buffers b.0 o) d) i
set_stays buffers b d i o new =
    ⊎_elim
    (λ q. stays_same (buffer_among buffers d) (buffer_among (slice_set buffers b.0 o) d) i (ap (λ y. unwrap_or (option_and_then (λ x. x) y) (new_buffer 0)) q))
    (λ q.
    let now : live_in (slice_set buffers b.0 o) d ≡ o = ap (option_and_then (λ x. x)) q.1 in
    subst (λ y. Stays (buffer_among buffers d) (unwrap_or y (new_buffer 0)) i) (sym now) (new (ap (λ n. record { 0 = n }) q.0)))
    (set_at buffers b.0 d.0 o)

pub changed_stays : (f : Buffer → Buffer) (buffers : List (Option Buffer)) (b d : BufId) (i : ℕ) → (b ≡ d → (x : Buffer) → live_in buffers d ≡ Some x → Stays x (f x) i) →
    Stays (buffer_among buffers d) (buffer_among (changed f buffers b) d) i
changed_stays f buffers b d i keep = set_stays buffers b d i (option_map f (live_in buffers b)) (λ same. by same (live_in buffers d) refl)
  where
    by : b ≡ d → (o : Option Buffer) → live_in buffers d ≡ o → Stays (buffer_among buffers d) (unwrap_or (option_map f (live_in buffers b)) (new_buffer 0)) i
    by same o e =
        subst (λ y. Stays (unwrap_or y (new_buffer 0)) (unwrap_or (option_map f (live_in buffers b)) (new_buffer 0)) i) (sym e)
        (subst (λ y. Stays (unwrap_or o (new_buffer 0)) (unwrap_or (option_map f y) (new_buffer 0)) i) (sym (ap (live_in buffers) same ∙ e)) (at o e))
      where
        at : (o : Option Buffer) → live_in buffers d ≡ o → Stays (unwrap_or o (new_buffer 0)) (unwrap_or (option_map f o) (new_buffer 0)) i
        at None e = stays_same (new_buffer 0) (new_buffer 0) i refl
        at (Some x) e = keep same x e

-- the fences of a job
pub uses_stay : (job : JobId) (ops : List Op) (bs : List BufId) (buffers : List (Option Buffer)) (d : BufId) (i : ℕ) →
    Stays (buffer_among buffers d) (buffer_among (fold (with_use job ops) buffers bs) d) i
uses_stay job ops [] buffers d i = stays_same (buffer_among buffers d) (buffer_among buffers d) i refl
uses_stay job ops (b ∷ bs) buffers d i =
    stays_on (buffer_among buffers d) (buffer_among (with_use job ops buffers b) d) (buffer_among (fold (with_use job ops) buffers (b ∷ bs)) d) i
    (changed_stays (with_fence job (use_of ops b)) buffers b d i (λ same x at. stays_alike x (with_fence job (use_of ops b) x) i (record { mem = refl; spans = refl; table = refl })))
    (uses_stay job ops bs (with_use job ops buffers b) d i)
