-- The bytes of a write in the stores, and what stays beside them.
use Rattle.std.proofs.Common.{◌≡◌, ℕ, zero, suc, ◌+◌, ◌-◌, ◌*◌, ◌/◌, ◌%◌, ◌^◌, ◌<◌, ◌≤◌, true, List, [], ◌∷◌, ◌++◌, drop, length, take, refl, sym, ◌∙◌, ap, subst, arith}
use Rattle.std.specs.Prelude.{◌&&◌, nat_lt, option_and_then, slice_range, if◌then◌else◌}
use Rattle.ttm_base.specs.declared.BufId.{BufId}
use Rattle.ttm_base.specs.declared.Mem.{Mem}
use Rattle.ttm_base.specs.declared.Mem.TheVariants.{System, Tt, Vram}
use Rattle.ttm_base.specs.Pages.{Page, nowhere, vram, frame, slot, PageBytes, with_bytes}
use Rattle.copy_packet.specs.declared.stores.Stores.{Stores}
use Rattle.copy_packet.specs.Spots.{after_write, spot_at}
use Rattle.copy_packet.specs.StoreBytes.{IsThere}
use Rattle.bo_table.specs.declared.bo.Bo.{Bo}
use Rattle.bo_table.specs.Seen.{Bos, IsBo}
use Rattle.swap_store.specs.Slots.{SwapSlots}
use Rattle.journal_model.specs.declared.script.Sizes.{Sizes}
use Rattle.journal_model.specs.declared.script.Command.{Command}
use Rattle.journal_model.specs.declared.script.Command.TheVariants as command
use Rattle.journal_model.specs.declared.state.Buffer.{Buffer}
use Rattle.journal_model.specs.rules.Places.{page_at, page_in}
use Rattle.journal_model.specs.rules.Stores.{is_there, put_bytes, within}
use Rattle.room_representation.specs.Bos.{unfenced}
use Rattle.room_representation.specs.Pages.{AreSlots, AreStores, HasNoMore}
use Rattle.room_representation.specs.lemma_bytes.Shown.{is_in_stores}
use Rattle.room_representation.proofs.lemma_jobs.Packets.{within_same}
use Rattle.room_representation.specs.steps.Lent.{as_buffer}
use Rattle.room_representation.proofs.steps.Lent.{body_is}
use Rattle.room_representation.proofs.lemma_bytes.Writes.{write_step}
use Rattle.room_jobs.specs.Bodies.{body_at}
use Rattle.room_jobs.specs.Writes.{CanWrite, HavePages, HasPut, HasWritten}

-- ---- a buffer without its fences has its pages where it had them

pub page_unfenced : (x : Buffer) (i : ℕ) → page_at (unfenced x) i ≡ page_at x i
page_unfenced x i = by x.mem
  where
    by : (m : Mem) → page_in m (unfenced x) i ≡ page_in m x i
    by Vram = refl
    by Tt = refl
    by System = refl

pub put_unfenced : (x : Buffer) (off : ℕ) (values : List ℕ) (bytes : PageBytes) → put_bytes (unfenced x) off values bytes ≡ put_bytes x off values bytes
put_unfenced x off [] bytes = refl
put_unfenced x off (v ∷ values) bytes =
    ap (λ page. put_bytes (unfenced x) (off + 1) values (with_bytes bytes page (off % 4096) 1 (λ i. v))) (page_unfenced x (off / 4096))
    ∙ put_unfenced x (off + 1) values (with_bytes bytes (page_at x (off / 4096)) (off % 4096) 1 (λ i. v))

-- ---- slots keep their bytes

kept_by : (bytes : PageBytes) (at : Page) (off len : ℕ) (f : ℕ → ℕ) (k o : ℕ) → is_in_stores at ≡ true → with_bytes bytes at off len f (slot k) o ≡ bytes (slot k) o
kept_by bytes nowhere off len f k o r = refl
kept_by bytes (vram p) off len f k o r = refl
kept_by bytes (frame p) off len f k o r = refl
kept_by bytes (slot p) off len f k o r = cc

-- bytes that are put in VRAM and in frames are put in no slot
pub slots_put : (x : Buffer) (off : ℕ) (values : List ℕ) (bytes : PageBytes) → ((i : ℕ) → 4096 * i < off + length values → is_in_stores (page_at x i) ≡ true) → (k o : ℕ) → put_bytes x off values bytes (slot k) o ≡ bytes (slot k) o
slots_put x off [] bytes h k o = refl
slots_put x off (v ∷ values) bytes h k o =
    slots_put x (off + 1) values (with_bytes bytes (page_at x (off / 4096)) (off % 4096) 1 (λ i. v)) (λ i l. h i (omega (arith, l))) k o
    ∙ kept_by bytes (page_at x (off / 4096)) (off % 4096) 1 (λ i. v) k o (h (off / 4096) (omega arith))

-- so the swap store has those after the entry
pub slots_kept : (sizes : Sizes) (named : List ℕ) (bytes new : PageBytes) (s : SwapSlots) → HasNoMore sizes bytes → ((k o : ℕ) → new (slot k) o ≡ bytes (slot k) o) → AreSlots sizes.swap named bytes s →
    AreSlots sizes.swap named (within sizes new) s
slots_kept sizes named bytes new s none same t =
    record {
      held_are = t.held_are;
      bytes_are = λ k o e.
          t.bytes_are k o e ∙ sym (ap (λ (b : PageBytes). b (slot k) o) (within_same sizes bytes none))
          ∙ sym (ap (λ n. if is_there sizes (slot k) && nat_lt o 4096 then n else 0) (same k o));
    }

-- ---- the pages stay

there_kept : (old new : Stores) → length new.vram ≡ length old.vram → length new.frames ≡ length old.frames → (page : Page) → IsThere old page → IsThere new page
there_kept old new v f nowhere h = absurd h
there_kept old new v f (vram p) h = let m : 4096 * p + 4096 ≤ length old.vram = h in omega (arith, v, m)
there_kept old new v f (frame p) h = let m : 4096 * p + 4096 ≤ length old.frames = h in omega (arith, f, m)
there_kept old new v f (slot k) h = absurd h

pub pages_kept : (old new : Stores) (x : Buffer) (end : ℕ) → length new.vram ≡ length old.vram → length new.frames ≡ length old.frames → HavePages old x end → HavePages new x end
pages_kept old new x end v f h i l = there_kept old new v f (page_at x i) (h i l)

-- ---- page by page

nothing_taken : (m : ℕ) → take {A = ℕ} m [] ≡ []
nothing_taken zero = refl
nothing_taken (suc m) = refl

taken_more : (xs : List ℕ) (n m : ℕ) → take n xs ++ take m (drop n xs) ≡ take (n + m) xs
taken_more xs zero m = let e : m ≡ 0 + m = omega arith in ap (λ k. take k xs) e
taken_more [] (suc n) m = nothing_taken m ∙ sym (nothing_taken (suc n + m))
taken_more (x ∷ xs) (suc n) m = ap (λ l. x ∷ l) (taken_more xs n m) ∙ (let e : suc (n + m) ≡ suc n + m = omega arith in ap (λ k. take k (x ∷ xs)) e)

length_taken : (xs : List ℕ) (n : ℕ) → n ≤ length xs → length (take n xs) ≡ n
length_taken xs zero h = refl
length_taken [] (suc n) h = absurd (omega (arith, h))
length_taken (x ∷ xs) (suc n) h = ap suc (length_taken xs n (omega (arith, h)))

length_left : (xs : List ℕ) (n : ℕ) → length (drop n xs) ≡ length xs - n
length_left xs zero = omega arith
length_left [] (suc n) = omega arith
length_left (x ∷ xs) (suc n) = let rest = length_left xs n in omega (arith, rest)

-- after the bytes that were put, those of one page more are put
pub put_more : (x : Buffer) (off : ℕ) (bytes : List ℕ) (done len : ℕ) (old mid new : Stores) → HasPut x off (take done bytes) old mid → done + len ≤ length bytes → (off + done) % 4096 + len ≤ 4096 → IsThere mid (page_at x ((off + done) / 4096)) →
    new ≡ after_write mid (spot_at (page_at x ((off + done) / 4096)) ((off + done) % 4096)) (slice_range bytes done (done + len)) → HasPut x off (take (done + len) bytes) old new
put_more x off bytes done len old mid new h inside fits there is sizes aper b t =
    let front : length (take done bytes) ≡ done = length_taken bytes done (omega (arith, inside)) in
    let some : done + len - done ≡ len = omega arith in
    let part : slice_range bytes done (done + len) ≡ take len (drop done bytes) = ap (λ n. take n (drop done bytes)) some in
    let left = length_left bytes done in
    let long : length (slice_range bytes done (done + len)) ≡ len = ap length part ∙ length_taken (drop done bytes) len (omega (arith, inside, left)) in
    let page = page_at x ((off + done) / 4096) in
    let place : (off + length (take done bytes)) % 4096 ≡ (off + done) % 4096 = ap (λ n. (off + n) % 4096) front in
    let all : take done bytes ++ slice_range bytes done (done + len) ≡ take (done + len) bytes = ap (λ l. take done bytes ++ l) part ∙ taken_more bytes done len in
    subst (λ l. AreStores sizes aper (put_bytes x off l b) new) all
    (write_step sizes aper b mid new x off (take done bytes) (slice_range bytes done (done + len)) page (h sizes aper b t) (ap (λ n. page_at x ((off + n) / 4096)) front) there (omega (arith, fits, long, place))
    (is ∙ ap (λ n. after_write mid (spot_at page n) (slice_range bytes done (done + len))) (sym place)))

-- ---- the buffer that is lent

module _ (bos : Bos) (st : Stores) (b : BufId) (off : ℕ) (values : List ℕ) (can : CanWrite bos st b off values) (bo : Bo) (lent : IsBo bos b bo) where
  lent_body : as_buffer bo ≡ body_at bos b
  lent_body = body_is bo (body_at bos b) (sym (ap (option_and_then (λ x. x)) lent.body) ∙ can.live)

  pub lent_pages : (bytes : List ℕ) → bytes ≡ values → HavePages st (as_buffer bo) (off + length bytes)
  lent_pages bytes e = subst (λ l. HavePages st (as_buffer bo) (off + length l)) (sym e) (subst (λ x. HavePages st x (off + length values)) (sym lent_body) can.pages)

  pub lent_short : (bytes : List ℕ) → bytes ≡ values → off + length bytes < 2 ^ 32
  lent_short bytes e = subst (λ l. off + length l < 2 ^ 32) (sym e) can.short

  -- a write is put
  pub lent_put : (bytes : List ℕ) → bytes ≡ values → (new : Stores) → HasPut (as_buffer bo) off bytes st new → (cmd : Command) → cmd ≡ command.Write b off values → HasWritten bos cmd st new
  lent_put bytes e new h cmd is =
      subst (λ (c : Command). HasWritten bos c st new) (sym is)
      (subst (λ x. HasPut x off values st new) lent_body (subst (λ l. HasPut (as_buffer bo) off l st new) e h))
