-- The pages of a buffer are there: in VRAM or in frames, where a command that is ready reads or writes bytes.
use Rattle.std.proofs.Common.{◌≡◌, ℕ, ◌<◌, true, refl, sym, ◌∙◌, ap, arith, length}
use Rattle.std.specs.Prelude.{slice_get, nat_lt, unwrap_or}
use Rattle.std.proofs.lemmas.Bool.Decides.{nat_tests}
use Rattle.ttm_base.specs.declared.BufId.{BufId}
use Rattle.ttm_base.specs.declared.Loc.TheVariants as loc
use Rattle.ttm_base.specs.declared.Mem.{Mem}
use Rattle.ttm_base.specs.declared.Mem.TheVariants.{System, Tt, Vram}
use Rattle.ttm_base.specs.Pages.{Page, nowhere, vram, frame, slot, PageBytes, Aperture}
use Rattle.copy_packet.specs.StoreBytes.{IsThere}
use Rattle.copy_packet.specs.declared.stores.Stores.{Stores}
use Rattle.journal_model.specs.declared.script.Script.{Script}
use Rattle.journal_model.specs.declared.state.Buffer.{Buffer}
use Rattle.journal_model.specs.declared.state.Core.{Core}
use Rattle.journal_model.specs.rules.State.{buffer_in}
use Rattle.journal_model.specs.rules.Places.{pages_of, page_at, page_in, page_in_vram, page_in_table}
use Rattle.journal_model.specs.rules.Stores.{is_there}
use Rattle.laws.proofs.law_owners.Law.{AreHeldOnce}
use Rattle.laws.specs.lemma_bytes_model.View.{Live}
use Rattle.laws.specs.law_holders.Holding.{seen}
use Rattle.laws.proofs.law_holders.There.{held_there}
use Rattle.laws.proofs.lemma_bytes_view.Tables.{get_at}
use Rattle.room_representation.specs.Pages.{AreStores}
use Rattle.room_representation.specs.lemma_bytes.Mapped.{IsFull}
use Rattle.room_representation.specs.lemma_bytes.Shown.{is_in_stores}
use Rattle.room_representation.proofs.lemma_bytes.Bytes.{frame_there, vram_there}

less : (x y : ℕ) → nat_lt x y ≡ true → x < y
less x y h = grind (arith, nat_tests)

-- ---- a page that stands somewhere is there

module _ (script : Script) (c : Core) (once : AreHeldOnce script c) (b : BufId) (i : ℕ) where
  there_so : (page : Page) → page_at (buffer_in c b) i ≡ page → (page ≡ nowhere → ⊥) → is_there script.sizes page ≡ true
  there_so page at some = held_there script c once page (Live b.0 i) (ap seen at) some

  -- a page of a buffer in VRAM or in a frame is a page of the stores
  pub page_there : (aper : Aperture) (bytes : PageBytes) (st : Stores) → AreStores script.sizes aper bytes st → (page : Page) → page_at (buffer_in c b) i ≡ page → is_in_stores page ≡ true
      → (page ≡ nowhere → ⊥) → IsThere st page
  page_there aper bytes st t nowhere at r some = absurd (some refl)
  page_there aper bytes st t (vram p) at r some = vram_there script.sizes aper bytes st t p (less p script.sizes.vram (there_so (vram p) at some))
  page_there aper bytes st t (frame f) at r some = frame_there script.sizes aper bytes st t f (less f script.sizes.frames (there_so (frame f) at some))
  page_there aper bytes st t (slot k) at r some = cc

-- ---- a buffer that is ready has each of its pages in VRAM or in a frame

-- a page in VRAM or in a frame
pub record IsReached (page : Page) : Type 0 where
  pub within : is_in_stores page ≡ true
  pub some : page ≡ nowhere → ⊥

in_vram : (page : Page) (p : ℕ) → page ≡ vram p → IsReached page
in_vram page p e = record { within = ap is_in_stores e; some = λ q. let z : vram p ≡ nowhere = sym e ∙ q in cc }

in_frame : (page : Page) (f : ℕ) → page ≡ frame f → IsReached page
in_frame page f e = record { within = ap is_in_stores e; some = λ q. let z : frame f ≡ nowhere = sym e ∙ q in cc }

-- each page below the table's length is reached
pub page_reached : (x : Buffer) (i : ℕ) → i < length x.table → ((x.mem ≡ Vram → ⊥) → IsFull x.table) → (x.mem ≡ Vram → length (pages_of x.spans) ≡ length x.table) → IsReached (page_at x i)
page_reached x i l full long = by x.mem refl
  where
    in_table : IsFull x.table → IsReached (page_in_table (unwrap_or (slice_get x.table i) loc.Zero))
    in_table f = let r = f i l in in_frame (page_in_table (unwrap_or (slice_get x.table i) loc.Zero)) r.0 (ap (λ o. page_in_table (unwrap_or o loc.Zero)) r.1)

    by : (m : Mem) → x.mem ≡ m → IsReached (page_in m x i)
    by Vram e =
        let many = long e in
        let r = get_at (pages_of x.spans) i (omega (arith, l, many)) in
        in_vram (page_in_vram (slice_get (pages_of x.spans) i)) r.0 (ap page_in_vram r.1)
    by Tt e = in_table (full (λ q. let z : Tt ≡ Vram = sym e ∙ q in cc))
    by System e = in_table (full (λ q. let z : System ≡ Vram = sym e ∙ q in cc))
