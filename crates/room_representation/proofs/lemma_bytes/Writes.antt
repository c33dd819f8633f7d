-- The bytes of a write, page by page: each call puts those of one page, and all of them make the write.
use Rattle.std.proofs.Common.{◌≡◌, ℕ, suc, ◌+◌, ◌-◌, ◌/◌, ◌%◌, ◌≤◌, Bool, true, false, inl, inr, List, [], ◌∷◌, ◌++◌, Option, Some, None, length, get_or, refl, ap, sym, subst, ◌∙◌, arith, if◌then◌else◌}
use Rattle.std.specs.Prelude.{◌&&◌, nat_le, nat_lt, slice_index}
use Rattle.std.proofs.lemmas.Bool.{cases_lt}
use Rattle.std.proofs.lemmas.Bool.Decides.{nat_tests}
use Rattle.ttm_base.specs.declared.Actor.{Actor}
use Rattle.ttm_base.specs.declared.BufId.{BufId}
use Rattle.ttm_base.specs.Pages.{Page, PageBytes, Aperture, same_page, with_bytes}
use Rattle.copy_packet.specs.Spots.{after_write, spot_at}
use Rattle.copy_packet.specs.StoreBytes.{IsThere}
use Rattle.copy_packet.specs.declared.stores.Stores.{Stores}
use Rattle.journal_model.specs.declared.script.Script.{Script}
use Rattle.journal_model.specs.declared.script.Sizes.{Sizes}
use Rattle.journal_model.specs.declared.script.Command.{Command}
use Rattle.journal_model.specs.declared.script.Command.TheVariants as command
use Rattle.journal_model.specs.declared.entry.Kind.TheVariants as kind
use Rattle.journal_model.specs.declared.entry.Shown.{Shown}
use Rattle.journal_model.specs.declared.state.Buffer.{Buffer}
use Rattle.journal_model.specs.declared.state.State.{State}
use Rattle.journal_model.specs.rules.State.{buffer}
use Rattle.journal_model.specs.rules.Commands.{command_at_work}
use Rattle.journal_model.specs.rules.Places.{page_at, aperture}
use Rattle.journal_model.specs.rules.Stores.{put_bytes, written}
use Rattle.journal_model.specs.rules.Apply.{thread_of}
use Rattle.room_representation.specs.Pages.{AreStores}
use Rattle.room_representation.specs.lemma_bytes.Mapped.{HasStores, HasStoresAfter}
use Rattle.room_representation.proofs.lemma_bytes.Bytes.{stores_within, stores_written}

-- first some bytes, and then others after them
put_bytes-append : (x : Buffer) (off : ℕ) (xs ys : List ℕ) (bytes : PageBytes) → put_bytes x off (xs ++ ys) bytes ≡ put_bytes x (off + length xs) ys (put_bytes x off xs bytes)
put_bytes-append x off [] ys bytes = let e : off ≡ off + 0 = omega arith in ap (λ n. put_bytes x n ys bytes) e
put_bytes-append x off (b ∷ xs) ys bytes =
    let next = with_bytes bytes (page_at x (off / 4096)) (off % 4096) 1 (λ i. b) in
    let e : off + 1 + length xs ≡ off + suc (length xs) = omega arith in
    put_bytes-append x (off + 1) xs ys next ∙ ap (λ n. put_bytes x n ys (put_bytes x (off + 1) xs next)) e

-- ---- on one page

one_cell : (s : Bool) (b off o old : ℕ) → (if s && nat_le off o && nat_lt o (off + 1) then b else old) ≡ (if s && nat_le off o && nat_lt o (off + 1) then get_or (b ∷ []) (o - off) 0 else old)
one_cell false b off o old = refl
one_cell true b off o old =
    elim (cases_lt o off) [
      | inl below ↦ grind (arith, nat_tests)
      | inr from ↦ elim (cases_lt off o) [
        | inl above ↦ grind (arith, nat_tests)
        | inr to ↦ let e : o - off ≡ 0 = omega arith in let g : get_or (b ∷ []) (o - off) 0 ≡ b = ap (λ k. get_or (b ∷ []) k 0) e in grind (arith, nat_tests, g)
      ]
    ]

more_cells : (s : Bool) (bs : List ℕ) (b off o old : ℕ) →
    (if s && nat_le (off + 1) o && nat_lt o (off + 1 + length bs) then get_or bs (o - (off + 1)) 0 else (if s && nat_le off o && nat_lt o (off + 1) then b else old))
    ≡ (if s && nat_le off o && nat_lt o (off + suc (length bs)) then get_or (b ∷ bs) (o - off) 0 else old)
more_cells false bs b off o old = refl
more_cells true bs b off o old =
    elim (cases_lt o off) [
      | inl below ↦ grind (arith, nat_tests)
      | inr from ↦ elim (cases_lt off o) [
        | inl above ↦
            let e : o - off ≡ suc (o - (off + 1)) = omega arith in
            let g : get_or (b ∷ bs) (o - off) 0 ≡ get_or bs (o - (off + 1)) 0 = ap (λ k. get_or (b ∷ bs) k 0) e in
            grind (arith, nat_tests, g)
        | inr to ↦ let e : o - off ≡ 0 = omega arith in let g : get_or (b ∷ bs) (o - off) 0 ≡ b = ap (λ k. get_or (b ∷ bs) k 0) e in grind (arith, nat_tests, g)
      ]
    ]

none_cell : (s : Bool) (off o value old : ℕ) → old ≡ (if s && nat_le off o && nat_lt o (off + 0) then value else old)
none_cell false off o value old = refl
none_cell true off o value old = grind (arith, nat_tests)

-- bytes that stay on one page are one write
put_on_page : (x : Buffer) (off : ℕ) (xs : List ℕ) (bytes : PageBytes) → off % 4096 + length xs ≤ 4096 →
    put_bytes x off xs bytes ≡ with_bytes bytes (page_at x (off / 4096)) (off % 4096) (length xs) (slice_index xs)
put_on_page x off [] bytes h = λ i p o. none_cell (same_page p (page_at x (off / 4096))) (off % 4096) o 0 (bytes p o) i
put_on_page x off (b ∷ []) bytes h = λ i p o. one_cell (same_page p (page_at x (off / 4096))) b (off % 4096) o (bytes p o) i
put_on_page x off (b ∷ c ∷ xs) bytes h =
    let page = page_at x (off / 4096) in
    let next = with_bytes bytes page (off % 4096) 1 (λ i. b) in
    let same : (off + 1) / 4096 ≡ off / 4096 = omega arith in
    let more : (off + 1) % 4096 ≡ off % 4096 + 1 = omega arith in
    let rest = put_on_page x (off + 1) (c ∷ xs) next (omega arith) in
    let moved : with_bytes next (page_at x ((off + 1) / 4096)) ((off + 1) % 4096) (suc (length xs)) (slice_index (c ∷ xs)) ≡ with_bytes next page (off % 4096 + 1) (suc (length xs)) (slice_index (c ∷ xs)) =
    λ i. with_bytes next (page_at x (same i)) (more i) (suc (length xs)) (slice_index (c ∷ xs)) in
    rest ∙ moved ∙ (λ i p o. more_cells (same_page p page) (c ∷ xs) b (off % 4096) o (bytes p o) i)

-- ---- the stores

-- a step of the loop: some bytes are put, and more of them that lie on one page
pub write_step : (sizes : Sizes) (aper : Aperture) (bytes : PageBytes) (s new : Stores) (x : Buffer) (off : ℕ) (done xs : List ℕ) (page : Page)
    → AreStores sizes aper (put_bytes x off done bytes) s → page_at x ((off + length done) / 4096) ≡ page → IsThere s page → (off + length done) % 4096 + length xs ≤ 4096
    → new ≡ after_write s (spot_at page ((off + length done) % 4096)) xs → AreStores sizes aper (put_bytes x off (done ++ xs) bytes) new
write_step sizes aper bytes s new x off done xs page t at there fits is =
    let mid = put_bytes x off done bytes in
    let o = (off + length done) % 4096 in
    let e : put_bytes x off (done ++ xs) bytes ≡ with_bytes mid page o (length xs) (slice_index xs) =
    put_bytes-append x off done xs bytes ∙ put_on_page x (off + length done) xs mid fits ∙ ap (λ q. with_bytes mid q o (length xs) (slice_index xs)) at in
    subst (λ (b : PageBytes). AreStores sizes aper b new) (sym e) (stores_written sizes aper mid s t o xs fits page (length xs) (slice_index xs) new there refl (λ i l. refl) is)

module _ (script : Script) (s : State) (bytes : PageBytes) (who : Actor) (r : Shown) where
  -- the result of a write whose bytes were all put
  pub write_stores : (st : Stores) (b : BufId) (off : ℕ) (values : List ℕ) → command_at_work script s (thread_of who) ≡ Some (command.Write b off values)
      → HasStores script s (put_bytes (buffer s b) off values bytes) st → HasStoresAfter script s bytes who (kind.Result r) st
  write_stores st b off values at t =
      stores_within script.sizes (aperture s.core) (written s (command_at_work script s (thread_of who)) bytes) st
      (subst (λ (o : Option Command). AreStores script.sizes (aperture s.core) (written s o bytes) st) (sym at) t)

  unwritten : (o : Option Command) → ((b : BufId) (off : ℕ) (values : List ℕ) → o ≡ Some (command.Write b off values) → ⊥) → written s o bytes ≡ bytes
  unwritten None never = refl
  unwritten (Some (command.Write b off values)) never = absurd (never b off values refl)
  unwritten (Some cmd) never = refl

  -- the result of any other command
  pub result_stores : (st : Stores) → ((b : BufId) (off : ℕ) (values : List ℕ) → command_at_work script s (thread_of who) ≡ Some (command.Write b off values) → ⊥)
      → HasStores script s bytes st → HasStoresAfter script s bytes who (kind.Result r) st
  result_stores st never t =
      stores_within script.sizes (aperture s.core) (written s (command_at_work script s (thread_of who)) bytes) st
      (subst (λ (b : PageBytes). AreStores script.sizes (aperture s.core) b st) (sym (unwritten (command_at_work script s (thread_of who)) never)) t)
