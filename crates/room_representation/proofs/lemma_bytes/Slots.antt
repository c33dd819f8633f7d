-- The swap store after each kind of entry that gives a slot to a table, or takes one out of it: what it holds, and the bytes of all its slots.
use Rattle.std.proofs.Common.{◌≡◌, ℕ, ◌+◌, ◌-◌, ◌*◌, ◌<◌, ◌≤◌, Bool, true, false, List, [], ◌∷◌, length, Some, refl, sym, subst, ◌∙◌, ap, arith, ◌⊎◌, inl, inr, ⊎_elim}
use Rattle.std.specs.Prelude.{◌&&◌, nat_eq, nat_le, nat_lt, slice_get, slice_index, if◌then◌else◌}
use Rattle.std.proofs.lemmas.Bool.{cases_eq, cases_lt, eq-eqb, lt-ltb, ltb-true, ne_eqb}
use Rattle.std.proofs.lemmas.Bool.Decides.{nat_tests}
use Rattle.std.proofs.lemmas.Option.{slice_get_within}
use Rattle.ttm_base.specs.Pages.{PageBytes, slot}
use Rattle.byte_store.specs.Parts.{overwritten, part}
use Rattle.byte_store.proofs.PartLaws.{get_or-overwritten_below, get_or-overwritten_inside, get_or-overwritten_behind, get_or-part}
use Rattle.copy_packet.specs.StoreBytes.{byte_at}
use Rattle.journal_model.specs.declared.script.Script.{Script}
use Rattle.journal_model.specs.declared.script.Sizes.{Sizes}
use Rattle.journal_model.specs.rules.Stores.{within, with_page_bytes}
use Rattle.swap_store.specs.Slots.{SwapSlots}
use Rattle.laws.proofs.law_owners.Counts.{one, times}
use Rattle.laws.specs.law_owners.OneOwner.{AreOwned}
use Rattle.room_representation.specs.Pages.{AreSlots}
use Rattle.room_representation.specs.lemma_bytes.GivenBack.{given, given_back, taken}
use Rattle.room_representation.proofs.lemma_bytes.Marks.{length-marks, marks_same, marks_more, marks_less, marks_without, owned_once}

-- ---- the bytes of a slot

beyond : (bytes : List ℕ) (k o : ℕ) → nat_lt o 4096 ≡ false → byte_at bytes k o ≡ 0
beyond bytes k o h = ap (λ q. if q then slice_index bytes (4096 * k + o) else 0) h

-- where both have the byte of a slot that is there, it is left by the end of an entry
within_slot : (sizes : Sizes) (after : PageBytes) (bytes : List ℕ) (k o : ℕ) → k < sizes.swap → (o < 4096 → byte_at bytes k o ≡ after (slot k) o) → byte_at bytes k o ≡ within sizes after (slot k) o
within_slot sizes after bytes k o there same =
    by (nat_lt o 4096) refl ∙ ap (λ q. if q && nat_lt o 4096 then after (slot k) o else 0) (sym (lt-ltb k sizes.swap there))
  where
    by : (q : Bool) → nat_lt o 4096 ≡ q → byte_at bytes k o ≡ (if true && nat_lt o 4096 then after (slot k) o else 0)
    by true e = same (ltb-true o 4096 e) ∙ ap (λ q. if true && q then after (slot k) o else 0) (sym e)
    by false e = beyond bytes k o e ∙ ap (λ q. if true && q then after (slot k) o else 0) (sym e)

-- a slot that is taken, also one that was given back, has the bytes of its new page
pub new_page_in_slot : (bytes : List ℕ) (k : ℕ) (page : List ℕ) (o : ℕ) → length page ≡ 4096 → 4096 * k + 4096 ≤ length bytes → byte_at (overwritten bytes (4096 * k) page) k o ≡ byte_at page 0 o
new_page_in_slot bytes k page o whole fits = by (nat_lt o 4096) refl
  where
    by : (q : Bool) → nat_lt o 4096 ≡ q → (if q then slice_index (overwritten bytes (4096 * k) page) (4096 * k + o) else 0) ≡ (if q then slice_index page (4096 * 0 + o) else 0)
    by true e =
        let l : o < length page = let b = ltb-true o 4096 e in omega (arith, b, whole) in
        get_or-overwritten_inside bytes (4096 * k) page o 0 l (omega (arith, fits)) ∙ ap (slice_index page) (let z : o ≡ 4096 * 0 + o = omega arith in z)
    by false e = refl

-- ---- what is held now, and was held before

module _ (script : Script) (old : List ℕ) (bytes : PageBytes) (swap : SwapSlots) (representation : AreSlots script.sizes.swap old bytes swap) where
  abbrev size : ℕ
  size = script.sizes.swap

  -- a slot that is held is there
  pub held_below : (k : ℕ) → slice_get swap.held k ≡ Some true → k < size
  held_below k e =
      let inside = slice_get_within swap.held k true e in
      let long : length swap.held ≡ size = ap length representation.held_are ∙ length-marks old size in
      omega (arith, inside, long)

  -- what a slot that is held gives: the journal's bytes
  pub slot_shows : (k o : ℕ) → slice_get swap.held k ≡ Some true → length swap.bytes ≡ 4096 * length swap.held → o < 4096 → slice_index (part swap.bytes (4096 * k) 4096) o ≡ bytes (slot k) o
  slot_shows k o e long l =
      let inside = slice_get_within swap.held k true e in
      let fits : 4096 * k + 4096 ≤ length swap.bytes = omega (arith, inside, long) in
      get_or-part swap.bytes (4096 * k) 4096 o 0 l fits
      ∙ sym (ap (λ q. if q then slice_index swap.bytes (4096 * k + o) else 0) (lt-ltb o 4096 l))
      ∙ representation.bytes_are k o (held_below k e)

  module _ (new : List ℕ) (after : PageBytes) (quiet : (k o : ℕ) → after (slot k) o ≡ bytes (slot k) o) where
    kept : (k o : ℕ) → k < size → byte_at swap.bytes k o ≡ within script.sizes after (slot k) o
    kept k o there = within_slot script.sizes after swap.bytes k o there (λ l. representation.bytes_are k o there ∙ sym (quiet k o))

    -- the same slots are held
    pub slots_same : ((n : ℕ) → times n new ≡ times n old) → AreSlots size new (within script.sizes after) swap
    slots_same h = record { held_are = representation.held_are ∙ sym (marks_same old new size h); bytes_are = kept }

    -- one slot less is held
    pub slots_less : (j : ℕ) → AreOwned size old → ((n : ℕ) → times n old ≡ times n new + one (nat_eq n j)) → AreSlots size new (within script.sizes after) (record { held = given swap.held j; bytes = swap.bytes })
    slots_less j owned h = record {
      held_are = ap (λ p. given p j) representation.held_are ∙ sym (marks_less old new size j h (owned_once size old owned j));
      bytes_are = kept;
    }

    -- these slots are held no more
    pub slots_without : (js : List ℕ) → AreOwned size old → ((n : ℕ) → times n old ≡ times n new + times n js) → AreSlots size new (within script.sizes after) (record { held = given_back swap.held js; bytes = swap.bytes })
    slots_without js owned h = record {
      held_are = ap (λ p. given_back p js) representation.held_are ∙ sym (marks_without old new size js h (owned_once size old owned));
      bytes_are = kept;
    }

  -- ---- a slot more, with a page of bytes

  module _ (new : List ℕ) (j : ℕ) (page : List ℕ) (value : ℕ → ℕ) (below : j < size) (whole : length page ≡ 4096) (long : length swap.bytes ≡ 4096 * length swap.held)
      (same : (o : ℕ) → o < 4096 → slice_index page o ≡ value o) where
    abbrev put : List ℕ
    put = overwritten swap.bytes (4096 * j) page

    abbrev after : PageBytes
    after = with_page_bytes (slot j) value bytes

    fits : 4096 * j + 4096 ≤ length swap.bytes
    fits = let all : length swap.held ≡ size = ap length representation.held_are ∙ length-marks old size in omega (arith, all, below, long)

    -- its bytes are the new ones, whatever there was
    pub put_here : (o : ℕ) → o < 4096 → slice_index put (4096 * j + o) ≡ value o
    put_here o l =
        let room = fits in
        get_or-overwritten_inside swap.bytes (4096 * j) page o 0 (omega (arith, l, whole)) (omega (arith, room)) ∙ same o l

    put_there : (k o : ℕ) → (k ≡ j → ⊥) → o < 4096 → slice_index put (4096 * k + o) ≡ slice_index swap.bytes (4096 * k + o)
    put_there k o ne l = ⊎_elim (λ lt. under lt) (λ ge. over ge) (cases_lt k j)
      where
        under : k < j → slice_index put (4096 * k + o) ≡ slice_index swap.bytes (4096 * k + o)
        under lt = let room = fits in get_or-overwritten_below swap.bytes (4096 * j) page (4096 * k + o) 0 (omega (arith, lt, l)) (omega (arith, room))

        over : j ≤ k → slice_index put (4096 * k + o) ≡ slice_index swap.bytes (4096 * k + o)
        over ge =
            let room = fits in
            let more : j < k = ⊎_elim (λ lt. lt) (λ le. absurd (ne (omega (arith, ge, le)))) (cases_lt j k) in
            get_or-overwritten_behind swap.bytes (4096 * j) page (4096 * k + o) 0 (omega (arith, more, whole, l)) (omega (arith, room, whole))

    left_here : (o : ℕ) → o < 4096 → value o ≡ after (slot j) o
    left_here o l = sym (ap (λ q. if q then value (o - 0) else bytes (slot j) o) (yes (nat_eq j j) (eq-eqb j j refl) o l) ∙ ap value (let z : o - 0 ≡ o = omega arith in z))
      where
        yes : (q : Bool) → q ≡ true → (o : ℕ) → o < 4096 → (q && nat_le 0 o && nat_lt o (0 + 4096)) ≡ true
        yes q e o l = grind (arith, nat_tests)

    left_there : (k o : ℕ) → (k ≡ j → ⊥) → bytes (slot k) o ≡ after (slot k) o
    left_there k o ne = sym (ap (λ q. if q && nat_le 0 o && nat_lt o (0 + 4096) then value (o - 0) else bytes (slot k) o) (ne_eqb k j ne))

    -- one slot more is held
    pub slots_more : ((n : ℕ) → times n new ≡ times n old + one (nat_eq n j)) → AreSlots size new (within script.sizes after) (record { held = taken swap.held j; bytes = put })
    slots_more h = record {
      held_are = ap (λ p. taken p j) representation.held_are ∙ sym (marks_more old new size j h);
      bytes_are = λ k o there. at k o there (cases_eq k j);
    }
      where
        at : (k o : ℕ) → k < size → (k ≡ j) ⊎ (k ≡ j → ⊥) → byte_at put k o ≡ within script.sizes after (slot k) o
        at k o there (inl here) =
            subst (λ i. byte_at put i o ≡ within script.sizes after (slot i) o) (sym here)
            (within_slot script.sizes after put j o below
            (λ l. ap (λ q. if q then slice_index put (4096 * j + o) else 0) (lt-ltb o 4096 l) ∙ put_here o l ∙ left_here o l))
        at k o there (inr ne) =
            within_slot script.sizes after put k o there
            (λ l.
            ap (λ q. if q then slice_index put (4096 * k + o) else 0) (lt-ltb o 4096 l) ∙ put_there k o ne l
            ∙ sym (ap (λ q. if q then slice_index swap.bytes (4096 * k + o) else 0) (lt-ltb o 4096 l))
            ∙ representation.bytes_are k o there ∙ left_there k o ne)
