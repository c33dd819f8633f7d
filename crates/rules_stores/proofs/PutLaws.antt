-- Bytes that are put into a buffer, page by page.
use Rattle.std.proofs.Common.{◌≡◌, ℕ, suc, ◌+◌, ◌-◌, ◌/◌, ◌%◌, ◌≤◌, Bool, true, false, inl, inr, List, [], ◌∷◌, ◌++◌, length, min, take, drop, get_or, refl, ap, sym, subst, ◌∙◌, arith, if◌then◌else◌}
use Rattle.std.specs.Prelude.{◌&&◌, nat_le, nat_lt, slice_index}
use Rattle.std.proofs.lemmas.List.{take-append-drop, length-take-le, length-drop, take_all}
use Rattle.std.proofs.lemmas.Bool.{cases_lt}
use Rattle.std.proofs.lemmas.Bool.Decides.{nat_tests}
use Rattle.journal_model.specs.declared.script.Sizes.{Sizes}
use Rattle.journal_model.specs.declared.state.Buffer.{Buffer}
use Rattle.ttm_base.specs.Pages.{Page, PageBytes, same_page, with_bytes}
use Rattle.journal_model.specs.rules.Places.{page_at}
use Rattle.journal_model.specs.rules.Stores.{put_bytes}
use Rattle.journal_model.specs.rules.Stores.{is_there}
use Rattle.rules_stores.specs.Kept.{KeptBytes, BecomesBytes, bytes_of, within}

-- first some bytes, and then others after them
put_bytes-append : (x : Buffer) (off : ℕ) (xs ys : List ℕ) (bytes : PageBytes) → put_bytes x off (xs ++ ys) bytes ≡ put_bytes x (off + length xs) ys (put_bytes x off xs bytes)
put_bytes-append x off [] ys bytes = let e : off ≡ off + 0 = omega arith in ap (λ n. put_bytes x n ys bytes) e
put_bytes-append x off (b ∷ xs) ys bytes =
    let next = with_bytes bytes (page_at x (off / 4096)) (off % 4096) 1 (λ i. b) in
    let e : off + 1 + length xs ≡ off + suc (length xs) = omega arith in
    put_bytes-append x (off + 1) xs ys next ∙ ap (λ n. put_bytes x n ys (put_bytes x (off + 1) xs next)) e

-- ---- on one page

-- one byte is a list of one
one_cell : (s : Bool) (b off o old : ℕ) → (if s && nat_le off o && nat_lt o (off + 1) then b else old) ≡ (if s && nat_le off o && nat_lt o (off + 1) then get_or (b ∷ []) (o - off) 0 else old)
one_cell false b off o old = refl
one_cell true b off o old =
    elim (cases_lt o off) [
      | inl below ↦ grind (arith, nat_tests)
      | inr from ↦ elim (cases_lt off o) [
        | inl above ↦ grind (arith, nat_tests)
        | inr to ↦ let e : o - off ≡ 0 = omega arith in let g : get_or (b ∷ []) (o - off) 0 ≡ b = ap (λ k. get_or (b ∷ []) k 0) e in grind (arith, nat_tests, g)
      ]
    ]

-- a byte, and those after it
more_cells : (s : Bool) (bs : List ℕ) (b off o old : ℕ) →
    (if s && nat_le (off + 1) o && nat_lt o (off + 1 + length bs) then get_or bs (o - (off + 1)) 0 else (if s && nat_le off o && nat_lt o (off + 1) then b else old))
    ≡ (if s && nat_le off o && nat_lt o (off + suc (length bs)) then get_or (b ∷ bs) (o - off) 0 else old)
more_cells false bs b off o old = refl
more_cells true bs b off o old =
    elim (cases_lt o off) [
      | inl below ↦ grind (arith, nat_tests)
      | inr from ↦ elim (cases_lt off o) [
        | inl above ↦
            let e : o - off ≡ suc (o - (off + 1)) = omega arith in
            let g : get_or (b ∷ bs) (o - off) 0 ≡ get_or bs (o - (off + 1)) 0 = ap (λ k. get_or (b ∷ bs) k 0) e in
            grind (arith, nat_tests, g)
        | inr to ↦ let e : o - off ≡ 0 = omega arith in let g : get_or (b ∷ bs) (o - off) 0 ≡ b = ap (λ k. get_or (b ∷ bs) k 0) e in grind (arith, nat_tests, g)
      ]
    ]

-- nothing is put
none_cell : (s : Bool) (off o value old : ℕ) → old ≡ (if s && nat_le off o && nat_lt o (off + 0) then value else old)
none_cell false off o value old = refl
none_cell true off o value old = grind (arith, nat_tests)

-- bytes that stay on one page are one write
put_on_page : (x : Buffer) (off : ℕ) (xs : List ℕ) (bytes : PageBytes) → off % 4096 + length xs ≤ 4096 →
    put_bytes x off xs bytes ≡ with_bytes bytes (page_at x (off / 4096)) (off % 4096) (length xs) (slice_index xs)
put_on_page x off [] bytes h = λ i p o. none_cell (same_page p (page_at x (off / 4096))) (off % 4096) o 0 (bytes p o) i
put_on_page x off (b ∷ []) bytes h = λ i p o. one_cell (same_page p (page_at x (off / 4096))) b (off % 4096) o (bytes p o) i
put_on_page x off (b ∷ c ∷ xs) bytes h =
    let page = page_at x (off / 4096) in
    let next = with_bytes bytes page (off % 4096) 1 (λ i. b) in
    let same : (off + 1) / 4096 ≡ off / 4096 = omega arith in
    let more : (off + 1) % 4096 ≡ off % 4096 + 1 = omega arith in
    let rest = put_on_page x (off + 1) (c ∷ xs) next (omega arith) in
    let moved : with_bytes next (page_at x ((off + 1) / 4096)) ((off + 1) % 4096) (suc (length xs)) (slice_index (c ∷ xs)) ≡ with_bytes next page (off % 4096 + 1) (suc (length xs)) (slice_index (c ∷ xs)) =
    λ i. with_bytes next (page_at x (same i)) (more i) (suc (length xs)) (slice_index (c ∷ xs)) in
    rest ∙ moved ∙ (λ i p o. more_cells (same_page p page) (c ∷ xs) b (off % 4096) o (bytes p o) i)

-- ---- where only some pages are kept

-- bytes that agree at a place agree there after the same bytes were put
put_agrees : (x : Buffer) (off : ℕ) (xs : List ℕ) (first second : PageBytes) (p : Page) (o : ℕ) → first p o ≡ second p o → put_bytes x off xs first p o ≡ put_bytes x off xs second p o
put_agrees x off [] first second p o h = h
put_agrees x off (b ∷ xs) first second p o h =
    put_agrees x (off + 1) xs _ _ p o (ap (λ old. if same_page p (page_at x (off / 4096)) && nat_le (off % 4096) o && nat_lt o (off % 4096 + 1) then b else old) h)

-- bytes on one page, and then others after them
put_at : (sizes : Sizes) (x : Buffer) (off : ℕ) (xs ys : List ℕ) (bytes : PageBytes) → off % 4096 + length xs ≤ 4096 → (p : Page) (o : ℕ) (there : Bool) → there ≡ (is_there sizes p && nat_lt o 4096) →
    let mid = within sizes (with_bytes bytes (page_at x (off / 4096)) (off % 4096) (length xs) (slice_index xs)) bytes in
    (if there then put_bytes x (off + length xs) ys mid p o else mid p o) ≡ (if there then put_bytes x off (xs ++ ys) bytes p o else bytes p o)
put_at sizes x off xs ys bytes h p o true e =
    let written = with_bytes bytes (page_at x (off / 4096)) (off % 4096) (length xs) (slice_index xs) in
    let kept : within sizes written bytes p o ≡ written p o = ap (λ b. if b then written p o else bytes p o) (sym e) in
    put_agrees x (off + length xs) ys (within sizes written bytes) written p o kept
    ∙ ap (λ (w : PageBytes). put_bytes x (off + length xs) ys w p o) (sym (put_on_page x off xs bytes h))
    ∙ ap (λ (w : PageBytes). w p o) (sym (put_bytes-append x off xs ys bytes))
put_at sizes x off xs ys bytes h p o false e =
    let written = with_bytes bytes (page_at x (off / 4096)) (off % 4096) (length xs) (slice_index xs) in
    ap (λ b. if b then written p o else bytes p o) (sym e)

-- the first of two writes, and the second
pub becomes_put : (old mid new : KeptBytes) (x : Buffer) (off : ℕ) (xs ys : List ℕ) → off % 4096 + length xs ≤ 4096 →
    BecomesBytes old mid (with_bytes (bytes_of old) (page_at x (off / 4096)) (off % 4096) (length xs) (slice_index xs)) →
    BecomesBytes mid new (put_bytes x (off + length xs) ys (bytes_of mid)) → BecomesBytes old new (put_bytes x off (xs ++ ys) (bytes_of old))
becomes_put old mid new x off xs ys h first second =
    record {
      same_sizes = second.same_sizes ∙ first.same_sizes;
      bytes_are =
          second.bytes_are
          ∙ (λ i. within (first.same_sizes i) (put_bytes x (off + length xs) ys (first.bytes_are i)) (first.bytes_are i))
          ∙ (λ i p o. put_at old.sizes x off xs ys (bytes_of old) h p o (is_there old.sizes p && nat_lt o 4096) refl i);
    }

-- one write alone
pub becomes_put_all : (old new : KeptBytes) (x : Buffer) (off : ℕ) (xs : List ℕ) → off % 4096 + length xs ≤ 4096 →
    BecomesBytes old new (with_bytes (bytes_of old) (page_at x (off / 4096)) (off % 4096) (length xs) (slice_index xs)) → BecomesBytes old new (put_bytes x off xs (bytes_of old))
becomes_put_all old new x off xs h first =
    record { same_sizes = first.same_sizes; bytes_are = first.bytes_are ∙ ap (λ (w : PageBytes). within old.sizes w (bytes_of old)) (sym (put_on_page x off xs (bytes_of old) h)) }

-- ---- as the code cuts the bytes

module _ (old mid : KeptBytes) (x : Buffer) (off count : ℕ) (all : List ℕ) (page : Page) (here : page ≡ page_at x (off / 4096)) (many : count ≡ min (length all) (4096 - off % 4096))
    (first : BecomesBytes old mid (with_bytes (bytes_of old) page (off % 4096) (length (take count all)) (slice_index (take count all)))) where
  -- the first bytes, on the page where they belong
  first_here : BecomesBytes old mid (with_bytes (bytes_of old) (page_at x (off / 4096)) (off % 4096) (length (take count all)) (slice_index (take count all)))
  first_here = subst (λ p. BecomesBytes old mid (with_bytes (bytes_of old) p (off % 4096) (length (take count all)) (slice_index (take count all)))) here first

  fits : length (take count all) ≡ count
  fits = length-take-le count all (omega arith)

  -- these are all
  pub put_whole : length all ≤ count → BecomesBytes old mid (put_bytes x off all (bytes_of old))
  put_whole h =
      let e : take count all ≡ all = take_all count all h in
      subst (λ (xs : List ℕ). BecomesBytes old mid (put_bytes x off xs (bytes_of old))) e (becomes_put_all old mid x off (take count all) (omega (arith, fits)) first_here)

  -- and those after them
  pub put_parts : (new : KeptBytes) → BecomesBytes mid new (put_bytes x (off + count) (take (length all - count) (drop count all)) (bytes_of mid)) → BecomesBytes old new (put_bytes x off all (bytes_of old))
  put_parts new second =
      let rest : take (length all - count) (drop count all) ≡ drop count all = take_all (length all - count) (drop count all) (omega (arith, length-drop count all)) in
      let behind : BecomesBytes mid new (put_bytes x (off + length (take count all)) (drop count all) (bytes_of mid)) =
      subst (λ n. BecomesBytes mid new (put_bytes x (off + n) (drop count all) (bytes_of mid))) (sym fits)
      (subst (λ (ys : List ℕ). BecomesBytes mid new (put_bytes x (off + count) ys (bytes_of mid))) rest second) in
      subst (λ (xs : List ℕ). BecomesBytes old new (put_bytes x off xs (bytes_of old))) (take-append-drop count all)
      (becomes_put old mid new x off (take count all) (drop count all) (omega (arith, fits)) first_here behind)
