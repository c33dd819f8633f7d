-- The memory in rooms, one for each buffer, after one of them changed; and ranges of bytes.
use Rattle.std.proofs.Common.{◌≡◌, ◌≢◌, ℕ, zero, suc, ◌+◌, ◌-◌, ◌*◌, ◌≤◌, ◌<◌, Bool, true, false, inl, inr, refl, ap, subst, sym, ◌∙◌, List, [], ◌∷◌, ◌++◌, length, take, drop, map, replicate, get_or, drop-cons, arith, if◌then◌else◌}
use Rattle.std.specs.Prelude.{◌==◌, ◌&&◌, nat_le, nat_lt, bit_xor, slice_index}
use Rattle.std.proofs.Math.ListN.{set}
use Rattle.std.proofs.Math.Seq.{map-set_same}
use Rattle.std.proofs.lemmas.Grind.{common_steps}
use Rattle.std.proofs.lemmas.Bool.{cases_lt}
use Rattle.std.proofs.lemmas.Bool.Decides.{nat_tests}
use Rattle.std.proofs.lemmas.List.{get_or-append_right, get_or_append_left, get_or-take, get_or-drop, get_or-map, get_or_default, get_or_past, get_or-replicate, get_or-set_same, get_or-set_other, length-map, length-replicate, length-take-le, take_more}
use Rattle.ttm_base.specs.declared.BufId.{BufId}
use Rattle.ttm_base.specs.declared.Op.{Op}
use Rattle.ttm_base.specs.declared.Op.TheVariants as op
use Rattle.ttm_base.specs.ListWords.{count_from}
use Rattle.journal_model.specs.declared.script.Decl.{Decl}
use Rattle.journal_model.specs.rules.PlainMemory.{Memory, with_range, with_zeros, memory_range, after_op, after_ops}
use Rattle.plain_memory.specs.Kept.{BecomesMemory, memory_in, sizes_in}
use Rattle.plain_memory.specs.Fits.{HasRange}

-- an element of a list of which a part was written
put_at : (d f : List ℕ) (at k : ℕ) → at + length f ≤ length d →
    get_or (take at d ++ (f ++ drop (at + length f) d)) k 0 ≡ (if nat_le at k && nat_lt k (at + length f) then get_or f (k - at) 0 else get_or d k 0)
put_at d f at k h =
    let front : length (take at d) ≡ at = length-take-le at d (omega arith) in
    elim (cases_lt k at) [
      | inl below ↦
          let e = get_or_append_left (take at d) (f ++ drop (at + length f) d) 0 k (omega arith) in
          let g = get_or-take at d k 0 below in
          grind (arith, nat_tests, e, g)
      | inr behind ↦
          let e = get_or-append_right (take at d) (f ++ drop (at + length f) d) at k 0 front behind in
          elim (cases_lt (k - at) (length f)) [
            | inl inside ↦ let g = get_or_append_left f (drop (at + length f) d) 0 (k - at) inside in grind (arith, nat_tests, e, g)
            | inr past ↦
                let g = get_or-append_right f (drop (at + length f) d) (length f) (k - at) 0 refl past in
                let r = get_or-drop (at + length f) d (k - at - length f) 0 in
                let same : at + length f + (k - at - length f) ≡ k = omega arith in
                let t : get_or (drop (at + length f) d) (k - at - length f) 0 ≡ get_or d k 0 = r ∙ ap (λ n. get_or d n 0) same in
                grind (arith, nat_tests, e, g, t)
          ]
    ]

-- how long it is then
length-put : (d f : List ℕ) (at : ℕ) → at + length f ≤ length d → length (take at d ++ (f ++ drop (at + length f) d)) ≡ length d
length-put d f at h = grind (arith, common_steps)

-- zeros, also after them
pub zeros : (n o : ℕ) → get_or {A = ℕ} (replicate n 0) o 0 ≡ 0
zeros n o =
    let none : ℕ = 0 in
    elim (cases_lt o n) [
      | inl below ↦ get_or-replicate n o none none below
      | inr past ↦ let long : length (replicate n none) ≡ n = length-replicate n none in get_or_past (replicate n none) o none (omega (arith, long))
    ]

-- ---- one room became another

-- each byte
byte_after : (contents : List (List ℕ)) (k : ℕ) (content : List ℕ) (memory : Memory) → k < length contents →
    ((o : ℕ) → get_or content o 0 ≡ memory k o) → ((c o : ℕ) → c ≢ k → memory_in contents c o ≡ memory c o) → (c o : ℕ) → memory_in (set contents k content) c o ≡ memory c o
byte_after contents k content memory h same other c o =
    elim (cases_lt c k) [
      | inl below ↦ let ne : c ≢ k = omega arith in ap (λ (r : List ℕ). get_or r o 0) (get_or-set_other contents k c content [] ne) ∙ other c o ne
      | inr from ↦ elim (cases_lt k c) [
        | inl above ↦ let ne : c ≢ k = omega arith in ap (λ (r : List ℕ). get_or r o 0) (get_or-set_other contents k c content [] ne) ∙ other c o ne
        | inr to ↦
            let e : k ≡ c = omega arith in
            let P : ℕ → Type 0 = λ x. memory_in (set contents k content) x o ≡ memory x o in
            subst P e (ap (λ (r : List ℕ). get_or r o 0) (get_or-set_same contents k content [] h) ∙ same o)
      ]
    ]

-- the memory, where the room is as long as it was
becomes : (contents : List (List ℕ)) (k : ℕ) (content : List ℕ) (memory : Memory) → k < length contents → length content ≡ length (get_or contents k []) →
    ((o : ℕ) → get_or content o 0 ≡ memory k o) → ((c o : ℕ) → c ≢ k → memory_in contents c o ≡ memory c o) → BecomesMemory contents (set contents k content) memory
becomes contents k content memory h len same other =
    record { same_sizes = map-set_same length contents k content [] len; memory_is = λ i c o. byte_after contents k content memory h same other c o i }

-- a byte of a buffer of which a range was written
written_cell : (k off len o : ℕ) (f : List ℕ) (value : ℕ → ℕ) (x : ℕ) → length f ≡ len → ((i : ℕ) → i < len → get_or f i 0 ≡ value i) →
    (if nat_le off o && nat_lt o (off + length f) then get_or f (o - off) 0 else x) ≡ (if (k == k) && nat_le off o && nat_lt o (off + len) then value (o - off) else x)
written_cell k off len o f value x e v =
    elim (cases_lt o off) [
      | inl below ↦ grind (arith, nat_tests)
      | inr from ↦ elim (cases_lt o (off + len)) [
        | inl inside ↦ let g = v (o - off) (omega arith) in grind (arith, nat_tests, g)
        | inr past ↦ grind (arith, nat_tests)
      ]
    ]

-- one of another buffer
other_cell : (k c off len o v x : ℕ) → c ≢ k → x ≡ (if (k == c) && nat_le off o && nat_lt o (off + len) then v else x)
other_cell k c off len o v x ne = grind (arith, nat_tests)

cleared_cell : (k x : ℕ) → 0 ≡ (if k == k then 0 else x)
cleared_cell k x = grind (arith, nat_tests)

kept_cell : (k c x : ℕ) → c ≢ k → x ≡ (if k == c then 0 else x)
kept_cell k c x ne = grind (arith, nat_tests)

module _ (contents : List (List ℕ)) (b : BufId) (off len : ℕ) (fits : HasRange (sizes_in contents) b off len) where
  there : b.0 < length contents
  there = let n : length (sizes_in contents) ≡ length contents = length-map contents length in omega (arith, n, fits.declared)

  inside : off + len ≤ length (get_or contents b.0 [])
  inside = let n : get_or (sizes_in contents) b.0 0 ≡ length (get_or contents b.0 []) = get_or-map length contents b.0 [] 0 there in omega (arith, n, fits.inside)

  module _ (old : List ℕ) (is : old ≡ get_or contents b.0 old) where
    is_old : old ≡ get_or contents b.0 []
    is_old = is ∙ get_or_default contents b.0 old [] there

    -- its range can be taken from it
    pub fits_content : off + len ≤ length old
    fits_content = let n : length old ≡ length (get_or contents b.0 []) = ap length is_old in omega (arith, n, inside)

    -- bytes were written to a range of a buffer
    pub becomes_range : (f content : List ℕ) (value : ℕ → ℕ) → length f ≡ len → ((i : ℕ) → i < len → get_or f i 0 ≡ value i) → content ≡ take off old ++ (f ++ drop (off + len) old) →
        BecomesMemory contents (set contents b.0 content) (with_range b off len value (memory_in contents))
    becomes_range f content value e v put =
        let was = get_or contents b.0 [] in
        let back : len ≡ length f = sym e in
        let is_content : content ≡ take off was ++ (f ++ drop (off + length f) was) = put ∙ (λ i. take off (is_old i) ++ (f ++ drop (off + back i) (is_old i))) in
        let fit : off + length f ≤ length was = omega (arith, e, inside) in
        becomes contents b.0 content (with_range b off len value (memory_in contents)) there (ap length is_content ∙ length-put was f off fit)
        (λ o. ap (λ (r : List ℕ). get_or r o 0) is_content ∙ put_at was f off o fit ∙ written_cell b.0 off len o f value (get_or was o 0) e v)
        (λ c o ne. other_cell b.0 c off len o (value (o - off)) (memory_in contents c o) ne)

-- all bytes of a buffer became zero
pub becomes_clear : (contents : List (List ℕ)) (b : BufId) (content old : List ℕ) → b.0 < length contents → old ≡ get_or contents b.0 old → content ≡ replicate (length old) 0 →
    BecomesMemory contents (set contents b.0 content) (with_zeros b (memory_in contents))
becomes_clear contents b content old h is cleared =
    let is_old : old ≡ get_or contents b.0 [] = is ∙ get_or_default contents b.0 old [] h in
    becomes contents b.0 content (with_zeros b (memory_in contents)) h (ap length cleared ∙ length-replicate {A = ℕ} (length old) 0 ∙ ap length is_old)
    (λ o. ap (λ (r : List ℕ). get_or r o 0) cleared ∙ zeros (length old) o ∙ cleared_cell b.0 (memory_in contents b.0 o))
    (λ c o ne. kept_cell b.0 c (memory_in contents c o) ne)

nothing_cell : (contents : List (List ℕ)) (k c o : ℕ) → length contents ≤ k → memory_in contents c o ≡ (if k == c then 0 else memory_in contents c o)
nothing_cell contents k c o h =
    elim (cases_lt c k) [
      | inl below ↦ kept_cell k c (memory_in contents c o) (omega arith)
      | inr from ↦ elim (cases_lt k c) [
        | inl above ↦ kept_cell k c (memory_in contents c o) (omega arith)
        | inr to ↦
            let none : get_or contents c [] ≡ [] = get_or_past contents c [] (omega arith) in
            let z : memory_in contents c o ≡ 0 = ap (λ (r : List ℕ). get_or r o 0) none in
            grind (arith, nat_tests, z)
      ]
    ]

-- a buffer that isn't there has zeros
pub stays_clear : (contents : List (List ℕ)) (b : BufId) → length contents ≤ b.0 → BecomesMemory contents contents (with_zeros b (memory_in contents))
stays_clear contents b h = record { same_sizes = refl; memory_is = λ i c o. nothing_cell contents b.0 c o h i }

-- ---- rooms of zeros

-- a room for each buffer
abbrev pub empty_rooms : List Decl → List (List ℕ)
empty_rooms ds = map (λ d. replicate (4096 * d.pages) 0) ds

pub sizes_in-empty : (ds : List Decl) → sizes_in (empty_rooms ds) ≡ map (λ d. 4096 * d.pages) ds
sizes_in-empty [] = refl
sizes_in-empty (d ∷ ds) = λ i. length-replicate {A = ℕ} (4096 * d.pages) 0 i ∷ sizes_in-empty ds i

empty_byte : (ds : List Decl) (c o : ℕ) → memory_in (empty_rooms ds) c o ≡ 0
empty_byte [] c o = refl
empty_byte (d ∷ ds) zero o = zeros (4096 * d.pages) o
empty_byte (d ∷ ds) (suc c) o = empty_byte ds c o

pub memory_in-empty : (ds : List Decl) → memory_in (empty_rooms ds) ≡ (λ b i. 0)
memory_in-empty ds = λ i c o. empty_byte ds c o i

-- ---- ranges

-- bytes from an offset on, counted
counted : (content : List ℕ) (len off : ℕ) → off + len ≤ length content → take len (drop off content) ≡ map (λ i. get_or content i 0) (count_from 1 len off)
counted content zero off h = refl
counted content (suc len) off h =
    let next : suc off ≡ 1 + off = omega arith in
    let front = drop-cons content off 0 (omega arith) in
    let rest = counted content len (1 + off) (omega arith) in
    ap (take (suc len)) front ∙ ap (λ n. get_or content off 0 ∷ take len (drop n content)) next ∙ ap (λ xs. get_or content off 0 ∷ xs) rest

-- the range of a room is that of the memory
pub range_is : (contents : List (List ℕ)) (b : BufId) (off len : ℕ) (old : List ℕ) → HasRange (sizes_in contents) b off len → old ≡ get_or contents b.0 old →
    take (off + len - off) (drop off old) ≡ memory_range (memory_in contents) b off len
range_is contents b off len old fits is =
    let n : off + len - off ≡ len = omega arith in
    let e = is_old contents b off len fits old is in
    (λ i. take (n i) (drop off (e i))) ∙ counted (get_or contents b.0 []) len off (inside contents b off len fits)

pub length-range : (f : ℕ → ℕ) (len off : ℕ) → length (map f (count_from 1 len off)) ≡ len
length-range f zero off = refl
length-range f (suc len) off = ap suc (length-range f len (1 + off))

pub get_or-range : (f : ℕ → ℕ) (len off i : ℕ) → i < len → get_or (map f (count_from 1 len off)) i 0 ≡ f (off + i)
get_or-range f zero off i h = absurd (omega arith)
get_or-range f (suc len) off zero h = let e : off ≡ off + 0 = omega arith in ap f e
get_or-range f (suc len) off (suc i) h = let e : 1 + off + i ≡ off + suc i = omega arith in get_or-range f len (1 + off) i (omega arith) ∙ ap f e

-- ---- other words for what was written

same_cell : (t : Bool) (off len o : ℕ) (f g : ℕ → ℕ) (x : ℕ) → ((i : ℕ) → i < len → f i ≡ g i) →
    (if t && nat_le off o && nat_lt o (off + len) then f (o - off) else x) ≡ (if t && nat_le off o && nat_lt o (off + len) then g (o - off) else x)
same_cell false off len o f g x e = refl
same_cell true off len o f g x e =
    elim (cases_lt o off) [
      | inl below ↦ grind (arith, nat_tests)
      | inr from ↦ elim (cases_lt o (off + len)) [
        | inl within ↦ let h = e (o - off) (omega arith) in grind (arith, nat_tests, h)
        | inr past ↦ grind (arith, nat_tests)
      ]
    ]

-- as many bytes, and the same
pub becomes_same : (old new : List (List ℕ)) (b : BufId) (off n len : ℕ) (f g : ℕ → ℕ) → BecomesMemory old new (with_range b off n f (memory_in old)) → n ≡ len →
    ((i : ℕ) → i < len → f i ≡ g i) → BecomesMemory old new (with_range b off len g (memory_in old))
becomes_same old new b off n len f g h e same = record {
  same_sizes = h.same_sizes;
  memory_is =
      h.memory_is ∙ (λ i. with_range b off (e i) f (memory_in old)) ∙ (λ i c o. same_cell (b.0 == c) off len o f g (memory_in old c o) same i);
}

-- the copy of a range was written
pub becomes_copy : (old new : List (List ℕ)) (dst src : BufId) (doff soff len : ℕ) (bytes : List ℕ) → bytes ≡ memory_range (memory_in old) src soff len →
    BecomesMemory old new (with_range dst doff (length bytes) (slice_index bytes) (memory_in old)) → BecomesMemory old new (after_op (memory_in old) (op.Copy dst doff src soff len))
becomes_copy old new dst src doff soff len bytes is h =
    becomes_same old new dst doff (length bytes) len (slice_index bytes) (λ i. memory_in old src.0 (soff + i)) h (ap length is ∙ length-range (memory_in old src.0) len soff)
    (λ i below. ap (λ (r : List ℕ). get_or r i 0) is ∙ get_or-range (memory_in old src.0) len soff i below)

-- the exclusive or of two ranges was written
pub becomes_xor : (old new : List (List ℕ)) (dst src : BufId) (doff soff len : ℕ) (one other bytes : List ℕ) → one ≡ memory_range (memory_in old) src soff len →
    other ≡ memory_range (memory_in old) dst doff len → length bytes ≡ length one → ((i : ℕ) → i < length one → get_or bytes i 0 ≡ bit_xor (get_or other i 0) (get_or one i 0)) →
    BecomesMemory old new (with_range dst doff (length bytes) (slice_index bytes) (memory_in old)) → BecomesMemory old new (after_op (memory_in old) (op.Xor dst doff src soff len))
becomes_xor old new dst src doff soff len one other bytes is_one is_other n v h =
    let long : length one ≡ len = ap length is_one ∙ length-range (memory_in old src.0) len soff in
    becomes_same old new dst doff (length bytes) len (slice_index bytes) (λ i. bit_xor (memory_in old dst.0 (doff + i)) (memory_in old src.0 (soff + i))) h (n ∙ long)
    (λ i below.
    let here : i < length one = omega (arith, long) in
    let x : get_or other i 0 ≡ memory_in old dst.0 (doff + i) = ap (λ (r : List ℕ). get_or r i 0) is_other ∙ get_or-range (memory_in old dst.0) len doff i below in
    let y : get_or one i 0 ≡ memory_in old src.0 (soff + i) = ap (λ (r : List ℕ). get_or r i 0) is_one ∙ get_or-range (memory_in old src.0) len soff i below in
    v i here ∙ (λ j. bit_xor (x j) (y j)))

-- ---- one after another

-- nothing changed
pub becomes_nothing : (contents : List (List ℕ)) → BecomesMemory contents contents (memory_in contents)
becomes_nothing contents = record { same_sizes = refl; memory_is = refl }

-- one operation more
pub after_ops-push : (m : Memory) (ops : List Op) (o : Op) → after_ops m (ops ++ o ∷ []) ≡ after_op (after_ops m ops) o
after_ops-push m [] o = refl
after_ops-push m (p ∷ ops) o = after_ops-push (after_op m p) ops o

-- operations, and then one
pub becomes_more : (old mid new : List (List ℕ)) (ops : List Op) (o : Op) → BecomesMemory old mid (after_ops (memory_in old) ops) → BecomesMemory mid new (after_op (memory_in mid) o) →
    BecomesMemory old new (after_ops (memory_in old) (ops ++ o ∷ []))
becomes_more old mid new ops o first second = record {
  same_sizes = second.same_sizes ∙ first.same_sizes;
  memory_is = second.memory_is ∙ (λ i. after_op (first.memory_is i) o) ∙ sym (after_ops-push (memory_in old) ops o);
}

-- the next of several operations
pub becomes_next : (old mid new : List (List ℕ)) (ops : List Op) (n : ℕ) (d : Op) → n < length ops → BecomesMemory old mid (after_ops (memory_in old) (take n ops)) →
    BecomesMemory mid new (after_op (memory_in mid) (get_or ops n d)) → BecomesMemory old new (after_ops (memory_in old) (take (n + 1) ops))
becomes_next old mid new ops n d below first second =
    subst (λ (os : List Op). BecomesMemory old new (after_ops (memory_in old) os)) (sym (take_more ops n d below)) (becomes_more old mid new (take n ops) (get_or ops n d) first second)
