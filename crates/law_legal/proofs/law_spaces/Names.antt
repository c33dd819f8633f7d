-- A job by name does to each memory what the job with addresses does, and its probes show the same bytes.
use mathlib.Core.Path.{fun_ext}
use Rattle.std.proofs.Common.{◌≡◌, ℕ, zero, suc, ◌+◌, ◌-◌, ◌*◌, ◌/◌, ◌%◌, ◌<◌, ◌≤◌, min, max, true, false, List, [], ◌∷◌, ◌++◌, Option, Some, None, refl, ap, ap₂, sym, ◌∙◌, subst, arith, inl, inr, append_assoc}
use Rattle.std.specs.Prelude.{map, flat_map, fold, find, option_map, bit_xor, not, nat_le, nat_lt, ◌==◌, ◌&&◌, ◌||◌, if◌then◌else◌}
use Rattle.std.specs.List.{list_all, list_any}
use Rattle.std.proofs.lemmas.Bool.{cases_Bool, and_parts, ltb-true, le-leb, lt-ltb, eqb-true, eq-eqb, false≢true}
use Rattle.std.proofs.lemmas.Bool.Decides.{nat_tests}
use Rattle.std.proofs.lemmas.Grind.{fold-append, flat_map-append}
use Rattle.std.proofs.lemmas.List.{map-append}
use Rattle.std.proofs.lemmas.List.Folds.{flat_map-map}
use Rattle.ttm_base.specs.declared.BufId.{BufId}
use Rattle.ttm_base.specs.declared.Op.{Op}
use Rattle.ttm_base.specs.declared.Op.TheVariants as op
use Rattle.ttm_base.specs.Holes.{has_page}
use Rattle.ttm_base.specs.ListWords.{count_from}
use Rattle.ttm_base.specs.Cutting.{pieces_of}
use Rattle.journal_model.specs.declared.space.VOp.{VOp}
use Rattle.journal_model.specs.declared.space.VOp.TheVariants as vop
use Rattle.journal_model.specs.rules.PlainMemory.{Memory, with_range, after_op, after_ops, piece_shown, pieces_shown}
use Rattle.journal_model.specs.rules.State.{has_buffer}
use Rattle.journal_model.specs.scripts.MarkRules.{are_apart, has_apart_ranges}
use Rattle.journal_model.specs.marks.Spaces.{Space, Region, regions_space}
use Rattle.journal_model.specs.marks.ByName.{Spot, spot_in, spot_at, vop_len, first_address, second_address, op_by_name, ops_from, op_in_names, joined, job_by_name, has_byte_of, buffers_between, with_byte_at, byte_there, after_byte, after_vop, after_vops, vop_shown, vops_shown}
use Rattle.laws.specs.law_cutting.Parts.{part_of}
use Rattle.laws.proofs.law_cutting.Whole.{IsApart, shortened, after_none, after_more, after_ops-append, joined_is_shown, Each}
use Rattle.law_legal.specs.law_spaces.Rising.{IsRising}
use Rattle.law_legal.proofs.law_spaces.Found.{cases_option, none_alone, one_alone, found_past, found_passes, has_parts, spot_has_room}

-- ---- where bytes stand

-- the mapping that has a page is found by each of its pages
same_mapping : (p q : ℕ) (rs : List Region) (r : Region) → IsRising rs → find (λ x. has_page p x.span) rs ≡ Some r → has_page q r.span ≡ true → find (λ x. has_page q x.span) rs ≡ Some r
same_mapping p q [] r h e t = absurd (none_alone r e)
same_mapping p q (x ∷ rs) r h e t = elim (cases_Bool (has_page p x.span)) [
  | inl k ↦
      let e' = rw k at e in
      let same : x ≡ r = one_alone x r e' in
      let here : has_page q x.span ≡ true = ap (λ (y : Region). has_page q y.span) same ∙ t in
      rw here (ap Some same)
  | inr f ↦
      let e' = rw f at e in
      let low : x.span.end ≤ r.span.start = found_past (λ y. has_page p y.span) x.span.end rs r h.1 e' in
      let parts = has_parts q r.span t in
      let not_here : has_page q x.span ≡ false = grind (arith, nat_tests) in
      rw not_here (same_mapping p q rs r h.2 e' t)
]

-- an address has a byte of a buffer
pub record IsThere (space : Space) (addr : ℕ) (b : BufId) (off : ℕ) : Type 0 where
  pub page : ℕ
  pub at : space (addr / 4096) ≡ Some (b, page)
  pub byte : 4096 * page + addr % 4096 ≡ off

bytes_of_mapping : (rs : List Region) (addr : ℕ) (r : Region) → IsRising rs → find (λ x. has_page (addr / 4096) x.span) rs ≡ Some r →
    (k : ℕ) → k < 4096 * r.span.end - addr → IsThere (regions_space rs) (addr + k) r.b ((4096 * r.off + (addr - 4096 * r.span.start)) + k)
bytes_of_mapping rs addr r h e k l =
    let parts = has_parts (addr / 4096) r.span (found_passes (λ x. has_page (addr / 4096) x.span) rs r e) in
    let low = parts.0 in
    let q : ℕ = (addr + k) / 4096 in
    let from : r.span.start ≤ (addr + k) / 4096 = omega (arith, low) in
    let up : (addr + k) / 4096 < r.span.end = omega (arith, l) in
    let has : has_page q r.span ≡ true = rw (le-leb r.span.start q from, lt-ltb q r.span.end up) refl in
    record {
      page = r.off + (q - r.span.start);
      at = ap (option_map (λ x. (x.b, x.off + (q - x.span.start)))) (same_mapping (addr / 4096) q rs r h e has);
      byte = omega (arith, low, from);
    }

bytes_in : (rs : List Region) (addr : ℕ) (o : Option Region) (s : Spot) → IsRising rs → find (λ x. has_page (addr / 4096) x.span) rs ≡ o → option_map (spot_in addr) o ≡ Some s →
    (k : ℕ) → k < s.room → IsThere (regions_space rs) (addr + k) s.b (s.off + k)
bytes_in rs addr None s h e i = absurd (none_alone s i)
bytes_in rs addr (Some r) s h e i =
    let same : spot_in addr r ≡ s = one_alone (spot_in addr r) s i in
    let P : Spot → Type 0 = λ t. (k : ℕ) → k < t.room → IsThere (regions_space rs) (addr + k) t.b (t.off + k) in
    subst P same (bytes_of_mapping rs addr r h e)

-- each byte of a spot
spot_bytes : (rs : List Region) (addr : ℕ) (s : Spot) → IsRising rs → spot_at rs addr ≡ Some s → (k : ℕ) → k < s.room → IsThere (regions_space rs) (addr + k) s.b (s.off + k)
spot_bytes rs addr s h e = bytes_in rs addr (find (λ x. has_page (addr / 4096) x.span) rs) s h refl e

put_there : (space : Space) (addr : ℕ) (b : BufId) (off byte : ℕ) (m : Memory) → IsThere space addr b off → with_byte_at space addr byte m ≡ with_range b off 1 (λ i. byte) m
put_there space addr b off byte m t =
    let at : space (addr / 4096) ≡ Some (b, t.page) = t.at in
    rw (at, with_byte_at) (ap (λ o. with_range b o 1 (λ i. byte) m) t.byte)

seen_there : (space : Space) (addr : ℕ) (b : BufId) (off : ℕ) (m : Memory) → IsThere space addr b off → byte_there space addr m ≡ m b.0 off
seen_there space addr b off m t =
    let at : space (addr / 4096) ≡ Some (b, t.page) = t.at in
    rw (at, byte_there) (ap (m b.0) t.byte)

-- ---- byte by byte

one_at : (b c off x y : ℕ) (f g : ℕ → ℕ) → f 0 ≡ g 0 → (if (b == c) && nat_le off x && nat_lt x (off + 1) then f (x - off) else y) ≡ (if (b == c) && nat_le off x && nat_lt x (off + 1) then g (x - off) else y)
one_at b c off x y f g e = elim (cases_Bool ((b == c) && nat_le off x && nat_lt x (off + 1))) [
  | inl t ↦
      let parts = and_parts ((b == c) && nat_le off x) (nat_lt x (off + 1)) t in
      let high : x < off + 1 = ltb-true x (off + 1) parts.1 in
      let none : x - off ≡ 0 = omega arith in
      rw t (ap f none ∙ e ∙ sym (ap g none))
  | inr t ↦ rw t refl
]

one_value : (b : BufId) (off : ℕ) (f g : ℕ → ℕ) (m : Memory) → f 0 ≡ g 0 → with_range b off 1 f m ≡ with_range b off 1 g m
one_value b off f g m e = fun_ext (λ c. fun_ext (λ x. one_at b.0 c off x (m c x) f g e))

-- a byte of an operation is the piece of a byte
byte_makes : (space : Space) (v : VOp) (i k n : ℕ) (d s : Spot) (m : Memory) → IsThere space (first_address v + i) d.b (d.off + k) → IsThere space (second_address v + i) s.b (s.off + k) →
    after_byte space v m i ≡ after_op m (part_of (op_by_name v d s n) (record { at = k; len = 1 }))
byte_makes space (vop.Fill addr len byte) i k n d s m t u = put_there space (addr + i) d.b (d.off + k) byte m t
byte_makes space (vop.Copy addr from len) i k n d s m t u =
    put_there space (addr + i) d.b (d.off + k) (byte_there space (from + i) m) m t
    ∙ ap (λ x. with_range d.b (d.off + k) 1 (λ j. x) m) (seen_there space (from + i) s.b (s.off + k) m u)
    ∙ one_value d.b (d.off + k) (λ j. m s.b.0 (s.off + k)) (λ j. m s.b.0 ((s.off + k) + j)) m (ap (m s.b.0) (let z : s.off + k ≡ (s.off + k) + 0 = omega arith in z))
byte_makes space (vop.Xor addr from len) i k n d s m t u =
    put_there space (addr + i) d.b (d.off + k) (bit_xor (byte_there space (addr + i) m) (byte_there space (from + i) m)) m t
    ∙ ap (λ x. with_range d.b (d.off + k) 1 (λ j. x) m) (ap₂ bit_xor (seen_there space (addr + i) d.b (d.off + k) m t) (seen_there space (from + i) s.b (s.off + k) m u))
    ∙ one_value d.b (d.off + k) (λ j. bit_xor (m d.b.0 (d.off + k)) (m s.b.0 (s.off + k))) (λ j. bit_xor (m d.b.0 ((d.off + k) + j)) (m s.b.0 ((s.off + k) + j))) m
    (ap₂ bit_xor (ap (m d.b.0) (let z : d.off + k ≡ (d.off + k) + 0 = omega arith in z)) (ap (m s.b.0) (let z : s.off + k ≡ (s.off + k) + 0 = omega arith in z)))
byte_makes space (vop.Probe addr len) i k n d s m t u = refl

pub count-split : (n k start : ℕ) → count_from 1 (n + k) start ≡ count_from 1 n start ++ count_from 1 k (start + n)
count-split zero k start = ap₂ (λ a b. count_from 1 a b) (let z : 0 + k ≡ k = omega arith in z) (let z : start ≡ start + 0 = omega arith in z)
count-split (suc n) k start =
    ap (λ a. count_from 1 a start) (let z : suc n + k ≡ suc (n + k) = omega arith in z)
    ∙ ap (λ rest. start ∷ rest) (count-split n k (1 + start) ∙ ap (λ s. count_from 1 n (1 + start) ++ count_from 1 k s) (let z : (1 + start) + n ≡ start + suc n = omega arith in z))

bytes_make : (space : Space) (v : VOp) (at len : ℕ) (d s : Spot) (m : Memory) (n : ℕ) → IsApart (op_by_name v d s len) →
    ((k : ℕ) → k < n → IsThere space (first_address v + (at + k)) d.b (d.off + k)) → ((k : ℕ) → k < n → IsThere space (second_address v + (at + k)) s.b (s.off + k)) →
    fold (after_byte space v) m (count_from 1 n at) ≡ after_op m (shortened n (op_by_name v d s len))
bytes_make space v at len d s m zero a t u = sym (after_none (op_by_name v d s len) m)
bytes_make space v at len d s m (suc n) a t u =
    let o : Op = op_by_name v d s len in
    let more : suc n ≡ n + 1 = omega arith in
    ap (λ k. fold (after_byte space v) m (count_from 1 k at)) more
    ∙ ap (fold (after_byte space v) m) (count-split n 1 at)
    ∙ fold-append (after_byte space v) m (count_from 1 n at) ((at + n) ∷ [])
    ∙ ap (λ w. after_byte space v w (at + n)) (bytes_make space v at len d s m n a (λ k l. t k (omega (arith, l))) (λ k l. u k (omega (arith, l))))
    ∙ byte_makes space v (at + n) n len d s (after_op m (shortened n o)) (t n (omega arith)) (u n (omega arith))
    ∙ after_more o m n 1 a
    ∙ ap (λ k. after_op m (shortened k o)) (sym more)

shortened_same : (v : VOp) (d s : Spot) (n : ℕ) → shortened n (op_by_name v d s n) ≡ op_by_name v d s n
shortened_same (vop.Fill addr len byte) d s n = refl
shortened_same (vop.Copy addr from len) d s n = refl
shortened_same (vop.Xor addr from len) d s n = refl
shortened_same (vop.Probe addr len) d s n = refl

-- ---- an operation, part by part

-- a part and those after it
record IsCut (x : Op) (rest : Option (List Op)) (ops : List Op) : Type 0 where
  others : List Op
  rest_is : rest ≡ Some others
  all : x ∷ others ≡ ops

cut_of : (x : Op) (rest : Option (List Op)) (ops : List Op) → option_map (λ os. x ∷ os) rest ≡ Some ops → IsCut x rest ops
cut_of x None ops e = absurd (none_alone ops e)
cut_of x (Some os) ops e = record { others = os; rest_is = refl; all = one_alone (x ∷ os) ops e }

-- the next part of an operation
record IsNext (rs : List Region) (v : VOp) (at len fuel : ℕ) (ops : List Op) : Type 0 where
  d : Spot
  s : Spot
  first : spot_at rs (first_address v + at) ≡ Some d
  second : spot_at rs (second_address v + at) ≡ Some s
  cut : IsCut (op_by_name v d s (min (suc len) (min d.room s.room))) (ops_from rs v (at + min (suc len) (min d.room s.room)) (suc len - min (suc len) (min d.room s.room)) fuel) ops

next_of : (rs : List Region) (v : VOp) (at len fuel : ℕ) (ops : List Op) → ops_from rs v at (suc len) (suc fuel) ≡ Some ops → IsNext rs v at len fuel ops
next_of rs v at len fuel ops e = elim (cases_option (spot_at rs (first_address v + at))) [
  | inl a ↦ let none : ops_from rs v at (suc len) (suc fuel) ≡ None = rw (a, ops_from) refl in absurd (none_alone ops (sym none ∙ e))
  | inr (d, a) ↦ elim (cases_option (spot_at rs (second_address v + at))) [
    | inl b ↦ let none : ops_from rs v at (suc len) (suc fuel) ≡ None = rw (a, b, ops_from) refl in absurd (none_alone ops (sym none ∙ e))
    | inr (s, b) ↦
        let n : ℕ = min (suc len) (min d.room s.room) in
        let some : ops_from rs v at (suc len) (suc fuel) ≡ option_map (λ os. op_by_name v d s n ∷ os) (ops_from rs v (at + n) (suc len - n) fuel) = rw (a, b, ops_from) refl in
        record { d = d; s = s; first = a; second = b; cut = cut_of (op_by_name v d s n) (ops_from rs v (at + n) (suc len - n) fuel) ops (sym some ∙ e) }
  ]
]

-- the bytes of the next part are there, in both ranges
pub first_bytes : (rs : List Region) (a at : ℕ) (s : Spot) (n : ℕ) → IsRising rs → spot_at rs (a + at) ≡ Some s → n ≤ s.room → (k : ℕ) → k < n → IsThere (regions_space rs) (a + (at + k)) s.b (s.off + k)
first_bytes rs a at s n h e l k w =
    let z : (a + at) + k ≡ a + (at + k) = omega arith in
    subst (λ x. IsThere (regions_space rs) x s.b (s.off + k)) z (spot_bytes rs (a + at) s h e k (omega (arith, l, w)))

ops_make : (rs : List Region) (v : VOp) (at len fuel : ℕ) (ops : List Op) (m : Memory) → IsRising rs → ops_from rs v at len fuel ≡ Some ops → Each IsApart ops →
    after_ops m ops ≡ fold (after_byte (regions_space rs) v) m (count_from 1 len at)
ops_make rs v at zero fuel ops m h e a = let none : [] ≡ ops = one_alone [] ops e in subst (λ os. after_ops m os ≡ m) none refl
ops_make rs v at (suc len) zero ops m h e a = absurd (none_alone ops e)
ops_make rs v at (suc len) (suc fuel) ops m h e a =
    let space : Space = regions_space rs in
    let x = next_of rs v at len fuel ops e in
    let n : ℕ = min (suc len) (min x.d.room x.s.room) in
    let o : Op = op_by_name v x.d x.s n in
    let apart : Each IsApart (o ∷ x.cut.others) = subst (Each IsApart) (sym x.cut.all) a in
    let here : fold (after_byte space v) m (count_from 1 n at) ≡ after_op m o =
    bytes_make space v at n x.d x.s m n apart.0 (first_bytes rs (first_address v) at x.d n h x.first (omega arith)) (first_bytes rs (second_address v) at x.s n h x.second (omega arith))
    ∙ ap (after_op m) (shortened_same v x.d x.s n) in
    let all : n + (suc len - n) ≡ suc len = omega arith in
    ap (after_ops m) (sym x.cut.all)
    ∙ ops_make rs v (at + n) (suc len - n) fuel x.cut.others (after_op m o) h x.cut.rest_is apart.1
    ∙ ap (λ w. fold (after_byte space v) w (count_from 1 (suc len - n) (at + n))) (sym here)
    ∙ sym (fold-append (after_byte space v) m (count_from 1 n at) (count_from 1 (suc len - n) (at + n)))
    ∙ ap (fold (after_byte space v) m) (sym (count-split n (suc len - n) at))
    ∙ ap (λ k. fold (after_byte space v) m (count_from 1 k at)) all

-- ---- what probes show

-- what a part of an operation shows
abbrev pub part_shown : Space → Memory → VOp → ℕ → ℕ → List ℕ
part_shown space m (vop.Probe addr len) at n = map (λ i. byte_there space (addr + i) m) (count_from 1 n at)
part_shown space m _ at n = []

-- bytes side by side in the buffer are so in the space
pub seen_range : (space : Space) (addr : ℕ) (b : BufId) (m : Memory) (n at off : ℕ) → ((k : ℕ) → k < n → IsThere space (addr + (at + k)) b (off + k)) →
    map (m b.0) (count_from 1 n off) ≡ map (λ i. byte_there space (addr + i) m) (count_from 1 n at)
seen_range space addr b m zero at off t = refl
seen_range space addr b m (suc n) at off t =
    let here : IsThere space (addr + at) b off =
    (let z : addr + (at + 0) ≡ addr + at = omega arith in
    let w : off + 0 ≡ off = omega arith in
    subst (λ x. IsThere space x b off) z (subst (IsThere space (addr + (at + 0)) b) w (t 0 (omega arith)))) in
    let next : (k : ℕ) → k < n → IsThere space (addr + ((1 + at) + k)) b ((1 + off) + k) = λ k l.
    let z : addr + (at + (k + 1)) ≡ addr + ((1 + at) + k) = omega arith in
    let w : off + (k + 1) ≡ (1 + off) + k = omega arith in
    subst (λ x. IsThere space x b ((1 + off) + k)) z (subst (IsThere space (addr + (at + (k + 1))) b) w (t (k + 1) (omega (arith, l)))) in
    ap₂ (λ x xs. x ∷ xs) (sym (seen_there space (addr + at) b off m here)) (seen_range space addr b m n (1 + at) (1 + off) next)

no_bytes : {X : Type 0} (xs : List X) → let none : X → List ℕ = λ x. [] in flat_map none xs ≡ []
no_bytes [] = refl
no_bytes (x ∷ xs) = no_bytes xs

-- the packets of a part, joined
packets_shown : (space : Space) (v : VOp) (at n : ℕ) (d s : Spot) (m : Memory) → ((k : ℕ) → k < n → IsThere space (first_address v + (at + k)) d.b (d.off + k)) →
    flat_map (λ piece. piece) (map (piece_shown m (op_by_name v d s n)) (pieces_of (op_by_name v d s n))) ≡ part_shown space m v at n
packets_shown space (vop.Fill addr len byte) at n d s m t =
    let o : Op = op_by_name (vop.Fill addr len byte) d s n in
    flat_map-map (λ piece. piece) (piece_shown m o) (pieces_of o) ∙ no_bytes (pieces_of o)
packets_shown space (vop.Copy addr from len) at n d s m t =
    let o : Op = op_by_name (vop.Copy addr from len) d s n in
    flat_map-map (λ piece. piece) (piece_shown m o) (pieces_of o) ∙ no_bytes (pieces_of o)
packets_shown space (vop.Xor addr from len) at n d s m t =
    let o : Op = op_by_name (vop.Xor addr from len) d s n in
    flat_map-map (λ piece. piece) (piece_shown m o) (pieces_of o) ∙ no_bytes (pieces_of o)
packets_shown space (vop.Probe addr len) at n d s m t =
    let o : Op = op.Probe d.b d.off n in
    flat_map-map (λ piece. piece) (piece_shown m o) (pieces_of o)
    ∙ joined_is_shown m d.b d.off n
    ∙ seen_range space addr d.b m n at d.off t

-- two parts one after the other; a probe leaves the memory
parts_join : (space : Space) (v : VOp) (at n k : ℕ) (d s : Spot) (m : Memory) → part_shown space m v at n ++ part_shown space (after_op m (op_by_name v d s n)) v (at + n) k ≡ part_shown space m v at (n + k)
parts_join space (vop.Fill addr len byte) at n k d s m = refl
parts_join space (vop.Copy addr from len) at n k d s m = refl
parts_join space (vop.Xor addr from len) at n k d s m = refl
parts_join space (vop.Probe addr len) at n k d s m =
    sym (ap (map (λ i. byte_there space (addr + i) m)) (count-split n k at) ∙ map-append (λ i. byte_there space (addr + i) m) (count_from 1 n at) (count_from 1 k (at + n)))

nothing_shown : (space : Space) (m : Memory) (v : VOp) (at : ℕ) → [] ≡ part_shown space m v at 0
nothing_shown space m (vop.Fill addr len byte) at = refl
nothing_shown space m (vop.Copy addr from len) at = refl
nothing_shown space m (vop.Xor addr from len) at = refl
nothing_shown space m (vop.Probe addr len) at = refl

ops_show : (rs : List Region) (v : VOp) (at len fuel : ℕ) (ops : List Op) (m : Memory) → IsRising rs → ops_from rs v at len fuel ≡ Some ops →
    flat_map (λ piece. piece) (pieces_shown m ops) ≡ part_shown (regions_space rs) m v at len
ops_show rs v at zero fuel ops m h e =
    let none : [] ≡ ops = one_alone [] ops e in
    subst (λ os. flat_map (λ piece. piece) (pieces_shown m os) ≡ part_shown (regions_space rs) m v at 0) none (nothing_shown (regions_space rs) m v at)
ops_show rs v at (suc len) zero ops m h e = absurd (none_alone ops e)
ops_show rs v at (suc len) (suc fuel) ops m h e =
    let space : Space = regions_space rs in
    let x = next_of rs v at len fuel ops e in
    let n : ℕ = min (suc len) (min x.d.room x.s.room) in
    let o : Op = op_by_name v x.d x.s n in
    let all : n + (suc len - n) ≡ suc len = omega arith in
    ap (λ os. flat_map (λ piece. piece) (pieces_shown m os)) (sym x.cut.all)
    ∙ flat_map-append (λ piece. piece) (map (piece_shown m o) (pieces_of o)) (pieces_shown (after_op m o) x.cut.others)
    ∙ ap₂ (λ xs ys. xs ++ ys) (packets_shown space v at n x.d x.s m (first_bytes rs (first_address v) at x.d n h x.first (omega arith))) (ops_show rs v (at + n) (suc len - n) fuel x.cut.others (after_op m o) h x.cut.rest_is)
    ∙ parts_join space v at n (suc len - n) x.d x.s m
    ∙ ap (part_shown space m v at) all

shown_whole : (space : Space) (m : Memory) (v : VOp) → part_shown space m v 0 (vop_len v) ≡ vop_shown space m v
shown_whole space m (vop.Fill addr len byte) = refl
shown_whole space m (vop.Copy addr from len) = refl
shown_whole space m (vop.Xor addr from len) = refl
shown_whole space m (vop.Probe addr len) = refl

-- ---- no buffer in both ranges

-- the test looks at the number alone
same_seen : (bs : List BufId) (b c : BufId) → b.0 ≡ c.0 → has_buffer bs b ≡ has_buffer bs c
same_seen [] b c e = refl
same_seen (x ∷ bs) b c e = ap₂ (λ p q. p || q) (ap (λ n. n == x.0) e) (same_seen bs b c e)

in_both : (bs cs : List BufId) (b c : BufId) → has_buffer bs b ≡ true → has_buffer cs c ≡ true → b.0 ≡ c.0 → list_any (has_buffer bs) cs ≡ true
in_both bs [] b c h k e = absurd (false≢true k)
in_both bs (y ∷ ys) b c h k e = elim (cases_Bool (c.0 == y.0)) [
  | inl t ↦
      let here : has_buffer bs y ≡ true = sym (same_seen bs b y (e ∙ eqb-true c.0 y.0 t)) ∙ h in
      rw here refl
  | inr f ↦
      let rest : list_any (has_buffer bs) ys ≡ true = in_both bs ys b c h (rw f at k) e in
      elim (cases_Bool (has_buffer bs y)) [ inl t ↦ rw t refl | inr g ↦ rw g rest ]
]

apart_buffers : (bs cs : List BufId) (b c : BufId) → are_apart bs cs ≡ true → has_buffer bs b ≡ true → has_buffer cs c ≡ true → (b.0 == c.0) ≡ false
apart_buffers bs cs b c a h k = elim (cases_Bool (b.0 == c.0)) [
  | inl t ↦
      let both : list_any (has_buffer bs) cs ≡ true = in_both bs cs b c h k (eqb-true b.0 c.0 t) in
      absurd (false≢true (ap not (sym both) ∙ a))
  | inr f ↦ f
]

-- a mapping with a byte of the range has one of its buffers
has_byte_there : (addr at len : ℕ) (r : Region) → at < len → has_page ((addr + at) / 4096) r.span ≡ true → has_byte_of addr len r ≡ true
has_byte_there addr at len r l e =
    let parts = has_parts ((addr + at) / 4096) r.span e in
    let low = parts.0 in
    let high = parts.1 in
    let both : max addr (4096 * r.span.start) < min (addr + len) (4096 * r.span.end) = omega (arith, l, low, high) in
    lt-ltb (max addr (4096 * r.span.start)) (min (addr + len) (4096 * r.span.end)) both

-- the buffer where an address stands is one of its range
stands_between : (rs : List Region) (addr at len : ℕ) (s : Spot) → at < len → spot_at rs (addr + at) ≡ Some s → has_buffer (buffers_between rs addr len) s.b ≡ true
stands_between [] addr at len s l e = absurd (none_alone s e)
stands_between (x ∷ rs) addr at len s l e = elim (cases_Bool (has_page ((addr + at) / 4096) x.span)) [
  | inl t ↦
      let found : spot_at (x ∷ rs) (addr + at) ≡ Some (spot_in (addr + at) x) = rw (t, spot_at) refl in
      let same : spot_in (addr + at) x ≡ s = one_alone (spot_in (addr + at) x) s (sym found ∙ e) in
      let has : has_byte_of addr len x ≡ true = has_byte_there addr at len x l t in
      let all : buffers_between (x ∷ rs) addr len ≡ x.b ∷ buffers_between rs addr len = rw (has, buffers_between) refl in
      let b : x.b.0 ≡ s.b.0 = ap (λ (y : Spot). y.b.0) same in
      let here : (s.b.0 == x.b.0) ≡ true = eq-eqb s.b.0 x.b.0 (sym b) in
      rw (all, here) refl
  | inr f ↦
      let past : spot_at (x ∷ rs) (addr + at) ≡ spot_at rs (addr + at) = rw (f, spot_at) refl in
      let rest : has_buffer (buffers_between rs addr len) s.b ≡ true = stands_between rs addr at len s l (sym past ∙ e) in
      elim (cases_Bool (has_byte_of addr len x)) [
        | inl t ↦
            let all : buffers_between (x ∷ rs) addr len ≡ x.b ∷ buffers_between rs addr len = rw (t, buffers_between) refl in
            elim (cases_Bool (s.b.0 == x.b.0)) [ inl g ↦ rw (all, g) refl | inr g ↦ rw (all, g) rest ]
        | inr g ↦
            let all : buffers_between (x ∷ rs) addr len ≡ buffers_between rs addr len = rw (g, buffers_between) refl in
            rw all rest
      ]
]

op_apart : (rs : List Region) (v : VOp) (at n : ℕ) (d s : Spot) → has_apart_ranges rs v ≡ true → at < vop_len v → spot_at rs (first_address v + at) ≡ Some d → spot_at rs (second_address v + at) ≡ Some s →
    IsApart (op_by_name v d s n)
op_apart rs (vop.Fill addr len byte) at n d s a l e f = tt
op_apart rs (vop.Copy addr from len) at n d s a l e f =
    apart_buffers (buffers_between rs addr len) (buffers_between rs from len) d.b s.b a (stands_between rs addr at len d l e) (stands_between rs from at len s l f)
op_apart rs (vop.Xor addr from len) at n d s a l e f =
    apart_buffers (buffers_between rs addr len) (buffers_between rs from len) d.b s.b a (stands_between rs addr at len d l e) (stands_between rs from at len s l f)
op_apart rs (vop.Probe addr len) at n d s a l e f = tt

-- no part of an operation has one buffer twice
ops_apart : (rs : List Region) (v : VOp) (at len fuel : ℕ) (ops : List Op) → has_apart_ranges rs v ≡ true → at + len ≤ vop_len v → ops_from rs v at len fuel ≡ Some ops → Each IsApart ops
ops_apart rs v at zero fuel ops a l e = let none : [] ≡ ops = one_alone [] ops e in subst (Each IsApart) none tt
ops_apart rs v at (suc len) zero ops a l e = absurd (none_alone ops e)
ops_apart rs v at (suc len) (suc fuel) ops a l e =
    let x = next_of rs v at len fuel ops e in
    let n : ℕ = min (suc len) (min x.d.room x.s.room) in
    let here : IsApart (op_by_name v x.d x.s n) = op_apart rs v at n x.d x.s a (omega (arith, l)) x.first x.second in
    let one : 1 ≤ n = omega (arith, spot_has_room rs (first_address v + at) x.d x.first, spot_has_room rs (second_address v + at) x.s x.second) in
    let within : (at + n) + (suc len - n) ≤ vop_len v = omega (arith, l, one) in
    subst (Each IsApart) x.cut.all (here, ops_apart rs v (at + n) (suc len - n) fuel x.cut.others a within x.cut.rest_is)

-- ---- the job

-- the operations of the first and of the others
record IsJoined (a b : Option (List Op)) (ops : List Op) : Type 0 where
  first : List Op
  others : List Op
  first_is : a ≡ Some first
  others_are : b ≡ Some others
  all : first ++ others ≡ ops

joined_of : (a b : Option (List Op)) (ops : List Op) → joined a b ≡ Some ops → IsJoined a b ops
joined_of None b ops e = absurd (none_alone ops e)
joined_of (Some xs) None ops e = absurd (none_alone ops e)
joined_of (Some xs) (Some ys) ops e = record { first = xs; others = ys; first_is = refl; others_are = refl; all = one_alone (xs ++ ys) ops e }

pieces-append : (xs ys : List Op) (m : Memory) → pieces_shown m (xs ++ ys) ≡ pieces_shown m xs ++ pieces_shown (after_ops m xs) ys
pieces-append [] ys m = refl
pieces-append (x ∷ xs) ys m =
    ap (λ ps. map (piece_shown m x) (pieces_of x) ++ ps) (pieces-append xs ys (after_op m x))
    ∙ sym (append_assoc (map (piece_shown m x) (pieces_of x)) (pieces_shown (after_op m x) xs) (pieces_shown (after_ops (after_op m x) xs) ys))

-- what a job is to be: the memory and the bytes of the operations with addresses
pub record IsMeant (space : Space) (m : Memory) (vs : List VOp) (ops : List Op) : Type 0 where
  pub memory : after_ops m ops ≡ after_vops space m vs
  pub shown : flat_map (λ piece. piece) (pieces_shown m ops) ≡ vops_shown space m vs

pub job_is_meant : (rs : List Region) (vs : List VOp) (ops : List Op) (m : Memory) → IsRising rs → list_all (has_apart_ranges rs) vs ≡ true → job_by_name rs vs ≡ Some ops → IsMeant (regions_space rs) m vs ops
job_is_meant rs [] ops m h a e = let none : [] ≡ ops = one_alone [] ops e in subst (IsMeant (regions_space rs) m []) none (record { memory = refl; shown = refl })
job_is_meant rs (v ∷ vs) ops m h a e =
    let space : Space = regions_space rs in
    let parts = and_parts (has_apart_ranges rs v) (list_all (has_apart_ranges rs) vs) a in
    let x = joined_of (op_in_names rs v) (job_by_name rs vs) ops e in
    let apart : Each IsApart x.first = ops_apart rs v 0 (vop_len v) (vop_len v) x.first parts.0 (omega arith) x.first_is in
    let here : after_ops m x.first ≡ after_vop space m v = ops_make rs v 0 (vop_len v) (vop_len v) x.first m h x.first_is apart in
    let seen : flat_map (λ piece. piece) (pieces_shown m x.first) ≡ vop_shown space m v = ops_show rs v 0 (vop_len v) (vop_len v) x.first m h x.first_is ∙ shown_whole space m v in
    let rest : IsMeant space (after_ops m x.first) vs x.others = job_is_meant rs vs x.others (after_ops m x.first) h parts.1 x.others_are in
    record {
      memory = ap (after_ops m) (sym x.all) ∙ after_ops-append x.first x.others m ∙ rest.memory ∙ ap (λ w. after_vops space w vs) here;
      shown =
          ap (λ os. flat_map (λ piece. piece) (pieces_shown m os)) (sym x.all)
          ∙ ap (flat_map (λ piece. piece)) (pieces-append x.first x.others m)
          ∙ flat_map-append (λ piece. piece) (pieces_shown m x.first) (pieces_shown (after_ops m x.first) x.others)
          ∙ ap₂ (λ xs ys. xs ++ ys) seen (rest.shown ∙ ap (λ w. vops_shown space w vs) here);
    }
