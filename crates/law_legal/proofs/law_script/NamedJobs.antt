-- A job by name keeps the rules of operations, and mappings are of pages of their buffers.
use Rattle.std.proofs.Common.{◌≡◌, ℕ, zero, suc, ◌+◌, ◌-◌, ◌*◌, ◌/◌, ◌<◌, ◌≤◌, min, max, Bool, true, false, cond, eqb, List, [], ◌∷◌, ◌++◌, length, map, Option, Some, None, refl, sym, ap, subst, ◌∙◌, arith, inl, inr, ◌⊎◌}
use Rattle.std.specs.Prelude.{◌&&◌, ◌||◌, not, filter, find, flat_map, option_map, option_to_list, slice_get, unwrap_or, sum_by, nat_le, nat_lt, ◌==◌}
use Rattle.std.specs.List.{list_all, list_any}
use Rattle.std.proofs.lemmas.Bool.{cases_Bool, and_parts, leb-true, ltb-true, eqb-true, eq-eqb, lt-ltb, false≢true}
use Rattle.std.proofs.lemmas.List.Folds.{list_all-append}
use Rattle.std.proofs.lemmas.List.Concat.{flat_map-cons}
use Rattle.std.proofs.lemmas.List.Sums.{sum_by-append, sum_by-cons}
use Rattle.ttm_base.specs.declared.BufId.{BufId}
use Rattle.ttm_base.specs.declared.Span.{Span}
use Rattle.ttm_base.specs.declared.Op.{Op}
use Rattle.ttm_base.specs.declared.Op.TheVariants as op
use Rattle.ttm_base.specs.Cutting.{op_len}
use Rattle.ttm_base.specs.Holes.{has_page}
use Rattle.journal_model.specs.declared.script.Script.{Script}
use Rattle.journal_model.specs.declared.script.Decl.{Decl}
use Rattle.journal_model.specs.declared.script.MarkKind.{MarkKind}
use Rattle.journal_model.specs.declared.script.MarkKind.TheVariants as mark
use Rattle.journal_model.specs.declared.space.VOp.{VOp}
use Rattle.journal_model.specs.declared.space.VOp.TheVariants as vop
use Rattle.journal_model.specs.rules.State.{has_buffer}
use Rattle.journal_model.specs.rules.Commands.{decl, undeclared}
use Rattle.journal_model.specs.marks.Spaces.{Region, range_of, does_meet, part_before, part_after, part_of, parts_left, new_region, regions_after}
use Rattle.journal_model.specs.marks.ByName.{Spot, spot_in, spot_at, vop_len, first_address, second_address, op_by_name, ops_from, op_in_names, joined, job_by_name, has_byte_of, buffers_between}
use Rattle.journal_model.specs.scripts.CommandRules.{is_between, is_declared, is_range_of, is_op, is_byte}
use Rattle.journal_model.specs.scripts.MarkRules.{ThreadMappings, thread_mappings_after, is_addressed, is_vop, are_apart, has_apart_ranges, is_page_range, is_mark, same_op, same_ops}
use Rattle.journal_model.specs.scripts.ScriptRules.{is_decl, is_name}
use Rattle.law_legal.proofs.law_spaces.Found.{one_alone, none_alone}
use Rattle.law_legal.proofs.law_script.NumberLaws.{between, is_in}
use Rattle.law_legal.proofs.law_items.Tests.{both, joint, three, three_facts, four, four_facts, le_is, is_le}

-- a mapping is of pages of its buffer
abbrev pub is_region : Script → Region → Bool
is_region s r = is_declared s r.b && nat_le (r.off + (r.span.end - r.span.start)) (decl s r.b).pages

-- ---- mappings after a line

all_kept : (p q : Region → Bool) (rs : List Region) → list_all p rs ≡ true → list_all p (filter q rs) ≡ true
all_kept p q [] h = refl
all_kept p q (r ∷ rs) h =
    let f = both (p r) (list_all p rs) h in
    elim (cases_Bool (q r)) [ inl t ↦ rw t (joint (p r) (list_all p (filter q rs)) f.0 (all_kept p q rs f.1)) | inr t ↦ rw t (all_kept p q rs f.1) ]

all_made : (p : Region → Bool) (f : Region → List Region) (rs : List Region) → ((r : Region) → p r ≡ true → list_all p (f r) ≡ true) → list_all p rs ≡ true → list_all p (flat_map f rs) ≡ true
all_made p f [] each h = refl
all_made p f (r ∷ rs) each h =
    let g = both (p r) (list_all p rs) h in
    ap (list_all p) (flat_map-cons f r rs) ∙ list_all-append p (f r) (flat_map f rs) ∙ joint (list_all p (f r)) (list_all p (flat_map f rs)) (each r g.0) (all_made p f rs each g.1)

smaller : (s : Script) (r : Region) (q : Span) → is_region s r ≡ true → (q.start - r.span.start) + (q.end - q.start) ≤ r.span.end - r.span.start → is_region s (part_of r q) ≡ true
smaller s r q h less =
    let f = both (is_declared s r.b) (nat_le (r.off + (r.span.end - r.span.start)) (decl s r.b).pages) h in
    let g = le_is (r.off + (r.span.end - r.span.start)) (decl s r.b).pages f.1 in
    joint (is_declared s r.b) (nat_le ((r.off + (q.start - r.span.start)) + (q.end - q.start)) (decl s r.b).pages) f.0 (is_le _ (decl s r.b).pages (omega (arith, g, less)))

before_right : (s : Script) (range : Span) (r : Region) → is_region s r ≡ true → list_all (is_region s) (map (part_of r) (option_to_list (part_before range r.span))) ≡ true
before_right s range r h = elim (cases_Bool (nat_lt r.span.start range.start)) [
  | inl t ↦ rw t (joint (is_region s (part_of r (record { start = r.span.start; end = min r.span.end range.start }))) true (smaller s r (record { start = r.span.start; end = min r.span.end range.start }) h (omega arith)) refl)
  | inr t ↦ rw t refl
]

after_right : (s : Script) (range : Span) (r : Region) → is_region s r ≡ true → list_all (is_region s) (map (part_of r) (option_to_list (part_after range r.span))) ≡ true
after_right s range r h = elim (cases_Bool (nat_lt range.end r.span.end)) [
  | inl t ↦
      let less = ltb-true range.end r.span.end t in
      rw t (joint (is_region s (part_of r (record { start = max r.span.start range.end; end = r.span.end }))) true (smaller s r (record { start = max r.span.start range.end; end = r.span.end }) h (omega (arith, less))) refl)
  | inr t ↦ rw t refl
]

map-append : (f : Span → Region) (xs ys : List Span) → map f (xs ++ ys) ≡ map f xs ++ map f ys
map-append f [] ys = refl
map-append f (x ∷ xs) ys = ap (λ rs. f x ∷ rs) (map-append f xs ys)

left_right : (s : Script) (range : Span) (r : Region) → is_region s r ≡ true → list_all (is_region s) (parts_left range r) ≡ true
left_right s range r h =
    let before = option_to_list (part_before range r.span) in
    let after = option_to_list (part_after range r.span) in
    ap (list_all (is_region s)) (map-append (part_of r) before after) ∙ list_all-append (is_region s) (map (part_of r) before) (map (part_of r) after)
    ∙ joint (list_all (is_region s) (map (part_of r) before)) (list_all (is_region s) (map (part_of r) after)) (before_right s range r h) (after_right s range r h)

-- what stays of a mapping where a range comes
abbrev stays : Span → Region → List Region
stays range r = cond (does_meet range r) (parts_left range r) (r ∷ [])

stays_right : (s : Script) (range : Span) (r : Region) → is_region s r ≡ true → list_all (is_region s) (stays range r) ≡ true
stays_right s range r h = elim (cases_Bool (does_meet range r)) [
  | inl t ↦ ap (λ b. list_all (is_region s) (cond b (parts_left range r) (r ∷ []))) t ∙ left_right s range r h
  | inr t ↦ ap (λ b. list_all (is_region s) (cond b (parts_left range r) (r ∷ []))) t ∙ joint (is_region s r) true h refl
]

request_right : (s : Script) (rs : List Region) (m : MarkKind) → list_all (is_region s) rs ≡ true → list_all (is_region s) (new_region m) ≡ true → list_all (is_region s) (regions_after rs m) ≡ true
request_right s rs m h new =
    let p = is_region s in
    let range = range_of m in
    let left = flat_map (stays range) rs in
    let all = all_made p (stays range) rs (stays_right s range) h in
    let below = filter (λ r. nat_le r.span.end range.start) left in
    let above = filter (λ r. not (nat_le r.span.end range.start)) left in
    list_all-append p (below ++ new_region m) above
    ∙ joint (list_all p (below ++ new_region m)) (list_all p above)
    (list_all-append p below (new_region m) ∙ joint (list_all p below) (list_all p (new_region m)) (all_kept p (λ r. nat_le r.span.end range.start) left all) new)
    (all_kept p (λ r. not (nat_le r.span.end range.start)) left all)

-- a line on the space leaves such mappings
pub regions_stay : (s : Script) (d : ThreadMappings) (m : MarkKind) → list_all (is_region s) d.regions ≡ true → is_mark s d m ≡ true → list_all (is_region s) (thread_mappings_after d m).regions ≡ true
regions_stay s d (mark.Map b) h k = h
regions_stay s d (mark.Unmap b) h k = h
regions_stay s d mark.Mapped h k = h
regions_stay s d (mark.Vsubmit vs) h k = h
regions_stay s d (mark.Vunmap va n) h k = request_right s d.regions (mark.Vunmap va n) h refl
regions_stay s d (mark.Vmap va n b off) h k =
    let f = four_facts (is_page_range va n) (is_declared s b) (nat_le off 4095) (nat_le (off + n) (decl s b).pages) k in
    let g = le_is (off + n) (decl s b).pages f.3 in
    let r : Region = record { span = record { start = va; end = va + n }; b = b; off = off } in
    request_right s d.regions (mark.Vmap va n b off) h (joint (is_region s r) true (joint (is_declared s b) (nat_le (off + ((va + n) - va)) (decl s b).pages) f.1 (is_le _ (decl s b).pages (omega (arith, g)))) refl)

-- ---- where an address stands

cases_option : {A : Type 0} (o : Option A) → (o ≡ None) ⊎ ((x : A) × (o ≡ Some x))
cases_option None = inl refl
cases_option (Some x) = inr (x, refl)

found_right : (p test : Region → Bool) (rs : List Region) (r : Region) → list_all p rs ≡ true → find test rs ≡ Some r → (p r ≡ true) × (test r ≡ true)
found_right p test [] r h e = absurd (none_alone r e)
found_right p test (x ∷ rs) r h e = elim (cases_Bool (test x)) [
  | inl t ↦ let e' = rw t at e in let same : x ≡ r = one_alone x r e' in subst (λ (y : Region). (p y ≡ true) × (test y ≡ true)) same ((both (p x) (list_all p rs) h).0, t)
  | inr t ↦ found_right p test rs r (both (p x) (list_all p rs) h).1 (rw t at e)
]

-- a byte of a buffer, and room up to the end of a mapping
record IsSpot (s : Script) (p : Spot) : Type 0 where
  there : is_declared s p.b ≡ true
  some : 1 ≤ p.room
  inside : p.off + p.room ≤ 4096 * (decl s p.b).pages

spot_in_right : (s : Script) (addr : ℕ) (r : Region) → is_region s r ≡ true → has_page (addr / 4096) r.span ≡ true → IsSpot s (spot_in addr r)
spot_in_right s addr r h e =
    let f = both (is_declared s r.b) (nat_le (r.off + (r.span.end - r.span.start)) (decl s r.b).pages) h in
    let g = le_is (r.off + (r.span.end - r.span.start)) (decl s r.b).pages f.1 in
    let parts = and_parts (nat_le r.span.start (addr / 4096)) (nat_lt (addr / 4096) r.span.end) e in
    let low = leb-true r.span.start (addr / 4096) parts.0 in
    let high = ltb-true (addr / 4096) r.span.end parts.1 in
    record { there = f.0; some = omega (arith, high); inside = omega (arith, g, low, high) }

spot_chosen : (s : Script) (rs : List Region) (addr : ℕ) (o : Option Region) (p : Spot) → list_all (is_region s) rs ≡ true → find (λ r. has_page (addr / 4096) r.span) rs ≡ o → option_map (spot_in addr) o ≡ Some p → IsSpot s p
spot_chosen s rs addr None p h e i = absurd (none_alone p i)
spot_chosen s rs addr (Some r) p h e i =
    let same : spot_in addr r ≡ p = one_alone (spot_in addr r) p i in
    let f = found_right (is_region s) (λ x. has_page (addr / 4096) x.span) rs r h e in
    subst (IsSpot s) same (spot_in_right s addr r f.0 f.1)

spot_right : (s : Script) (rs : List Region) (addr : ℕ) (p : Spot) → list_all (is_region s) rs ≡ true → spot_at rs addr ≡ Some p → IsSpot s p
spot_right s rs addr p h e = spot_chosen s rs addr (find (λ r. has_page (addr / 4096) r.span) rs) p h refl e

-- ---- a part of an operation

-- a part and those after it
record IsCut (x : Op) (rest : Option (List Op)) (ops : List Op) : Type 0 where
  others : List Op
  rest_is : rest ≡ Some others
  all : x ∷ others ≡ ops

cut_of : (x : Op) (rest : Option (List Op)) (ops : List Op) → option_map (λ os. x ∷ os) rest ≡ Some ops → IsCut x rest ops
cut_of x None ops e = absurd (none_alone ops e)
cut_of x (Some os) ops e = record { others = os; rest_is = refl; all = one_alone (x ∷ os) ops e }

-- how long the next part is
abbrev next_len : ℕ → Spot → Spot → ℕ
next_len len d s = min (suc len) (min d.room s.room)

-- the next part of an operation
record IsNext (rs : List Region) (v : VOp) (at len fuel : ℕ) (ops : List Op) : Type 0 where
  d : Spot
  s : Spot
  first : spot_at rs (first_address v + at) ≡ Some d
  second : spot_at rs (second_address v + at) ≡ Some s
  cut : IsCut (op_by_name v d s (next_len len d s)) (ops_from rs v (at + next_len len d s) (suc len - next_len len d s) fuel) ops

next_of : (rs : List Region) (v : VOp) (at len fuel : ℕ) (ops : List Op) → ops_from rs v at (suc len) (suc fuel) ≡ Some ops → IsNext rs v at len fuel ops
next_of rs v at len fuel ops e = elim (cases_option (spot_at rs (first_address v + at))) [
  | inl a ↦ let none : ops_from rs v at (suc len) (suc fuel) ≡ None = rw (a, ops_from) refl in absurd (none_alone ops (sym none ∙ e))
  | inr (d, a) ↦ elim (cases_option (spot_at rs (second_address v + at))) [
    | inl b ↦ let none : ops_from rs v at (suc len) (suc fuel) ≡ None = rw (a, b, ops_from) refl in absurd (none_alone ops (sym none ∙ e))
    | inr (s, b) ↦
        let n : ℕ = next_len len d s in
        let some : ops_from rs v at (suc len) (suc fuel) ≡ option_map (λ os. op_by_name v d s n ∷ os) (ops_from rs v (at + n) (suc len - n) fuel) = rw (a, b, ops_from) refl in
        record { d = d; s = s; first = a; second = b; cut = cut_of (op_by_name v d s n) (ops_from rs v (at + n) (suc len - n) fuel) ops (sym some ∙ e) }
  ]
]

part_len : (v : VOp) (d s : Spot) (n : ℕ) → op_len (op_by_name v d s n) ≡ n
part_len (vop.Fill addr len byte) d s n = refl
part_len (vop.Copy addr from len) d s n = refl
part_len (vop.Xor addr from len) d s n = refl
part_len (vop.Probe addr len) d s n = refl

ops_len : (rs : List Region) (v : VOp) (at len fuel : ℕ) (ops : List Op) → ops_from rs v at len fuel ≡ Some ops → (sum_by op_len ops ≡ len) × (0 < len → 0 < length ops)
ops_len rs v at zero fuel ops e = let none : [] ≡ ops = one_alone [] ops e in subst (λ (os : List Op). (sum_by op_len os ≡ 0) × (0 < 0 → 0 < length os)) none (refl, λ l. absurd (omega (arith, l)))
ops_len rs v at (suc len) zero ops e = absurd (none_alone ops e)
ops_len rs v at (suc len) (suc fuel) ops e =
    let x = next_of rs v at len fuel ops e in
    let n = next_len len x.d x.s in
    let o = op_by_name v x.d x.s n in
    let rest = (ops_len rs v (at + n) (suc len - n) fuel x.cut.others x.cut.rest_is).0 in
    let here = part_len v x.d x.s n in
    let sum = sum_by-cons op_len o x.cut.others in
    subst (λ (os : List Op). (sum_by op_len os ≡ suc len) × (0 < suc len → 0 < length os)) x.cut.all (omega (arith, rest, here, sum), λ l. omega arith)

-- ---- both lists of a job

-- two lists joined
record IsJoined (a b : Option (List Op)) (ops : List Op) : Type 0 where
  xs : List Op
  ys : List Op
  left : a ≡ Some xs
  right : b ≡ Some ys
  all : xs ++ ys ≡ ops

joined_of : (a b : Option (List Op)) (ops : List Op) → joined a b ≡ Some ops → IsJoined a b ops
joined_of (Some xs) (Some ys) ops h = record { xs = xs; ys = ys; left = refl; right = refl; all = one_alone (xs ++ ys) ops h }
joined_of (Some xs) None ops h = absurd (none_alone ops h)
joined_of None b ops h = absurd (none_alone ops h)

-- they are as long as those with addresses
pub job_len : (rs : List Region) (vs : List VOp) (ops : List Op) → job_by_name rs vs ≡ Some ops → sum_by op_len ops ≡ sum_by vop_len vs
job_len rs [] ops h = let none : [] ≡ ops = one_alone [] ops h in ap (sum_by op_len) (sym none)
job_len rs (v ∷ vs) ops h =
    let j = joined_of (op_in_names rs v) (job_by_name rs vs) ops h in
    let a = (ops_len rs v 0 (vop_len v) (vop_len v) j.xs j.left).0 in
    ap (sum_by op_len) (sym j.all) ∙ sum_by-append op_len j.xs j.ys ∙ ap (λ n. n + sum_by op_len j.ys) a ∙ ap (λ n. vop_len v + n) (job_len rs vs j.ys j.right) ∙ sym (sum_by-cons vop_len v vs)

length-append : (xs ys : List Op) → length (xs ++ ys) ≡ length xs + length ys
length-append [] ys = omega arith
length-append (x ∷ xs) ys = let e = length-append xs ys in omega (arith, e)

addressed_some : (addr len : ℕ) → is_addressed addr len ≡ true → (1 ≤ len) × (len ≤ 16777216)
addressed_some addr len h = between 1 16777216 len (three_facts (nat_le addr 4294967295) (is_between 1 16777216 len) (nat_le (addr + len) 4294967296) h).1

some_len : (v : VOp) → is_vop v ≡ true → (1 ≤ vop_len v) × (vop_len v ≤ 16777216)
some_len (vop.Fill addr len byte) h = addressed_some addr len (both (is_addressed addr len) (is_byte byte) h).0
some_len (vop.Copy addr from len) h = addressed_some addr len (both (is_addressed addr len) (is_addressed from len) h).0
some_len (vop.Xor addr from len) h = addressed_some addr len (both (is_addressed addr len) (is_addressed from len) h).0
some_len (vop.Probe addr len) h = addressed_some addr len (both (is_addressed addr len) (nat_le len 256) h).0

-- and as many at least
pub job_count : (rs : List Region) (vs : List VOp) (ops : List Op) → job_by_name rs vs ≡ Some ops → list_all is_vop vs ≡ true → length vs ≤ length ops
job_count rs [] ops h fit = omega arith
job_count rs (v ∷ vs) ops h fit =
    let f = both (is_vop v) (list_all is_vop vs) fit in
    let j = joined_of (op_in_names rs v) (job_by_name rs vs) ops h in
    let some = (some_len v f.0).0 in
    let a = (ops_len rs v 0 (vop_len v) (vop_len v) j.xs j.left).1 (omega (arith, some)) in
    let rest = job_count rs vs j.ys j.right f.1 in
    let len = length-append j.xs j.ys in
    subst (λ (os : List Op). length (v ∷ vs) ≤ length os) j.all (omega (arith, a, rest, len))

-- ---- the rules of operations

second_of_six : (a b c d e f : Bool) → (a && b && c && d && e && f) ≡ true → b ≡ true
second_of_six true true c d e f h = refl
second_of_six true false c d e f h = absurd cc
second_of_six false b c d e f h = absurd cc

pages_small : (v : ℕ) (ds : List Decl) (i : ℕ) → list_all (is_decl v) ds ≡ true → (unwrap_or (slice_get ds i) undeclared).pages ≤ 4096
pages_small v [] i h = omega arith
pages_small v (d ∷ ds) zero h =
    let f = both (is_decl v d) (list_all (is_decl v) ds) h in
    (between 1 4096 d.pages (second_of_six (is_name d.name) (is_between 1 4096 d.pages) _ _ _ _ f.0)).1
pages_small v (d ∷ ds) (suc i) h = pages_small v ds i (both (is_decl v d) (list_all (is_decl v) ds) h).1

range_right : (s : Script) (v : ℕ) (p : Spot) (n : ℕ) → list_all (is_decl v) s.buffers ≡ true → IsSpot s p → 1 ≤ n → n ≤ p.room → n ≤ 16777216 → is_range_of s p.b p.off n ≡ true
range_right s v p n decls spot some room small =
    let pages = pages_small v s.buffers p.b.0 decls in
    let inside = spot.inside in
    let off : p.off ≤ 16777216 = omega (arith, pages, inside) in
    four (is_declared s p.b) (nat_le p.off 16777216) (is_between 1 16777216 n) (nat_le (p.off + n) (4096 * (decl s p.b).pages))
    spot.there (is_le p.off 16777216 off) (is_in 1 16777216 n some small) (is_le (p.off + n) (4096 * (decl s p.b).pages) (omega (arith, inside, room)))

-- ---- no buffer in both ranges

same_seen : (bs : List BufId) (b c : BufId) → b.0 ≡ c.0 → has_buffer bs b ≡ has_buffer bs c
same_seen [] b c e = refl
same_seen (x ∷ bs) b c e = ap (λ n. (n == x.0) || has_buffer bs b) e ∙ ap (λ t. (c.0 == x.0) || t) (same_seen bs b c e)

in_both : (bs cs : List BufId) (b c : BufId) → has_buffer bs b ≡ true → has_buffer cs c ≡ true → b.0 ≡ c.0 → list_any (has_buffer bs) cs ≡ true
in_both bs [] b c h k e = absurd (false≢true k)
in_both bs (y ∷ ys) b c h k e = elim (cases_Bool (c.0 == y.0)) [
  | inl t ↦
      let here : has_buffer bs y ≡ true = sym (same_seen bs b y (e ∙ eqb-true c.0 y.0 t)) ∙ h in
      rw here refl
  | inr f ↦
      let rest : list_any (has_buffer bs) ys ≡ true = in_both bs ys b c h (rw f at k) e in
      elim (cases_Bool (has_buffer bs y)) [ inl t ↦ rw t refl | inr g ↦ rw g rest ]
]

apart_buffers : (bs cs : List BufId) (b c : BufId) → are_apart bs cs ≡ true → has_buffer bs b ≡ true → has_buffer cs c ≡ true → not (b.0 == c.0) ≡ true
apart_buffers bs cs b c a h k = elim (cases_Bool (b.0 == c.0)) [
  | inl t ↦
      let both : list_any (has_buffer bs) cs ≡ true = in_both bs cs b c h k (eqb-true b.0 c.0 t) in
      absurd (false≢true (ap not (sym both) ∙ a))
  | inr f ↦ ap not f
]

has_byte_there : (addr at len : ℕ) (r : Region) → at < len → has_page ((addr + at) / 4096) r.span ≡ true → has_byte_of addr len r ≡ true
has_byte_there addr at len r l e =
    let parts = and_parts (nat_le r.span.start ((addr + at) / 4096)) (nat_lt ((addr + at) / 4096) r.span.end) e in
    let low = leb-true r.span.start ((addr + at) / 4096) parts.0 in
    let high = ltb-true ((addr + at) / 4096) r.span.end parts.1 in
    let both : max addr (4096 * r.span.start) < min (addr + len) (4096 * r.span.end) = omega (arith, l, low, high) in
    lt-ltb (max addr (4096 * r.span.start)) (min (addr + len) (4096 * r.span.end)) both

stands_between : (rs : List Region) (addr at len : ℕ) (s : Spot) → at < len → spot_at rs (addr + at) ≡ Some s → has_buffer (buffers_between rs addr len) s.b ≡ true
stands_between [] addr at len s l e = absurd (none_alone s e)
stands_between (x ∷ rs) addr at len s l e = elim (cases_Bool (has_page ((addr + at) / 4096) x.span)) [
  | inl t ↦
      let found : spot_at (x ∷ rs) (addr + at) ≡ Some (spot_in (addr + at) x) = rw (t, spot_at) refl in
      let same : spot_in (addr + at) x ≡ s = one_alone (spot_in (addr + at) x) s (sym found ∙ e) in
      let has : has_byte_of addr len x ≡ true = has_byte_there addr at len x l t in
      let all : buffers_between (x ∷ rs) addr len ≡ x.b ∷ buffers_between rs addr len = rw (has, buffers_between) refl in
      let b : x.b.0 ≡ s.b.0 = ap (λ (y : Spot). y.b.0) same in
      let here : (s.b.0 == x.b.0) ≡ true = eq-eqb s.b.0 x.b.0 (sym b) in
      rw (all, here) refl
  | inr f ↦
      let past : spot_at (x ∷ rs) (addr + at) ≡ spot_at rs (addr + at) = rw (f, spot_at) refl in
      let rest : has_buffer (buffers_between rs addr len) s.b ≡ true = stands_between rs addr at len s l (sym past ∙ e) in
      elim (cases_Bool (has_byte_of addr len x)) [
        | inl t ↦
            let all : buffers_between (x ∷ rs) addr len ≡ x.b ∷ buffers_between rs addr len = rw (t, buffers_between) refl in
            elim (cases_Bool (s.b.0 == x.b.0)) [ inl g ↦ rw (all, g) refl | inr g ↦ rw (all, g) rest ]
        | inr g ↦
            let all : buffers_between (x ∷ rs) addr len ≡ buffers_between rs addr len = rw (g, buffers_between) refl in
            rw all rest
      ]
]

-- ---- each part keeps its rules

-- what holds of a part of an operation
record IsPart (s : Script) (rs : List Region) (v : VOp) (at n : ℕ) (d e : Spot) : Type 0 where
  first : spot_at rs (first_address v + at) ≡ Some d
  second : spot_at rs (second_address v + at) ≡ Some e
  begins : at < vop_len v
  d_range : is_range_of s d.b d.off n ≡ true
  e_range : is_range_of s e.b e.off n ≡ true
  n_small : n ≤ vop_len v

part_fits : (s : Script) (rs : List Region) (v : VOp) (at n : ℕ) (d e : Spot) → is_vop v ≡ true → has_apart_ranges rs v ≡ true → IsPart s rs v at n d e → is_op s (op_by_name v d e n) ≡ true
part_fits s rs (vop.Fill addr len byte) at n d e k a p = joint (is_range_of s d.b d.off n) (is_byte byte) p.d_range (both (is_addressed addr len) (is_byte byte) k).1
part_fits s rs (vop.Copy addr from len) at n d e k a p =
    three (is_range_of s d.b d.off n) (is_range_of s e.b e.off n) (not (d.b.0 == e.b.0)) p.d_range p.e_range
    (apart_buffers (buffers_between rs addr len) (buffers_between rs from len) d.b e.b a (stands_between rs addr at len d p.begins p.first) (stands_between rs from at len e p.begins p.second))
part_fits s rs (vop.Xor addr from len) at n d e k a p =
    three (is_range_of s d.b d.off n) (is_range_of s e.b e.off n) (not (d.b.0 == e.b.0)) p.d_range p.e_range
    (apart_buffers (buffers_between rs addr len) (buffers_between rs from len) d.b e.b a (stands_between rs addr at len d p.begins p.first) (stands_between rs from at len e p.begins p.second))
part_fits s rs (vop.Probe addr len) at n d e k a p =
    let few = le_is len 256 (both (is_addressed addr len) (nat_le len 256) k).1 in
    let less = p.n_small in
    joint (is_range_of s d.b d.off n) (nat_le n 256) p.d_range (is_le n 256 (omega (arith, few, less)))

ops_right : (s : Script) (version : ℕ) (rs : List Region) (v : VOp) (at len fuel : ℕ) (ops : List Op) → list_all (is_decl version) s.buffers ≡ true → list_all (is_region s) rs ≡ true
    → is_vop v ≡ true → has_apart_ranges rs v ≡ true → at + len ≤ vop_len v → ops_from rs v at len fuel ≡ Some ops → list_all (is_op s) ops ≡ true
ops_right s version rs v at zero fuel ops decls regions k a h e = let none : [] ≡ ops = one_alone [] ops e in ap (list_all (is_op s)) (sym none)
ops_right s version rs v at (suc len) zero ops decls regions k a h e = absurd (none_alone ops e)
ops_right s version rs v at (suc len) (suc fuel) ops decls regions k a h e =
    let x = next_of rs v at len fuel ops e in
    let n = next_len len x.d x.s in
    let o = op_by_name v x.d x.s n in
    let first = spot_right s rs (first_address v + at) x.d regions x.first in
    let second = spot_right s rs (second_address v + at) x.s regions x.second in
    let p = first.some in
    let q = second.some in
    let small = (some_len v k).1 in
    let part : IsPart s rs v at n x.d x.s = record {
      first = x.first;
      second = x.second;
      begins = omega (arith, h);
      d_range = range_right s version x.d n decls first (omega (arith, p, q)) (omega arith) (omega (arith, h, small));
      e_range = range_right s version x.s n decls second (omega (arith, p, q)) (omega arith) (omega (arith, h, small));
      n_small = omega (arith, h);
    } in
    ap (list_all (is_op s)) (sym x.cut.all)
    ∙ joint (is_op s o) (list_all (is_op s) x.cut.others) (part_fits s rs v at n x.d x.s k a part)
    (ops_right s version rs v (at + n) (suc len - n) fuel x.cut.others decls regions k a (omega (arith, h)) x.cut.rest_is)

-- the operations by name keep the rules of operations
pub job_fits : (s : Script) (v : ℕ) (rs : List Region) (vs : List VOp) (ops : List Op) → list_all (is_decl v) s.buffers ≡ true → list_all (is_region s) rs ≡ true → job_by_name rs vs ≡ Some ops
    → list_all is_vop vs ≡ true → list_all (has_apart_ranges rs) vs ≡ true → list_all (is_op s) ops ≡ true
job_fits s version rs [] ops decls regions h fit apart = let none : [] ≡ ops = one_alone [] ops h in ap (list_all (is_op s)) (sym none)
job_fits s version rs (v ∷ vs) ops decls regions h fit apart =
    let f = both (is_vop v) (list_all is_vop vs) fit in
    let a = both (has_apart_ranges rs v) (list_all (has_apart_ranges rs) vs) apart in
    let j = joined_of (op_in_names rs v) (job_by_name rs vs) ops h in
    ap (list_all (is_op s)) (sym j.all) ∙ list_all-append (is_op s) j.xs j.ys
    ∙ joint (list_all (is_op s) j.xs) (list_all (is_op s) j.ys)
    (ops_right s version rs v 0 (vop_len v) (vop_len v) j.xs decls regions f.0 a.0 (omega arith) j.left)
    (job_fits s version rs vs j.ys decls regions j.right f.1 a.1)

-- ---- lists that are one

self : (n : ℕ) → eqb n n ≡ true
self n = eq-eqb n n refl

same_op_self : (o : Op) → same_op o o ≡ true
same_op_self (op.Fill b i n x) = four (eqb b.0 b.0) (eqb i i) (eqb n n) (eqb x x) (self b.0) (self i) (self n) (self x)
same_op_self (op.Copy b i c k n) = joint (eqb b.0 b.0 && eqb i i && eqb c.0 c.0 && eqb k k) (eqb n n) (four (eqb b.0 b.0) (eqb i i) (eqb c.0 c.0) (eqb k k) (self b.0) (self i) (self c.0) (self k)) (self n)
same_op_self (op.Xor b i c k n) = joint (eqb b.0 b.0 && eqb i i && eqb c.0 c.0 && eqb k k) (eqb n n) (four (eqb b.0 b.0) (eqb i i) (eqb c.0 c.0) (eqb k k) (self b.0) (self i) (self c.0) (self k)) (self n)
same_op_self (op.Probe b i n) = three (eqb b.0 b.0) (eqb i i) (eqb n n) (self b.0) (self i) (self n)

-- a list is the same as itself
pub same_self : (ops : List Op) → same_ops ops ops ≡ true
same_self [] = refl
same_self (o ∷ ops) = joint (same_op o o) (same_ops ops ops) (same_op_self o) (same_self ops)

buffer_is : (b c : BufId) → eqb b.0 c.0 ≡ true → b ≡ c
buffer_is b c h = ap (λ n. let x : BufId = record { 0 = n } in x) (eqb-true b.0 c.0 h)

same_op_is : (x y : Op) → same_op x y ≡ true → x ≡ y
same_op_is (op.Fill b i n x) (op.Fill c j m y) h =
    let f = four_facts (eqb b.0 c.0) (eqb i j) (eqb n m) (eqb x y) h in
    ap (λ a. op.Fill a i n x) (buffer_is b c f.0) ∙ ap (λ a. op.Fill c a n x) (eqb-true i j f.1) ∙ ap (λ a. op.Fill c j a x) (eqb-true n m f.2) ∙ ap (λ a. op.Fill c j m a) (eqb-true x y f.3)
same_op_is (op.Copy b i e k n) (op.Copy c j f l m) h =
    let g = both (eqb b.0 c.0 && eqb i j && eqb e.0 f.0 && eqb k l) (eqb n m) h in
    let r = four_facts (eqb b.0 c.0) (eqb i j) (eqb e.0 f.0) (eqb k l) g.0 in
    ap (λ a. op.Copy a i e k n) (buffer_is b c r.0) ∙ ap (λ a. op.Copy c a e k n) (eqb-true i j r.1) ∙ ap (λ a. op.Copy c j a k n) (buffer_is e f r.2) ∙ ap (λ a. op.Copy c j f a n) (eqb-true k l r.3)
    ∙ ap (λ a. op.Copy c j f l a) (eqb-true n m g.1)
same_op_is (op.Xor b i e k n) (op.Xor c j f l m) h =
    let g = both (eqb b.0 c.0 && eqb i j && eqb e.0 f.0 && eqb k l) (eqb n m) h in
    let r = four_facts (eqb b.0 c.0) (eqb i j) (eqb e.0 f.0) (eqb k l) g.0 in
    ap (λ a. op.Xor a i e k n) (buffer_is b c r.0) ∙ ap (λ a. op.Xor c a e k n) (eqb-true i j r.1) ∙ ap (λ a. op.Xor c j a k n) (buffer_is e f r.2) ∙ ap (λ a. op.Xor c j f a n) (eqb-true k l r.3)
    ∙ ap (λ a. op.Xor c j f l a) (eqb-true n m g.1)
same_op_is (op.Probe b i n) (op.Probe c j m) h =
    let f = three_facts (eqb b.0 c.0) (eqb i j) (eqb n m) h in
    ap (λ a. op.Probe a i n) (buffer_is b c f.0) ∙ ap (λ a. op.Probe c a n) (eqb-true i j f.1) ∙ ap (λ a. op.Probe c j a) (eqb-true n m f.2)
same_op_is _ _ h = absurd (false≢true h)

-- lists that are the same are one
pub same_are : (xs ys : List Op) → same_ops xs ys ≡ true → xs ≡ ys
same_are [] [] h = refl
same_are [] (y ∷ ys) h = absurd (false≢true h)
same_are (x ∷ xs) [] h = absurd (false≢true h)
same_are (x ∷ xs) (y ∷ ys) h =
    let f = both (same_op x y) (same_ops xs ys) h in
    ap (λ a. a ∷ xs) (same_op_is x y f.0) ∙ ap (λ os. y ∷ os) (same_are xs ys f.1)
