-- An operation with addresses is cut piece by piece.
use Rattle.std.proofs.Common.{◌≡◌, ℕ, zero, suc, ◌+◌, ◌-◌, ◌<◌, ◌≤◌, min, List, [], ◌∷◌, ◌++◌, Option, Some, None, refl, ap, sym, ◌∙◌, arith, append_assoc, length, length-append, inl, inr, subst, ap₂}
use Rattle.std.specs.Prelude.{option_map}
use Rattle.ttm_base.specs.declared.Op.{Op}
use Rattle.journal_model.specs.declared.space.VOp.{VOp}
use Rattle.journal_model.specs.marks.Spaces.{Region}
use Rattle.journal_model.specs.marks.ByName.{Spot, Part, spot_at, parts_from, first_address, second_address, op_by_name, ops_from, joined, op_in_names, job_by_name}
use Rattle.law_legal.proofs.law_spaces.Found.{cases_option, spot_has_room}

-- ---- how often may be more than there are bytes

fuel_parts : (rs : List Region) (addr len f g : ℕ) → len ≤ f → len ≤ g → parts_from rs addr len f ≡ parts_from rs addr len g
fuel_parts rs addr zero f g a b = refl
fuel_parts rs addr (suc len) zero g a b = absurd (omega (arith, a))
fuel_parts rs addr (suc len) (suc f) zero a b = absurd (omega (arith, b))
fuel_parts rs addr (suc len) (suc f) (suc g) a b = elim (cases_option (spot_at rs addr)) [
  | inl e ↦ rw (e, parts_from) refl
  | inr (s, e) ↦
      let some = spot_has_room rs addr s e in
      let n : ℕ = min (suc len) s.room in
      rw (e, parts_from) (ap (option_map (λ parts. record { b = s.b; off = s.off; len = n } ∷ parts)) (fuel_parts rs (addr + n) (suc len - n) f g (omega (arith, a, some)) (omega (arith, b, some))))
]

fuel_ops : (rs : List Region) (v : VOp) (at len f g : ℕ) → len ≤ f → len ≤ g → ops_from rs v at len f ≡ ops_from rs v at len g
fuel_ops rs v at zero f g a b = refl
fuel_ops rs v at (suc len) zero g a b = absurd (omega (arith, a))
fuel_ops rs v at (suc len) (suc f) zero a b = absurd (omega (arith, b))
fuel_ops rs v at (suc len) (suc f) (suc g) a b = elim (cases_option (spot_at rs (first_address v + at))) [
  | inl e ↦ rw (e, ops_from) refl
  | inr (d, e) ↦ elim (cases_option (spot_at rs (second_address v + at))) [
    | inl k ↦ rw (e, k, ops_from) refl
    | inr (s, k) ↦
        let some = spot_has_room rs (first_address v + at) d e in
        let more = spot_has_room rs (second_address v + at) s k in
        let n : ℕ = min (suc len) (min d.room s.room) in
        rw (e, k, ops_from) (ap (option_map (λ ops. op_by_name v d s n ∷ ops)) (fuel_ops rs v (at + n) (suc len - n) f g (omega (arith, a, some, more)) (omega (arith, b, some, more))))
  ]
]

-- ---- one step

parts_step : (rs : List Region) (addr l : ℕ) (s : Spot) → 0 < l → spot_at rs addr ≡ Some s →
    parts_from rs addr l l ≡ option_map (λ parts. record { b = s.b; off = s.off; len = min l s.room } ∷ parts) (parts_from rs (addr + min l s.room) (l - min l s.room) (l - min l s.room))
parts_step rs addr zero s w e = absurd (omega (arith, w))
parts_step rs addr (suc l) s w e =
    let some = spot_has_room rs addr s e in
    let n : ℕ = min (suc l) s.room in
    rw (e, parts_from) (ap (option_map (λ parts. record { b = s.b; off = s.off; len = n } ∷ parts)) (fuel_parts rs (addr + n) (suc l - n) l (suc l - n) (omega (arith, some)) (omega arith)))

ops_step : (rs : List Region) (v : VOp) (at l : ℕ) (d s : Spot) → 0 < l → spot_at rs (first_address v + at) ≡ Some d → spot_at rs (second_address v + at) ≡ Some s →
    ops_from rs v at l l ≡ option_map (λ ops. op_by_name v d s (min l (min d.room s.room)) ∷ ops) (ops_from rs v (at + min l (min d.room s.room)) (l - min l (min d.room s.room)) (l - min l (min d.room s.room)))
ops_step rs v at zero d s w e k = absurd (omega (arith, w))
ops_step rs v at (suc l) d s w e k =
    let some = spot_has_room rs (first_address v + at) d e in
    let more = spot_has_room rs (second_address v + at) s k in
    let n : ℕ = min (suc l) (min d.room s.room) in
    rw (e, k, ops_from) (ap (option_map (λ ops. op_by_name v d s n ∷ ops)) (fuel_ops rs v (at + n) (suc l - n) l (suc l - n) (omega (arith, some, more)) (omega arith)))

put_behind : {X : Type 0} (xs : List X) (x : X) (o : Option (List X)) → option_map (λ zs. xs ++ zs) (option_map (λ ys. x ∷ ys) o) ≡ option_map (λ zs. (xs ++ x ∷ []) ++ zs) o
put_behind xs x None = refl
put_behind xs x (Some ys) = ap Some (sym (append_assoc xs (x ∷ []) ys))

-- ---- what a loop has put, and what is left

pub pieces_go_on : (rs : List Region) (addr at len n addr' : ℕ) (put put' : List Part) (s : Spot) (p : Part) (whole : Option (List Part)) →
    at < len → addr' ≡ addr + at → spot_at rs addr' ≡ Some s → n ≡ min (len - at) s.room → p ≡ record { b = s.b; off = s.off; len = n } → put' ≡ put ++ p ∷ [] →
    whole ≡ option_map (λ parts. put ++ parts) (parts_from rs (addr + at) (len - at) (len - at)) →
    whole ≡ option_map (λ parts. put' ++ parts) (parts_from rs (addr + (at + n)) (len - (at + n)) (len - (at + n)))
pieces_go_on rs addr at len n addr' put put' s p whole w a e m i j h =
    let step = parts_step rs (addr + at) (len - at) s (omega (arith, w)) (subst (λ x. spot_at rs x ≡ Some s) a e) in
    let there : (addr + at) + min (len - at) s.room ≡ addr + (at + n) = omega (arith, m) in
    let left : (len - at) - min (len - at) s.room ≡ len - (at + n) = omega (arith, m) in
    let with_length : ℕ → Part = λ x. record { b = s.b; off = s.off; len = x } in
    let same : with_length (min (len - at) s.room) ≡ p = ap with_length (sym m) ∙ sym i in
    h
    ∙ ap (option_map (λ parts. put ++ parts)) (step ∙ ap₂ (λ x l. option_map (λ parts. with_length (min (len - at) s.room) ∷ parts) (parts_from rs x l l)) there left)
    ∙ put_behind put (with_length (min (len - at) s.room)) (parts_from rs (addr + (at + n)) (len - (at + n)) (len - (at + n)))
    ∙ ap (λ ps. option_map (λ parts. ps ++ parts) (parts_from rs (addr + (at + n)) (len - (at + n)) (len - (at + n)))) (ap (λ x. put ++ x ∷ []) same ∙ sym j)

pub ops_go_on : (rs : List Region) (v : VOp) (at len n first second : ℕ) (put put' : List Op) (d s : Spot) (x : Op) (whole : Option (List Op)) →
    at < len → first ≡ first_address v + at → second ≡ second_address v + at → spot_at rs first ≡ Some d → spot_at rs second ≡ Some s → n ≡ min (len - at) (min d.room s.room) →
    x ≡ op_by_name v d s n → put' ≡ put ++ x ∷ [] →
    whole ≡ option_map (λ ops. put ++ ops) (ops_from rs v at (len - at) (len - at)) →
    whole ≡ option_map (λ ops. put' ++ ops) (ops_from rs v (at + n) (len - (at + n)) (len - (at + n)))
ops_go_on rs v at len n first second put put' d s x whole w a b e f m i j h =
    let step = ops_step rs v at (len - at) d s (omega (arith, w)) (subst (λ y. spot_at rs y ≡ Some d) a e) (subst (λ y. spot_at rs y ≡ Some s) b f) in
    let k : ℕ = min (len - at) (min d.room s.room) in
    let there : at + min (len - at) (min d.room s.room) ≡ at + n = omega (arith, m) in
    let left : (len - at) - min (len - at) (min d.room s.room) ≡ len - (at + n) = omega (arith, m) in
    let same : op_by_name v d s (min (len - at) (min d.room s.room)) ≡ x = ap (op_by_name v d s) (sym m) ∙ sym i in
    h
    ∙ ap (option_map (λ ops. put ++ ops)) (step ∙ ap₂ (λ y l. option_map (λ ops. op_by_name v d s k ∷ ops) (ops_from rs v y l l)) there left)
    ∙ put_behind put (op_by_name v d s k) (ops_from rs v (at + n) (len - (at + n)) (len - (at + n)))
    ∙ ap (λ ps. option_map (λ ops. ps ++ ops) (ops_from rs v (at + n) (len - (at + n)) (len - (at + n)))) (ap (λ y. put ++ y ∷ []) same ∙ sym j)

joined_on : (a : List Op) (o p : Option (List Op)) → joined (Some a) (joined o p) ≡ joined (option_map (λ ops. a ++ ops) o) p
joined_on a None p = refl
joined_on a (Some b) None = refl
joined_on a (Some b) (Some d) = ap Some (sym (append_assoc a b d))

pub jobs_go_on : (rs : List Region) (v : VOp) (vs : List VOp) (put put' : List Op) (whole : Option (List Op)) →
    whole ≡ joined (Some put) (job_by_name rs (v ∷ vs)) → option_map (λ ops. put ++ ops) (op_in_names rs v) ≡ Some put' → whole ≡ joined (Some put') (job_by_name rs vs)
jobs_go_on rs v vs put put' whole h e = h ∙ joined_on put (op_in_names rs v) (job_by_name rs vs) ∙ ap (λ o. joined o (job_by_name rs vs)) e

-- ---- how many there are

count_behind : (count count' most : ℕ) (x : Op) (o : Option (List Op)) → count ≤ most → count' ≡ min (count + 1) most →
    option_map (λ ops. min (count + length ops) most) (option_map (λ ops. x ∷ ops) o) ≡ option_map (λ ops. min (count' + length ops) most) o
count_behind count count' most x None k e = refl
count_behind count count' most x (Some ys) k e =
    let same : min (count + length (x ∷ ys)) most ≡ min (count' + length ys) most = omega (arith, k, e) in
    ap Some same

pub counts_go_on : (rs : List Region) (v : VOp) (at len n first second count count' most : ℕ) (d s : Spot) (whole : Option ℕ) →
    at < len → first ≡ first_address v + at → second ≡ second_address v + at → spot_at rs first ≡ Some d → spot_at rs second ≡ Some s → n ≡ min (len - at) (min d.room s.room) →
    count ≤ most → count' ≡ min (count + 1) most →
    whole ≡ option_map (λ ops. min (count + length ops) most) (ops_from rs v at (len - at) (len - at)) →
    whole ≡ option_map (λ ops. min (count' + length ops) most) (ops_from rs v (at + n) (len - (at + n)) (len - (at + n)))
counts_go_on rs v at len n first second count count' most d s whole w a b e f m i j h =
    let step = ops_step rs v at (len - at) d s (omega (arith, w)) (subst (λ y. spot_at rs y ≡ Some d) a e) (subst (λ y. spot_at rs y ≡ Some s) b f) in
    let k : ℕ = min (len - at) (min d.room s.room) in
    let there : at + min (len - at) (min d.room s.room) ≡ at + n = omega (arith, m) in
    let left : (len - at) - min (len - at) (min d.room s.room) ≡ len - (at + n) = omega (arith, m) in
    h
    ∙ ap (option_map (λ ops. min (count + length ops) most)) (step ∙ ap₂ (λ y l. option_map (λ ops. op_by_name v d s k ∷ ops) (ops_from rs v y l l)) there left)
    ∙ count_behind count count' most (op_by_name v d s k) (ops_from rs v (at + n) (len - (at + n)) (len - (at + n))) i j

some_is : {x y : ℕ} → Some x ≡ Some y → x ≡ y
some_is e = cc

-- operations counted, with those of another list after them
counts_joined : (count count' most : ℕ) (o p : Option (List Op)) → Some count' ≡ option_map (λ ops. min (count + length ops) most) o →
    option_map (λ ops. min (count + length ops) most) (joined o p) ≡ option_map (λ ops. min (count' + length ops) most) p
counts_joined count count' most None p e = absurd (cc)
counts_joined count count' most (Some xs) None e = refl
counts_joined count count' most (Some xs) (Some ys) e =
    let here : count' ≡ min (count + length xs) most = some_is e in
    let both : length (xs ++ ys) ≡ length xs + length ys = length-append xs ys in
    let same : min (count + length (xs ++ ys)) most ≡ min (count' + length ys) most = omega (arith, here, both) in
    ap Some same

pub job_counts_go_on : (rs : List Region) (v : VOp) (vs : List VOp) (count count' most : ℕ) (whole : Option ℕ) →
    whole ≡ option_map (λ ops. min (count + length ops) most) (job_by_name rs (v ∷ vs)) → Some count' ≡ option_map (λ ops. min (count + length ops) most) (op_in_names rs v) →
    whole ≡ option_map (λ ops. min (count' + length ops) most) (job_by_name rs vs)
job_counts_go_on rs v vs count count' most whole h e = h ∙ counts_joined count count' most (op_in_names rs v) (job_by_name rs vs) e

pub job_counts_end : (rs : List Region) (v : VOp) (vs : List VOp) (count most : ℕ) (whole : Option ℕ) →
    whole ≡ option_map (λ ops. min (count + length ops) most) (job_by_name rs (v ∷ vs)) → None ≡ option_map (λ ops. min (count + length ops) most) (op_in_names rs v) → None ≡ whole
job_counts_end rs v vs count most whole h e = elim (cases_option (op_in_names rs v)) [
  | inl n ↦
      let none : job_by_name rs (v ∷ vs) ≡ None = rw (n, job_by_name) refl in
      sym (h ∙ ap (option_map (λ ops. min (count + length ops) most)) none)
  | inr (xs, s) ↦ let e' = rw s at e in absurd (cc)
]

pub counted_few : (count count' most : ℕ) (o : Option (List Op)) → Some count' ≡ option_map (λ ops. min (count + length ops) most) o → count' ≤ most
counted_few count count' most None e = absurd (cc)
counted_few count count' most (Some xs) e = let same : count' ≡ min (count + length xs) most = some_is e in omega (arith, same)
