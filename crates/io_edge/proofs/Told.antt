-- Bytes that are told or not: pieces one after the other.
use Rattle.std.proofs.Common.{◌≡◌, ℕ, ◌+◌, ◌<◌, List, [], ◌++◌, length, take, drop, Option, None, Some, Result, Ok, Err, ap, refl, ◌∙◌, sym, append_assoc, append-nil, arith}
use Rattle.std.proofs.Math.Seq.{take-add}
use Rattle.std.proofs.lemmas.Grind.{common_steps}
use Rattle.std.specs.Prelude.{IsErr}
use Rattle.std.specs.Io.KnownBytes.{append_known, prepend_known}
use Rattle.io_edge.specs.Written.{AppendsFront, Writes}

-- two pieces at the end are one
pub append_known-twice : (told : Option (List ℕ)) (xs ys : List ℕ) → append_known (append_known told xs) ys ≡ append_known told (xs ++ ys)
append_known-twice None xs ys = refl
append_known-twice (Some bytes) xs ys = ap Some (append_assoc bytes xs ys)

-- two pieces in front are one
pub prepend_known-twice : (xs ys : List ℕ) (told : Option (List ℕ)) → prepend_known xs (prepend_known ys told) ≡ prepend_known (xs ++ ys) told
prepend_known-twice xs ys None = refl
prepend_known-twice xs ys (Some bytes) = ap Some (sym (append_assoc xs ys bytes))

-- nothing at the end
pub append_known-nil : (told : Option (List ℕ)) → append_known told [] ≡ told
append_known-nil None = refl
append_known-nil (Some bytes) = ap Some (append-nil bytes)

-- a front, and then a front of what follows it
pub append_known-take : (told : Option (List ℕ)) (bytes : List ℕ) (at n : ℕ)
    → append_known (append_known told (take at bytes)) (take n (drop at bytes)) ≡ append_known told (take (at + n) bytes)
append_known-take told bytes at n =
    append_known-twice told (take at bytes) (take n (drop at bytes)) ∙ ap (append_known told) (sym (take-add at n bytes))

-- ---- after a refusal

-- nothing was written yet
pub front_is_nothing : (told : Option (List ℕ)) (bytes : List ℕ) → 0 < length bytes → AppendsFront told told bytes
front_is_nothing told bytes some = record { front = []; behind = bytes; whole = refl; left = some; appended = sym (append_known-nil told) }

-- a part was written whole, and a front of the next
pub front_of_next : {old mid new : Option (List ℕ)} (xs : List ℕ) {ys : List ℕ} → mid ≡ append_known old xs → AppendsFront mid new ys → AppendsFront old new (xs ++ ys)
front_of_next {old} {mid} {new} xs {ys} first next = record {
  front = xs ++ next.front;
  behind = next.behind;
  whole = ap (λ t. xs ++ t) next.whole ∙ sym (append_assoc xs next.front next.behind);
  left = next.left;
  appended = next.appended ∙ ap (λ t. append_known t next.front) first ∙ append_known-twice old xs next.front;
}

-- a front of a part was written, and nothing of the next
pub front_of_first : {old new : Option (List ℕ)} {xs : List ℕ} (ys : List ℕ) → AppendsFront old new xs → AppendsFront old new (xs ++ ys)
front_of_first {old} {new} {xs} ys first = record {
  front = first.front;
  behind = first.behind ++ ys;
  whole = ap (λ t. t ++ ys) first.whole ∙ append_assoc first.front first.behind ys;
  left = let some : 0 < length first.behind = first.left in grind (arith, common_steps);
  appended = first.appended;
}

-- ---- two calls, one after the other

-- the first wrote its part whole
pub writes_next : {T E : Type 0} (r : Result T E) (old mid new : Option (List ℕ)) (xs ys : List ℕ) → mid ≡ append_known old xs → Writes r mid new ys → Writes r old new (xs ++ ys)
writes_next (Ok _) old mid new xs ys first next = next ∙ ap (λ t. append_known t ys) first ∙ append_known-twice old xs ys
writes_next (Err _) old mid new xs ys first next = front_of_next xs first next

-- a refusal, and what was written before it
pub writes_refused : {T E : Type 0} (r : Result T E) (old new : Option (List ℕ)) (bytes : List ℕ) → IsErr r → AppendsFront old new bytes → Writes r old new bytes
writes_refused (Ok _) old new bytes h front = cc
writes_refused (Err _) old new bytes h front = front
