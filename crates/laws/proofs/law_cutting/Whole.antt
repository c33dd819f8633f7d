-- The parts of an operation, one after another, are the operation.
use mathlib.Core.Path.{fun_ext}
use Rattle.std.proofs.Common.{◌≡◌, ℕ, ◌+◌, ◌-◌, ◌<◌, ◌≤◌, min, zero, suc, Bool, true, false, List, [], ◌∷◌, ◌++◌, refl, sym, subst, ◌∙◌, ap, ap₂, arith}
use Rattle.std.specs.Prelude.{map, flat_map, nat_le, nat_lt, slice_get, Some, ◌==◌, ◌&&◌, bit_xor, if◌then◌else◌}
use Rattle.std.specs.List.{list_all}
use Rattle.std.proofs.lemmas.Bool.Decides.{nat_tests}
use Rattle.ttm_base.specs.declared.BufId.{BufId}
use Rattle.ttm_base.specs.declared.Op.{Op}
use Rattle.ttm_base.specs.declared.Op.TheVariants as op
use Rattle.ttm_base.specs.ListWords.{count_from}
use Rattle.ttm_base.specs.Cutting.{to_border, until_border, op_len, pieces_from, pieces_of}
use Rattle.journal_model.specs.declared.script.Script.{Script}
use Rattle.journal_model.specs.rules.PlainMemory.{Memory, after_op, after_ops, memory_range, piece_shown}
use Rattle.journal_model.specs.scripts.CommandRules.{is_op}
use Rattle.laws.specs.law_cutting.Parts.{part_of, IsOfPages, IsPiece}

-- two buffers, where an operation reads beside what it writes
abbrev pub IsApart : Op → Type 0
IsApart (op.Fill dst off len byte) = Unit {0}
IsApart (op.Copy dst doff src soff len) = (dst.0 == src.0) ≡ false
IsApart (op.Xor dst doff src soff len) = (dst.0 == src.0) ≡ false
IsApart (op.Probe src off len) = Unit {0}

-- the first bytes of an operation
abbrev pub shortened : ℕ → Op → Op
shortened n (op.Fill dst off len byte) = op.Fill dst off n byte
shortened n (op.Copy dst doff src soff len) = op.Copy dst doff src soff n
shortened n (op.Xor dst doff src soff len) = op.Xor dst doff src soff n
shortened n (op.Probe src off len) = op.Probe src off n

-- ---- no byte, and some bytes more

none_at : (b off c x y z : ℕ) → (if (b == c) && nat_le off x && nat_lt x (off + 0) then z else y) ≡ y
none_at b off c x y z = grind (arith, nat_tests)

pub after_none : (o : Op) (m : Memory) → after_op m (shortened 0 o) ≡ m
after_none (op.Fill dst off len byte) m = fun_ext (λ c. fun_ext (λ x. none_at dst.0 off c x (m c x) byte))
after_none (op.Copy dst doff src soff len) m = fun_ext (λ c. fun_ext (λ x. none_at dst.0 doff c x (m c x) (m src.0 (soff + (x - doff)))))
after_none (op.Xor dst doff src soff len) m = fun_ext (λ c. fun_ext (λ x. none_at dst.0 doff c x (m c x) (bit_xor (m dst.0 (doff + (x - doff))) (m src.0 (soff + (x - doff))))))
after_none (op.Probe src off len) m = refl

-- u is put after z, where both are one
more_at : (b off n k c x y z u : ℕ) → (off + n ≤ x → u ≡ z) →
    (if (b == c) && nat_le (off + n) x && nat_lt x ((off + n) + k) then u else (if (b == c) && nat_le off x && nat_lt x (off + n) then z else y))
    ≡ (if (b == c) && nat_le off x && nat_lt x (off + (n + k)) then z else y)
more_at b off n k c x y z u e = grind (arith, nat_tests)

-- the other buffer is as it was
other_at : (q r s : Bool) (z y : ℕ) → q ≡ false → (if q && r && s then z else y) ≡ y
other_at false r s z y e = refl
other_at true r s z y e = cc

-- and so is what lies after
behind_at : (b off n c x z y : ℕ) → off + n ≤ x → (if (b == c) && nat_le off x && nat_lt x (off + n) then z else y) ≡ y
behind_at b off n c x z y l = grind (arith, nat_tests)

pub after_more : (o : Op) (m : Memory) (at n : ℕ) → IsApart o → after_op (after_op m (shortened at o)) (part_of o (record { at = at; len = n })) ≡ after_op m (shortened (at + n) o)
after_more (op.Fill dst off len byte) m at n a = fun_ext (λ c. fun_ext (λ x. more_at dst.0 off at n c x (m c x) byte byte (λ l. refl)))
after_more (op.Copy dst doff src soff len) m at n a =
    fun_ext (λ c. fun_ext (λ x.
    more_at dst.0 doff at n c x (m c x) (m src.0 (soff + (x - doff))) (after_op m (op.Copy dst doff src soff at) src.0 ((soff + at) + (x - (doff + at))))
    (λ l.
    other_at (dst.0 == src.0) (nat_le doff ((soff + at) + (x - (doff + at)))) (nat_lt ((soff + at) + (x - (doff + at))) (doff + at)) (m src.0 (soff + (((soff + at) + (x - (doff + at))) - doff))) (m src.0 ((soff + at) + (x - (doff + at)))) a
    ∙ ap (m src.0) (let z : (soff + at) + (x - (doff + at)) ≡ soff + (x - doff) = omega (arith, l) in z))))
after_more (op.Xor dst doff src soff len) m at n a =
    fun_ext (λ c. fun_ext (λ x.
    more_at dst.0 doff at n c x (m c x) (bit_xor (m dst.0 (doff + (x - doff))) (m src.0 (soff + (x - doff))))
    (bit_xor (after_op m (op.Xor dst doff src soff at) dst.0 ((doff + at) + (x - (doff + at)))) (after_op m (op.Xor dst doff src soff at) src.0 ((soff + at) + (x - (doff + at)))))
    (λ l.
    let d : ℕ = (doff + at) + (x - (doff + at)) in
    let s : ℕ = (soff + at) + (x - (doff + at)) in
    ap₂ bit_xor
    (behind_at dst.0 doff at dst.0 d (bit_xor (m dst.0 (doff + (d - doff))) (m src.0 (soff + (d - doff)))) (m dst.0 d) (omega (arith, l))
    ∙ ap (m dst.0) (let z : (doff + at) + (x - (doff + at)) ≡ doff + (x - doff) = omega (arith, l) in z))
    (other_at (dst.0 == src.0) (nat_le doff s) (nat_lt s (doff + at)) (bit_xor (m dst.0 (doff + (s - doff))) (m src.0 (soff + (s - doff)))) (m src.0 s) a
    ∙ ap (m src.0) (let z : (soff + at) + (x - (doff + at)) ≡ soff + (x - doff) = omega (arith, l) in z)))))
after_more (op.Probe src off len) m at n a = refl

-- ---- all pieces

border_is_near : (off : ℕ) → 0 < to_border off
border_is_near off = omega arith

pub room_is_some : (o : Op) (at : ℕ) → 0 < until_border o at
room_is_some (op.Fill dst off len byte) at = border_is_near (off + at)
room_is_some (op.Copy dst doff src soff len) at = let a = border_is_near (doff + at) in let b = border_is_near (soff + at) in omega (arith, a, b)
room_is_some (op.Xor dst doff src soff len) at = let a = border_is_near (doff + at) in let b = border_is_near (soff + at) in omega (arith, a, b)
room_is_some (op.Probe src off len) at = border_is_near (off + at)

from_here : (o : Op) (m : Memory) (at len fuel : ℕ) → IsApart o → len ≤ fuel → after_ops (after_op m (shortened at o)) (map (part_of o) (pieces_from (until_border o) at len fuel)) ≡ after_op m (shortened (at + len) o)
from_here o m at zero fuel a enough = ap (λ n. after_op m (shortened n o)) (let z : at ≡ at + 0 = omega arith in z)
from_here o m at (suc len) zero a enough = absurd (omega (arith, enough))
from_here o m at (suc len) (suc fuel) a enough =
    let n : ℕ = min (suc len) (until_border o at) in
    let some = room_is_some o at in
    ap (λ q. after_ops q (map (part_of o) (pieces_from (until_border o) (at + n) (suc len - n) fuel))) (after_more o m at n a)
    ∙ from_here o m (at + n) (suc len - n) fuel a (omega (arith, enough, some))
    ∙ ap (λ k. after_op m (shortened k o)) (let z : (at + min (suc len) (until_border o at)) + (suc len - min (suc len) (until_border o at)) ≡ at + suc len = omega arith in z)

shortened_whole : (o : Op) → shortened (op_len o) o ≡ o
shortened_whole (op.Fill dst off len byte) = refl
shortened_whole (op.Copy dst doff src soff len) = refl
shortened_whole (op.Xor dst doff src soff len) = refl
shortened_whole (op.Probe src off len) = refl

pub parts_are_whole : (o : Op) (m : Memory) → IsApart o → after_ops m (map (part_of o) (pieces_of o)) ≡ after_op m o
parts_are_whole o m a =
    ap (λ q. after_ops q (map (part_of o) (pieces_of o))) (sym (after_none o m))
    ∙ from_here o m 0 (op_len o) (op_len o) a (omega arith)
    ∙ ap (λ k. after_op m (shortened k o)) (let z : 0 + op_len o ≡ op_len o = omega arith in z)
    ∙ ap (after_op m) (shortened_whole o)

pub op_is_apart : (script : Script) (o : Op) → is_op script o ≡ true → IsApart o
op_is_apart script (op.Fill dst off len byte) h = tt
op_is_apart script (op.Copy dst doff src soff len) h = grind arith
op_is_apart script (op.Xor dst doff src soff len) h = grind arith
op_is_apart script (op.Probe src off len) h = tt

-- ---- each piece

-- all of a list
abbrev pub Each : {X : Type 0} → (X → Type 0) → List X → Type 0
Each P [] = Unit {0}
Each P (x ∷ xs) = P x × Each P xs

in_pages : (o : Op) (at n : ℕ) → n ≤ until_border o at → IsOfPages (part_of o (record { at = at; len = n }))
in_pages (op.Fill dst off len byte) at n h = omega (arith, h)
in_pages (op.Copy dst doff src soff len) at n h = (omega (arith, h), omega (arith, h))
in_pages (op.Xor dst doff src soff len) at n h = (omega (arith, h), omega (arith, h))
in_pages (op.Probe src off len) at n h = omega (arith, h)

from_here_pieces : (o : Op) (at len fuel : ℕ) → at + len ≤ op_len o → Each (IsPiece o) (pieces_from (until_border o) at len fuel)
from_here_pieces o at zero fuel h = tt
from_here_pieces o at (suc len) zero h = tt
from_here_pieces o at (suc len) (suc fuel) h =
    let n : ℕ = min (suc len) (until_border o at) in
    let some = room_is_some o at in (
      record { some = omega (arith, some); inside = omega (arith, h); pages = in_pages o at n (omega arith) },
      from_here_pieces o (at + n) (suc len - n) fuel (omega (arith, h)),
    )

pub pieces_are : (o : Op) → Each (IsPiece o) (pieces_of o)
pieces_are o = from_here_pieces o 0 (op_len o) (op_len o) (omega arith)

-- ---- what probes show

count-split : (n k start : ℕ) → count_from 1 (n + k) start ≡ count_from 1 n start ++ count_from 1 k (start + n)
count-split zero k start = ap₂ (λ a b. count_from 1 a b) (let z : 0 + k ≡ k = omega arith in z) (let z : start ≡ start + 0 = omega arith in z)
count-split (suc n) k start =
    ap (λ a. count_from 1 a start) (let z : suc n + k ≡ suc (n + k) = omega arith in z)
    ∙ ap (λ rest. start ∷ rest) (count-split n k (1 + start) ∙ ap (λ s. count_from 1 n (1 + start) ++ count_from 1 k s) (let z : (1 + start) + n ≡ start + suc n = omega arith in z))

map-append : {X Y : Type 0} (f : X → Y) (xs ys : List X) → map f (xs ++ ys) ≡ map f xs ++ map f ys
map-append f [] ys = refl
map-append f (x ∷ xs) ys = ap (λ rest. f x ∷ rest) (map-append f xs ys)

shown_from_here : (m : Memory) (src : BufId) (off len at left fuel : ℕ) → left ≤ fuel →
    flat_map (piece_shown m (op.Probe src off len)) (pieces_from (until_border (op.Probe src off len)) at left fuel) ≡ memory_range m src (off + at) left
shown_from_here m src off len at zero fuel enough = refl
shown_from_here m src off len at (suc left) zero enough = absurd (omega (arith, enough))
shown_from_here m src off len at (suc left) (suc fuel) enough =
    let n : ℕ = min (suc left) (until_border (op.Probe src off len) at) in
    let some = room_is_some (op.Probe src off len) at in
    ap (λ rest. memory_range m src (off + at) (min (suc left) (until_border (op.Probe src off len) at)) ++ rest)
    (shown_from_here m src off len (at + n) (suc left - n) fuel (omega (arith, enough, some))
    ∙ ap (λ k. memory_range m src k (suc left - n)) (let z : off + (at + min (suc left) (to_border (off + at))) ≡ (off + at) + min (suc left) (to_border (off + at)) = omega arith in z))
    ∙ sym (ap (map (m src.0)) (count-split n (suc left - n) (off + at)) ∙ map-append (m src.0) (count_from 1 n (off + at)) (count_from 1 (suc left - n) ((off + at) + n)))
    ∙ ap (memory_range m src (off + at)) (let z : min (suc left) (to_border (off + at)) + (suc left - min (suc left) (to_border (off + at))) ≡ suc left = omega arith in z)

pub joined_is_shown : (m : Memory) (src : BufId) (off len : ℕ) → flat_map (piece_shown m (op.Probe src off len)) (pieces_of (op.Probe src off len)) ≡ memory_range m src off len
joined_is_shown m src off len = shown_from_here m src off len 0 len len (omega arith) ∙ ap (λ k. memory_range m src k len) (let z : off + 0 ≡ off = omega arith in z)

-- ---- a list of operations

pub after_ops-append : (xs ys : List Op) (m : Memory) → after_ops m (xs ++ ys) ≡ after_ops (after_ops m xs) ys
after_ops-append [] ys m = refl
after_ops-append (x ∷ xs) ys m = after_ops-append xs ys (after_op m x)

both : (a b : Bool) → (a && b) ≡ true → (a ≡ true) × (b ≡ true)
both true true h = (refl, refl)
both true false h = cc
both false b h = cc

pub all_parts_are_whole : (script : Script) (ops : List Op) (m : Memory) → list_all (is_op script) ops ≡ true → after_ops m (flat_map (λ o. map (part_of o) (pieces_of o)) ops) ≡ after_ops m ops
all_parts_are_whole script [] m h = refl
all_parts_are_whole script (o ∷ ops) m h =
    let parts = both (is_op script o) (list_all (is_op script) ops) h in
    after_ops-append (map (part_of o) (pieces_of o)) (flat_map (λ o. map (part_of o) (pieces_of o)) ops) m
    ∙ ap (λ q. after_ops q (flat_map (λ o. map (part_of o) (pieces_of o)) ops)) (parts_are_whole o m (op_is_apart script o parts.0))
    ∙ all_parts_are_whole script ops (after_op m o) parts.1

pub each_at : {X : Type 0} (P : X → Type 0) (xs : List X) (k : ℕ) (x : X) → Each P xs → slice_get xs k ≡ Some x → P x
each_at P [] k x h e = cc
each_at P (y ∷ ys) zero x h e = let same : y ≡ x = cc in subst P same h.0
each_at P (y ∷ ys) (suc k) x h e = each_at P ys k x h.1 e
