-- Each legal entry keeps what holds of jobs.
use Rattle.std.proofs.Common.{◌≡◌, ℕ, ◌+◌, ◌-◌, ◌<◌, ◌≤◌, zero, suc, Bool, true, false, List, [], ◌∷◌, ◌++◌, length, Some, refl, subst, ap, arith}
use Rattle.std.specs.Prelude.{slice_get, map, ◌&&◌, min, sum_by}
use Rattle.std.specs.List.{list_all}
use Rattle.std.proofs.lemmas.Bool.Decides.{nat_tests}
use Rattle.std.proofs.lemmas.List.Sums.{sum_by-cons}
use Rattle.ttm_base.specs.declared.Op.{Op}
use Rattle.ttm_base.specs.declared.Op.TheVariants as op
use Rattle.ttm_base.specs.Cutting.{PageMap, pieces_from, pieces_of, packet_of, packets_of, until_border, op_len}
use Rattle.journal_model.specs.declared.script.Script.{Script}
use Rattle.journal_model.specs.scripts.CommandRules.{is_op}

-- ---- how many packets

-- fuel bounds the pieces
few_pieces : (size : ℕ → ℕ) (at len fuel : ℕ) → length (pieces_from size at len fuel) ≤ fuel
few_pieces size at zero fuel = omega arith
few_pieces size at (suc len) zero = omega arith
few_pieces size at (suc len) (suc fuel) = let rest = few_pieces size (at + min (suc len) (size at)) (suc len - min (suc len) (size at)) fuel in omega (arith, rest)

-- an operation with a byte has a piece
some_pieces : (size : ℕ → ℕ) (at len : ℕ) → 0 < len → 0 < length (pieces_from size at len len)
some_pieces size at zero h = absurd (omega arith)
some_pieces size at (suc len) h = omega arith

length-map : {X Y : Type 0} (f : X → Y) (xs : List X) → length (map f xs) ≡ length xs
length-map f [] = refl
length-map f (x ∷ xs) = ap suc (length-map f xs)

length-app : {X : Type 0} (xs ys : List X) → length (xs ++ ys) ≡ length xs + length ys
length-app [] ys = omega arith
length-app (x ∷ xs) ys = let rest = length-app xs ys in omega (arith, rest)

-- a job has at most as many packets as its operations have bytes
pub few_packets : (pages : PageMap) (ops : List Op) → length (packets_of pages ops) ≤ sum_by op_len ops
few_packets pages [] = omega arith
few_packets pages (o ∷ ops) =
    let rest = few_packets pages ops in
    let here = few_pieces (until_border o) 0 (op_len o) (op_len o) in
    let one = length-map (packet_of pages o) (pieces_of o) in
    let both = length-app (map (packet_of pages o) (pieces_of o)) (packets_of pages ops) in
    let sum = sum_by-cons op_len o ops in
    omega (arith, rest, here, one, both, sum)

-- and one at least, where the first operation has a byte
pub some_packets : (pages : PageMap) (o : Op) (ops : List Op) → 0 < op_len o → 0 < length (packets_of pages (o ∷ ops))
some_packets pages o ops h =
    let here = some_pieces (until_border o) 0 (op_len o) h in
    let one = length-map (packet_of pages o) (pieces_of o) in
    let both = length-app (map (packet_of pages o) (pieces_of o)) (packets_of pages ops) in
    omega (arith, here, one, both)

-- ---- what the grammar says of a command and a buffer

both : (a b : Bool) → (a && b) ≡ true → (a ≡ true) × (b ≡ true)
both true true h = (refl, refl)
both true false h = cc
both false b h = cc

pub all_at : {X : Type 0} (p : X → Bool) (xs : List X) (i : ℕ) (x : X) → list_all p xs ≡ true → slice_get xs i ≡ Some x → p x ≡ true
all_at p [] i x h e = cc
all_at p (y ∷ xs) zero x h e = let same : y ≡ x = cc in subst (λ z. p z ≡ true) same (both (p y) (list_all p xs) h).0
all_at p (y ∷ xs) (suc i) x h e = all_at p xs i x (both (p y) (list_all p xs) h).1 e

pub op_has_bytes : (script : Script) (o : Op) → is_op script o ≡ true → 0 < op_len o
op_has_bytes script (op.Fill dst off len byte) h = grind (arith, nat_tests)
op_has_bytes script (op.Copy dst doff src soff len) h = grind (arith, nat_tests)
op_has_bytes script (op.Xor dst doff src soff len) h = grind (arith, nat_tests)
op_has_bytes script (op.Probe src off len) h = grind (arith, nat_tests)
