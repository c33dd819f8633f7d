-- The pieces of an operation: more fuel than bytes changes nothing.
use Rattle.std.proofs.Common.{◌≡◌, ℕ, zero, suc, ◌+◌, ◌-◌, ◌<◌, ◌≤◌, List, [], ◌∷◌, ◌++◌, refl, ap, arith, length}
use Rattle.std.specs.Prelude.{min, map}
use Rattle.std.proofs.lemmas.Grind.{common_steps}
use Rattle.ttm_base.specs.declared.Op.{Op}
use Rattle.ttm_base.specs.declared.Op.TheVariants as op
use Rattle.ttm_base.specs.declared.Packet.{Packet}
use Rattle.ttm_base.specs.Cutting.{Piece, pieces_from, until_border}

-- two amounts of fuel that suffice give the same
enough : (size : ℕ → ℕ) → ((at : ℕ) → 0 < size at) → (at len fuel more : ℕ) → len ≤ fuel → len ≤ more → pieces_from size at len fuel ≡ pieces_from size at len more
enough size some at zero fuel more h l = refl
enough size some at (suc len) zero more h l = absurd (omega arith)
enough size some at (suc len) (suc fuel) zero h l = absurd (omega arith)
enough size some at (suc len) (suc fuel) (suc more) h l =
    let n = min (suc len) (size at) in
    let first : Piece = record { at = at; len = n } in
    let one = some at in
    let left : suc len - min (suc len) (size at) ≤ fuel = omega (arith, one) in
    let same : suc len - min (suc len) (size at) ≤ more = omega (arith, one) in
    ap (λ rest. first ∷ rest) (enough size some (at + n) (suc len - n) fuel more left same)

-- the first piece, and those of the bytes left
pieces_step : (size : ℕ → ℕ) → ((at : ℕ) → 0 < size at) → (at left : ℕ) → 0 < left
    → pieces_from size at left left
    ≡ record { at = at; len = min left (size at) } ∷ pieces_from size (at + min left (size at)) (left - min left (size at)) (left - min left (size at))
pieces_step size some at zero h = absurd (omega arith)
pieces_step size some at (suc left) h =
    let n = min (suc left) (size at) in
    let first : Piece = record { at = at; len = n } in
    let one = some at in
    let less : suc left - min (suc left) (size at) ≤ left = omega (arith, one) in
    let all : suc left - min (suc left) (size at) ≤ suc left - min (suc left) (size at) = omega arith in
    ap (λ rest. first ∷ rest) (enough size some (at + n) (suc left - n) left (suc left - n) less all)

-- at each place of an operation at least a byte may be done
pub room_some : (o : Op) (at : ℕ) → 0 < until_border o at
room_some (op.Fill dst off len byte) at = omega arith
room_some (op.Copy dst doff src soff len) at = omega arith
room_some (op.Xor dst doff src soff len) at = omega arith
room_some (op.Probe src off len) at = omega arith

-- a packet more, and those of the bytes left
pub cut_more : (f : Piece → Packet) (o : Op) (at len n : ℕ) (packets : List Packet) → at < len → n ≡ min (until_border o at) (len - at)
    → (packets ++ f (record { at = at; len = n }) ∷ []) ++ map f (pieces_from (until_border o) (at + n) (len - (at + n)) (len - (at + n)))
    ≡ packets ++ map f (pieces_from (until_border o) at (len - at) (len - at))
cut_more f o at len n packets h e =
    let left : 0 < len - at = omega arith in
    let step = pieces_step (until_border o) (room_some o) at (len - at) left in
    let same : min (len - at) (until_border o at) ≡ n = omega arith in
    let less : len - at - n ≡ len - (at + n) = omega arith in
    grind (arith, common_steps, step, same, less)

-- one piece more, and those of the bytes left
pub count_more : (o : Op) (at len n : ℕ) → at < len → n ≡ min (until_border o at) (len - at)
    → 1 + length (pieces_from (until_border o) (at + n) (len - (at + n)) (len - (at + n)))
    ≡ length (pieces_from (until_border o) at (len - at) (len - at))
count_more o at len n h e =
    let left : 0 < len - at = omega arith in
    let step = pieces_step (until_border o) (room_some o) at (len - at) left in
    let same : min (len - at) (until_border o at) ≡ n = omega arith in
    let less : len - at - n ≡ len - (at + n) = omega arith in
    grind (arith, common_steps, step, same, less)
