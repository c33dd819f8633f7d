-- The order of the largest free block around a block, one order at a time.
use Rattle.std.proofs.Common.{◌≡◌, ℕ, zero, suc, ◌+◌, ◌-◌, ◌<◌, Bool, true, false, refl, arith}
use Rattle.ttm_base.specs.BuddyChoice.{is_free_block, block_around, free_order}

-- the block of the next order is free
pub free_order_suc : (is_free : ℕ → Bool) (size page k left : ℕ) → is_free_block is_free size (block_around (k + 1) page) ≡ true
    → free_order is_free size page (k + 1) left ≡ free_order is_free size page k (suc left)
free_order_suc is_free size page k left h = rw (h, free_order) refl

pub free_order_on : (is_free : ℕ → Bool) (size page k left : ℕ) → 0 < left → is_free_block is_free size (block_around (k + 1) page) ≡ true
    → free_order is_free size page (k + 1) (left - 1) ≡ free_order is_free size page k left
free_order_on is_free size page k zero some h = absurd (omega arith)
free_order_on is_free size page k (suc left) some h =
    let e : suc left - 1 ≡ left = omega arith in
    rw e (free_order_suc is_free size page k left h)

-- the block of the next order isn't free
pub free_order_ends : (is_free : ℕ → Bool) (size page k left : ℕ) → is_free_block is_free size (block_around (k + 1) page) ≡ false
    → k ≡ free_order is_free size page k left
free_order_ends is_free size page k zero h = refl
free_order_ends is_free size page k (suc left) h = rw (h, free_order) refl
