-- Worked choices of blocks in large memories, by computation.
use Rattle.std.proofs.Common.{◌≡◌, ℕ, Bool, true, false, [], ◌∷◌, refl, Some, None}
use Rattle.std.specs.Prelude.{nat_le, nat_lt, not, ◌==◌, ◌&&◌}
use Rattle.ttm_base.specs.declared.Span.{Span}
use Rattle.ttm_base.specs.BuddyChoice.{buddy_choice, free_order, log2, order_of}

abbrev span : ℕ → ℕ → Span
span a b = record { start = a; end = b }

-- which pages are free: all, all but one, or all from one on
abbrev all : ℕ → Bool
all page = true

abbrev all_but : ℕ → ℕ → Bool
all_but held page = not (page == held)

abbrev all_from : ℕ → ℕ → Bool
all_from first page = nat_le first page

-- ---- orders

log2_0 : log2 0 ≡ 0
log2_0 = refl

log2_1 : log2 1 ≡ 0
log2_1 = refl

log2_65535 : log2 65535 ≡ 15
log2_65535 = refl

log2_65536 : log2 65536 ≡ 16
log2_65536 = refl

log2_8388608 : log2 8388608 ≡ 23
log2_8388608 = refl

log2_most : log2 4294967295 ≡ 31
log2_most = refl

order_of_1 : order_of 1 ≡ 0
order_of_1 = refl

order_of_3 : order_of 3 ≡ 2
order_of_3 = refl

order_of_65536 : order_of 65536 ≡ 16
order_of_65536 = refl

order_of_65537 : order_of 65537 ≡ 17
order_of_65537 = refl

-- ---- 65,535 pages, in sixteen roots

-- a block of 65,536 pages would be needed
contig_65535 : buddy_choice all 65535 (span 0 65535) false true 65535 ≡ None
contig_65535 = refl

-- in the second root; the first is held
contig_second_root : buddy_choice (all_from 32768) 65535 (span 0 65535) false true 16384 ≡ Some (span 32768 49152 ∷ [])
contig_second_root = refl

-- ---- 65,536 pages, in one root

all_65536 : buddy_choice all 65536 (span 0 65536) false false 65536 ≡ Some (span 0 65536 ∷ [])
all_65536 = refl

contig_with_last_held : buddy_choice (all_but 65535) 65536 (span 0 65536) false true 65536 ≡ None
contig_with_last_held = refl

-- ---- 65,537 pages, in a root of 65,536 and one of a page

contig_65537 : buddy_choice all 65537 (span 0 65537) false true 65537 ≡ None
contig_65537 = refl

second_root : buddy_choice (all_from 65536) 65537 (span 1 65537) true false 1 ≡ Some (span 65536 65537 ∷ [])
second_root = refl

-- ---- 98,304 pages, in roots of 65,536 and 32,768

contig_smaller_root : buddy_choice (all_from 65536) 98304 (span 0 98304) true true 20000 ≡ Some (span 65536 85536 ∷ [])
contig_smaller_root = refl

-- no block of 65,536 pages is inside the range
contig_across_roots : buddy_choice all 98304 (span 32768 98304) false true 65536 ≡ None
contig_across_roots = refl

-- ---- 131,072 pages, in one root

-- a block of 131,072 pages is needed
contig_70000_held : buddy_choice (all_but 100000) 131072 (span 0 131072) false true 70000 ≡ None
contig_70000_held = refl

-- ---- 8,388,608 pages, in one root

-- a block of 16,777,216 pages would be needed
contig_8388609 : buddy_choice all 8388608 (span 0 8388608) false true 8388609 ≡ None
contig_8388609 = refl

-- a free block of 4,096 pages among held ones, seen from its start and from its second half
block_is_whole : free_order (λ page. nat_le 7999488 page && nat_lt page 8003584) 8388608 7999488 12 (log2 8388608) ≡ 12
block_is_whole = refl

half_is_in_block : free_order (λ page. nat_le 7999488 page && nat_lt page 8003584) 8388608 8001536 11 (log2 8388608) ≡ 12
half_is_in_block = refl
