-- The candidates of a buddy choice are those that a scan of the starts of blocks meets.
use Rattle.std.proofs.Common.{◌≡◌, ℕ, ◌/◌, ◌^◌, ◌&&◌, Bool, true, false, List, [], ◌∷◌, ◌++◌, Option, Some, None, refl, ap, sym, ◌∙◌, if◌then◌else◌}
use Rattle.std.specs.Prelude.{cond, map, filter, filter_map, reverse}
use Rattle.std.specs.List.{cons_option}
use Rattle.std.proofs.lemmas.List.{append-nil, reverse-append}
use Rattle.std.proofs.lemmas.List.Elements.{filter_map-append}
use Rattle.ttm_base.specs.declared.Span.{Span}
use Rattle.ttm_base.specs.ListWords.{count_from, least_by}
use Rattle.ttm_base.specs.Reach.{is_inside}
use Rattle.ttm_base.specs.BuddyChoice.{block_around, is_free_block, candidate_of, candidate}
use Rattle.ttm_base.specs.BlockStarts.{starts_of, candidate_at}

reverse-filter_map : {X Y : Type 0} (h : X → Option Y) (xs : List X) → reverse (filter_map h xs) ≡ filter_map h (reverse xs)
reverse-filter_map h [] = refl
reverse-filter_map h (x ∷ xs) =
    one (h x) (filter_map h xs)
    ∙ ap (λ ys. ys ++ filter_map h (x ∷ [])) (reverse-filter_map h xs)
    ∙ sym (filter_map-append h (reverse xs) (x ∷ []))
    ∙ ap (filter_map h) (sym (reverse-append (x ∷ []) xs))
  where
    one : {Y : Type 0} (o : Option Y) (ys : List Y) → reverse (cons_option o ys) ≡ reverse ys ++ cons_option o []
    one None ys = sym (append-nil (reverse ys))
    one (Some y) ys = reverse-append (y ∷ []) ys

module _ (f : ℕ → Bool) (size : ℕ) (range : Span) (k : ℕ) where
  one_start : (block : Span) (blocks : List Span) (free inside : Bool) → is_inside range block ≡ inside
      → map (candidate_of f size k) (filter (is_inside range) (cond free (block ∷ blocks) blocks))
      ≡ cons_option (if inside && free then Some (candidate_of f size k block) else None) (map (candidate_of f size k) (filter (is_inside range) blocks))
  one_start block blocks false false e = refl
  one_start block blocks false true e = refl
  one_start block blocks true inside e =
      ap (λ t. map (candidate_of f size k) (cond t (block ∷ filter (is_inside range) blocks) (filter (is_inside range) blocks))) e ∙ by inside
    where
      by : (t : Bool) → map (candidate_of f size k) (cond t (block ∷ filter (is_inside range) blocks) (filter (is_inside range) blocks))
          ≡ cons_option (if t && true then Some (candidate_of f size k block) else None) (map (candidate_of f size k) (filter (is_inside range) blocks))
      by true = refl
      by false = refl

  by_start : (starts : List ℕ)
      → map (candidate_of f size k) (filter (is_inside range) (filter (is_free_block f size) (map (block_around k) starts)))
      ≡ filter_map (candidate_at f size range k) starts
  by_start [] = refl
  by_start (x ∷ xs) =
      let block : Span = block_around k x in
      one_start block (filter (is_free_block f size) (map (block_around k) xs)) (is_free_block f size block) (is_inside range block) refl
      ∙ ap (cons_option (candidate_at f size range k x)) (by_start xs)

  pub candidate_by_start : (topdown : Bool) → candidate f size range topdown k ≡ least_by (λ c. c.whole) (filter_map (candidate_at f size range k) (starts_of topdown k size))
  candidate_by_start false = ap (least_by (λ c. c.whole)) (by_start (count_from (2 ^ k) (size / 2 ^ k) 0))
  candidate_by_start true =
      ap (λ cs. least_by (λ c. c.whole) (reverse cs)) (by_start (count_from (2 ^ k) (size / 2 ^ k) 0))
      ∙ ap (least_by (λ c. c.whole)) (reverse-filter_map (candidate_at f size range k) (count_from (2 ^ k) (size / 2 ^ k) 0))
