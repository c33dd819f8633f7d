-- Other tests in the place of those by listings: where both say the same of what stands on the lists, the lists come out the same.
use Rattle.std.proofs.Common.{◌≡◌, ◌≢◌, ℕ, suc, ◌<◌, Bool, true, false, List, [], ◌∷◌, ◌++◌, length, get_or, set, map, cond, Option, Some, None, refl, sym, ap, subst, ◌∙◌, arith}
use Rattle.std.specs.Prelude.{not, filter, insert, unwrap_or, option_and_then, ◌==◌}
use Rattle.std.specs.List.{All}
use Rattle.std.proofs.lemmas.List.{length-set, get_or-set_same, get_or-set_other, get_or_past}
use Rattle.std.proofs.lemmas.List.Elements.{All-filter, filter_passes}
use Rattle.ttm_base.specs.declared.Mem.{Mem}
use Rattle.ttm_base.specs.declared.BufId.{BufId}
use Rattle.lru_bulk.specs.declared.nodes.Listing.{Listing}
use Rattle.lru_bulk.specs.Lists.{Order, list_at, listing_of, number_of, group_in, same_group, is_mate, is_member, one_further, behind_last, placed_in, taken_off, put_on, members_last, added, touched, touched_as, relisted, relisted_as, bulk_moved, bulk_moved_in}
use Rattle.lru_bulk.specs.Members.{AreMembersListed}
use Rattle.lru_bulk.proofs.GroupLaws.{taken_off_at, not_same_id}

-- one list
first_all : {X : Type 0} (P : X → Type 0) (x : X) (l : List X) → All P (x ∷ l) → P x
first_all P x l h = h 0 x (omega arith)

rest_all : {X : Type 0} (P : X → Type 0) (x : X) (l : List X) → All P (x ∷ l) → All P l
rest_all P x l h = λ k d lt. h (suc k) d (omega arith)

pub behind_last-same : (t u : BufId → Bool) (l : List BufId) → All (λ c. t c ≡ u c) l → behind_last t l ≡ behind_last u l
behind_last-same t u [] h = refl
behind_last-same t u (c ∷ l) h =
    ap (λ (q : Bool). one_further q (behind_last t l)) (first_all (λ c. t c ≡ u c) c l h)
    ∙ ap (one_further (u c)) (behind_last-same t u l (rest_all (λ c. t c ≡ u c) c l h))

pub placed_in-same : (t u : BufId → Bool) (b : BufId) (l : List BufId) → All (λ c. t c ≡ u c) l → placed_in t b l ≡ placed_in u b l
placed_in-same t u b l h = ap (λ (o : Option ℕ). insert l (unwrap_or o (length l)) b) (behind_last-same t u l h)

filter-same : (t u : BufId → Bool) (l : List BufId) → All (λ c. t c ≡ u c) l → filter t l ≡ filter u l
filter-same t u [] h = refl
filter-same t u (c ∷ l) h =
    ap (λ (q : Bool). cond q (c ∷ filter t l) (filter t l)) (first_all (λ c. t c ≡ u c) c l h)
    ∙ ap (λ (m : List BufId). cond (u c) (c ∷ m) m) (filter-same t u l (rest_all (λ c. t c ≡ u c) c l h))

pub members_last-same : (t u : BufId → Bool) (l : List BufId) → All (λ c. t c ≡ u c) l → members_last t l ≡ members_last u l
members_last-same t u l h =
    ap (λ (m : List BufId). m ++ filter t l) (filter-same (λ b. not (t b)) (λ b. not (u b)) l (λ k d lt. ap not (h k d lt)))
    ∙ ap (λ (m : List BufId). filter (λ b. not (u b)) l ++ m) (filter-same t u l h)

-- all lists
pub put_on-same : (mate : BufId → Bool) (listings : List (Option Listing)) (lists : List (List BufId)) (b : BufId) (i : ℕ) → All (λ c. is_mate listings b c ≡ mate c) (list_at lists i)
    → put_on listings lists b i ≡ set lists i (placed_in mate b (list_at lists i))
put_on-same mate listings lists b i h = ap (λ (l : List BufId). set lists i l) (placed_in-same (is_mate listings b) mate b (list_at lists i) h)

map-same : (f g : List BufId → List BufId) (lists : List (List BufId)) → ((i : ℕ) → f (list_at lists i) ≡ g (list_at lists i)) → map f lists ≡ map g lists
map-same f g [] h = refl
map-same f g (l ∷ lists) h =
    ap (λ (m : List BufId). m ∷ map f lists) (h 0)
    ∙ ap (λ (m : List (List BufId)). g l ∷ m) (map-same f g lists (λ i. h (suc i)))

pub bulk_moved-same : (member : BufId → Bool) (o : Order) (group : ℕ) → ((i : ℕ) → All (λ c. is_member o.listings group c ≡ member c) (list_at o.lists i))
    → (bulk_moved o group).lists ≡ map (members_last member) o.lists
bulk_moved-same member o group h =
    map-same (members_last (is_member o.listings group)) (members_last member) o.lists (λ i. members_last-same (is_member o.listings group) member (list_at o.lists i) (h i))

pub bulk_moved_in-same : (member : BufId → Bool) (o : Order) (i group : ℕ) → All (λ c. is_member o.listings group c ≡ member c) (list_at o.lists i)
    → (bulk_moved_in o i group).lists ≡ set o.lists i (members_last member (list_at o.lists i))
bulk_moved_in-same member o i group h = ap (λ (l : List BufId). set o.lists i l) (members_last-same (is_member o.listings group) member (list_at o.lists i) h)

-- what holds on a list holds there once b is off it
pub taken_off_all : (P : BufId → Type 0) (lists : List (List BufId)) (b : BufId) (i : ℕ) → All P (list_at lists i) → All P (list_at (taken_off lists b) i)
taken_off_all P lists b i h = subst (All P) (sym (taken_off_at lists b i)) (All-filter (λ c. not (b.0 == c.0)) P (list_at lists i) h)

-- groups after one listing was set
group_set_same : (listings : List (Option Listing)) (b : BufId) (y : Option Listing) → b.0 < length listings → group_in (set listings b.0 y) b ≡ option_and_then (λ x. x.group) y
group_set_same listings b y lt = ap (option_and_then (λ (x : Listing). x.group)) (get_or-set_same listings b.0 y None lt)

group_set_other : (listings : List (Option Listing)) (b c : BufId) (y : Option Listing) → c ≢ b → group_in (set listings b.0 y) c ≡ group_in listings c
group_set_other listings b c y ne =
    ap (option_and_then (λ (x : Listing). x.group)) (get_or-set_other listings b.0 c.0 y None (λ e. ne (ap (λ (m : ℕ). let n : BufId = record { 0 = m } in n) e)))

-- b placed again
pub touched-same : (mate : BufId → Bool) (o : Order) (b : BufId) (x : Listing) → listing_of o b ≡ Some x → All (λ c. is_mate o.listings b c ≡ mate c) (list_at o.lists (number_of x))
    → (touched o b).lists ≡ set (taken_off o.lists b) (number_of x) (placed_in mate b (list_at (taken_off o.lists b) (number_of x)))
touched-same mate o b x found h =
    ap (λ (y : Option Listing). (touched_as o b y).lists) found
    ∙ put_on-same mate o.listings (taken_off o.lists b) b (number_of x) (taken_off_all (λ c. is_mate o.listings b c ≡ mate c) o.lists b (number_of x) h)

-- b listed, and placed
pub added-same : (mate : BufId → Bool) (o : Order) (b : BufId) (x : Listing) → AreMembersListed o → listing_of o b ≡ None → b.0 < length o.listings
    → All (λ c. same_group x.group (group_in o.listings c) ≡ mate c) (list_at o.lists (number_of x))
    → (added o b x).lists ≡ set o.lists (number_of x) (placed_in mate b (list_at o.lists (number_of x)))
added-same mate o b x members absent lt h =
    put_on-same mate (set o.listings b.0 (Some x)) o.lists b (number_of x) (λ k d in_list.
    let c = get_or (list_at o.lists (number_of x)) k d in
    let at = members (number_of x) k d in_list in
    let other : c ≢ b = λ e. let f : Some at.listing ≡ None = sym at.listed ∙ ap (listing_of o) e ∙ absent in cc in
    ap (λ (p : Option ℕ). same_group p (group_in (set o.listings b.0 (Some x)) c)) (group_set_same o.listings b (Some x) lt)
    ∙ ap (same_group x.group) (group_set_other o.listings b c (Some x) other)
    ∙ h k d in_list)

within : (l : List (Option Listing)) (i : ℕ) (x : Listing) → get_or l i None ≡ Some x → i < length l
within l i x h = grind (arith, get_or_past)

-- b listed for another memory type, and placed
pub relisted-same : (mate : BufId → Bool) (o : Order) (b : BufId) (mem : Mem) (x : Listing) → listing_of o b ≡ Some x
    → All (λ c. is_mate o.listings b c ≡ mate c) (list_at o.lists (number_of (record x { mem = mem })))
    → (relisted o b mem).lists ≡ set (taken_off o.lists b) (number_of (record x { mem = mem })) (placed_in mate b (list_at (taken_off o.lists b) (number_of (record x { mem = mem }))))
relisted-same mate o b mem x found h =
    let y : Listing = record x { mem = mem } in
    let i = number_of y in
    let off = set o.listings b.0 None in
    let on = set off b.0 (Some y) in
    let lt : b.0 < length o.listings = within o.listings b.0 x found in
    let lt_off : b.0 < length off = subst (λ n. b.0 < n) (sym (length-set o.listings b.0 None)) lt in
    let kept = taken_off_all (λ c. is_mate o.listings b c ≡ mate c) o.lists b i h in
    ap (λ (z : Option Listing). (relisted_as o b mem z).lists) found
    ∙ put_on-same mate on (taken_off o.lists b) b i (λ k d in_list.
    let c = get_or (list_at (taken_off o.lists b) i) k d in
    let other : c ≢ b = not_same_id b c (off_list o.lists i k d in_list) in
    ap (λ (p : Option ℕ). same_group p (group_in on c)) (group_set_same off b (Some y) lt_off)
    ∙ ap (same_group x.group) (group_set_other off b c (Some y) other ∙ group_set_other o.listings b c None other)
    ∙ ap (λ (p : Option ℕ). same_group p (group_in o.listings c)) (sym (ap (option_and_then (λ (z : Listing). z.group)) found))
    ∙ kept k d in_list)
  where
    off_list : (lists : List (List BufId)) (i : ℕ) → All (λ c. (b.0 == c.0) ≡ false) (list_at (taken_off lists b) i)
    off_list lists i = subst (All (λ c. (b.0 == c.0) ≡ false)) (sym (taken_off_at lists b i)) (λ k d lt. not_true (b.0 == (get_or (filter (λ c. not (b.0 == c.0)) (list_at lists i)) k d).0) (filter_passes (λ c. not (b.0 == c.0)) (list_at lists i) k d lt))
      where
        not_true : (q : Bool) → not q ≡ true → q ≡ false
        not_true true e = absurd (let f : false ≡ true = e in cc)
        not_true false e = refl
