-- Members of groups, and where the ranges of groups stand.
use Rattle.std.proofs.Common.{◌≡◌, ◌≢◌, ℕ, zero, suc, ◌+◌, ◌*◌, ◌<◌, Bool, true, false, List, [], ◌∷◌, ◌++◌, length, set, Option, Some, None, refl, sym, ap, ◌∙◌, arith}
use Rattle.std.specs.Prelude.{◌==◌}
use Rattle.std.proofs.lemmas.Bool.Decides.{nat_tests}
use Rattle.std.proofs.lemmas.List.{length-set, get_or-set_same, get_or-set_other}
use Rattle.ttm_base.specs.declared.Mem.{Mem}
use Rattle.ttm_base.specs.declared.Mem.TheVariants.{System, Tt, Vram}
use Rattle.ttm_base.specs.declared.BufId.{BufId}
use Rattle.lru_bulk.specs.declared.nodes.Listing.{Listing}
use Rattle.lru_bulk.specs.declared.rings.Range.{Range}
use Rattle.lru_bulk.specs.Lists.{list_at, list_number, number_of, listing_in, group_in, same_group, is_member, is_mate, without_buffer, taken_off}
use Rattle.lru_bulk.specs.Sound.{has, range_at, ranges_left, ranges_joined, narrowed_in, widened}
use Rattle.lru_bulk.proofs.OwnBlock.{Unlike}

-- there are twelve lists
list_number_below : (mem : Mem) (prio : ℕ) → prio < 4 → list_number mem prio < 12
list_number_below System prio h = omega arith
list_number_below Tt prio h = omega arith
list_number_below Vram prio h = omega arith

pub number_below : (x : Listing) → x.prio < 4 → number_of x < 12
number_below x h = list_number_below x.mem x.prio h

-- numbers that aren't the same
pub unlike_id : (b c : BufId) → b ≢ c → (b.0 == c.0) ≡ false
unlike_id b c ne =
    let n : b.0 ≢ c.0 = λ e. ne (ap (λ m. record { 0 = m }) e) in
    grind (arith, nat_tests)

pub same_id_is : (b c : BufId) → (b.0 == c.0) ≡ true → b ≡ c
same_id_is b c h =
    let e : b.0 ≡ c.0 = grind (arith, nat_tests) in
    ap (λ m. record { 0 = m }) e

pub not_same_id : (b c : BufId) → (b.0 == c.0) ≡ false → c ≢ b
not_same_id b c h e =
    let f : b.0 ≡ c.0 = sym (ap (λ (x : BufId). x.0) e) in
    grind (arith, nat_tests)

-- the group of a listed buffer
pub group_is : (listings : List (Option Listing)) (b : BufId) (x : Listing) → listing_in listings b ≡ Some x → group_in listings b ≡ x.group
group_is listings b x h = rw h refl

pub member_of_own : (listings : List (Option Listing)) (b : BufId) (g : ℕ) → group_in listings b ≡ Some g → is_member listings g b ≡ true
member_of_own listings b g h = rw h (grind (arith, nat_tests))

pub member_of_other : (listings : List (Option Listing)) (b : BufId) (g h : ℕ) → h ≢ g → group_in listings b ≡ Some g → is_member listings h b ≡ false
member_of_other listings b g h ne e = rw e (grind (arith, nat_tests))

pub member_of_none : (listings : List (Option Listing)) (b : BufId) (h : ℕ) → group_in listings b ≡ None → is_member listings h b ≡ false
member_of_none listings b h e = rw e refl

other_member : (o : Option ℕ) (g h : ℕ) → h ≢ g → same_group o (Some g) ≡ true → same_group o (Some h) ≡ false
other_member None g h ne t = refl
other_member (Some k) g h ne t = grind (arith, nat_tests)

-- a member of one group is in no other
pub member_of_one : (listings : List (Option Listing)) (g h : ℕ) (c : BufId) → h ≢ g → is_member listings g c ≡ true → is_member listings h c ≡ false
member_of_one listings g h c ne t = other_member (group_in listings c) g h ne t

swapped : (g : ℕ) (o : Option ℕ) → same_group (Some g) o ≡ same_group o (Some g)
swapped g None = refl
swapped g (Some h) = grind (arith, nat_tests)

-- the mates of a buffer are the members of its group
pub mates_are : (listings : List (Option Listing)) (b : BufId) (g : ℕ) → group_in listings b ≡ Some g → is_mate listings b ≡ is_member listings g
mates_are listings b g h = λ i c. (ap (λ o. same_group o (group_in listings c)) h ∙ swapped g (group_in listings c)) i

pub no_mates : (listings : List (Option Listing)) (b c : BufId) → group_in listings b ≡ None → is_mate listings b c ≡ false
no_mates listings b c h = rw h refl

-- places of ranges
pub range_set_same : (ranges : List (Option Range)) (g i : ℕ) (x : Option Range) → g * 12 + i < length ranges → range_at (set ranges (g * 12 + i) x) g i ≡ x
range_set_same ranges g i x h = get_or-set_same ranges (g * 12 + i) x None h

pub range_set_list : (ranges : List (Option Range)) (g h i j : ℕ) (x : Option Range) → i < 12 → j < 12 → j ≢ i → range_at (set ranges (g * 12 + i) x) h j ≡ range_at ranges h j
range_set_list ranges g h i j x li lj ne =
    let other : h * 12 + j ≢ g * 12 + i = λ e. ne (omega arith) in
    get_or-set_other ranges (g * 12 + i) (h * 12 + j) x None other

pub range_set_group : (ranges : List (Option Range)) (g h i : ℕ) (x : Option Range) → h ≢ g → range_at (set ranges (g * 12 + i) x) h i ≡ range_at ranges h i
range_set_group ranges g h i x ne =
    let other : h * 12 + i ≢ g * 12 + i = λ e. ne (omega arith) in
    get_or-set_other ranges (g * 12 + i) (h * 12 + i) x None other

pub left_other_list : (ranges : List (Option Range)) (grp : Option ℕ) (i j : ℕ) (b p s : BufId) (h : ℕ) → i < 12 → j < 12 → j ≢ i → range_at (ranges_left ranges grp i b p s) h j ≡ range_at ranges h j
left_other_list ranges None i j b p s h li lj ne = refl
left_other_list ranges (Some g) i j b p s h li lj ne = range_set_list ranges g h i j (narrowed_in (range_at ranges g i) b p s) li lj ne

pub joined_other_list : (ranges : List (Option Range)) (grp : Option ℕ) (i j : ℕ) (b : BufId) (h : ℕ) → i < 12 → j < 12 → j ≢ i → range_at (ranges_joined ranges grp i b) h j ≡ range_at ranges h j
joined_other_list ranges None i j b h li lj ne = refl
joined_other_list ranges (Some g) i j b h li lj ne = range_set_list ranges g h i j (Some (widened (range_at ranges g i) b)) li lj ne

pub length-ranges_left : (ranges : List (Option Range)) (grp : Option ℕ) (i : ℕ) (b p s : BufId) → length (ranges_left ranges grp i b p s) ≡ length ranges
length-ranges_left ranges None i b p s = refl
length-ranges_left ranges (Some g) i b p s = length-set ranges (g * 12 + i) (narrowed_in (range_at ranges g i) b p s)

pub length-ranges_joined : (ranges : List (Option Range)) (grp : Option ℕ) (i : ℕ) (b : BufId) → length (ranges_joined ranges grp i b) ≡ length ranges
length-ranges_joined ranges None i b = refl
length-ranges_joined ranges (Some g) i b = length-set ranges (g * 12 + i) (Some (widened (range_at ranges g i) b))

-- lists without a buffer
pub without_nothing : (b : BufId) (y : List BufId) → Unlike b y → without_buffer y b ≡ y
without_nothing b [] u = refl
without_nothing b (c ∷ y) u = rw (u.0, without_nothing b y u.1) refl

pub without_is : (b : BufId) (x y : List BufId) → Unlike b x → Unlike b y → without_buffer (x ++ b ∷ y) b ≡ x ++ y
without_is b [] y ux uy =
    let e : (b.0 == b.0) ≡ true = grind (arith, nat_tests) in
    rw e (without_nothing b y uy)
without_is b (c ∷ x) y ux uy = rw (ux.0, without_is b x y ux.1 uy) refl

pub taken_off_at : (lists : List (List BufId)) (b : BufId) (j : ℕ) → list_at (taken_off lists b) j ≡ without_buffer (list_at lists j) b
taken_off_at [] b j = refl
taken_off_at (l ∷ lists) b zero = refl
taken_off_at (l ∷ lists) b (suc j) = taken_off_at lists b j

has_after : (b c d : BufId) (l : List BufId) → c ≢ b → has c (d ∷ l) ≡ true → (has c l ≡ true → has c (without_buffer l b) ≡ true)
    → (t : Bool) → (b.0 == d.0) ≡ t → (u : Bool) → (c.0 == d.0) ≡ u → has c (without_buffer (d ∷ l) b) ≡ true
has_after b c d l ne h rest true e true f = absurd (ne (same_id_is c d f ∙ sym (same_id_is b d e)))
has_after b c d l ne h rest true e false f =
    let there : has c l ≡ true = rw f at h in
    rw e (rest there)
has_after b c d l ne h rest false e true f = rw (e, f) refl
has_after b c d l ne h rest false e false f =
    let there : has c l ≡ true = rw f at h in
    rw (e, f) (rest there)

pub has_without : (b c : BufId) (l : List BufId) → c ≢ b → has c l ≡ true → has c (without_buffer l b) ≡ true
has_without b c [] ne h = h
has_without b c (d ∷ l) ne h = has_after b c d l ne h (λ k. has_without b c l ne k) (b.0 == d.0) refl (c.0 == d.0) refl

-- where a buffer stands that a list has
pub record Cut (b : BufId) (l : List BufId) : Type 0 where
  pub front : List BufId
  pub back : List BufId
  pub split : l ≡ front ++ b ∷ back

cut_after : (b c : BufId) (l : List BufId) → has b (c ∷ l) ≡ true → (has b l ≡ true → Cut b l) → (t : Bool) → (b.0 == c.0) ≡ t → Cut b (c ∷ l)
cut_after b c l h rest true e = record { front = []; back = l; split = ap (λ (x : BufId). x ∷ l) (sym (same_id_is b c e)) }
cut_after b c l h rest false e =
    let there : has b l ≡ true = rw e at h in
    let r = rest there in
    record { front = c ∷ r.front; back = r.back; split = ap (λ (x : List BufId). c ∷ x) r.split }

pub has_cut : (b : BufId) (l : List BufId) → has b l ≡ true → Cut b l
has_cut b [] h = absurd (let e : false ≡ true = h in cc)
has_cut b (c ∷ l) h = cut_after b c l h (λ k. has_cut b l k) (b.0 == c.0) refl
