-- The parts of a range of addresses show what the space has there, and there are none only where a page isn't mapped.
use Rattle.std.proofs.Common.{◌≡◌, ℕ, zero, suc, ◌+◌, ◌-◌, ◌/◌, ◌<◌, ◌≤◌, min, List, [], ◌∷◌, ◌++◌, Option, Some, None, refl, ap, ap₂, sym, ◌∙◌, subst, arith, inl, inr}
use Rattle.std.specs.Prelude.{Result, Ok, Err, IfOk, IsSome, IfSome, IfNone, true, map, find, option_map}
use Rattle.std.specs.List.{list_all}
use Rattle.ttm_base.specs.declared.Op.{Op}
use Rattle.journal_model.specs.declared.space.VOp.{VOp}
use Rattle.journal_model.specs.scripts.MarkRules.{has_apart_ranges}
use Rattle.law_legal.specs.law_addresses.Addressed.{MeansAddresses}
use Rattle.std.proofs.lemmas.Bool.{cases_lt}
use Rattle.std.proofs.lemmas.List.{map-append}
use Rattle.ttm_base.specs.Holes.{has_page}
use Rattle.ttm_base.specs.ListWords.{count_from}
use Rattle.journal_model.specs.rules.PlainMemory.{Memory}
use Rattle.journal_model.specs.marks.Spaces.{Space, Region, regions_space}
use Rattle.journal_model.specs.marks.ByName.{Spot, Part, spot_in, spot_at, parts_from, parts_of_range, job_by_name, byte_there}
use Rattle.law_legal.specs.law_spaces.Rising.{IsRising}
use Rattle.law_legal.proofs.law_spaces.Found.{cases_option, spot_has_room}
use Rattle.law_legal.proofs.law_spaces.Names.{IsThere, first_bytes, seen_range, count-split, job_is_meant}
use Rattle.gpu_spaces.specs.declared.pieces.Piece.{Piece}
use Rattle.gpu_spaces.specs.Spots.{part_of}
use Rattle.gpu_spaces.specs.Meaning.{parts_shown, range_shown, IsMappedRange, LacksPage}

-- the bytes from a place of the range on
abbrev shown_from : Space → Memory → ℕ → ℕ → ℕ → List ℕ
shown_from space memory addr at len = map (λ i. byte_there space (addr + i) memory) (count_from 1 len at)

-- what the parts from a place of the range on are to be
record IsMeant (rs : List Region) (memory : Memory) (addr at len : ℕ) (parts : List Part) : Type 0 where
  shown : parts_shown memory parts ≡ shown_from (regions_space rs) memory addr at len
  mapped : (k : ℕ) → k < len → IsSome (regions_space rs ((addr + (at + k)) / 4096))

is_some_there : (space : Space) (addr : ℕ) (s : Spot) (k : ℕ) → IsThere space addr s.b (s.off + k) → IsSome (space (addr / 4096))
is_some_there space addr s k t = subst IsSome (sym t.at) refl

-- the first part, and those after it
join : (rs : List Region) (memory : Memory) (addr at len n : ℕ) (s : Spot) (parts : List Part) → n ≤ len →
    ((k : ℕ) → k < n → IsThere (regions_space rs) (addr + (at + k)) s.b (s.off + k)) → IsMeant rs memory addr (at + n) (len - n) parts →
    IsMeant rs memory addr at len (record { b = s.b; off = s.off; len = n } ∷ parts)
join rs memory addr at len n s parts l there rest =
    let space : Space = regions_space rs in
    let f : ℕ → ℕ = λ i. byte_there space (addr + i) memory in
    let all : n + (len - n) ≡ len = omega (arith, l) in
    record {
      shown =
          ap₂ (λ xs ys. xs ++ ys) (seen_range space addr s.b memory n at s.off there) rest.shown
          ∙ sym (map-append f (count_from 1 n at) (count_from 1 (len - n) (at + n)))
          ∙ ap (map f) (sym (count-split n (len - n) at))
          ∙ ap (λ k. map f (count_from 1 k at)) all;
      mapped = λ k w. elim (cases_lt k n) [
        | inl here ↦ is_some_there space (addr + (at + k)) s k (there k here)
        | inr past ↦
            let z : addr + ((at + n) + (k - n)) ≡ addr + (at + k) = omega (arith, past) in
            subst (λ x. IsSome (space (x / 4096))) z (rest.mapped (k - n) (omega (arith, w, past)))
      ];
    }

meant_from : (rs : List Region) (memory : Memory) (addr at len fuel : ℕ) (parts : List Part) → IsRising rs → parts_from rs (addr + at) len fuel ≡ Some parts → IsMeant rs memory addr at len parts
meant_from rs memory addr at zero fuel parts h e =
    let none : [] ≡ parts = cc in
    subst (IsMeant rs memory addr at zero) none (record { shown = refl; mapped = λ k w. absurd (omega (arith, w)) })
meant_from rs memory addr at (suc len) zero parts h e = absurd (cc)
meant_from rs memory addr at (suc len) (suc fuel) parts h e = elim (cases_option (spot_at rs (addr + at))) [
  | inl a ↦ let none : parts_from rs (addr + at) (suc len) (suc fuel) ≡ None = rw (a, parts_from) refl in absurd (cc)
  | inr (s, a) ↦
      let n : ℕ = min (suc len) s.room in
      let part : Part = record { b = s.b; off = s.off; len = n } in
      let some : parts_from rs (addr + at) (suc len) (suc fuel) ≡ option_map (λ ps. part ∷ ps) (parts_from rs ((addr + at) + n) (suc len - n) fuel) = rw (a, parts_from) refl in
      elim (cases_option (parts_from rs ((addr + at) + n) (suc len - n) fuel)) [
        | inl b ↦ let none : parts_from rs (addr + at) (suc len) (suc fuel) ≡ None = some ∙ ap (option_map (λ ps. part ∷ ps)) b in absurd (cc)
        | inr (others, b) ↦
            let all : part ∷ others ≡ parts = (let one : parts_from rs (addr + at) (suc len) (suc fuel) ≡ Some (part ∷ others) = some ∙ ap (option_map (λ ps. part ∷ ps)) b in cc) in
            let there : (addr + at) + n ≡ addr + (at + n) = omega arith in
            let rest : IsMeant rs memory addr (at + n) (suc len - n) others =
            meant_from rs memory addr (at + n) (suc len - n) fuel others h (subst (λ x. parts_from rs x (suc len - n) fuel ≡ Some others) there b) in
            subst (IsMeant rs memory addr at (suc len)) all
            (join rs memory addr at (suc len) n s others (omega arith) (first_bytes rs addr at s n h a (omega arith)) rest)
      ]
]

pub parts_are_the_space : (rs : List Region) (memory : Memory) (addr len : ℕ) (parts : List Part) → IsRising rs → parts_of_range rs addr len ≡ Some parts → parts_shown memory parts ≡ range_shown (regions_space rs) memory addr len
parts_are_the_space rs memory addr len parts h e =
    let z : addr ≡ addr + 0 = omega arith in
    (meant_from rs memory addr 0 len len parts h (subst (λ x. parts_from rs x len len ≡ Some parts) z e)).shown

pub parts_are_mapped : (rs : List Region) (addr len : ℕ) (parts : List Part) → IsRising rs → parts_of_range rs addr len ≡ Some parts → IsMappedRange (regions_space rs) addr len
parts_are_mapped rs addr len parts h e = λ k w.
    let z : addr ≡ addr + 0 = omega arith in
    let all : IsMeant rs (λ b i. 0) addr 0 len parts = meant_from rs (λ b i. 0) addr 0 len len parts h (subst (λ x. parts_from rs x len len ≡ Some parts) z e) in
    let y : addr + (0 + k) ≡ addr + k = omega arith in
    subst (λ x. IsSome (regions_space rs (x / 4096))) y (all.mapped k w)

-- an address that stands nowhere is of a page that isn't mapped
pub no_spot : (rs : List Region) (addr : ℕ) → spot_at rs addr ≡ None → regions_space rs (addr / 4096) ≡ None
no_spot rs addr e = elim (cases_option (find (λ r. has_page (addr / 4096) r.span) rs)) [
  | inl a ↦ ap (option_map (λ r. (r.b, r.off + (addr / 4096 - r.span.start)))) a
  | inr (r, a) ↦ let some : spot_at rs addr ≡ Some (spot_in addr r) = ap (option_map (spot_in addr)) a in absurd (cc)
]

lacks_from : (rs : List Region) (addr at len fuel : ℕ) → len ≤ fuel → parts_from rs (addr + at) len fuel ≡ None → LacksPage (regions_space rs) addr (at + len)
lacks_from rs addr at zero fuel l e = absurd (cc)
lacks_from rs addr at (suc len) zero l e = absurd (omega (arith, l))
lacks_from rs addr at (suc len) (suc fuel) l e = elim (cases_option (spot_at rs (addr + at))) [
  | inl a ↦ record { at = at; inside = omega arith; none = no_spot rs (addr + at) a }
  | inr (s, a) ↦
      let room = spot_has_room rs (addr + at) s a in
      let n : ℕ = min (suc len) s.room in
      let part : Part = record { b = s.b; off = s.off; len = n } in
      let some : parts_from rs (addr + at) (suc len) (suc fuel) ≡ option_map (λ ps. part ∷ ps) (parts_from rs ((addr + at) + n) (suc len - n) fuel) = rw (a, parts_from) refl in
      elim (cases_option (parts_from rs ((addr + at) + n) (suc len - n) fuel)) [
        | inl b ↦
            let there : (addr + at) + n ≡ addr + (at + n) = omega arith in
            let rest : LacksPage (regions_space rs) addr ((at + n) + (suc len - n)) =
            lacks_from rs addr (at + n) (suc len - n) fuel (omega (arith, l, room)) (subst (λ x. parts_from rs x (suc len - n) fuel ≡ None) there b) in
            let all : (at + n) + (suc len - n) ≡ at + suc len = omega arith in
            subst (LacksPage (regions_space rs) addr) all rest
        | inr (others, b) ↦ let one : parts_from rs (addr + at) (suc len) (suc fuel) ≡ Some (part ∷ others) = some ∙ ap (option_map (λ ps. part ∷ ps)) b in absurd (cc)
      ]
]

pub no_parts_lack_a_page : (rs : List Region) (addr len : ℕ) → parts_of_range rs addr len ≡ None → LacksPage (regions_space rs) addr len
no_parts_lack_a_page rs addr len e =
    let z : addr ≡ addr + 0 = omega arith in
    let y : 0 + len ≡ len = omega arith in
    subst (LacksPage (regions_space rs) addr) y (lacks_from rs addr 0 len len (omega arith) (subst (λ x. parts_from rs x len len ≡ None) z e))

-- ---- what is answered

abbrev pub AreTheSpace : List Region → ℕ → ℕ → Option (List Piece) → Type 0
AreTheSpace rs addr len o = IfSome o (λ pieces. (memory : Memory) → parts_shown memory (map part_of pieces) ≡ range_shown (regions_space rs) memory addr len)

some_show : (rs : List Region) (addr len : ℕ) (o : Option (List Piece)) → IsRising rs → option_map (map part_of) o ≡ parts_of_range rs addr len → AreTheSpace rs addr len o
some_show rs addr len None h e = tt
some_show rs addr len (Some pieces) h e = λ memory. parts_are_the_space rs memory addr len (map part_of pieces) h (sym e)

pub pieces_show : {E : Type 0} (r : Result (Option (List Piece)) E) (rs : List Region) (addr len : ℕ) → IsRising rs → IfOk r (λ pieces. option_map (map part_of) pieces ≡ parts_of_range rs addr len) → IfOk r (AreTheSpace rs addr len)
pieces_show (Ok o) rs addr len h e = some_show rs addr len o h e
pieces_show (Err x) rs addr len h e = tt

abbrev pub AreMapped : List Region → ℕ → ℕ → Option (List Piece) → Type 0
AreMapped rs addr len o = IfSome o (λ pieces. IsMappedRange (regions_space rs) addr len)

abbrev pub LackAPage : List Region → ℕ → ℕ → Option (List Piece) → Type 0
LackAPage rs addr len o = IfNone o (LacksPage (regions_space rs) addr len)

some_mapped : (rs : List Region) (addr len : ℕ) (o : Option (List Piece)) → IsRising rs → option_map (map part_of) o ≡ parts_of_range rs addr len → IfSome o (λ pieces. IsMappedRange (regions_space rs) addr len)
some_mapped rs addr len None h e = tt
some_mapped rs addr len (Some pieces) h e = parts_are_mapped rs addr len (map part_of pieces) h (sym e)

pub pieces_are_mapped : {E : Type 0} (r : Result (Option (List Piece)) E) (rs : List Region) (addr len : ℕ) → IsRising rs → IfOk r (λ pieces. option_map (map part_of) pieces ≡ parts_of_range rs addr len) →
    IfOk r (AreMapped rs addr len)
pieces_are_mapped (Ok o) rs addr len h e = some_mapped rs addr len o h e
pieces_are_mapped (Err x) rs addr len h e = tt

none_lack : (rs : List Region) (addr len : ℕ) (o : Option (List Piece)) → option_map (map part_of) o ≡ parts_of_range rs addr len → IfNone o (LacksPage (regions_space rs) addr len)
none_lack rs addr len None e = no_parts_lack_a_page rs addr len (sym e)
none_lack rs addr len (Some pieces) e = tt

pub no_pieces_lack_a_page : {E : Type 0} (r : Result (Option (List Piece)) E) (rs : List Region) (addr len : ℕ) → IfOk r (λ pieces. option_map (map part_of) pieces ≡ parts_of_range rs addr len) →
    IfOk r (LackAPage rs addr len)
no_pieces_lack_a_page (Ok o) rs addr len e = none_lack rs addr len o e
no_pieces_lack_a_page (Err x) rs addr len e = tt

abbrev pub Means : List Region → List VOp → Option (List Op) → Type 0
Means rs vs o = IfSome o (λ job. list_all (has_apart_ranges rs) vs ≡ true → MeansAddresses (regions_space rs) vs job)

some_means : (rs : List Region) (vs : List VOp) (o : Option (List Op)) → IsRising rs → o ≡ job_by_name rs vs → Means rs vs o
some_means rs vs None h e = tt
some_means rs vs (Some job) h e = λ apart. record {
  bytes = λ memory b i. ap (λ (f : Memory). f b i) (job_is_meant rs vs job memory h apart (sym e)).memory;
  shown = λ memory. (job_is_meant rs vs job memory h apart (sym e)).shown;
}

pub job_means : {E : Type 0} (r : Result (Option (List Op)) E) (rs : List Region) (vs : List VOp) → IsRising rs → IfOk r (λ job. job ≡ job_by_name rs vs) → IfOk r (Means rs vs)
job_means (Ok o) rs vs h e = some_means rs vs o h e
job_means (Err x) rs vs h e = tt
