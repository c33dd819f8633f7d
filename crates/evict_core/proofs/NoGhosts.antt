-- Where ghosts have no pages of a memory type by its manager's count, none of them holds a page there.
use Rattle.std.proofs.Common.{◌≡◌, ℕ, suc, ◌+◌, ◌-◌, ◌<◌, ◌≤◌, Bool, true, false, List, [], ◌∷◌, Option, Some, None, length, refl, sym, ◌∙◌, ap, arith}
use Rattle.std.specs.Prelude.{find, option_map, slice_get, unwrap_or, if◌then◌else◌}
use Rattle.std.proofs.lemmas.List.Sums.{sum_by-cons}
use Rattle.ttm_base.specs.declared.Mem.{Mem}
use Rattle.ttm_base.specs.declared.Span.{Span}
use Rattle.ttm_base.specs.declared.Owner.{Owner}
use Rattle.ttm_base.specs.declared.Owner.TheVariants as owner
use Rattle.ttm_base.specs.Reach.{intersects}
use Rattle.resource_core.specs.declared.holding.Holding.{Holding}
use Rattle.resource_core.specs.declared.holding.OwnerKind.TheVariants as kind
use Rattle.resource_core.specs.Resources.{Resources, same_owner, kept_by, some_spans, pages_if, pages_by}
use Rattle.journal_model.specs.declared.state.Buffer.{Buffer}
use Rattle.journal_model.specs.declared.state.Ghost.{Ghost}
use Rattle.journal_model.specs.rules.Holds.{ghost_spans}
use Rattle.journal_model.specs.declared.state.Job.{Job}
use Rattle.laws.specs.law_transparent.OwnPages.{HaveAPage}
use Rattle.room_representation.specs.declared.parts.Ghost as parts
use Rattle.room_representation.specs.Ghosts.{AreGhosts}
use Rattle.room_representation.specs.lemma_spans.Owned.{HoldsAsOwned, FirstOfNumber}
use Rattle.evict_core.specs.Rows.{HoldNone}

-- the pages of a ghost that holds these spans
abbrev pages : ℕ → List Span → ℕ
pages n ss = pages_if kind.Ghost (record { owner = owner.Ghost n; spans = ss })

-- a ghost's holding is counted
counted : (n : ℕ) (held : List Holding) (ss : List Span) → kept_by (owner.Ghost n) held ≡ Some ss → pages n ss ≤ pages_by kind.Ghost held
counted n [] ss e = cc
counted n (h ∷ hs) ss e = by (counted n hs ss) h.owner refl (same_owner (owner.Ghost n) h.owner) refl
  where
    sum : pages_by kind.Ghost (h ∷ hs) ≡ pages_if kind.Ghost h + pages_by kind.Ghost hs
    sum = sum_by-cons (pages_if kind.Ghost) h hs

    by : (kept_by (owner.Ghost n) hs ≡ Some ss → pages n ss ≤ pages_by kind.Ghost hs) → (o : Owner) → h.owner ≡ o → (q : Bool) → same_owner (owner.Ghost n) h.owner ≡ q → pages n ss ≤ pages_by kind.Ghost (h ∷ hs)
    by rest o is false q = let c = rest (rw q at e) in omega (arith, c, sum)
    by rest (owner.Ghost m) is true q =
        let spans : h.spans ≡ ss = (let g : Some h.spans ≡ Some ss = rw q at e in cc) in
        let own : pages_if kind.Ghost h ≡ pages n h.spans = rw is refl in
        let same = ap (pages n) spans in
        omega (arith, own, same, sum)
    by rest (owner.Live b) is true q = let no : false ≡ true = sym (ap (same_owner (owner.Ghost n)) is) ∙ q in cc
    by rest (owner.Target b) is true q = let no : false ≡ true = sym (ap (same_owner (owner.Ghost n)) is) ∙ q in cc

module _ (mem : Mem) (buffers : List (Option Buffer)) (ghosts : List Ghost) (size : ℕ) (r : Resources) (holds : HoldsAsOwned size mem buffers ghosts r) (first : FirstOfNumber ghosts)
    (some_pages : (i : ℕ) (g : Ghost) → slice_get ghosts i ≡ Some g → HaveAPage (ghost_spans mem g)) where
  pub none_holds : pages_by kind.Ghost r.held ≡ 0 → HoldNone mem ghosts
  none_holds none i g at = by (ghost_spans mem g) refl
    where
      kept : kept_by (owner.Ghost g.num) r.held ≡ some_spans (ghost_spans mem g)
      kept = holds.each (owner.Ghost g.num) ∙ ap (λ o. some_spans (unwrap_or (option_map (ghost_spans mem) o) [])) (first i g at)

      by : (ss : List Span) → ghost_spans mem g ≡ ss → ghost_spans mem g ≡ []
      by [] e = e
      by (s ∷ ss) e =
          let c = counted g.num r.held (s ∷ ss) (kept ∙ ap some_spans e) in
          let some : s.start < s.end = some_pages i g at 0 s (ap (λ l. slice_get l 0) e) in
          let sum : pages g.num (s ∷ ss) ≡ (s.end - s.start) + pages g.num ss = refl in
          absurd (omega (arith, c, none, some, sum))

-- where none holds pages none is found
pub none_found : (mem : Mem) (within : Span) (ghosts : List Ghost) → HoldNone mem ghosts → find (λ g. intersects (ghost_spans mem g) within) ghosts ≡ None
none_found mem within [] none = refl
none_found mem within (g ∷ gs) none =
    ap (λ q. if q then Some g else find (λ g. intersects (ghost_spans mem g) within) gs) (ap (λ ss. intersects ss within) (none 0 g refl))
    ∙ none_found mem within gs (λ i h at. none (suc i) h at)

-- where there are none
pub none_there : (jobs : List Job) (last : List ℕ) (mem : Mem) (gs : List Ghost) (rs : List parts.Ghost) → AreGhosts jobs last gs rs → length rs ≡ 0 → HoldNone mem gs
none_there jobs last mem [] rs are e i g at = cc
none_there jobs last mem (h ∷ gs) [] are e i g at = absurd are
none_there jobs last mem (h ∷ gs) (r ∷ rs) are e i g at = absurd (omega (arith, e))
