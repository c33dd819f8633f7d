-- The job with addresses among the lines of a thread: it is the job by name in the mappings that the requests above leave.
use Rattle.std.proofs.Common.{◌≡◌, ℕ, zero, suc, ◌+◌, Bool, true, false, List, [], ◌∷◌, length, map, Option, Some, None, refl, sym, ap, ◌∙◌, arith}
use Rattle.std.specs.Prelude.{◌==◌, ◌&&◌, filter, fold, nat_le, nat_lt, slice_get, take}
use Rattle.std.specs.List.{list_all}
use Rattle.std.proofs.lemmas.Bool.Decides.{nat_tests}
use Rattle.ttm_base.specs.declared.Op.{Op}
use Rattle.journal_model.specs.declared.script.Script.{Script}
use Rattle.journal_model.specs.declared.script.Command.{Command}
use Rattle.journal_model.specs.declared.script.Command.TheVariants as command
use Rattle.journal_model.specs.declared.script.Mark.{Mark}
use Rattle.journal_model.specs.declared.script.MarkKind.{MarkKind}
use Rattle.journal_model.specs.declared.script.MarkKind.TheVariants as mark
use Rattle.journal_model.specs.declared.space.VOp.{VOp}
use Rattle.journal_model.specs.marks.ByName.{job_by_name}
use Rattle.journal_model.specs.scripts.CommandRules.{is_between, is_declared}
use Rattle.journal_model.specs.rules.Commands.{decl}
use Rattle.journal_model.specs.marks.Marks.{is_request}
use Rattle.journal_model.specs.scripts.MarkRules.{ThreadMappings, thread_mappings_after, has_apart_ranges, is_job_of, is_mark, is_page_range, is_vop, is_vsubmit, is_way}
use Rattle.journal_model.specs.marks.Spaces.{Region, has_pages, regions_after}
use Rattle.law_legal.specs.law_items.Items.{Item, Alone, Asks, all_along, commands_in, item_fits, mark_at, marks_in}
use Rattle.law_legal.proofs.law_items.Tests.{both, joint}
use Rattle.law_legal.proofs.law_script.NamedJobs.{same_are}
use Rattle.law_legal.specs.law_addresses.Addressed.{requests_among}

-- the command below a mark, and what holds of it in the mappings that these requests leave
pub record IsNamed (regions : List Region) (commands : List Command) (n : ℕ) (above : List MarkKind) (m : Mark) (vs : List VOp) : Type 0 where
  pub at : ℕ
  pub place : m.after ≡ n + at
  pub engine : ℕ
  pub ops : List Op
  pub submit : slice_get commands at ≡ Some (command.Submit engine ops)
  pub apart : list_all (has_apart_ranges (fold regions_after regions above)) vs ≡ true
  pub named : job_by_name (fold regions_after regions above) vs ≡ Some ops
  pub paged : list_all has_pages above ≡ true

-- ---- requests have pages

page_there : (va n : ℕ) → is_page_range va n ≡ true → nat_lt 0 n ≡ true
page_there va n h = grind (arith, nat_tests, h)

first_fact : (a b c d : Bool) → (a && b && c && d) ≡ true → a ≡ true
first_fact true b c d h = refl
first_fact false b c d h = absurd cc

-- ---- lines above

-- a request
past_request : (rs : List Region) (request : MarkKind) (cs : List Command) (n : ℕ) (above : List MarkKind) (m : Mark) (vs : List VOp) → has_pages request ≡ true
    → IsNamed (regions_after rs request) cs n above m vs → IsNamed rs cs n (request ∷ above) m vs
past_request rs request cs n above m vs h r = record {
  at = r.at;
  place = r.place;
  engine = r.engine;
  ops = r.ops;
  submit = r.submit;
  apart = r.apart;
  named = r.named;
  paged = joint (has_pages request) (list_all has_pages above) h r.paged;
}

-- a mark with a line of its own
past_mark : (s : Script) (d : ThreadMappings) (x : MarkKind) (kinds : List MarkKind) (cs : List Command) (n : ℕ) (m : Mark) (vs : List VOp) → is_mark s d x ≡ true
    → IsNamed (thread_mappings_after d x).regions cs n (filter is_request kinds) m vs → IsNamed d.regions cs n (filter is_request (x ∷ kinds)) m vs
past_mark s d (mark.Map b) kinds cs n m vs h r = r
past_mark s d (mark.Unmap b) kinds cs n m vs h r = r
past_mark s d mark.Mapped kinds cs n m vs h r = r
past_mark s d (mark.Vsubmit ops) kinds cs n m vs h r = r
past_mark s d (mark.Vmap va k b off) kinds cs n m vs h r =
    let some = first_fact (is_page_range va k) (is_declared s b) (nat_le off 4095) (nat_le (off + k) (decl s b).pages) h in
    past_request d.regions (mark.Vmap va k b off) cs n (filter is_request kinds) m vs (page_there va k some) r
past_mark s d (mark.Vunmap va k) kinds cs n m vs h r =
    past_request d.regions (mark.Vunmap va k) cs n (filter is_request kinds) m vs (page_there va k h) r

-- a command
past_command : (rs : List Region) (c : Command) (cs : List Command) (n : ℕ) (above : List MarkKind) (m : Mark) (vs : List VOp) → IsNamed rs cs (n + 1) above m vs → IsNamed rs (c ∷ cs) n above m vs
past_command rs c cs n above m vs r =
    let place = r.place in
    record {
      at = suc r.at;
      place = omega (arith, place);
      engine = r.engine;
      ops = r.ops;
      submit = r.submit;
      apart = r.apart;
      named = r.named;
      paged = r.paged;
    }

-- how a command is written changes no mapping
past_way : (d : ThreadMappings) (way : MarkKind) (c : Command) (kinds : List MarkKind) (cs : List Command) (n : ℕ) (m : Mark) (vs : List VOp) → is_way d way (Some c) ≡ true
    → IsNamed (thread_mappings_after d way).regions cs n (filter is_request kinds) m vs → IsNamed d.regions cs n (filter is_request (way ∷ kinds)) m vs
past_way d mark.Mapped c kinds cs n m vs h r = r
past_way d (mark.Vsubmit ops) c kinds cs n m vs h r = r
past_way d (mark.Map b) c kinds cs n m vs h r = absurd cc
past_way d (mark.Unmap b) c kinds cs n m vs h r = absurd cc
past_way d (mark.Vmap va k b off) c kinds cs n m vs h r = absurd cc
past_way d (mark.Vunmap va k) c kinds cs n m vs h r = absurd cc

-- ---- the job itself

job_is : (found : Option (List Op)) (ops : List Op) → is_job_of found ops ≡ true → found ≡ Some ops
job_is None ops h = absurd cc
job_is (Some named) ops h = ap (λ (os : List Op). Some os) (same_are named ops h)

named_here : (d : ThreadMappings) (c : Command) (cs : List Command) (n : ℕ) (m : Mark) (vs : List VOp) → m.after ≡ n → is_vsubmit d vs c ≡ true → IsNamed d.regions (c ∷ cs) n [] m vs
named_here d (command.Submit engine ops) cs n m vs e h =
    let f = both (is_between 1 64 (length vs) && list_all is_vop vs && list_all (has_apart_ranges d.regions) vs) (is_job_of (job_by_name d.regions vs) ops) h in
    let g = both (is_between 1 64 (length vs) && list_all is_vop vs) (list_all (has_apart_ranges d.regions) vs) f.0 in
    record {
      at = 0;
      place = omega (arith, e);
      engine = engine;
      ops = ops;
      submit = refl;
      apart = g.1;
      named = job_is (job_by_name d.regions vs) ops f.1;
      paged = refl;
    }
named_here d _ cs n m vs e h = absurd cc

no_line : (s : Script) (d : ThreadMappings) (x : MarkKind) (vs : List VOp) → x ≡ mark.Vsubmit vs → is_mark s d x ≡ true → ⊥
no_line s d x vs e h = let no : is_mark s d x ≡ false = ap (λ k. is_mark s d k) e in absurd (cc)

-- ---- along the lines of a thread

pub named_along : (s : Script) (t n : ℕ) (d : ThreadMappings) (items : List Item) (k : ℕ) (m : Mark) (vs : List VOp) → all_along (item_fits s) d items ≡ true
    → slice_get (marks_in t n items) k ≡ Some m → m.kind ≡ mark.Vsubmit vs → IsNamed d.regions (commands_in items) n (requests_among (take k (marks_in t n items))) m vs
named_along s t n d [] k m vs f e h = absurd cc
named_along s t n d (Alone x ∷ items) zero m vs f e h =
    let g = both (item_fits s d (Alone x)) (all_along (item_fits s) (thread_mappings_after d x) items) f in
    let same : mark_at t n x ≡ m = cc in
    absurd (no_line s d x vs (ap (λ (a : Mark). a.kind) same ∙ h) (both (s.version == 2) (is_mark s d x) g.0).1)
named_along s t n d (Alone x ∷ items) (suc k) m vs f e h =
    let g = both (item_fits s d (Alone x)) (all_along (item_fits s) (thread_mappings_after d x) items) f in
    past_mark s d x (map (λ a. a.kind) (take k (marks_in t n items))) (commands_in items) n m vs (both (s.version == 2) (is_mark s d x) g.0).1
    (named_along s t n (thread_mappings_after d x) items k m vs g.1 e h)
named_along s t n d (Asks [] c ∷ items) k m vs f e h =
    past_command d.regions c (commands_in items) n (requests_among (take k (marks_in t (n + 1) items))) m vs (named_along s t (n + 1) d items k m vs f e h)
named_along s t n d (Asks (way ∷ []) c ∷ items) zero m vs f e h =
    let g = both (item_fits s d (Asks (way ∷ []) c)) (all_along (item_fits s) (thread_mappings_after d way) items) f in
    let same : mark_at t n way ≡ m = cc in
    let kind : way ≡ mark.Vsubmit vs = ap (λ (a : Mark). a.kind) same ∙ h in
    named_here d c (commands_in items) n m vs (sym (ap (λ (a : Mark). a.after) same))
    (ap (λ w. is_way d w (Some c)) (sym kind) ∙ (both (s.version == 2) (is_way d way (Some c)) g.0).1)
named_along s t n d (Asks (way ∷ []) c ∷ items) (suc k) m vs f e h =
    let g = both (item_fits s d (Asks (way ∷ []) c)) (all_along (item_fits s) (thread_mappings_after d way) items) f in
    let rest = take k (marks_in t (n + 1) items) in
    past_way d way c (map (λ a. a.kind) rest) (c ∷ commands_in items) n m vs (both (s.version == 2) (is_way d way (Some c)) g.0).1
    (past_command (thread_mappings_after d way).regions c (commands_in items) n (requests_among rest) m vs (named_along s t (n + 1) (thread_mappings_after d way) items k m vs g.1 e h))
named_along s t n d (Asks (way ∷ other ∷ ways) c ∷ items) k m vs f e h = absurd cc
