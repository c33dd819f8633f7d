-- Each job that is written with addresses means them.
use Rattle.std.proofs.Common.{◌≡◌, ℕ, zero, suc, true, List, [], ◌∷◌, Option, Some, None, sym, ap, subst, ◌∙◌, refl, arith}
use Rattle.std.specs.Prelude.{◌==◌, not, filter, slice_get, take}
use Rattle.std.specs.List.{list_all}
use Rattle.ttm_base.specs.declared.Op.{Op}
use Rattle.journal_model.specs.declared.script.Script.{Script}
use Rattle.journal_model.specs.declared.script.Mark.{Mark}
use Rattle.journal_model.specs.declared.script.MarkKind.{MarkKind}
use Rattle.journal_model.specs.declared.space.VOp.{VOp}
use Rattle.journal_model.specs.marks.ByName.{after_vops, job_by_name, vops_shown}
use Rattle.journal_model.specs.rules.Commands.{commands_of}
use Rattle.journal_model.specs.marks.Marks.{marks_of}
use Rattle.journal_model.specs.scripts.MarkRules.{empty_thread_mappings, has_apart_ranges, have_marks}
use Rattle.journal_model.specs.rules.PlainMemory.{Memory}
use Rattle.journal_model.specs.scripts.ScriptRules.{is_script}
use Rattle.journal_model.specs.marks.Spaces.{has_pages, regions_of, regions_space, space_of}
use Rattle.law_legal.specs.law_items.Items.{Item, items_fit, marks_in, numbered}
use Rattle.law_legal.proofs.law_items.FromMarks.{items_of_marks}
use Rattle.law_legal.proofs.law_items.Tests.{both}
use Rattle.law_legal.proofs.law_items.Places.{drops, all_numbered, has_threads, is_later, list_at}
use Rattle.law_legal.proofs.law_spaces.Names.{IsMeant, job_is_meant}
use Rattle.law_legal.proofs.law_spaces.Order.{rising_of}
use Rattle.law_legal.proofs.law_spaces.Points.{regions_are_the_space}
use Rattle.law_legal.specs.law_addresses.Addressed.{MeansAddresses, JobsMeanTheirAddresses, requests_above, requests_among}
use Rattle.law_legal.proofs.law_addresses.Lines.{named_along}

-- a job by name means its addresses
means : (requests : List MarkKind) (vs : List VOp) (ops : List Op) → list_all has_pages requests ≡ true → list_all (has_apart_ranges (regions_of requests)) vs ≡ true
    → job_by_name (regions_of requests) vs ≡ Some ops → MeansAddresses (space_of requests) vs ops
means requests vs ops paged apart named =
    let same : regions_space (regions_of requests) ≡ space_of requests = regions_are_the_space requests paged in
    let meant : (memory : Memory) → IsMeant (regions_space (regions_of requests)) memory vs ops = λ memory. job_is_meant (regions_of requests) vs ops memory (rising_of requests paged) apart named in
    record {
      bytes = λ memory b i. ap (λ m. m b i) ((meant memory).memory ∙ ap (λ space. after_vops space memory vs) same);
      shown = λ memory. (meant memory).shown ∙ ap (λ space. vops_shown space memory vs) same;
    }

marks_kept : (s : Script) → is_script s ≡ true → have_marks s ≡ true
marks_kept s h = (both _ (have_marks s) h).1

-- the lines of each thread fit
fit_at : (s : Script) (lists : List (List Item)) (i : ℕ) → list_all (items_fit s) lists ≡ true → items_fit s (list_at lists i) ≡ true
fit_at s [] i h = refl
fit_at s (items ∷ lists) zero h = (both (items_fit s items) (list_all (items_fit s) lists) h).0
fit_at s (items ∷ lists) (suc i) h = fit_at s lists i (both (items_fit s items) (list_all (items_fit s) lists) h).1

no_mark : (m : Mark) → ◌≡◌ {A = Option Mark} None (Some m) → ⊥
no_mark m e = cc

pub jobs_mean : JobsMeanTheirAddresses
jobs_mean s fits zero place m vs found kind =
    let x = items_of_marks s (marks_kept s fits) in
    let none : filter (λ (k : Mark). k.thread == 0) (numbered 1 x.lists) ≡ [] =
    drops (λ (k : Mark). k.thread == 0) (numbered 1 x.lists) (all_numbered (λ k. not (k.thread == 0)) 1 x.lists (λ u k kind a. is_later u 0 (omega (arith, a)))) in
    let no : marks_of s 0 ≡ [] = ap (λ ms. filter (λ (k : Mark). k.thread == 0) ms) x.comes.marks ∙ none in
    absurd (no_mark m (sym (ap (λ ms. slice_get ms place) no) ∙ found))
jobs_mean s fits (suc i) place m vs found kind =
    let t = suc i in
    let x = items_of_marks s (marks_kept s fits) in
    let items = list_at x.lists i in
    let here = has_threads s x.lists x.comes t i (omega arith) in
    let job = named_along s t 0 empty_thread_mappings items place m vs (fit_at s x.lists i x.fit) (sym (ap (λ ms. slice_get ms place) here.0) ∙ found) kind in
    let above = requests_among (take place (marks_in t 0 items)) in
    let same : above ≡ requests_above s t place = ap (λ ms. requests_among (take place ms)) (sym here.0) in
    let count = job.place in
    let line : job.at ≡ m.after = omega (arith, count) in
    record {
      engine = job.engine;
      ops = job.ops;
      submit = ap (λ n. slice_get (commands_of s t) n) (sym line) ∙ ap (λ cs. slice_get cs job.at) here.1 ∙ job.submit;
      means = subst (λ requests. MeansAddresses (space_of requests) vs job.ops) same (means above vs job.ops job.paged job.apart job.named);
    }
