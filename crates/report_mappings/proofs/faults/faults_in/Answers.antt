use Rattle.std.proofs.Common.{◌≡◌, ℕ, Bool, ◌∙◌, ap, sym, arith}
use Rattle.report_mappings.specs.Faults.{faults_in, is_fault, seen_at}
use Rattle.map_access.proofs.Pages.{page_kept, page_left}
use Rattle.report_mappings.proofs.faults.faults_in.Goals as goal
use Rattle.report_mappings.proofs.faults.faults_in.Goals.{then-is_fault+in_ok-push, else-is_fault}

pub loop-page-preserved : goal.loop-page-preserved
loop-page-preserved c =
    let p : ℕ → Bool = λ i. is_fault c.args.from (seen_at c.args.seen.now c.args.access.b.0 i) in
    let test : p c.loop-page.page ≡ c.is_fault.result = sym (c.is_fault.ensures ∙ ap (is_fault c.args.from) c.seen_at.ensures) in
    elim c.if-is_fault.branch [
      | then-is_fault+in_ok-push w ↦
          page_kept p c.loop-page.page c.args.access.end c.loop-page.pages c.if-is_fault.pages (faults_in c.args.seen.now c.args.from c.args.access) (omega arith)
          (test ∙ w.if-is_fault.true) c.loop-page.invariant (w.pages-is ∙ w.in_ok-push.ensures.ok)
      | else-is_fault w ↦
          page_left p c.loop-page.page c.args.access.end c.loop-page.pages c.if-is_fault.pages (faults_in c.args.seen.now c.args.from c.args.access) (omega arith)
          (test ∙ w.if-is_fault.false) c.loop-page.invariant w.pages-is
    ]
