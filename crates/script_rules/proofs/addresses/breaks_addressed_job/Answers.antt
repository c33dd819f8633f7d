use Rattle.std.proofs.Common.{◌≡◌, Bool, ap, ◌∙◌}
use Rattle.std.specs.Prelude.{IfOk, not}
use Rattle.std.specs.List.{list_any}
use Rattle.std.proofs.Common.{subst}
use Rattle.journal_model.specs.marks.ByName.{job_by_name}
use Rattle.journal_model.specs.scripts.MarkRules.{has_apart_ranges}
use Rattle.journal_model.specs.scripts.LineRules.{is_big_named_job}
use Rattle.script_rules.proofs.AddressLaws.{ops_inside, twice_told, big_told}
use Rattle.script_rules.proofs.addresses.breaks_addressed_job.Goals as goal

pub is_big-requires : goal.is_big-requires
is_big-requires c = rw (c.items.ensures, c.in_ok-ops.ensures) (ops_inside c.args.words.now c.requires.numbers c.requires.ranges)

pub returns-then-branch : goal.returns-then-branch
returns-then-branch c =
    let rs = c.args.thread_mappings.now.regions in
    let named = ap (λ vs. is_big_named_job (job_by_name rs vs)) (c.items.ensures ∙ c.in_ok-ops.ensures) in
    big_told rs c.args.words.now c.in_ok-is_big.field-0 (c.in_ok-is_big.ensures ∙ named) c.if-branch.true

pub some_buffer_is_twice-requires : goal.some_buffer_is_twice-requires
some_buffer_is_twice-requires c = rw (c.items-2.ensures, c.in_ok-ops.ensures) (ops_inside c.args.words.now c.requires.numbers c.requires.ranges)

pub returns : goal.returns
returns c =
    let rs = c.args.thread_mappings.now.regions in
    let named = ap (λ vs. is_big_named_job (job_by_name rs vs)) (c.items.ensures ∙ c.in_ok-ops.ensures) in
    let told = twice_told rs c.args.words.now c.in_ok-is_big.field-0 (c.in_ok-is_big.ensures ∙ named) c.if-branch.false in
    let all = ap (list_any (λ v. not (has_apart_ranges rs v))) (c.items-2.ensures ∙ c.in_ok-ops.ensures) in
    subst (λ (b : Bool). IfOk c.some_buffer_is_twice.result (λ broken. broken ≡ b)) (all ∙ told) c.some_buffer_is_twice.ensures
