use Rattle.std.proofs.Common.{◌∷◌, ◌∙◌, All, ap, sym, subst, arith}
use Rattle.std.specs.List.{AllByRecursion}
use Rattle.std.proofs.lemmas.List.Elements.{All-nil, All-push}
use Rattle.journal_model.specs.marks.Spaces.{Region, regions_space}
use Rattle.gpu_spaces.specs.Kept.{regions_in}
use Rattle.gpu_spaces.specs.Meaning.{IsMappedSpan}
use Rattle.gpu_spaces.proofs.Mapped.{IsMappedEntry, entries_are_mapped}
use Rattle.gpu_spaces.proofs.runs.runs_of.Goals as goal

pub loop-start-init : goal.loop-start-init
loop-start-init c =
    let rs = regions_in c.args.mappings.now in
    record {
      run = λ page low high. absurd (omega (arith, high));
      runs = subst (All (IsMappedSpan (regions_space rs))) (sym c.new-runs.ensures) (All-nil (IsMappedSpan (regions_space rs)));
      rest =
          subst (AllByRecursion (IsMappedEntry rs)) (sym (c.into_iter-start-iterator.ensures.into_iter_gives ∙ c.iter-start-items.ensures.rest))
          (entries_are_mapped c.args.mappings.now.entries);
    }

pub loop-start-preserved : goal.loop-start-preserved
loop-start-preserved c =
    let rs = regions_in c.args.mappings.now in
    let both : AllByRecursion (IsMappedEntry rs) ((c.in-Some.start.now, c.in-Some.rest.now) ∷ c.next.new.self) =
    subst (AllByRecursion (IsMappedEntry rs)) c.in-Some.ensures.steps c.loop-start.invariant.rest in
    let next : IsMappedSpan (regions_space rs) c.mapping_at.result.span =
    subst (IsMappedSpan (regions_space rs)) (sym (ap (λ (r : Region). r.span) c.mapping_at.ensures)) both.0 in
    let run : IsMappedSpan (regions_space rs) c.extended-run.result = c.extended-run.ensures (regions_space rs) c.loop-start.invariant.run next in
    record {
      run = run;
      runs =
          subst (All (IsMappedSpan (regions_space rs))) (sym c.in_ok-push.ensures.ok)
          (All-push (IsMappedSpan (regions_space rs)) c.loop-start.runs c.extended-run.result c.loop-start.invariant.runs run);
      rest = both.1;
    }
