use Rattle.std.proofs.Common.{◌≡◌, map, take, drop, ap, ◌∙◌}
use Rattle.script_spelling.specs.Cursors.{front_at}
use Rattle.script_spelling.proofs.CursorLaws.{here_is, behind_is, front_within}
use Rattle.script_spelling.proofs.marks.split_at_place.Goals as goal

pub split_at-requires : goal.split_at-requires
split_at-requires c = rw c.count_at.ensures (front_within c.args.thread c.args.n c.args.rest.now)

pub returns : goal.returns
returns c =
    let ms = c.args.script.now.marks in
    let front : c.split_at.result.0.now ≡ take (front_at c.args.thread c.args.n c.args.rest.now) c.args.rest.now = c.split_at.ensures.front ∙ ap (λ k. take k c.args.rest.now) c.count_at.ensures in
    let back : c.split_at.result.1.now ≡ drop (front_at c.args.thread c.args.n c.args.rest.now) c.args.rest.now = c.split_at.ensures.back ∙ ap (λ k. drop k c.args.rest.now) c.count_at.ensures in
    record {
      here = ap (map (λ m. m.kind)) (here_is c.args.thread c.args.n ms c.args.rest.now _ c.requires.order c.requires.rest front);
      behind = behind_is c.args.thread c.args.n ms c.args.rest.now _ c.requires.order c.requires.rest back;
    }
