use Rattle.std.proofs.Common.{◌≡◌, ◌∙◌, [], ap, sym}
use Rattle.std.specs.Prelude.{map}
use Rattle.journal_model.specs.marks.Spaces.{Region}
use Rattle.journal_model.specs.marks.ByName as name
use Rattle.gpu_spaces.specs.Kept.{regions_in}
use Rattle.gpu_spaces.proofs.Buffers.{none_between}
use Rattle.gpu_spaces.proofs.apart.buffers_between.Goals as goal

pub returns-then-len-eq0 : goal.returns-then-len-eq0
returns-then-len-eq0 c =
    let rs = regions_in c.args.mappings.now in
    let none : name.buffers_between rs c.args.addr 0 ≡ [] = ap (map (λ (r : Region). r.b)) (none_between c.args.addr rs) in
    c.new-buffers.ensures ∙ sym none ∙ ap (name.buffers_between rs c.args.addr) (sym c.if-len-eq0.true)
