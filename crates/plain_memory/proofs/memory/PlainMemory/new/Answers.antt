use Rattle.std.proofs.Common.{◌≡◌, ◌≤◌, ℕ, List, ◌∙◌, ap, length, arith}
use Rattle.std.proofs.lemmas.List.{take_all}
use Rattle.journal_model.specs.declared.script.Decl.{Decl}
use Rattle.plain_memory.specs.Kept.{memory_in, sizes_in}
use Rattle.plain_memory.proofs.ContentLaws.{empty_rooms, memory_in-empty, sizes_in-empty}
use Rattle.plain_memory.proofs.memory.PlainMemory.new.Goals as goal

pub returns-clause-sizes : goal.returns-clause-sizes
returns-clause-sizes c =
    let over : length c.items-buffer-items.result.now ≤ c.loop-buffer.buffer-index = omega arith in
    let whole = take_all c.loop-buffer.buffer-index c.items-buffer-items.result.now over in
    let is : c.loop-buffer.contents.items ≡ empty_rooms c.args.script.now.buffers = c.loop-buffer.invariant ∙ ap (λ (ds : List Decl). empty_rooms ds) (whole ∙ c.items-buffer-items.ensures) in
    ap (λ (r : List (List ℕ)). sizes_in r) is ∙ sizes_in-empty c.args.script.now.buffers

pub returns-clause-zeros : goal.returns-clause-zeros
returns-clause-zeros c =
    let over : length c.items-buffer-items.result.now ≤ c.loop-buffer.buffer-index = omega arith in
    let whole = take_all c.loop-buffer.buffer-index c.items-buffer-items.result.now over in
    let is : c.loop-buffer.contents.items ≡ empty_rooms c.args.script.now.buffers = c.loop-buffer.invariant ∙ ap (λ (ds : List Decl). empty_rooms ds) (whole ∙ c.items-buffer-items.ensures) in
    ap (λ (r : List (List ℕ)). memory_in r) is ∙ memory_in-empty c.args.script.now.buffers
