use Rattle.std.proofs.Common.{◌++◌, ◌+◌, ◌-◌, ◌/◌, ◌%◌, ◌∙◌, ap}
use Rattle.room_representation.proofs.steps.Lent.{lent_below}
use Rattle.room_queries.specs.Bytes.{bytes_in, page_of_bo}
use Rattle.room_queries.proofs.Read.{lent_has, both_shown, room_behind}
use Rattle.room_queries.proofs.bytes.shown.Goals as goal

pub get-bo-requires : goal.get-bo-requires
get-bo-requires c = lent_below c.args.script.now c.args.before.now c.args.parts.now c.requires.held c.args.b c.requires.live

pub push_part-requires-clause-there : goal.push_part-requires-clause-there
push_part-requires-clause-there c = lent_has c.args.script.now c.args.before.now c.args.parts.now c.requires.held c.args.b c.requires.live c.get-bo.result.now c.get-bo.ensures (c.args.off / 4096)

pub push_part-requires-2-clause-there : goal.push_part-requires-2-clause-there
push_part-requires-2-clause-there c = lent_has c.args.script.now c.args.before.now c.args.parts.now c.requires.held c.args.b c.requires.live c.get-bo.result.now c.get-bo.ensures (c.args.off / 4096 + 1)

pub push_part-requires-2-clause-room : goal.push_part-requires-2-clause-room
push_part-requires-2-clause-room c =
    room_behind c.args.parts.now (page_of_bo c.get-bo.result.now (c.args.off / 4096)) (c.args.off % 4096) c.args.len c.min-first.result (4096 - c.args.off % 4096) c.push_part.new.out c.min-first.ensures c.requires.short
    (c.push_part.ensures ∙ ap (λ l. l ++ bytes_in c.args.parts.now (page_of_bo c.get-bo.result.now (c.args.off / 4096)) (c.args.off % 4096) c.min-first.result) c.set.ensures)

pub returns : goal.returns
returns c =
    both_shown c.args.script.now c.args.before.now c.args.parts.now c.requires.held c.args.b c.requires.live c.get-bo.result.now c.get-bo.ensures c.args.off c.args.len c.min-first.result c.push_part.new.out c.push_part-2.new.out c.min-first.ensures c.requires.short
    (c.push_part.ensures ∙ ap (λ l. l ++ bytes_in c.args.parts.now (page_of_bo c.get-bo.result.now (c.args.off / 4096)) (c.args.off % 4096) c.min-first.result) c.set.ensures)
    c.push_part-2.ensures
