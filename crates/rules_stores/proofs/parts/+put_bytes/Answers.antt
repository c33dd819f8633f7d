use Rattle.journal_model.specs.rules.State.{buffer_in}
use Rattle.rules_stores.proofs.PutLaws.{put_whole, put_parts}
use Rattle.rules_stores.proofs.parts.+put_bytes.Goals as goal

pub returns-then-count-bytes : goal.returns-then-count-bytes
returns-then-count-bytes t c =
    put_parts _ _ (buffer_in c.args.core.now c.args.b) c.args.off c.min-count.result c.args.bytes.now _ c.of-page.ensures c.min-count.ensures c.write.ensures _ c.put_bytes.ensures

pub returns-else-count-bytes : goal.returns-else-count-bytes
returns-else-count-bytes t c =
    put_whole _ _ (buffer_in c.args.core.now c.args.b) c.args.off c.min-count.result c.args.bytes.now _ c.of-page.ensures c.min-count.ensures c.write.ensures c.if-count-bytes.false
