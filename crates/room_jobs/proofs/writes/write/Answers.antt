use Rattle.room_jobs.proofs.Put.{lent_pages, lent_put, lent_short}
use Rattle.room_jobs.proofs.writes.write.Goals as goal

pub get-requires : goal.get-requires
get-requires c = (c.requires c.in-Write.b c.in-Write.off c.in-Write.bytes c.in-Write.is).below

pub put-requires-clause-pages : goal.put-requires-clause-pages
put-requires-clause-pages c = lent_pages c.args.bos.now c.args.stores.now c.in-Write.b c.in-Write.off c.in-Write.bytes (c.requires c.in-Write.b c.in-Write.off c.in-Write.bytes c.in-Write.is) c.get.result.now c.get.ensures c.items.result.now c.items.ensures

pub put-requires-clause-short : goal.put-requires-clause-short
put-requires-clause-short c = lent_short c.args.bos.now c.args.stores.now c.in-Write.b c.in-Write.off c.in-Write.bytes (c.requires c.in-Write.b c.in-Write.off c.in-Write.bytes c.in-Write.is) c.get.result.now c.get.ensures c.items.result.now c.items.ensures

pub returns-in-Write : goal.returns-in-Write
returns-in-Write c =
    lent_put c.args.bos.now c.args.stores.now c.in-Write.b c.in-Write.off c.in-Write.bytes (c.requires c.in-Write.b c.in-Write.off c.in-Write.bytes c.in-Write.is) c.get.result.now c.get.ensures c.items.result.now c.items.ensures c.put.new.stores c.put.ensures c.args.command.now c.in-Write.is
