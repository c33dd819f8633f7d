use Rattle.std.proofs.Common.{◌*◌}
use Rattle.rules_stores.proofs.KeptLaws.{bytes_in-zeros}
use Rattle.rules_stores.proofs.stores.PlainStores.new.Goals as goal

pub returns-clause-bytes : goal.returns-clause-bytes
returns-clause-bytes c =
    let sizes = c.args.sizes in
    rw (c.in_ok-new.ensures, c.in_ok-new-2.ensures, c.in_ok-new-3.ensures) (bytes_in-zeros (4096 * sizes.vram) (4096 * sizes.frames) (4096 * sizes.swap))
