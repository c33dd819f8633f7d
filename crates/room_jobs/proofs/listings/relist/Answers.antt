use Rattle.std.proofs.Common.{subst}
use Rattle.std.specs.Prelude.{filter}
use Rattle.journal_model.specs.rules.State.{has_buffer}
use Rattle.room_jobs.specs.Listings.{AreTouched}
use Rattle.room_jobs.proofs.Relisted.{relisted_other}
use Rattle.room_jobs.proofs.listings.relist.Goals as goal

pub list_unpinned-requires : goal.list_unpinned-requires
list_unpinned-requires c = c.requires.can c.in-Unpin.b c.in-Unpin.is

pub returns-in_default : goal.returns-in_default
returns-in_default c =
    record {
      ok = relisted_other c.args.script.now c.args.bos.now c.args.held.now c.args.command.now c.args.lru.now c.touch_held.new.lru c.in_default.not-Pin c.in_default.not-Unpin
          (subst (λ l. AreTouched (filter (has_buffer c.args.held.now) l) c.args.lru.now c.touch_held.new.lru) c.requires.named c.touch_held.ensures);
      err = tt;
    }
