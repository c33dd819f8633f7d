use Rattle.generated_load.proofs.DrawnLaws.{whole_thread}
use Rattle.generated_load.proofs.commands.draw_commands.Goals as goal

pub returns : goal.returns
returns c =
    whole_thread c.args.thread c.args.draws.now c.draw_more.new.draws c.new-commands.result c.add_news.new.commands c.draw_more.new.commands c.add_reads.new.commands
    c.new-commands.ensures c.in_ok-add_news.ensures c.in_ok-draw_more.ensures.commands c.in_ok-draw_more.ensures.draws c.in_ok-add_reads.ensures
