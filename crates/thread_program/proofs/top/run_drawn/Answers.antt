use Rattle.thread_program.proofs.CountLaws.{run_of_load}
use Rattle.thread_program.proofs.DrawnLaws.{fits_of}
use Rattle.thread_program.proofs.top.run_drawn.Goals as goal

pub run_threads-requires-after_bounds : goal.run_threads-requires-after_bounds
run_threads-requires-after_bounds g c = λ κs lives. fits_of c.args.number _ c.in_ok-script.ensures.script c.in_ok-script.ensures.load

pub returns : goal.returns
returns g c = run_of_load c.args.number _ c.run_threads.result c.in_ok-script.ensures.script c.in_ok-script.ensures.load c.run_threads.ensures
