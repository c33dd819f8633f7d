use Rattle.std.proofs.Common.{◌∙◌}
use Rattle.script_spelling.proofs.WholeText.{text_is}
use Rattle.script_spelling.proofs.script.write_script.Goals as goal

pub returns : goal.returns
returns c =
    c.into_bytes.ensures
    ∙ text_is c.args.script.now c.new-text.result c.put_head.new.text c.put_buffers.new.text c.put_threads.new.text c.put_turns.new.text c.put_heading.new.text
    c.new-text.ensures c.in_ok-put_head.ensures c.in_ok-put_buffers.ensures c.in_ok-put_threads.ensures c.in_ok-put_turns.ensures c.in_ok-put_heading.ensures
