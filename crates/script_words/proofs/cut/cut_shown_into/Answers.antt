use Rattle.std.specs.Prelude.{◌==◌, ◌||◌, not}
use Rattle.std.proofs.Common.{◌≡◌, ◌<◌, true, false, length, get_or, arith}
use Rattle.std.proofs.lemmas.Grind.{common_steps}
use Rattle.journal_model.specs.scripts.FirstFault.{is_shown}
use Rattle.script_words.proofs.Shown.{len_more, space_shows, no_end, word_ends, word_goes_on}
use Rattle.script_words.proofs.cut.cut_shown_into.Goals as goal
use Rattle.script_words.proofs.cut.cut_shown_into.Goals.{then-ends_word+in_ok-push+else-text-i-ne32, else-ends_word}

pub loop-i-preserved : goal.loop-i-preserved
loop-i-preserved c =
    let text = c.args.text.now in
    let i = c.loop-i.i in
    let lt : i < length text = omega arith in
    elim c.if-ends_word.branch [
      | then-ends_word+in_ok-push+else-text-i-ne32 w ↦
          let space : (get_or text i 0 == 32) ≡ true = grind (arith, common_steps, w.if-text-i-ne32.false) in
          let shows = space_shows (get_or text i 0) space in
          let step = word_ends text c.loop-i.start i c.loop-i.words _ lt shows space c.loop-i.invariant.so_far in
          record {
            order = omega (arith, w.start-is);
            within = omega arith;
            len = len_more text i lt shows c.loop-i.invariant.len;
            so_far = rw (w.words-is, w.start-is, w.in_ok-push.ensures.ok, w.new.ensures) step;
          }
      | else-ends_word w ↦
          let ends : (not (is_shown (get_or text i 0)) || get_or text i 0 == 32) ≡ false = grind (arith, common_steps, c.ends_word.ensures, w.if-ends_word.false) in
          let parts = no_end (get_or text i 0) ends in
          let step = word_goes_on text c.loop-i.start i c.loop-i.words _ c.loop-i.invariant.order lt parts.0 parts.1 c.loop-i.invariant.so_far in
          record {
            order = omega (arith, w.start-is, c.loop-i.invariant.order);
            within = omega arith;
            len = len_more text i lt parts.0 c.loop-i.invariant.len;
            so_far = rw (w.words-is, w.start-is) step;
          }
    ]
