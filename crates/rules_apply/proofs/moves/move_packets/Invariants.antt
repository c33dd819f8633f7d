use Rattle.std.proofs.Common.{◌≡◌}
use Rattle.std.specs.Prelude.{map}
use Rattle.ttm_base.specs.ListWords.{count_from}
use Rattle.journal_model.specs.rules.Places.{packet_place, name_in_spans}
use Rattle.journal_model.specs.rules.ApplyMoves.{copy_of_page}
use Rattle.rules_apply.proofs.moves.move_packets.Given as goal

abbrev pub invariant-loop-i : goal.invariant-loop-i
invariant-loop-i l =
    l.packets ≡ map (λ i. copy_of_page (name_in_spans l.mem l.target i) (packet_place l.buffer i)) (count_from 1 l.i 0)
