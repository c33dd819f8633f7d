use Rattle.std.proofs.Common.{◌≡◌, drop}
use Rattle.std.specs.Prelude.{find}
use Rattle.journal_model.specs.marks.Mapped.{is_through, mappings_in}
use Rattle.map_access.proofs.access.first_through.Given as goal

-- no mapping before this mark will do
abbrev pub invariant-loop-i : goal.invariant-loop-i
invariant-loop-i l =
    find (λ m. is_through m l.thread l.n (record { b = l.b; off = 0; len = 0 })) (mappings_in l.marks)
    ≡ find (λ m. is_through m l.thread l.n (record { b = l.b; off = 0; len = 0 })) (mappings_in (drop l.i l.marks))
