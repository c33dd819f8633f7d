use Rattle.std.proofs.Common.{◌++◌, sym, ap, ◌∙◌, arith}
use Rattle.place_list.specs.SpanPages.{pages_of}
use Rattle.place_list.proofs.CursorLaws.{first_page, one_longer}
use Rattle.place_list.proofs.page_cursor.PageCursorIterator.next.Goals as goal

pub returns-clause-steps : goal.returns-clause-steps
returns-clause-steps c =
    let s = c.loop-self.self-inside in
    sym c.loop-self.invariant ∙ ap (λ p. p ++ pages_of s.behind.now) (first_page s.here.start s.here.end (omega arith))

pub returns-clause-goes : goal.returns-clause-goes
returns-clause-goes c =
    let s = c.loop-self.self-inside in
    let e = sym c.loop-self.invariant ∙ ap (λ p. p ++ pages_of s.behind.now) (first_page s.here.start s.here.end (omega arith)) in
    record { on = λ f. (tt, tt, one_longer _ _ _ e); keeps = tt; rests = λ f. tt }
