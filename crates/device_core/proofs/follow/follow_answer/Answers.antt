use Rattle.std.proofs.Common.{◌-◌, IsTrue, fold, sym, ap, ◌∙◌, subst}
use Rattle.journal_model.specs.declared.script.Script.{Script}
use Rattle.journal_model.specs.declared.state.Course.{Course}
use Rattle.journal_model.specs.rules.Legal.{state_of}
use Rattle.journal_model.specs.scripts.ScriptRules.{is_script}
use Rattle.map_follow.specs.Ends.{with_end}
use Rattle.map_follow.specs.Founds.{found_by, with_found}
use Rattle.device_core.proofs.Behind.{after_none, after_some, fits_pages, is_there, known_reservation, some_answered}
use Rattle.device_core.proofs.follow.follow_answer.Goals as goal
use Rattle.device_core.proofs.follow.follow_answer.Goals.{in-Some, in_default}

pub of_script-search-requires : goal.of_script-search-requires
of_script-search-requires c = subst (λ (s : Script). IsTrue (is_script s)) (sym c.script.ensures.script) c.script.ensures.fits

pub course-requires : goal.course-requires
course-requires c = is_there c.args.rooms.now.script c.args.rooms.now.journal c.args.before.now c.args.entry.now c.journal-legal.ensures.fits c.journal-legal.ensures.legal c.requires.last c.args.thread c.requires.who

pub overflow_sub-answered : goal.overflow_sub-answered
overflow_sub-answered c =
    some_answered c.args.rooms.now.script c.args.rooms.now.journal c.args.before.now c.args.entry.now c.journal-legal.ensures.fits c.journal-legal.ensures.legal c.requires.last c.args.thread c.requires.who c.from-answered.result
    (c.from-answered.ensures ∙ ap (λ (x : Course). x.answered) c.course.ensures)

pub get-bo-requires : goal.get-bo-requires
get-bo-requires c =
    known_reservation c.args.rooms.now.script c.args.rooms.now.journal c.args.before.now c.args.entry.now c.journal-legal.ensures.fits c.journal-legal.ensures.legal c.requires.last c.args.thread c.requires.who c.from-answered.result
    (c.from-answered.ensures ∙ ap (λ (x : Course). x.answered) c.course.ensures) c.in-Some.found
    (ap (λ (s : Script). found_by s (c.from-answered.result - 1) c.args.entry.now) (sym (c.of_script-search.ensures ∙ c.script.ensures.script)) ∙ sym c.found_by.ensures ∙ c.in-Some.is)
    (state_of c.args.rooms.now.script c.args.rooms.now.journal).last_jobs c.bos.result.now c.bos.ensures

pub fault_in-requires : goal.fault_in-requires
fault_in-requires c =
    fits_pages c.args.rooms.now.script c.args.rooms.now.journal c.args.before.now c.args.entry.now c.journal-legal.ensures.fits c.journal-legal.ensures.legal c.requires.last c.args.thread c.requires.who c.from-answered.result
    (c.from-answered.ensures ∙ ap (λ (x : Course). x.answered) c.course.ensures) c.in-Some.found
    (ap (λ (s : Script). found_by s (c.from-answered.result - 1) c.args.entry.now) (sym (c.of_script-search.ensures ∙ c.script.ensures.script)) ∙ sym c.found_by.ensures ∙ c.in-Some.is)

pub returns : goal.returns
returns c =
    let told = c.from-answered.ensures ∙ ap (λ (x : Course). x.answered) c.course.ensures in
    let found_is = ap (λ (s : Script). found_by s (c.from-answered.result - 1) c.args.entry.now) (sym (c.of_script-search.ensures ∙ c.script.ensures.script)) ∙ sym c.found_by.ensures in
    let put = c.end_mappings.ensures ∙ ap (λ (s : Script). fold (with_end c.args.thread c.from-answered.result) c.match-found_by.maps s.marks) (c.of_script-search.ensures ∙ c.script.ensures.script) in
    elim c.match-found_by.branch [
      | in-Some w ↦
          after_some c.args.rooms.now.script c.args.rooms.now.journal c.args.before.now c.args.entry.now c.journal-legal.ensures.fits c.journal-legal.ensures.legal c.requires.last c.args.thread c.requires.who c.from-answered.result told w.in-Some.found (found_is ∙ w.in-Some.is)
          (state_of c.args.rooms.now.script c.args.rooms.now.journal).reservations (state_of c.args.rooms.now.script c.args.rooms.now.journal).last_jobs
          w.bos.result.now w.bos.ensures w.get-bo.result.now w.get-bo.ensures c.args.maps.now c.match-found_by.maps c.end_mappings.new.maps
          (w.maps-is ∙ w.fault_in.ensures
          ∙ ap (λ xs. with_found w.in-Some.found w.get-bo.result.now.mem xs w.places.result.now c.args.maps.now) w.items.ensures
          ∙ ap (λ xs. with_found w.in-Some.found w.get-bo.result.now.mem w.get-bo.result.now.spans xs c.args.maps.now) w.places.ensures)
          put
      | in_default w ↦
          after_none c.args.rooms.now.script c.args.rooms.now.journal c.args.before.now c.args.entry.now c.journal-legal.ensures.fits c.journal-legal.ensures.legal c.requires.last c.args.thread c.requires.who c.from-answered.result told c.args.maps.now c.end_mappings.new.maps (found_is ∙ w.in_default.is)
          (put ∙ ap (λ xs. fold (with_end c.args.thread c.from-answered.result) xs c.args.rooms.now.script.marks) w.maps-is)
    ]
