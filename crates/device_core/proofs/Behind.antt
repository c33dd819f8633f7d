-- The areas after an answer of a thread, as the rooms tell it.
use Rattle.std.proofs.Common.{◌≡◌, ℕ, ◌+◌, ◌-◌, ◌<◌, ◌≤◌, ◌^◌, List, [], ◌∷◌, ◌++◌, Some, None, IsTrue, ap, refl, sym, subst, ◌∙◌, length, arith}
use Rattle.std.specs.Prelude.{IsSome, fold}
use Rattle.bo_table.specs.declared.bo.Bo.{Bo}
use Rattle.bo_table.specs.Seen.{Bos, IsBo}
use Rattle.room_representation.specs.Bos.{AreBos}
use Rattle.journal_model.specs.declared.script.Script.{Script}
use Rattle.journal_model.specs.declared.entry.Entry.{Entry}
use Rattle.journal_model.specs.declared.state.Reservation.{Reservation}
use Rattle.journal_model.specs.declared.state.State.{State}
use Rattle.journal_model.specs.rules.Legal.{IsLegal, state_of}
use Rattle.journal_model.specs.scripts.ScriptRules.{is_script}
use Rattle.journal_model.specs.rules.State.{buffer, course, course_of}
use Rattle.cpu_maps.specs.declared.area.Area.{Area}
use Rattle.law_legal.specs.law_maps.Following.{areas_behind}
use Rattle.laws.proofs.law_state.GoodStates.{good_law}
use Rattle.laws.proofs.law_sound.Along.{sound_law}
use Rattle.map_follow.specs.declared.found.Found.{Found}
use Rattle.map_follow.specs.Ends.{with_end}
use Rattle.map_follow.specs.Follows.{answerer}
use Rattle.map_follow.specs.Founds.{found_by, place_in, with_found, with_found_at}
use Rattle.map_follow.specs.Laws.{areas_after, areas_answered}
use Rattle.device_core.proofs.Accessed.{answered_behind, course_behind, declared, few_pages, live_behind}
use Rattle.device_core.proofs.Bos.{found_same}

module _ (script : Script) (journal before : List Entry) (e : Entry) (fits : IsTrue (is_script script)) (legal : IsLegal script journal) (last : journal ≡ before ++ e ∷ []) (t : ℕ) (mine : answerer e ≡ Some t) where
  abbrev s : State
  s = state_of script before

  abbrev n : ℕ
  n = (course s t).answered

  all : IsLegal script (before ++ e ∷ [])
  all = subst (IsLegal script) last legal

  -- the thread is there, and has answered a command
  pub is_there : IsSome (course_of (state_of script journal) t)
  is_there = subst (λ j. IsSome (course_of (state_of script j) t)) (sym last) (course_behind script before e fits all t mine)

  pub answered_is : (course (state_of script journal) t).answered ≡ n + 1
  answered_is = ap (λ j. (course (state_of script j) t).answered) last ∙ answered_behind script before e fits all t mine

  -- the areas by the answer
  by_answer : (areas : List Area) → areas_answered script s t n e areas ≡ areas_after script s e areas
  by_answer areas =
      ap (λ o. elim o as (λ _. List Area) [ None ↦ areas_behind e.kind areas | Some u ↦ areas_answered script s u (course s u).answered e areas ]) (sym mine)

  module _ (answered : ℕ) (told : answered ≡ (course (state_of script journal) t).answered) where
    counted : answered ≡ n + 1
    counted = told ∙ answered_is

    -- so one less is before it
    pub some_answered : 1 ≤ answered
    some_answered = let c = counted in omega (arith, c)

    one_less : answered - 1 ≡ n
    one_less = let c = counted in omega (arith, c)

    ends : (areas new : List Area) → new ≡ fold (with_end t answered) areas script.marks → new ≡ fold (with_end t (n + 1)) areas script.marks
    ends areas new put = put ∙ ap (λ k. fold (with_end t k) areas script.marks) counted

    pub after_none : (areas new : List Area) → found_by script (answered - 1) e ≡ None → new ≡ fold (with_end t answered) areas script.marks → new ≡ areas_after script s e areas
    after_none areas new none put =
        ends areas new put
        ∙ ap (λ o. fold (with_end t (n + 1)) (with_found_at (place_in s) o areas) script.marks) (sym none ∙ ap (λ k. found_by script k e) one_less)
        ∙ by_answer areas

    module _ (found : Found) (is : found_by script (answered - 1) e ≡ Some found) where
      found_n : found_by script n e ≡ Some found
      found_n = ap (λ k. found_by script k e) (sym one_less) ∙ is

      pub known_buffer : found.pages.b.0 < length script.buffers
      known_buffer = declared script before e fits all t mine found found_n

      pub fits_pages : found.pages.end < 2 ^ 32
      fits_pages = few_pages script before e fits all t mine found found_n

      -- a buffer of the state has its reservation
      pub known_reservation : (jobs : List ℕ) (bos : Bos) → AreBos script (state_of script journal).core.buffers (state_of script journal).reservations jobs bos → found.pages.b.0 < length bos.reservations
      known_reservation jobs bos are =
          let many = (good_law script fits journal legal).many in
          let held = (sound_law script journal fits legal).owned.reservations in
          let same = ap length are.reservations_are in
          let low = known_buffer in
          omega (arith, many, held, same, low)

      pub after_some : (reservations : List Reservation) (jobs : List ℕ) (bos : Bos) → AreBos script (state_of script journal).core.buffers reservations jobs bos → (bo : Bo) → IsBo bos found.pages.b bo →
          (areas met new : List Area) → met ≡ with_found found bo.mem bo.spans bo.table areas → new ≡ fold (with_end t answered) met script.marks → new ≡ areas_after script s e areas
      after_some reservations jobs bos are bo lent areas met new at put =
          let x = buffer s found.pages.b in
          let same : with_found found bo.mem bo.spans bo.table areas ≡ with_found found x.mem x.spans x.table areas =
          found_same script (state_of script (before ++ e ∷ [])).core.buffers reservations jobs bos
          (subst (λ j. AreBos script (state_of script j).core.buffers reservations jobs bos) last are) found.pages.b bo lent x (live_behind script before e fits all t mine found found_n) found areas refl in
          ends met new put
          ∙ ap (λ xs. fold (with_end t (n + 1)) xs script.marks) (at ∙ same)
          ∙ ap (λ o. fold (with_end t (n + 1)) (with_found_at (place_in s) o areas) script.marks) (sym found_n)
          ∙ by_answer areas
