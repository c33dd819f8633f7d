-- Areas follow a journal by one entry.
use Rattle.std.proofs.Common.{◌≡◌, ℕ, ◌+◌, ◌<◌, Bool, true, false, cond, List, [], ◌∷◌, ◌++◌, Option, Some, None, ap, refl, sym, ◌∙◌, subst, if◌then◌else◌, arith}
use Rattle.std.specs.Prelude.{◌==◌, ◌&&◌, nat_le, not, option_and_then, option_map}
use Rattle.std.proofs.lemmas.Bool.{lt-leb}
use Rattle.std.proofs.lemmas.List.Sums.{fold-append}
use Rattle.ttm_base.specs.declared.BufId.{BufId}
use Rattle.ttm_base.specs.Pages.{Page}
use Rattle.journal_model.specs.declared.script.Script.{Script}
use Rattle.journal_model.specs.declared.entry.Kind.{Kind}
use Rattle.journal_model.specs.declared.entry.Kind.TheVariants as kind
use Rattle.journal_model.specs.statements.Complete.{is_answer, is_by_thread}
use Rattle.journal_model.specs.rules.Legal.{Made}
use Rattle.journal_model.specs.marks.Mapped.{Access, Mapping, access_at, answered_before, count_answers, entry_after, has_ended, is_through, mapped_entry, mappings_in, meets_page, peek_or_poke}
use Rattle.journal_model.specs.rules.Places.{page_at}
use Rattle.journal_model.specs.rules.State.{buffer, same_buffer}
use Rattle.cpu_maps.specs.declared.area.Area.{Area}
use Rattle.cpu_maps.specs.Areas.{entry_in}
use Rattle.law_legal.specs.law_maps.Following.{areas_behind, page_there}
use Rattle.law_legal.proofs.law_maps.Following as law
use Rattle.map_access.proofs.Counts.{count_next}
use Rattle.map_follow.specs.Follows.{AreUnborn, Follows, entry_along, known, room_of, standing}
use Rattle.map_follow.proofs.Areas.{room_without_buffer, room_without_page}
use Rattle.map_follow.proofs.Standing.{found_passes, stands, through_is}

-- what it gives a page whose mapping has none
none_if : (p q w : Bool) (x : Option Page) → (if (p && q && false) && w then x else None) ≡ None
none_if true true w x = refl
none_if true false w x = refl
none_if false q w x = refl

-- one, or none
abbrev pub tally : Bool → ℕ
tally q = cond q 1 0

abbrev pub named_entry : List Area → ℕ → BufId → ℕ → Option Page
named_entry areas t b i = option_map page_there (entry_in areas t b i)

module _ (script : Script) (made : List Made) (e : Made) (counted : (u : ℕ) → answered_before e u ≡ count_answers u made) where
  abbrev next : List Made
  next = made ++ e ∷ []

  along_next : (m : Mapping) (i : ℕ) → entry_along script m i next ≡ entry_after script m i e e.entry.kind (entry_along script m i made)
  along_next m i = fold-append (λ old d. entry_after script m i d d.entry.kind old) None made (e ∷ [])

  -- an access that goes through no mapping that begins later
  late_access : (m : Mapping) (i : ℕ) (o : Option Access) → nat_le m.from (answered_before e m.thread) ≡ false →
      elim o as (λ _. Option Page) [ None ↦ None | Some a ↦ if is_through m m.thread (answered_before e m.thread) a && meets_page a i then Some (page_at (buffer e.before m.b) i) else None ] ≡ None
  late_access m i None late = refl
  late_access m i (Some a) late =
      ap (λ (q : Bool). if ((m.thread == m.thread) && same_buffer m.b a.b && q && not (has_ended m (answered_before e m.thread))) && meets_page a i then Some (page_at (buffer e.before m.b) i) else None) late
      ∙ by (m.thread == m.thread) (same_buffer m.b a.b) (not (has_ended m (answered_before e m.thread))) (meets_page a i) (Some (page_at (buffer e.before m.b) i))
    where
      by : (p q r w : Bool) (x : Option Page) → (if (p && q && false && r) && w then x else None) ≡ None
      by true true r w x = refl
      by true false r w x = refl
      by false q r w x = refl

  -- a mapping that begins later gets no entry
  pub late_none : (m : Mapping) (i : ℕ) (k : Kind) → count_answers m.thread made < m.from → entry_after script m i e k None ≡ None
  late_none m i k late = by (is_answer k) refl
    where
      begins : nat_le m.from (answered_before e m.thread) ≡ false
      begins = let n = counted m.thread in lt-leb m.from (answered_before e m.thread) (omega (arith, late, n))

      answer : (k : Kind) → is_answer k ≡ true → entry_after script m i e k None ≡ None
      answer (kind.Result r) h = late_access m i (access_at script m.thread e) begins
      answer (kind.Refused d) h = refl
      answer k h = cc

      by : (q : Bool) → is_answer k ≡ q → entry_after script m i e k None ≡ None
      by true h = answer k h
      by false h = law.none_after script m i e k h

  pub unborn_next : AreUnborn script made → AreUnborn script next
  unborn_next unborn m i late =
      let n = count_next m.thread made e in
      let before : count_answers m.thread made < m.from = omega (arith, n, late) in
      along_next m i ∙ ap (entry_after script m i e e.entry.kind) (unborn m i before) ∙ late_none m i e.entry.kind before

  -- ---- what a value has to be

  module _ (t : ℕ) (b : BufId) (i : ℕ) (value : Option Page) where
    pub is_known : (o : Option Mapping) → standing script t (count_answers t next) b ≡ o → (o ≡ None → value ≡ None) →
        ((m : Mapping) → o ≡ Some m → value ≡ entry_after script m i e e.entry.kind (entry_along script m i made)) → value ≡ known script next t b i
    is_known None at none some = none refl ∙ ap (option_and_then (λ m. mapped_entry script next m i)) (sym at)
    is_known (Some m) at none some =
        let th = through_is t (count_answers t next) b m (found_passes (stands t (count_answers t next) b) (mappings_in script.marks) m at) in
        let on : has_ended m (count_answers m.thread next) ≡ false = ap (λ u. has_ended m (count_answers u next)) th.own ∙ th.on in
        some m refl ∙ sym (along_next m i) ∙ ap (λ (q : Bool). if q then None else entry_along script m i next) (sym on)
        ∙ ap (option_and_then (λ m. mapped_entry script next m i)) (sym at)

  -- ---- what was known

  module _ (areas : List Area) (f : Follows script made areas) (t : ℕ) (b : BufId) (i : ℕ) where
    pub was_none : standing script t (count_answers t made) b ≡ None → named_entry areas t b i ≡ None
    was_none at = f.know t b i ∙ ap (option_and_then (λ m. mapped_entry script made m i)) at

    pub was_some : (m : Mapping) → standing script t (count_answers t made) b ≡ Some m → named_entry areas t b i ≡ entry_along script m i made
    was_some m at =
        let th = through_is t (count_answers t made) b m (found_passes (stands t (count_answers t made) b) (mappings_in script.marks) m at) in
        let on : has_ended m (count_answers m.thread made) ≡ false = ap (λ u. has_ended m (count_answers u made)) th.own ∙ th.on in
        f.know t b i ∙ ap (option_and_then (λ m. mapped_entry script made m i)) at ∙ ap (λ (q : Bool). if q then None else entry_along script m i made) on

  -- ---- an entry that answers no thread

  -- an answer that isn't the thread's
  other_answer : (m : Mapping) (i : ℕ) (k : Kind) (old : Option Page) → is_answer k ≡ true → is_by_thread m.thread e.entry.who ≡ false → entry_after script m i e k old ≡ old
  other_answer m i (kind.Result r) old h other =
      ap (λ (q : Bool). elim (if q then peek_or_poke script m.thread (answered_before e m.thread) else None) as (λ _. Option Page) [
        | None ↦ old
        | Some a ↦ if is_through m m.thread (answered_before e m.thread) a && meets_page a i then Some (page_at (buffer e.before m.b) i) else old
      ]) other
  other_answer m i (kind.Refused d) old h other = refl
  other_answer m i k old h other = cc

  no_call : (k : Kind) (areas : List Area) → is_answer k ≡ true → areas_behind k areas ≡ areas
  no_call (kind.Result r) areas h = refl
  no_call (kind.Refused d) areas h = refl
  no_call k areas h = cc

  -- the thread isn't answered
  abbrev pub IsUnanswered : ℕ → Type 0
  IsUnanswered u = (is_by_thread u e.entry.who && is_answer e.entry.kind) ≡ false

  goes : (m : Mapping) (i : ℕ) (areas : List Area) → IsUnanswered m.thread →
      named_entry (areas_behind e.entry.kind areas) m.thread m.b i ≡ entry_after script m i e e.entry.kind (named_entry areas m.thread m.b i)
  goes m i areas quiet = by (is_answer e.entry.kind) refl
    where
      not_by : (p q : Bool) → q ≡ true → (p && q) ≡ false → p ≡ false
      not_by false q h g = refl
      not_by true true h g = cc
      not_by true false h g = cc

      by : (q : Bool) → is_answer e.entry.kind ≡ q → named_entry (areas_behind e.entry.kind areas) m.thread m.b i ≡ entry_after script m i e e.entry.kind (named_entry areas m.thread m.b i)
      by true h =
          ap (λ xs. named_entry xs m.thread m.b i) (no_call e.entry.kind areas h)
          ∙ sym (other_answer m i e.entry.kind (named_entry areas m.thread m.b i) h (not_by (is_by_thread m.thread e.entry.who) (is_answer e.entry.kind) h quiet))
      by false h = law.step script m i e areas e.entry.kind h

  same_count : (u : ℕ) → IsUnanswered u → count_answers u next ≡ count_answers u made
  same_count u quiet = let n = count_next u made e in let none : cond (is_by_thread u e.entry.who && is_answer e.entry.kind) 1 0 ≡ 0 = ap tally quiet in omega (arith, n, none)

  module _ (areas : List Area) (f : Follows script made areas) where
    pub quiet_knows : (t : ℕ) (b : BufId) (i : ℕ) → IsUnanswered t → (new : List Area) →
        ((m : Mapping) → m.thread ≡ t → m.b ≡ b → named_entry new t b i ≡ entry_after script m i e e.entry.kind (named_entry areas t b i)) → named_entry new t b i ≡ known script next t b i
    quiet_knows t b i quiet new moves =
        is_known t b i (named_entry new t b i) (standing script t (count_answers t made) b) (ap (λ n. standing script t n b) (same_count t quiet))
        (λ at.
        let dummy : Mapping = record { thread = t; b = b; from = count_answers t made + 1; upto = None } in
        moves dummy refl refl ∙ ap (entry_after script dummy i e e.entry.kind) (was_none areas f t b i at) ∙ late_none dummy i e.entry.kind (omega arith))
        (λ m at.
        let th = through_is t (count_answers t made) b m (found_passes (stands t (count_answers t made) b) (mappings_in script.marks) m at) in
        moves m th.own th.same ∙ ap (entry_after script m i e e.entry.kind) (was_some areas f t b i m at))

    room_behind : (t : ℕ) (b : BufId) (k : Kind) → room_of t b (areas_behind k areas) ≡ room_of t b areas
    room_behind t b (kind.Free c g) = room_without_buffer t b c areas
    room_behind t b (kind.Move c mem n l) = room_without_buffer t b c areas
    room_behind t b (kind.Bind c) = room_without_buffer t b c areas
    room_behind t b (kind.Unbind c) = room_without_buffer t b c areas
    room_behind t b (kind.SwapOut c page slot) = room_without_page t b c page areas
    room_behind t b k = refl

    pub follows_leave : ((u : ℕ) → IsUnanswered u) → Follows script next (areas_behind e.entry.kind areas)
    follows_leave quiet = record {
      know = λ t b i.
          quiet_knows t b i (quiet t) (areas_behind e.entry.kind areas)
          (λ m own same.
          subst (λ u. named_entry (areas_behind e.entry.kind areas) u b i ≡ entry_after script m i e e.entry.kind (named_entry areas u b i)) own
          (subst (λ c. named_entry (areas_behind e.entry.kind areas) m.thread c i ≡ entry_after script m i e e.entry.kind (named_entry areas m.thread c i)) same
          (goes m i areas (quiet m.thread))));
      room = λ t b h. room_behind t b e.entry.kind ∙ f.room t b h;
      unborn = unborn_next f.unborn;
    }
