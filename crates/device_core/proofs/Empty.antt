-- Without areas there is nothing to follow.
use Rattle.std.proofs.Common.{◌≡◌, ℕ, ◌+◌, ◌-◌, Bool, true, false, List, [], ◌∷◌, Option, Some, None, refl, sym, ◌∙◌, ap, length, if◌then◌else◌, arith}
use Rattle.std.specs.Prelude.{◌==◌, ◌&&◌, fold}
use Rattle.std.proofs.lemmas.Bool.{eqb-true}
use Rattle.ttm_base.specs.declared.BufId.{BufId}
use Rattle.ttm_base.specs.declared.PagePlace.{PagePlace}
use Rattle.ttm_base.specs.ListWords.{count_from}
use Rattle.journal_model.specs.declared.script.Script.{Script}
use Rattle.journal_model.specs.declared.script.Mark.{Mark}
use Rattle.journal_model.specs.declared.script.MarkKind.{MarkKind}
use Rattle.journal_model.specs.declared.script.MarkKind.TheVariants as mark
use Rattle.journal_model.specs.declared.state.State.{State}
use Rattle.journal_model.specs.declared.entry.Entry.{Entry}
use Rattle.journal_model.specs.declared.entry.Kind.{Kind}
use Rattle.journal_model.specs.declared.entry.Kind.TheVariants as kind
use Rattle.journal_model.specs.rules.State.{course}
use Rattle.cpu_maps.specs.declared.area.Area.{Area}
use Rattle.law_legal.specs.law_maps.Following.{areas_behind}
use Rattle.map_follow.specs.declared.found.Found.{Found}
use Rattle.map_follow.specs.Ends.{behind_line, with_end}
use Rattle.map_follow.specs.Follows.{answerer}
use Rattle.map_follow.specs.Founds.{found_by, place_in, with_found_at, with_page, with_pages}
use Rattle.map_follow.specs.Laws.{areas_after, areas_answered}

none_behind : (k : Kind) → areas_behind k [] ≡ []
none_behind (kind.Free b g) = refl
none_behind (kind.Move b mem n l) = refl
none_behind (kind.Bind b) = refl
none_behind (kind.Unbind b) = refl
none_behind (kind.SwapOut b page slot) = refl
none_behind k = refl

none_behind_line : (t : ℕ) (k : MarkKind) → behind_line t k [] ≡ []
none_behind_line t (mark.Unmap b) = refl
none_behind_line t (mark.Map b) = refl
none_behind_line t mark.Mapped = refl
none_behind_line t (mark.Vmap va n b off) = refl
none_behind_line t (mark.Vunmap va n) = refl
none_behind_line t (mark.Vsubmit ops) = refl

none_ends : (t n : ℕ) (marks : List Mark) → fold (with_end t n) [] marks ≡ []
none_ends t n [] = refl
none_ends t n (m ∷ marks) = ap (λ xs. fold (with_end t n) xs marks) (by ((m.thread == t) && (m.after == n))) ∙ none_ends t n marks
  where
    by : (q : Bool) → (if q then behind_line t m.kind [] else []) ≡ []
    by true = none_behind_line t m.kind
    by false = refl

none_page : (t : ℕ) (b : BufId) (i : ℕ) (o : Option PagePlace) → with_page t b i o [] ≡ []
none_page t b i None = refl
none_page t b i (Some p) = refl

none_pages : (t : ℕ) (b : BufId) (place : ℕ → Option PagePlace) (pages : List ℕ) → with_pages t b place [] pages ≡ []
none_pages t b place [] = refl
none_pages t b place (i ∷ pages) = ap (λ xs. with_pages t b place xs pages) (none_page t b i (place i)) ∙ none_pages t b place pages

none_found : (place : BufId → ℕ → Option PagePlace) (o : Option Found) → with_found_at place o [] ≡ []
none_found place None = refl
none_found place (Some f) = none_pages f.thread f.pages.b (place f.pages.b) (count_from 1 (f.pages.end - f.pages.first) f.pages.first)

pub none_after : (script : Script) (s : State) (e : Entry) → areas_after script s e [] ≡ []
none_after script s e = by (answerer e)
  where
    by : (o : Option ℕ) → elim o as (λ _. List Area) [ None ↦ areas_behind e.kind [] | Some t ↦ areas_answered script s t (course s t).answered e [] ] ≡ []
    by None = none_behind e.kind
    by (Some t) =
        ap (λ xs. fold (with_end t ((course s t).answered + 1)) xs script.marks) (none_found (place_in s) (found_by script (course s t).answered e))
        ∙ none_ends t ((course s t).answered + 1) script.marks

pub empty_is : (xs : List Area) (q : Bool) → q ≡ (length xs == 0) → q ≡ true → xs ≡ []
empty_is [] q e h = refl
empty_is (x ∷ xs) q e h = let z : length (x ∷ xs) ≡ 0 = eqb-true (length (x ∷ xs)) 0 (sym e ∙ h) in absurd (omega (arith, z))
