-- The words of the other kinds of line are those of what the line says.
use Rattle.std.proofs.Common.{◌≡◌, ℕ, ◌<◌, ◌^◌, Bool, true, false, cond, List, [], ◌∷◌, map, Option, Some, None, refl, sym, ap, ◌∙◌, arith, bytes_eq, inl, inr, ◌⊎◌}
use Rattle.std.specs.Prelude.{not, codes, decimal, is_none, unwrap_or, option_map}
use Rattle.std.specs.List.{list_any}
use Rattle.journal_model.specs.declared.line.Line.{Line}
use Rattle.journal_model.specs.declared.line.Line.TheVariants as line
use Rattle.journal_model.specs.declared.line.ActorWord.{ActorWord}
use Rattle.journal_model.specs.declared.line.ActorWord.TheVariants as read_as
use Rattle.journal_model.specs.declared.line.EngineWord.TheVariants as engine_as
use Rattle.journal_model.specs.scripts.Words.{Text, actor_word}
use Rattle.journal_model.specs.scripts.CommandRules.{is_between}
use Rattle.journal_model.specs.scripts.Spelling.{group_word}
use Rattle.journal_model.specs.scripts.Reading.{number_in, group_of, is_plain, read_on, actor_of, engine_word_of}
use Rattle.journal_model.specs.scripts.LineWords.{version_line, is_no_actor}
use Rattle.journal_model.specs.scripts.LineRules.{is_broken_actor, is_missing_actor, is_broken_engine, is_missing_engine}
use Rattle.journal_model.specs.scripts.FirstFault.{or_zero, first_word, actor_in, engine_in}
use Rattle.law_legal.proofs.law_script.NumberLaws.{between}
use Rattle.law_legal.proofs.law_script.WordLaws.{bytes_are}
use Rattle.law_legal.proofs.law_script.LineLaws.{made, number_word}
use Rattle.law_legal.proofs.law_script.HeadLaws.{actor_takes, an_actor, plain_word}
use Rattle.law_legal.proofs.law_items.Tests.{either}

-- ---- the first two lines

version_chosen : (a b : Bool) (version : Text) (l : Line) → (a ≡ true → version ≡ codes "1") → (b ≡ true → version ≡ codes "2")
    → cond a (made (line.Version 1)) (cond b (made (line.Version 2)) None) ≡ made l → ((version ≡ codes "1") × (l ≡ line.Version 1)) ⊎ ((version ≡ codes "2") × (l ≡ line.Version 2))
version_chosen true b version l p q h = let e : line.Version 1 ≡ l = cc in inl (p refl, sym e)
version_chosen false true version l p q h = let e : line.Version 2 ≡ l = cc in inr (q refl, sym e)
version_chosen false false version l p q h = absurd cc

-- the words of the first line
pub version_said : (ws : List Text) (l : Line) → first_word ws ≡ codes "ttm" → version_line ws ≡ made l
    → ((ws ≡ codes "ttm" ∷ codes "1" ∷ []) × (l ≡ line.Version 1)) ⊎ ((ws ≡ codes "ttm" ∷ codes "2" ∷ []) × (l ≡ line.Version 2))
version_said [] l k h = absurd cc
version_said (w ∷ []) l k h = absurd cc
version_said (w ∷ v ∷ []) l k h =
    elim (version_chosen (bytes_eq v (codes "1")) (bytes_eq v (codes "2")) v l (bytes_are v (codes "1")) (bytes_are v (codes "2")) h) [
      | inl one ↦ inl (ap (λ t. t ∷ v ∷ []) k ∙ ap (λ t. codes "ttm" ∷ t ∷ []) one.0, one.1)
      | inr two ↦ inr (ap (λ t. t ∷ v ∷ []) k ∙ ap (λ t. codes "ttm" ∷ t ∷ []) two.0, two.1)
    ]
version_said (w ∷ v ∷ x ∷ xs) l k h = absurd cc

-- ---- engines and actors

-- what a word of an engine says
pub engine_chosen : (p b : Bool) (n : ℕ) → let x = cond (not p) engine_as.BrokenNumber (cond b (engine_as.Is n) engine_as.Missing) in is_broken_engine x ≡ false → is_missing_engine x ≡ false → (p ≡ true) × (b ≡ true) × (engine_in x ≡ n)
engine_chosen true true n r s = (refl, refl, refl)
engine_chosen true false n r s = absurd cc
engine_chosen false b n r s = absurd cc

-- an engine is spelled as it was read
pub engine_takes : (engines : ℕ) (w : Text) → engines < 2 ^ 64 → is_broken_engine (engine_word_of engines w) ≡ false → is_missing_engine (engine_word_of engines w) ≡ false → w ≡ decimal (engine_in (engine_word_of engines w))
engine_takes engines w small r s =
    let c = engine_chosen (is_plain w) (is_between 1 engines (read_on 0 w)) (read_on 0 w) r s in
    plain_word w c.0 (omega (arith, (between 1 engines (read_on 0 w) c.1).1, small)) ∙ ap decimal (sym c.2)

-- a word that is an actor
pub good_actor : (x : ActorWord) → is_no_actor x ≡ false → is_broken_actor x ≡ false → is_missing_actor x ≡ false → x ≡ an_actor (actor_in x)
good_actor (read_as.Is who) a b c = refl
good_actor read_as.BrokenNumber a b c = absurd cc
good_actor read_as.Missing a b c = absurd cc
good_actor read_as.Malformed a b c = absurd cc

-- the actors of a schedule are spelled as they were read
pub actors_take : (threads engines : ℕ) (ws : List Text) → threads < 2 ^ 64 → engines < 2 ^ 64
    → list_any is_no_actor (map (actor_of threads engines) ws) ≡ false → list_any is_broken_actor (map (actor_of threads engines) ws) ≡ false → list_any is_missing_actor (map (actor_of threads engines) ws) ≡ false
    → ws ≡ map actor_word (map actor_in (map (actor_of threads engines) ws))
actors_take threads engines [] s t a b c = refl
actors_take threads engines (w ∷ ws) s t a b c =
    let x = actor_of threads engines w in
    let xs = map (actor_of threads engines) ws in
    let e = either (is_no_actor x) (list_any is_no_actor xs) a in
    let f = either (is_broken_actor x) (list_any is_broken_actor xs) b in
    let g = either (is_missing_actor x) (list_any is_missing_actor xs) c in
    ap (λ v. v ∷ ws) (actor_takes threads engines w (actor_in x) s t (good_actor x e.0 f.0 g.0))
    ∙ ap (λ vs. actor_word (actor_in x) ∷ vs) (actors_take threads engines ws s t e.1 f.1 g.1)

-- ---- move

-- ---- the head of a buffer line

group_chosen : (a : Bool) (o : Option ℕ) (w : Text) → (a ≡ true → w ≡ codes "-") → (is_none o ≡ false → w ≡ decimal (or_zero o))
    → let x : Option (Option ℕ) = cond a (Some None) (option_map (λ n. Some n) o) in is_none x ≡ false → w ≡ group_word (unwrap_or x None)
group_chosen true o w p q h = p refl
group_chosen false (Some n) w p q h = q refl
group_chosen false None w p q h = absurd cc

-- a group is spelled as it was read
pub group_takes : (w : Text) → is_none (group_of w) ≡ false → w ≡ group_word (unwrap_or (group_of w) None)
group_takes w h = group_chosen (bytes_eq w (codes "-")) (number_in 0 15 w) w (bytes_are w (codes "-")) (number_word 0 15 w (omega arith)) h
