-- A place that is read is spelled so.
use Rattle.std.proofs.Common.{◌≡◌, ℕ, ◌<◌, ◌^◌, Bool, true, false, cond, eqb, ltb, List, [], ◌∷◌, ◌++◌, length, Option, Some, None, refl, sym, ap, subst, ◌∙◌, append_assoc, arith, bytes_eq}
use Rattle.std.specs.Prelude.{◌&&◌, ◌||◌, not, codes, decimal}
use Rattle.std.specs.List.{join_with_byte}
use Rattle.std.proofs.lemmas.List.{append-nil}
use Rattle.std.proofs.lemmas.Bool.Decides.{nat_tests}
use Rattle.ttm_base.specs.declared.Mem.{Mem}
use Rattle.ttm_base.specs.declared.FlaggedPlace.{FlaggedPlace}
use Rattle.journal_model.specs.declared.line.Flags.{Flags}
use Rattle.journal_model.specs.declared.line.PlaceWord.{PlaceWord}
use Rattle.journal_model.specs.declared.line.PlaceWord.TheVariants as place_word
use Rattle.journal_model.specs.scripts.Words.{Text, mem_word}
use Rattle.journal_model.specs.scripts.Cut.{cut_at}
use Rattle.journal_model.specs.scripts.Spelling.{flag, reach_word, flagged_word}
use Rattle.journal_model.specs.scripts.Reading.{number_in, mem_of, last_flags_of, contig_flags_of, flags_of, flagged, ranged, is_system, reach_place, based_place, reach_of, at_place, plus_place, place_word_of}
use Rattle.law_legal.proofs.law_script.CutLaws.{joined}
use Rattle.law_legal.proofs.law_script.NumberLaws.{number_takes}
use Rattle.law_legal.proofs.law_script.WordLaws.{bytes_are, mem_is, IsMemOf}
use Rattle.law_legal.proofs.law_items.Tests.{second}

-- flags that are there
abbrev pub some_flags : Flags → Option Flags
some_flags f = Some f

-- the parts after the first, each with its plus
abbrev pub tail : List Text → Text
tail [] = []
tail (w ∷ ws) = 43 ∷ w ++ tail ws

-- joined parts are the first and the rest
pub join_tail : (b : Text) (ws : List Text) → join_with_byte 43 (b ∷ ws) ≡ b ++ tail ws
join_tail b [] = sym (append-nil b)
join_tail b (w ∷ ws) = ap (λ t. b ++ 43 ∷ t) (join_tail w ws)

-- the flags of version 2
abbrev pub own_flags : Flags → Text
own_flags f = flag f.desired (codes "+desired") ++ flag f.fallback (codes "+fallback")

-- what the last flag says
pub record IsLast (topdown contig : Bool) (ws : List Text) (f : Flags) : Type 0 where
  pub words : tail ws ≡ own_flags f
  pub first : f.topdown ≡ topdown
  pub second : f.contig ≡ contig

-- flags by their parts
pub flag_made : (t c d b : Bool) (f : Flags) → some_flags (record { topdown = t; contig = c; desired = d; fallback = b }) ≡ some_flags f → record { topdown = t; contig = c; desired = d; fallback = b } ≡ f
flag_made t c d b f h = cc

one_flag : (t c d f : Bool) (w : Text) (g : Flags) → (d ≡ true → w ≡ codes "desired") → (f ≡ true → w ≡ codes "fallback")
    → cond d (Some (record { topdown = t; contig = c; desired = true; fallback = false })) (cond f (Some (record { topdown = t; contig = c; desired = false; fallback = true })) None) ≡ some_flags g
    → IsLast t c (w ∷ []) g
one_flag t c true f w g p q h =
    let e = flag_made t c true false g h in
    subst (λ (x : Flags). IsLast t c (w ∷ []) x) e (record { words = ap (λ v. 43 ∷ v ++ []) (p refl); first = refl; second = refl })
one_flag t c false true w g p q h =
    let e = flag_made t c false true g h in
    subst (λ (x : Flags). IsLast t c (w ∷ []) x) e (record { words = ap (λ v. 43 ∷ v ++ []) (q refl); first = refl; second = refl })
one_flag t c false false w g p q h = absurd cc

last_is : (two t c : Bool) (ws : List Text) (f : Flags) → last_flags_of two t c ws ≡ some_flags f → IsLast t c ws f
last_is two t c [] f h = subst (λ (x : Flags). IsLast t c [] x) (flag_made t c false false f h) (record { words = refl; first = refl; second = refl })
last_is two t c (w ∷ []) f h =
    one_flag t c (two && bytes_eq w (codes "desired")) (two && bytes_eq w (codes "fallback")) w f
    (λ e. bytes_are w (codes "desired") (second two (bytes_eq w (codes "desired")) e)) (λ e. bytes_are w (codes "fallback") (second two (bytes_eq w (codes "fallback")) e)) h
last_is two t c (w ∷ x ∷ ws) f h = absurd cc

-- what the flags after `top` say
pub record IsContig (topdown : Bool) (ws : List Text) (f : Flags) : Type 0 where
  pub words : tail ws ≡ flag f.contig (codes "+contig") ++ own_flags f
  pub first : f.topdown ≡ topdown

contig_chosen : (two t b : Bool) (w : Text) (ws : List Text) (f : Flags) → (b ≡ true → w ≡ codes "contig")
    → cond b (last_flags_of two t true ws) (last_flags_of two t false (w ∷ ws)) ≡ some_flags f → IsContig t (w ∷ ws) f
contig_chosen two t true w ws f p h =
    let l = last_is two t true ws f h in
    record { words = ap (λ v. 43 ∷ v ++ tail ws) (p refl) ∙ ap (λ v. codes "+contig" ++ v) l.words ∙ ap (λ b. flag b (codes "+contig") ++ own_flags f) (sym l.second); first = l.first }
contig_chosen two t false w ws f p h =
    let l = last_is two t false (w ∷ ws) f h in
    record { words = l.words ∙ ap (λ b. flag b (codes "+contig") ++ own_flags f) (sym l.second); first = l.first }

contig_is : (two t : Bool) (ws : List Text) (f : Flags) → contig_flags_of two t ws ≡ some_flags f → IsContig t ws f
contig_is two t [] f h =
    let l = last_is two t false [] f h in
    record { words = l.words ∙ ap (λ b. flag b (codes "+contig") ++ own_flags f) (sym l.second); first = l.first }
contig_is two t (w ∷ ws) f h = contig_chosen two t (bytes_eq w (codes "contig")) w ws f (bytes_are w (codes "contig")) h

-- all flags of a place
abbrev pub all_flags : Flags → Text
all_flags f = flag f.topdown (codes "+top") ++ (flag f.contig (codes "+contig") ++ own_flags f)

top_chosen : (two b : Bool) (w : Text) (ws : List Text) (f : Flags) → (b ≡ true → w ≡ codes "top")
    → cond b (contig_flags_of two true ws) (contig_flags_of two false (w ∷ ws)) ≡ some_flags f → tail (w ∷ ws) ≡ all_flags f
top_chosen two true w ws f p h =
    let l = contig_is two true ws f h in
    ap (λ v. 43 ∷ v ++ tail ws) (p refl) ∙ ap (λ v. codes "+top" ++ v) l.words ∙ ap (λ b. flag b (codes "+top") ++ (flag f.contig (codes "+contig") ++ own_flags f)) (sym l.first)
top_chosen two false w ws f p h =
    let l = contig_is two false (w ∷ ws) f h in
    l.words ∙ ap (λ b. flag b (codes "+top") ++ (flag f.contig (codes "+contig") ++ own_flags f)) (sym l.first)

-- flags are spelled as they were read
pub flags_are : (two : Bool) (ws : List Text) (f : Flags) → flags_of two ws ≡ some_flags f → tail ws ≡ all_flags f
flags_are two [] f h =
    let l = contig_is two false [] f h in
    l.words ∙ ap (λ b. flag b (codes "+top") ++ (flag f.contig (codes "+contig") ++ own_flags f)) (sym l.first)
flags_are two (w ∷ ws) f h = top_chosen two (bytes_eq w (codes "top")) w ws f (bytes_are w (codes "top")) h

-- ---- the base

abbrev word_of : Mem → ℕ → ℕ → Flags → Text
word_of mem first last f = (mem_word mem ++ reach_word first last) ++ all_flags f

-- a word that is a place
abbrev pub is : FlaggedPlace → PlaceWord
is f = place_word.Is f

regroup : (mem : Mem) (first last : ℕ) (f : Flags) (place : FlaggedPlace) → flagged mem first last f ≡ is place → flagged_word place ≡ word_of mem first last f
regroup mem first last f place h =
    let made : FlaggedPlace = record { place = record { mem = mem; first = first; last = last; topdown = f.topdown; contig = f.contig }; desired = f.desired; fallback = f.fallback } in
    let e : made ≡ place = cc in
    subst (λ (x : FlaggedPlace). flagged_word x ≡ word_of mem first last f) e
    (grind (arith, append_assoc))

-- what a choice answers
pub chosen : (b : Bool) (x : PlaceWord) (place : FlaggedPlace) → cond b x place_word.Malformed ≡ is place → (b ≡ true) × (x ≡ is place)
chosen true x place h = (refl, h)
chosen false x place h = absurd cc

-- and the other way round
pub unless : (b : Bool) (x : PlaceWord) (place : FlaggedPlace) → cond b place_word.Malformed x ≡ is place → x ≡ is place
unless true x place h = absurd cc
unless false x place h = h

is_written : (x y : ℕ) → ((eqb y 0 && not (eqb x 0)) || ltb x y) ≡ true → not (eqb x 0 && eqb y 0) ≡ true
is_written x y h = grind (arith, nat_tests, h)

at_text : (dx dy : Text) → codes "@" ++ dx ++ codes "-" ++ dy ≡ 64 ∷ dx ++ 45 ∷ dy
at_text dx dy = ap (λ t. t ++ dy) (append_assoc (codes "@") dx (codes "-")) ∙ ap (λ t. 64 ∷ t) (append_assoc dx (codes "-") dy)

ranged_is : (mem : Mem) (first last : Text) (a b : Option ℕ) (f : Flags) (place : FlaggedPlace) → number_in 0 16384 first ≡ a → number_in 0 16384 last ≡ b → ranged mem a b f ≡ is place
    → flagged_word place ≡ (mem_word mem ++ (64 ∷ first ++ 45 ∷ last)) ++ all_flags f
ranged_is mem first last (Some x) (Some y) f place p q h =
    let c = chosen ((eqb y 0 && not (eqb x 0)) || ltb x y) (flagged mem x y f) place h in
    let small : 16384 < 2 ^ 64 = omega arith in
    let dx = (number_takes 0 16384 first x small p).0 in
    let dy = (number_takes 0 16384 last y small q).0 in
    regroup mem x y f place c.1
    ∙ ap (λ b. (mem_word mem ++ flag b (codes "@" ++ decimal x ++ codes "-" ++ decimal y)) ++ all_flags f) (is_written x y c.0)
    ∙ ap (λ t. (mem_word mem ++ t) ++ all_flags f) (at_text (decimal x) (decimal y))
    ∙ ap (λ t. (mem_word mem ++ (64 ∷ t ++ 45 ∷ decimal y)) ++ all_flags f) (sym dx)
    ∙ ap (λ t. (mem_word mem ++ (64 ∷ first ++ 45 ∷ t)) ++ all_flags f) (sym dy)
ranged_is mem first last (Some x) None f place p q h = absurd cc
ranged_is mem first last None b f place p q h = absurd cc

reach_is : (mem : Mem) (parts : List Text) (f : Flags) (place : FlaggedPlace) → reach_place mem parts f ≡ is place
    → flagged_word place ≡ (mem_word mem ++ 64 ∷ join_with_byte 45 parts) ++ all_flags f
reach_is mem [] f place h = absurd cc
reach_is mem (first ∷ []) f place h = absurd cc
reach_is mem (first ∷ last ∷ []) f place h =
    ranged_is mem first last (number_in 0 16384 first) (number_in 0 16384 last) f place refl refl (unless (is_system mem || (eqb (length first) 0) || (eqb (length last) 0)) _ place h)
reach_is mem (first ∷ last ∷ x ∷ xs) f place h = absurd cc

based_is : (two : Bool) (m : Text) (words flags : List Text) (mo : Option Mem) (fo : Option Flags) (place : FlaggedPlace) → mem_of m ≡ mo → flags_of two flags ≡ fo → based_place mo (reach_of words) fo ≡ is place
    → flagged_word place ≡ join_with_byte 64 (m ∷ words) ++ tail flags
based_is two m [] flags (Some mem) (Some f) place p q h =
    let word : m ≡ mem_word mem = subst (IsMemOf m) p (mem_is m) in
    regroup mem 0 0 f place h ∙ ap (λ t. t ++ all_flags f) (append-nil (mem_word mem) ∙ sym word) ∙ ap (λ t. m ++ t) (sym (flags_are two flags f q))
based_is two m (r ∷ rs) flags (Some mem) (Some f) place p q h =
    let word : m ≡ mem_word mem = subst (IsMemOf m) p (mem_is m) in
    let reach = join_with_byte 64 (r ∷ rs) in
    reach_is mem (cut_at 45 reach) f place h ∙ ap (λ t. (mem_word mem ++ 64 ∷ t) ++ all_flags f) (joined 45 reach) ∙ ap (λ t. (t ++ 64 ∷ reach) ++ all_flags f) (sym word) ∙ ap (λ t. (m ++ 64 ∷ reach) ++ t) (sym (flags_are two flags f q))
based_is two m [] flags (Some mem) None place p q h = absurd cc
based_is two m (r ∷ rs) flags (Some mem) None place p q h = absurd cc
based_is two m words flags None fo place p q h = absurd cc

at_is : (two : Bool) (parts flags : List Text) (place : FlaggedPlace) → at_place parts (flags_of two flags) ≡ is place → flagged_word place ≡ join_with_byte 64 parts ++ tail flags
at_is two [] flags place h = absurd cc
at_is two (m ∷ words) flags place h = based_is two m words flags (mem_of m) (flags_of two flags) place refl refl h

plus_is : (two : Bool) (parts : List Text) (place : FlaggedPlace) → plus_place two parts ≡ is place → flagged_word place ≡ join_with_byte 43 parts
plus_is two [] place h = absurd cc
plus_is two (base ∷ flags) place h =
    at_is two (cut_at 64 base) flags place h ∙ ap (λ t. t ++ tail flags) (joined 64 base) ∙ sym (join_tail base flags)

-- a place that is read is spelled so
pub place_takes : (two : Bool) (w : Text) (place : FlaggedPlace) → place_word_of two w ≡ is place → flagged_word place ≡ w
place_takes two w place h = plus_is two (cut_at 43 w) place h ∙ joined 43 w
