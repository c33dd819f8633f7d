-- Words are spelled as they were read, and read as they are spelled.
use Rattle.std.proofs.Common.{◌≡◌, ℕ, zero, suc, ◌+◌, ◌<◌, Bool, true, false, cond, List, [], ◌∷◌, length, map, Option, Some, None, refl, sym, ap, subst, ◌∙◌, arith, bytes_eq}
use Rattle.std.specs.Prelude.{not, codes, option_map, slice_get, unwrap_or, nat_lt}
use Rattle.std.specs.List.{position_or_len}
use Rattle.std.proofs.lemmas.Slice.Eq.{bytes_eq-Decides}
use Rattle.std.proofs.lemmas.Bool.{ltb-true}
use Rattle.ttm_base.specs.declared.BufId.{BufId}
use Rattle.ttm_base.specs.declared.Mem.{Mem}
use Rattle.ttm_base.specs.declared.Mem.TheVariants.{System, Tt, Vram}
use Rattle.journal_model.specs.declared.script.Script.{Script}
use Rattle.journal_model.specs.declared.script.Decl.{Decl}
use Rattle.journal_model.specs.declared.line.Keyword.{Keyword}
use Rattle.journal_model.specs.declared.line.Keyword.TheVariants as key
use Rattle.journal_model.specs.declared.line.Verb.{Verb}
use Rattle.journal_model.specs.declared.line.Verb.TheVariants as verb
use Rattle.journal_model.specs.scripts.Words.{Text, mem_word, name_of}
use Rattle.journal_model.specs.rules.Commands.{undeclared}
use Rattle.journal_model.specs.scripts.Reading.{known, names_of, mem_of}
use Rattle.journal_model.specs.scripts.LineWords.{keyword_of, command_keyword_of, mapping_keyword_of, verb_of, or_other}
use Rattle.journal_model.specs.declared.line.Access.TheVariants as access
use Rattle.law_legal.proofs.law_items.ListFacts.{length_map}

-- equal texts are one
pub bytes_are : (a b : Text) → bytes_eq a b ≡ true → a ≡ b
bytes_are a b h = (bytes_eq-Decides a b).0 h

pick : {A : Type 0} (P : A → Type 0) (b : Bool) (x y : A) → (b ≡ true → P x) → P y → P (cond b x y)
pick P true x y h k = h refl
pick P false x y h k = k

-- ---- keywords

-- the word of a verb
abbrev pub verb_word : Verb → Text
verb_word verb.New = codes "new"
verb_word verb.Free = codes "free"
verb_word verb.Pin = codes "pin"
verb_word verb.Unpin = codes "unpin"
verb_word verb.Find = codes "find"
verb_word verb.SwapOut = codes "swapout"

-- the word of a keyword
abbrev pub IsWordOf : Text → Keyword → Type 0
IsWordOf w key.Ttm = w ≡ codes "ttm"
IsWordOf w key.Vram = w ≡ codes "vram"
IsWordOf w key.Tt = w ≡ codes "tt"
IsWordOf w key.Frames = w ≡ codes "frames"
IsWordOf w key.Swap = w ≡ codes "swap"
IsWordOf w key.Engines = w ≡ codes "engines"
IsWordOf w key.Buffer = w ≡ codes "buffer"
IsWordOf w key.Thread = w ≡ codes "thread"
IsWordOf w key.Schedule = w ≡ codes "schedule"
IsWordOf w key.End = w ≡ codes "end"
IsWordOf w (key.Plain v) = w ≡ verb_word v
IsWordOf w (key.Write access.Direct) = w ≡ codes "write"
IsWordOf w (key.Write access.Mapped) = w ≡ codes "poke"
IsWordOf w (key.Read access.Direct) = w ≡ codes "read"
IsWordOf w (key.Read access.Mapped) = w ≡ codes "peek"
IsWordOf w key.Move = w ≡ codes "move"
IsWordOf w key.Touch = w ≡ codes "touch"
IsWordOf w key.Submit = w ≡ codes "submit"
IsWordOf w key.Map = w ≡ codes "map"
IsWordOf w key.Unmap = w ≡ codes "unmap"
IsWordOf w key.Vmap = w ≡ codes "vmap"
IsWordOf w key.Vunmap = w ≡ codes "vunmap"
IsWordOf w key.Vsubmit = w ≡ codes "vsubmit"
IsWordOf w key.Other = Unit {0}

abbrev IsVerbOf : Text → Option Verb → Type 0
IsVerbOf w o = IsWordOf w (or_other o)

verb_is : (w : Text) → IsVerbOf w (verb_of w)
verb_is w =
    pick (IsVerbOf w) (bytes_eq w (codes "new")) (Some verb.New) _ (bytes_are w (codes "new"))
    (pick (IsVerbOf w) (bytes_eq w (codes "free")) (Some verb.Free) _ (bytes_are w (codes "free"))
    (pick (IsVerbOf w) (bytes_eq w (codes "pin")) (Some verb.Pin) _ (bytes_are w (codes "pin"))
    (pick (IsVerbOf w) (bytes_eq w (codes "unpin")) (Some verb.Unpin) _ (bytes_are w (codes "unpin"))
    (pick (IsVerbOf w) (bytes_eq w (codes "find")) (Some verb.Find) _ (bytes_are w (codes "find"))
    (pick (IsVerbOf w) (bytes_eq w (codes "swapout")) (Some verb.SwapOut) None (bytes_are w (codes "swapout")) tt)))))

mapping_keyword_is : (w : Text) → IsWordOf w (mapping_keyword_of w)
mapping_keyword_is w =
    pick (IsWordOf w) (bytes_eq w (codes "map")) key.Map _ (bytes_are w (codes "map"))
    (pick (IsWordOf w) (bytes_eq w (codes "unmap")) key.Unmap _ (bytes_are w (codes "unmap"))
    (pick (IsWordOf w) (bytes_eq w (codes "peek")) (key.Read access.Mapped) _ (bytes_are w (codes "peek"))
    (pick (IsWordOf w) (bytes_eq w (codes "poke")) (key.Write access.Mapped) _ (bytes_are w (codes "poke"))
    (pick (IsWordOf w) (bytes_eq w (codes "vmap")) key.Vmap _ (bytes_are w (codes "vmap"))
    (pick (IsWordOf w) (bytes_eq w (codes "vunmap")) key.Vunmap _ (bytes_are w (codes "vunmap"))
    (pick (IsWordOf w) (bytes_eq w (codes "vsubmit")) key.Vsubmit _ (bytes_are w (codes "vsubmit")) (verb_is w)))))))

command_keyword_is : (w : Text) → IsWordOf w (command_keyword_of w)
command_keyword_is w =
    pick (IsWordOf w) (bytes_eq w (codes "write")) (key.Write access.Direct) _ (bytes_are w (codes "write"))
    (pick (IsWordOf w) (bytes_eq w (codes "read")) (key.Read access.Direct) _ (bytes_are w (codes "read"))
    (pick (IsWordOf w) (bytes_eq w (codes "move")) key.Move _ (bytes_are w (codes "move"))
    (pick (IsWordOf w) (bytes_eq w (codes "touch")) key.Touch _ (bytes_are w (codes "touch"))
    (pick (IsWordOf w) (bytes_eq w (codes "submit")) key.Submit _ (bytes_are w (codes "submit")) (mapping_keyword_is w)))))

-- a keyword is spelled in one way
pub keyword_is : (w : Text) → IsWordOf w (keyword_of w)
keyword_is w =
    pick (IsWordOf w) (bytes_eq w (codes "ttm")) key.Ttm _ (bytes_are w (codes "ttm"))
    (pick (IsWordOf w) (bytes_eq w (codes "vram")) key.Vram _ (bytes_are w (codes "vram"))
    (pick (IsWordOf w) (bytes_eq w (codes "tt")) key.Tt _ (bytes_are w (codes "tt"))
    (pick (IsWordOf w) (bytes_eq w (codes "frames")) key.Frames _ (bytes_are w (codes "frames"))
    (pick (IsWordOf w) (bytes_eq w (codes "swap")) key.Swap _ (bytes_are w (codes "swap"))
    (pick (IsWordOf w) (bytes_eq w (codes "engines")) key.Engines _ (bytes_are w (codes "engines"))
    (pick (IsWordOf w) (bytes_eq w (codes "buffer")) key.Buffer _ (bytes_are w (codes "buffer"))
    (pick (IsWordOf w) (bytes_eq w (codes "thread")) key.Thread _ (bytes_are w (codes "thread"))
    (pick (IsWordOf w) (bytes_eq w (codes "schedule")) key.Schedule _ (bytes_are w (codes "schedule"))
    (pick (IsWordOf w) (bytes_eq w (codes "end")) key.End _ (bytes_are w (codes "end")) (command_keyword_is w))))))))))

-- ---- memory types

-- the word of a memory type
abbrev pub IsMemOf : Text → Option Mem → Type 0
IsMemOf w (Some mem) = w ≡ mem_word mem
IsMemOf w None = Unit {0}

-- a memory type is spelled as it was read
pub mem_is : (w : Text) → IsMemOf w (mem_of w)
mem_is w =
    pick (IsMemOf w) (bytes_eq w (codes "sys")) (Some System) _ (bytes_are w (codes "sys"))
    (pick (IsMemOf w) (bytes_eq w (codes "tt")) (Some Tt) _ (bytes_are w (codes "tt"))
    (pick (IsMemOf w) (bytes_eq w (codes "vram")) (Some Vram) None (bytes_are w (codes "vram")) tt))

-- a memory type is read
pub mem_again : (mem : Mem) → mem_of (mem_word mem) ≡ Some mem
mem_again System = refl
mem_again Tt = refl
mem_again Vram = refl

-- ---- names

at_first : {X : Type 0} (t : X → Bool) (x : X) (xs : List X) (b : Bool) → t x ≡ b
    → (position_or_len t xs < length xs → (y : X) × (slice_get xs (position_or_len t xs) ≡ Some y) × (t y ≡ true))
    → cond (not b) (1 + position_or_len t xs) 0 < suc (length xs)
    → (y : X) × (slice_get (x ∷ xs) (cond (not b) (1 + position_or_len t xs) 0) ≡ Some y) × (t y ≡ true)
at_first t x xs true e rest h = (x, refl, e)
at_first t x xs false e rest h =
    let r = rest (omega (arith, h)) in
    let next : 1 + position_or_len t xs ≡ suc (position_or_len t xs) = omega arith in
    (r.0, ap (slice_get (x ∷ xs)) next ∙ r.1, r.2)

-- the first that passes does
found_at : {X : Type 0} (t : X → Bool) (xs : List X) → position_or_len t xs < length xs → (x : X) × (slice_get xs (position_or_len t xs) ≡ Some x) × (t x ≡ true)
found_at t [] h = absurd (omega (arith, h))
found_at t (x ∷ xs) h = at_first t x xs (t x) refl (found_at t xs) h

named : (buffers : List Decl) (i : ℕ) (w : Text) → slice_get (map (λ d. d.name) buffers) i ≡ Some w → (unwrap_or (slice_get buffers i) undeclared).name ≡ w
named [] i w h = absurd cc
named (d ∷ ds) zero w h = cc
named (d ∷ ds) (suc i) w h = named ds i w h

some_at : (t : Bool) (n : ℕ) (b : BufId) (made : ℕ → BufId) → ((i : ℕ) → (made i).0 ≡ i) → option_map made (cond t (Some n) None) ≡ Some b → (t ≡ true) × (n ≡ b.0)
some_at true n b made same h = let e : made n ≡ b = cc in (refl, sym (same n) ∙ ap (λ (c : BufId). c.0) e)
some_at false n b made same h = absurd cc

-- a known name is the name of the buffer
pub known_is : (script : Script) (w : Text) (b : BufId) → known (names_of script.buffers) w ≡ Some b → (name_of script b ≡ w) × (b.0 < length script.buffers)
known_is script w b h =
    let names = names_of script.buffers in
    let n = position_or_len (bytes_eq w) names in
    let s = some_at (nat_lt n (length names)) n b (λ i. record { 0 = i }) (λ i. refl) h in
    let lt : n < length names = ltb-true n (length names) s.0 in
    let f = found_at (bytes_eq w) names lt in
    let name = named script.buffers n f.0 f.1 in
    let here : (unwrap_or (slice_get script.buffers b.0) undeclared).name ≡ f.0 = subst (λ k. (unwrap_or (slice_get script.buffers k) undeclared).name ≡ f.0) s.1 name in
    (here ∙ sym (bytes_are w f.0 f.2), omega (arith, lt, s.1, length_map (λ (d : Decl). d.name) script.buffers))

-- a verb is read
pub keyword_again : (v : Verb) → keyword_of (verb_word v) ≡ key.Plain v
keyword_again verb.New = refl
keyword_again verb.Free = refl
keyword_again verb.Pin = refl
keyword_again verb.Unpin = refl
keyword_again verb.Find = refl
keyword_again verb.SwapOut = refl
