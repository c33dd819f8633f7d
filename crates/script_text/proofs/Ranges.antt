-- The numbers of a line are in the ranges of its words.
use Rattle.std.proofs.Common.{◌≡◌, ℕ, ◌≤◌, Bool, true, false, cond, List, [], ◌∷◌, length, map, Option, Some, None, refl, sym, subst, arith}
use Rattle.std.specs.Prelude.{◌&&◌, ◌==◌, not, codes, bytes_eq, is_none, option_map, nat_le}
use Rattle.std.specs.List.{list_any}
use Rattle.std.proofs.lemmas.Bool.{and_parts, leb-true}
use Rattle.ttm_base.specs.declared.Mem.{Mem}
use Rattle.journal_model.specs.declared.script.Script.{Script}
use Rattle.journal_model.specs.declared.line.Access.{Access}
use Rattle.journal_model.specs.declared.line.ActorWord.{ActorWord}
use Rattle.journal_model.specs.declared.line.BufferHead.{BufferHead}
use Rattle.journal_model.specs.declared.line.Keyword.{Keyword}
use Rattle.journal_model.specs.declared.line.Keyword.TheVariants as key
use Rattle.journal_model.specs.declared.line.Line.{Line}
use Rattle.journal_model.specs.declared.line.Line.TheVariants as line
use Rattle.journal_model.specs.scripts.Words.{Text}
use Rattle.journal_model.specs.scripts.CommandRules.{is_between}
use Rattle.journal_model.specs.scripts.Reading.{number_in, is_plain, read_on, names_of, mem_of, known, actor_of}
use Rattle.journal_model.specs.scripts.LineWords.{is_empty, is_no_actor, is_no_op, is_no_vop, version_line, vram_line, size_line, has_head_words, buffer_head_of, two_lists, list_of_version_two, lists_line, buffer_line_of, alone, turn_of_actors, turn_line_of, plain_line, write_line, read_line, move_line, touch_line, op_words_of, submit_line, named_line, vmap_line, vunmap_line, vop_words_of, vsubmit_line, parts_of, line_of}
use Rattle.journal_model.specs.scripts.FirstFault.{or_zero}
use Rattle.script_text.specs.Steps.{HasRanges}

-- ---- numbers

number_choice : (b : Bool) (n low high : ℕ) → (b ≡ true → (low ≤ n) × (n ≤ high)) → (is_none (cond b (Some n) None) ≡ false → low ≤ or_zero (cond b (Some n) None)) × (or_zero (cond b (Some n) None) ≤ high)
number_choice true n low high h = let f = h refl in (λ e. f.0, f.1)
number_choice false n low high h = (λ e. absurd cc, let z : 0 ≤ high = omega arith in z)

number_range : (low high : ℕ) (w : Text) → (is_none (number_in low high w) ≡ false → low ≤ or_zero (number_in low high w)) × (or_zero (number_in low high w) ≤ high)
number_range low high w =
    number_choice (is_plain w && is_between low high (read_on 0 w)) (read_on 0 w) low high (λ e.
    let f = and_parts (is_plain w) (is_between low high (read_on 0 w)) e in
    let g = and_parts (nat_le low (read_on 0 w)) (nat_le (read_on 0 w) high) f.1 in
    (leb-true low (read_on 0 w) g.0, leb-true (read_on 0 w) high g.1))

-- ---- lines

-- the line, if there is one
abbrev Ranged : Option Line → Type 0
Ranged None = Unit {0}
Ranged (Some l) = HasRanges l

pick : (b : Bool) (x y : Option Line) → Ranged x → Ranged y → Ranged (cond b x y)
pick true x y p q = p
pick false x y p q = q

version_ranged : (ws : List Text) → Ranged (version_line ws)
version_ranged [] = tt
version_ranged (w ∷ []) = tt
version_ranged (w ∷ v ∷ []) = pick (bytes_eq v (codes "1")) _ _ tt (pick (bytes_eq v (codes "2")) _ None tt tt)
version_ranged (w ∷ v ∷ x ∷ xs) = tt

vram_ranged : (ws : List Text) → Ranged (vram_line ws)
vram_ranged [] = tt
vram_ranged (w ∷ []) = tt
vram_ranged (w ∷ k ∷ []) = tt
vram_ranged (w ∷ k ∷ n ∷ []) = pick (bytes_eq k (codes "range")) _ _ tt (pick (bytes_eq k (codes "buddy")) _ None tt tt)
vram_ranged (w ∷ k ∷ n ∷ x ∷ xs) = tt

size_ranged : (made : Option ℕ → Line) (high : ℕ) → ((n : Option ℕ) → HasRanges (made n)) → (ws : List Text) → Ranged (size_line made high ws)
size_ranged made high h [] = tt
size_ranged made high h (w ∷ []) = tt
size_ranged made high h (w ∷ n ∷ []) = h (number_in 0 high n)
size_ranged made high h (w ∷ n ∷ x ∷ xs) = tt

lists_ranged : (two fits : Bool) (head : BufferHead) → or_zero head.pages ≤ 4096 → (ws : List Text) → Ranged (lists_line two fits head ws)
lists_ranged two fits head h [] = tt
lists_ranged two fits head h (a ∷ []) = tt
lists_ranged two fits head h (a ∷ b ∷ []) = pick two (list_of_version_two fits head a b) None (pick (fits && bytes_eq a (codes "place")) _ None h tt) tt
lists_ranged two fits head h (a ∷ b ∷ c ∷ []) = tt
lists_ranged two fits head h (a ∷ b ∷ c ∷ d ∷ []) = pick two None (two_lists fits head a b c d) tt (pick (fits && bytes_eq a (codes "want") && bytes_eq c (codes "busy")) _ None h tt)
lists_ranged two fits head h (a ∷ b ∷ c ∷ d ∷ e ∷ es) = tt

buffer_ranged : (two : Bool) (ws : List Text) → Ranged (buffer_line_of two ws)
buffer_ranged two [] = tt
buffer_ranged two (a ∷ []) = tt
buffer_ranged two (a ∷ b ∷ []) = tt
buffer_ranged two (a ∷ b ∷ c ∷ []) = tt
buffer_ranged two (a ∷ b ∷ c ∷ d ∷ []) = tt
buffer_ranged two (a ∷ b ∷ c ∷ d ∷ e ∷ []) = tt
buffer_ranged two (a ∷ b ∷ c ∷ d ∷ e ∷ f ∷ []) = tt
buffer_ranged two (a ∷ b ∷ c ∷ d ∷ e ∷ f ∷ g ∷ []) = tt
buffer_ranged two (a ∷ b ∷ c ∷ d ∷ e ∷ f ∷ g ∷ h ∷ []) = tt
buffer_ranged two (a ∷ b ∷ c ∷ d ∷ e ∷ f ∷ g ∷ h ∷ i ∷ rest) = lists_ranged two (has_head_words d f h) (buffer_head_of b c e g i) (number_range 1 4096 c).1 rest

alone_ranged : (l : Line) → HasRanges l → (ws : List Text) → Ranged (alone l ws)
alone_ranged l h [] = tt
alone_ranged l h (w ∷ []) = h
alone_ranged l h (w ∷ x ∷ xs) = tt

actors_ranged : (actors : List ActorWord) → Ranged (turn_of_actors actors)
actors_ranged actors = pick (is_between 1 64 (length actors) && not (list_any is_no_actor actors)) _ None tt tt

turn_ranged : (threads engines : ℕ) (ws : List Text) → Ranged (turn_line_of threads engines ws)
turn_ranged threads engines [] = tt
turn_ranged threads engines (w ∷ ws) = actors_ranged (map (actor_of threads engines) ws)

write_ranged : (how : Access) (names ws : List Text) → Ranged (write_line how names ws)
write_ranged how names [] = tt
write_ranged how names (a ∷ []) = tt
write_ranged how names (a ∷ b ∷ []) = tt
write_ranged how names (a ∷ b ∷ c ∷ []) = tt
write_ranged how names (a ∷ b ∷ c ∷ d ∷ []) = tt
write_ranged how names (a ∷ b ∷ c ∷ d ∷ e ∷ es) = tt

read_ranged : (how : Access) (names ws : List Text) → Ranged (read_line how names ws)
read_ranged how names [] = tt
read_ranged how names (a ∷ []) = tt
read_ranged how names (a ∷ b ∷ []) = tt
read_ranged how names (a ∷ b ∷ c ∷ []) = tt
read_ranged how names (a ∷ b ∷ c ∷ d ∷ []) = tt
read_ranged how names (a ∷ b ∷ c ∷ d ∷ e ∷ es) = tt

mem_ranged : (names : List Text) (b : Text) (o : Option Mem) → Ranged (option_map (λ m. line.Move (known names b) m) o)
mem_ranged names b None = tt
mem_ranged names b (Some m) = tt

move_ranged : (names ws : List Text) → Ranged (move_line names ws)
move_ranged names [] = tt
move_ranged names (a ∷ []) = tt
move_ranged names (a ∷ b ∷ []) = tt
move_ranged names (a ∷ b ∷ c ∷ []) = mem_ranged names b (mem_of c)
move_ranged names (a ∷ b ∷ c ∷ d ∷ ds) = tt

touch_ranged : (ws : List Text) → Ranged (touch_line ws)
touch_ranged [] = tt
touch_ranged (a ∷ []) = tt
touch_ranged (a ∷ b ∷ []) = tt
touch_ranged (a ∷ b ∷ c ∷ cs) = tt

submit_ranged : (names : List Text) (engines : ℕ) (ws : List Text) → Ranged (submit_line names engines ws)
submit_ranged names engines [] = tt
submit_ranged names engines (a ∷ []) = tt
submit_ranged names engines (a ∷ b ∷ ws) = pick (list_any is_no_op (op_words_of names ws)) None _ tt tt

named_ranged : (made : Option Rattle.ttm_base.specs.declared.BufId.BufId → Line) → ((b : Option Rattle.ttm_base.specs.declared.BufId.BufId) → HasRanges (made b)) → (names ws : List Text) → Ranged (named_line made names ws)
named_ranged made h names [] = tt
named_ranged made h names (a ∷ []) = tt
named_ranged made h names (a ∷ b ∷ []) = h (known names b)
named_ranged made h names (a ∷ b ∷ c ∷ cs) = tt

plain_ranged : (s : Script) (v : Rattle.journal_model.specs.declared.line.Verb.Verb) (ws : List Text) → Ranged (plain_line (names_of s.buffers) v ws)
plain_ranged s v [] = tt
plain_ranged s v (a ∷ []) = tt
plain_ranged s v (a ∷ b ∷ []) = tt
plain_ranged s v (a ∷ b ∷ c ∷ cs) = tt

vmap_ranged : (names ws : List Text) → Ranged (vmap_line names ws)
vmap_ranged names [] = tt
vmap_ranged names (a ∷ []) = tt
vmap_ranged names (a ∷ b ∷ []) = tt
vmap_ranged names (a ∷ b ∷ c ∷ []) = tt
vmap_ranged names (a ∷ b ∷ c ∷ d ∷ []) = tt
vmap_ranged names (a ∷ b ∷ c ∷ d ∷ e ∷ []) = (number_range 1 4096 c).0
vmap_ranged names (a ∷ b ∷ c ∷ d ∷ e ∷ f ∷ fs) = tt

vunmap_ranged : (ws : List Text) → Ranged (vunmap_line ws)
vunmap_ranged [] = tt
vunmap_ranged (a ∷ []) = tt
vunmap_ranged (a ∷ b ∷ []) = tt
vunmap_ranged (a ∷ b ∷ c ∷ []) = (number_range 1 4096 c).0
vunmap_ranged (a ∷ b ∷ c ∷ d ∷ ds) = tt

vsubmit_ranged : (engines : ℕ) (ws : List Text) → Ranged (vsubmit_line engines ws)
vsubmit_ranged engines [] = tt
vsubmit_ranged engines (a ∷ []) = tt
vsubmit_ranged engines (a ∷ b ∷ ws) = pick (list_any is_no_vop (vop_words_of ws)) None _ tt tt

parts_ranged : (s : Script) (k : Keyword) (ws : List Text) → Ranged (parts_of s k ws)
parts_ranged s key.Ttm ws = version_ranged ws
parts_ranged s key.Vram ws = vram_ranged ws
parts_ranged s key.Tt ws = size_ranged (λ n. line.Tt n) 16384 (λ n. tt) ws
parts_ranged s key.Frames ws = size_ranged (λ n. line.Frames n) 16384 (λ n. tt) ws
parts_ranged s key.Swap ws = size_ranged (λ n. line.Swap n) 32768 (λ n. tt) ws
parts_ranged s key.Engines ws = size_ranged (λ n. line.Engines n) 8 (λ n. tt) ws
parts_ranged s key.Buffer ws = buffer_ranged (s.version == 2) ws
parts_ranged s key.Thread ws = alone_ranged line.Thread tt ws
parts_ranged s key.Schedule ws = turn_ranged (length s.threads) s.sizes.engines ws
parts_ranged s key.End ws = alone_ranged line.End tt ws
parts_ranged s (key.Plain v) ws = plain_ranged s v ws
parts_ranged s (key.Write how) ws = write_ranged how (names_of s.buffers) ws
parts_ranged s (key.Read how) ws = read_ranged how (names_of s.buffers) ws
parts_ranged s key.Move ws = move_ranged (names_of s.buffers) ws
parts_ranged s key.Touch ws = touch_ranged ws
parts_ranged s key.Submit ws = submit_ranged (names_of s.buffers) s.sizes.engines ws
parts_ranged s key.Map ws = named_ranged (λ b. line.Map b) (λ b. tt) (names_of s.buffers) ws
parts_ranged s key.Unmap ws = named_ranged (λ b. line.Unmap b) (λ b. tt) (names_of s.buffers) ws
parts_ranged s key.Vmap ws = vmap_ranged (names_of s.buffers) ws
parts_ranged s key.Vunmap ws = vunmap_ranged ws
parts_ranged s key.Vsubmit ws = vsubmit_ranged s.sizes.engines ws
parts_ranged s key.Other ws = tt

-- what the words of a line say has numbers in their ranges
pub said : (s : Script) (k : Keyword) (ws : List Text) (l : Line) → Some l ≡ line_of s k ws → HasRanges l
said s k ws l e = subst Ranged (sym e) (pick (list_any is_empty ws) None (parts_of s k ws) tt (parts_ranged s k ws))
