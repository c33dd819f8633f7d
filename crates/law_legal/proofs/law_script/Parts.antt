-- A line that breaks no rule has all its parts.
use Rattle.std.proofs.Common.{◌≡◌, ℕ, Bool, true, false, cond, List, [], ◌∷◌, Option, Some, None, refl, sym, ap, ◌∙◌, length, map, bytes_eq}
use Rattle.std.specs.Prelude.{◌&&◌, ◌||◌, not, codes, is_none, is_some, option_map, ◌==◌}
use Rattle.std.specs.List.{list_any, list_all}
use Rattle.ttm_base.specs.declared.BufId.{BufId}
use Rattle.ttm_base.specs.declared.Mem.{Mem}
use Rattle.journal_model.specs.declared.script.Script.{Script}
use Rattle.journal_model.specs.declared.line.Progress.{Progress}
use Rattle.journal_model.specs.declared.line.Keyword.{Keyword}
use Rattle.journal_model.specs.declared.line.Keyword.TheVariants as key
use Rattle.journal_model.specs.declared.line.Line.{Line}
use Rattle.journal_model.specs.declared.line.Line.TheVariants as says
use Rattle.journal_model.specs.declared.line.Verb.{Verb}
use Rattle.journal_model.specs.declared.line.BufferHead.{BufferHead}
use Rattle.journal_model.specs.declared.line.PlaceWord.{PlaceWord}
use Rattle.journal_model.specs.declared.line.PlaceWord.TheVariants as place_word
use Rattle.journal_model.specs.declared.line.ActorWord.{ActorWord}
use Rattle.journal_model.specs.declared.line.ActorWord.TheVariants as actor_word
use Rattle.journal_model.specs.declared.line.EngineWord.{EngineWord}
use Rattle.journal_model.specs.declared.line.EngineWord.TheVariants as engine_word
use Rattle.journal_model.specs.declared.line.OpWord.{OpWord}
use Rattle.journal_model.specs.declared.line.OpWord.TheVariants as op_word
use Rattle.journal_model.specs.declared.line.VOpWord.{VOpWord}
use Rattle.journal_model.specs.declared.line.VOpWord.TheVariants as vop_word
use Rattle.journal_model.specs.declared.line.Access.{Access}
use Rattle.journal_model.specs.scripts.Words.{Text}
use Rattle.journal_model.specs.scripts.CommandRules.{is_between}
use Rattle.journal_model.specs.scripts.Reading.{known, mem_of, names_of, actor_of, engine_word_of}
use Rattle.journal_model.specs.scripts.LineWords.{keyword_of, version_line, vram_line, size_line, has_head_words, buffer_head_of, lists_line, buffer_line_of, alone, is_no_actor, turn_line_of, plain_line, write_line, read_line, move_line, touch_line, is_no_op, op_words_of, submit_line, named_line, vmap_line, vunmap_line, is_no_vop, vop_words_of, vsubmit_line, parts_of, is_empty, line_of}
use Rattle.journal_model.specs.scripts.LineRules.{is_broken_place, is_no_place, is_no_list, may_force, is_broken_actor, is_missing_actor, is_broken_engine, is_missing_engine, lacks_number_in_head, lacks_number_in_op, lacks_name_in_op, lacks_byte_in_op, lacks_number_in_vop, lacks_byte_in_vop, are_wrong_bytes}
use Rattle.journal_model.specs.scripts.FirstFault.{first_word}
use Rattle.law_legal.specs.law_script.LineParts.{says_place, says_actor, says_engine, has_head_parts, has_op_parts, has_vop_parts, has_all_parts, LinesHaveAllParts}
use Rattle.law_legal.proofs.law_script.LineLaws.{made, Breaks_none, breaks_none}
use Rattle.law_legal.proofs.law_script.SubmitLaws.{IsGood, AreGood, first_good, others_good}
use Rattle.law_legal.proofs.law_items.Tests.{not_true, either, joint}

-- ---- what words make a line: actor words in a schedule, operations in a job

-- no actor word and no operation of the line is malformed
abbrev is_formed : Line → Bool
is_formed (says.Turn actors) = not (list_any is_no_actor actors)
is_formed (says.Submit engine ops) = not (list_any is_no_op ops)
is_formed (says.Vsubmit engine ops) = not (list_any is_no_vop ops)
is_formed _ = true

-- where there is a line
abbrev makes_formed : Option Line → Bool
makes_formed (Some l) = is_formed l
makes_formed None = true

chosen : (b : Bool) (o q : Option Line) → makes_formed o ≡ true → makes_formed q ≡ true → makes_formed (cond b o q) ≡ true
chosen true o q h k = h
chosen false o q h k = k

version_formed : (ws : List Text) → makes_formed (version_line ws) ≡ true
version_formed (w ∷ version ∷ []) = chosen (bytes_eq version (codes "1")) (made (says.Version 1)) _ refl (chosen (bytes_eq version (codes "2")) (made (says.Version 2)) None refl refl)
version_formed _ = refl

vram_formed : (ws : List Text) → makes_formed (vram_line ws) ≡ true
vram_formed (w ∷ kind ∷ size ∷ []) = chosen (bytes_eq kind (codes "range")) _ _ refl (chosen (bytes_eq kind (codes "buddy")) _ None refl refl)
vram_formed _ = refl

size_formed : (sized : Option ℕ → Line) (high : ℕ) (ws : List Text) → ((n : Option ℕ) → is_formed (sized n) ≡ true) → makes_formed (size_line sized high ws) ≡ true
size_formed sized high (w ∷ size ∷ []) h = h _
size_formed sized high _ h = refl

lists_formed : (two fits : Bool) (head : BufferHead) (ws : List Text) → makes_formed (lists_line two fits head ws) ≡ true
lists_formed true fits head (d ∷ want ∷ e ∷ busy ∷ []) = refl
lists_formed false fits head (d ∷ want ∷ e ∷ busy ∷ []) = chosen (fits && bytes_eq d (codes "want") && bytes_eq e (codes "busy")) _ None refl refl
lists_formed true fits head (d ∷ list ∷ []) = chosen (fits && bytes_eq d (codes "place")) _ None refl refl
lists_formed false fits head (d ∷ list ∷ []) = refl
lists_formed two fits head _ = refl

buffer_formed : (two : Bool) (ws : List Text) → makes_formed (buffer_line_of two ws) ≡ true
buffer_formed two (w ∷ name ∷ pages ∷ a ∷ prio ∷ b ∷ group ∷ c ∷ align ∷ rest) = lists_formed two (has_head_words a b c) (buffer_head_of name pages prio group align) rest
buffer_formed two _ = refl

alone_formed : (l : Line) (ws : List Text) → is_formed l ≡ true → makes_formed (alone l ws) ≡ true
alone_formed l (w ∷ []) h = h
alone_formed l _ h = refl

actors_formed : (few bad : Bool) (actors : List ActorWord) → list_any is_no_actor actors ≡ bad → makes_formed (cond (few && not bad) (made (says.Turn actors)) None) ≡ true
actors_formed true false actors h = ap not h
actors_formed true true actors h = refl
actors_formed false bad actors h = refl

turn_formed : (threads engines : ℕ) (ws : List Text) → makes_formed (turn_line_of threads engines ws) ≡ true
turn_formed threads engines [] = refl
turn_formed threads engines (w ∷ ws) = let xs = map (actor_of threads engines) ws in actors_formed (is_between 1 64 (length xs)) (list_any is_no_actor xs) xs refl

plain_formed : (names : List Text) (v : Verb) (ws : List Text) → makes_formed (plain_line names v ws) ≡ true
plain_formed names v (w ∷ b ∷ []) = refl
plain_formed names v _ = refl

write_formed : (how : Access) (names ws : List Text) → makes_formed (write_line how names ws) ≡ true
write_formed how names (w ∷ b ∷ off ∷ bytes ∷ []) = refl
write_formed how names _ = refl

read_formed : (how : Access) (names ws : List Text) → makes_formed (read_line how names ws) ≡ true
read_formed how names (w ∷ b ∷ off ∷ len ∷ []) = refl
read_formed how names _ = refl

moved : (b : Option BufId) (mem : Option Mem) → makes_formed (option_map (λ m. says.Move b m) mem) ≡ true
moved b (Some mem) = refl
moved b None = refl

move_formed : (names ws : List Text) → makes_formed (move_line names ws) ≡ true
move_formed names (w ∷ b ∷ mem ∷ []) = moved (known names b) (mem_of mem)
move_formed names _ = refl

touch_formed : (ws : List Text) → makes_formed (touch_line ws) ≡ true
touch_formed (w ∷ group ∷ []) = refl
touch_formed _ = refl

ops_formed : (bad : Bool) (engine : EngineWord) (ops : List OpWord) → list_any is_no_op ops ≡ bad → makes_formed (cond bad None (made (says.Submit engine ops))) ≡ true
ops_formed true engine ops h = refl
ops_formed false engine ops h = ap not h

submit_formed : (names : List Text) (engines : ℕ) (ws : List Text) → makes_formed (submit_line names engines ws) ≡ true
submit_formed names engines (w ∷ engine ∷ ws) = let ops = op_words_of names ws in ops_formed (list_any is_no_op ops) (engine_word_of engines engine) ops refl
submit_formed names engines _ = refl

named_formed : (sized : Option BufId → Line) (names ws : List Text) → ((b : Option BufId) → is_formed (sized b) ≡ true) → makes_formed (named_line sized names ws) ≡ true
named_formed sized names (w ∷ b ∷ []) h = h _
named_formed sized names _ h = refl

vmap_formed : (names ws : List Text) → makes_formed (vmap_line names ws) ≡ true
vmap_formed names (w ∷ va ∷ n ∷ b ∷ off ∷ []) = refl
vmap_formed names _ = refl

vunmap_formed : (ws : List Text) → makes_formed (vunmap_line ws) ≡ true
vunmap_formed (w ∷ va ∷ n ∷ []) = refl
vunmap_formed _ = refl

vops_formed : (bad : Bool) (engine : EngineWord) (ops : List VOpWord) → list_any is_no_vop ops ≡ bad → makes_formed (cond bad None (made (says.Vsubmit engine ops))) ≡ true
vops_formed true engine ops h = refl
vops_formed false engine ops h = ap not h

vsubmit_formed : (engines : ℕ) (ws : List Text) → makes_formed (vsubmit_line engines ws) ≡ true
vsubmit_formed engines (w ∷ engine ∷ ws) = let ops = vop_words_of ws in vops_formed (list_any is_no_vop ops) (engine_word_of engines engine) ops refl
vsubmit_formed engines _ = refl

parts_formed : (s : Script) (k : Keyword) (ws : List Text) → makes_formed (parts_of s k ws) ≡ true
parts_formed s key.Ttm ws = version_formed ws
parts_formed s key.Vram ws = vram_formed ws
parts_formed s key.Tt ws = size_formed says.Tt 16384 ws (λ n. refl)
parts_formed s key.Frames ws = size_formed says.Frames 16384 ws (λ n. refl)
parts_formed s key.Swap ws = size_formed says.Swap 32768 ws (λ n. refl)
parts_formed s key.Engines ws = size_formed says.Engines 8 ws (λ n. refl)
parts_formed s key.Buffer ws = buffer_formed (s.version == 2) ws
parts_formed s key.Thread ws = alone_formed says.Thread ws refl
parts_formed s key.Schedule ws = turn_formed (length s.threads) s.sizes.engines ws
parts_formed s key.End ws = alone_formed says.End ws refl
parts_formed s (key.Plain v) ws = plain_formed (names_of s.buffers) v ws
parts_formed s (key.Write how) ws = write_formed how (names_of s.buffers) ws
parts_formed s (key.Read how) ws = read_formed how (names_of s.buffers) ws
parts_formed s key.Move ws = move_formed (names_of s.buffers) ws
parts_formed s key.Touch ws = touch_formed ws
parts_formed s key.Submit ws = submit_formed (names_of s.buffers) s.sizes.engines ws
parts_formed s key.Map ws = named_formed says.Map (names_of s.buffers) ws (λ b. refl)
parts_formed s key.Unmap ws = named_formed says.Unmap (names_of s.buffers) ws (λ b. refl)
parts_formed s key.Vmap ws = vmap_formed (names_of s.buffers) ws
parts_formed s key.Vunmap ws = vunmap_formed ws
parts_formed s key.Vsubmit ws = vsubmit_formed s.sizes.engines ws
parts_formed s key.Other ws = refl

line_formed : (s : Script) (k : Keyword) (ws : List Text) → makes_formed (line_of s k ws) ≡ true
line_formed s k ws = chosen (list_any is_empty ws) None (parts_of s k ws) refl (parts_formed s k ws)

-- ---- what rules 5 to 11 leave

there : {X : Type 0} (o : Option X) → is_none o ≡ false → is_some o ≡ true
there (Some x) h = refl
there None h = absurd cc

place_whole : (x : PlaceWord) → is_broken_place x ≡ false → is_no_place x ≡ false → says_place x ≡ true
place_whole (place_word.Is f) a b = refl
place_whole _ a b = absurd cc

places_whole : (xs : List PlaceWord) → list_any is_broken_place xs ≡ false → list_any is_no_place xs ≡ false → list_all says_place xs ≡ true
places_whole [] a b = refl
places_whole (x ∷ xs) a b =
    let e = either (is_broken_place x) (list_any is_broken_place xs) a in
    let f = either (is_no_place x) (list_any is_no_place xs) b in
    joint (says_place x) (list_all says_place xs) (place_whole x e.0 f.0) (places_whole xs e.1 f.1)

actor_whole : (x : ActorWord) → is_no_actor x ≡ false → is_broken_actor x ≡ false → is_missing_actor x ≡ false → says_actor x ≡ true
actor_whole (actor_word.Is who) a b c = refl
actor_whole _ a b c = absurd cc

actors_whole : (xs : List ActorWord) → list_any is_no_actor xs ≡ false → list_any is_broken_actor xs ≡ false → list_any is_missing_actor xs ≡ false → list_all says_actor xs ≡ true
actors_whole [] a b c = refl
actors_whole (x ∷ xs) a b c =
    let e = either (is_no_actor x) (list_any is_no_actor xs) a in
    let f = either (is_broken_actor x) (list_any is_broken_actor xs) b in
    let g = either (is_missing_actor x) (list_any is_missing_actor xs) c in
    joint (says_actor x) (list_all says_actor xs) (actor_whole x e.0 f.0 g.0) (actors_whole xs e.1 f.1 g.1)

engine_whole : (x : EngineWord) → is_broken_engine x ≡ false → is_missing_engine x ≡ false → says_engine x ≡ true
engine_whole (engine_word.Is engine) a b = refl
engine_whole _ a b = absurd cc

two_parts : {X Y : Type 0} (a : Option X) (b : Option Y) → is_none a ≡ false → is_none b ≡ false → (is_some a && is_some b) ≡ true
two_parts a b p q = joint (is_some a) (is_some b) (there a p) (there b q)

three_parts : {X Y Z : Type 0} (a : Option X) (b : Option Y) (c : Option Z) → is_none a ≡ false → is_none b ≡ false → is_none c ≡ false → (is_some a && is_some b && is_some c) ≡ true
three_parts a b c p q r = joint (is_some a && is_some b) (is_some c) (two_parts a b p q) (there c r)

four_parts : (a b : Option ℕ) (c : Option (Option ℕ)) (d : Option ℕ) → (is_none a || is_none b || is_none c || is_none d) ≡ false → (is_some a && is_some b && is_some c && is_some d) ≡ true
four_parts (Some a) (Some b) (Some c) (Some d) h = refl
four_parts _ _ _ _ h = absurd cc

head_whole : (h : BufferHead) → lacks_number_in_head h ≡ false → has_head_parts h ≡ true
head_whole h lacks = four_parts h.pages h.prio h.group h.align lacks

op_tested : (x : OpWord) → is_no_op x ≡ false → lacks_number_in_op x ≡ false → lacks_name_in_op x ≡ false → lacks_byte_in_op x ≡ false → has_op_parts x ≡ true
op_tested (op_word.Fill (Some dst) (Some off) (Some len) (Some byte)) a b c d = refl
op_tested (op_word.Copy (Some dst) (Some doff) (Some src) (Some soff) (Some len)) a b c d = refl
op_tested (op_word.Xor (Some dst) (Some doff) (Some src) (Some soff) (Some len)) a b c d = refl
op_tested (op_word.Probe (Some src) (Some off) (Some len)) a b c d = refl
op_tested _ a b c d = absurd cc

op_whole : (x : OpWord) → IsGood x → has_op_parts x ≡ true
op_whole x g = op_tested x g.shape g.numbers g.names g.bytes

ops_whole : (xs : List OpWord) → AreGood xs → list_all has_op_parts xs ≡ true
ops_whole [] g = refl
ops_whole (x ∷ xs) g = joint (has_op_parts x) (list_all has_op_parts xs) (op_whole x (first_good x xs g)) (ops_whole xs (others_good x xs g))

bytes_there : (bytes : Option (List ℕ)) → are_wrong_bytes bytes ≡ false → is_none bytes ≡ false
bytes_there (Some bytes) h = refl
bytes_there None h = absurd cc

list_whole : (most : ℕ) (xs : List PlaceWord) → list_any is_broken_place xs ≡ false → is_no_list most xs ≡ false → list_all says_place xs ≡ true
list_whole most xs a b = places_whole xs a (either (list_any is_no_place xs) (not (is_between 1 most (length xs))) b).0

vop_tested : (x : VOpWord) → is_no_vop x ≡ false → lacks_number_in_vop x ≡ false → lacks_byte_in_vop x ≡ false → has_vop_parts x ≡ true
vop_tested (vop_word.Fill (Some addr) (Some len) (Some byte)) a b d = refl
vop_tested (vop_word.Copy (Some addr) (Some from) (Some len)) a b d = refl
vop_tested (vop_word.Xor (Some addr) (Some from) (Some len)) a b d = refl
vop_tested (vop_word.Probe (Some addr) (Some len)) a b d = refl
vop_tested _ a b d = absurd cc

vops_whole : (xs : List VOpWord) → list_any is_no_vop xs ≡ false → list_any lacks_number_in_vop xs ≡ false → list_any lacks_byte_in_vop xs ≡ false → list_all has_vop_parts xs ≡ true
vops_whole [] a b d = refl
vops_whole (x ∷ xs) a b d =
    let e = either (is_no_vop x) (list_any is_no_vop xs) a in
    let f = either (lacks_number_in_vop x) (list_any lacks_number_in_vop xs) b in
    let g = either (lacks_byte_in_vop x) (list_any lacks_byte_in_vop xs) d in
    joint (has_vop_parts x) (list_all has_vop_parts xs) (vop_tested x e.0 f.0 g.0) (vops_whole xs e.1 f.1 g.1)

-- ---- a line

whole : (p : Progress) (l : Line) → is_formed l ≡ true → Breaks_none p l → has_all_parts l ≡ true
whole p (says.Version version) f b = refl
whole p (says.Vram buddy size) f b = there size b.numbers
whole p (says.Tt size) f b = there size b.numbers
whole p (says.Frames size) f b = there size b.numbers
whole p (says.Swap size) f b = there size b.numbers
whole p (says.Engines size) f b = there size b.numbers
whole p (says.Buffer head want busy) f b =
    let n = either (lacks_number_in_head head || list_any is_broken_place want) (list_any is_broken_place busy) b.numbers in
    let m = either (lacks_number_in_head head) (list_any is_broken_place want) n.0 in
    let k = either (is_no_list 4 want) (is_no_list 4 busy) b.places in
    joint (has_head_parts head && list_all says_place want) (list_all says_place busy)
    (joint (has_head_parts head) (list_all says_place want) (head_whole head m.0) (list_whole 4 want m.1 k.0)) (list_whole 4 busy n.1 k.1)
whole p (says.Placed head list) f b =
    let n = either (lacks_number_in_head head) (list_any is_broken_place list) b.numbers in
    let k = either (is_no_list 8 list) (not (list_any may_force list)) b.places in
    joint (has_head_parts head) (list_all says_place list) (head_whole head n.0) (list_whole 8 list n.1 k.0)
whole p says.Thread f b = refl
whole p (says.Turn actors) f b = actors_whole actors (not_true (list_any is_no_actor actors) f) b.numbers b.actors
whole p says.End f b = refl
whole p (says.Plain verb c) f b = there c b.names
whole p (says.Write how c off bytes) f b = three_parts c off bytes b.names b.numbers (bytes_there bytes b.bytes)
whole p (says.Read how c off len) f b = let n = either (is_none off) (is_none len) b.numbers in three_parts c off len b.names n.0 n.1
whole p (says.Move c mem) f b = there c b.names
whole p (says.Touch group) f b = there group b.numbers
whole p (says.Submit engine ops) f b =
    let n = either (is_broken_engine engine) (list_any lacks_number_in_op ops) b.numbers in
    let good : AreGood ops = record { shape = not_true (list_any is_no_op ops) f; numbers = n.1; names = b.names; bytes = b.bytes } in
    joint (says_engine engine) (list_all has_op_parts ops) (engine_whole engine n.0 b.actors) (ops_whole ops good)
whole p (says.Map c) f b = there c b.names
whole p (says.Unmap c) f b = there c b.names
whole p (says.Vmap va n c off) f b =
    let k = either (is_none va || is_none n) (is_none off) b.numbers in
    let m = either (is_none va) (is_none n) k.0 in
    joint (is_some va && is_some n && is_some c) (is_some off) (three_parts va n c m.0 m.1 b.names) (there off k.1)
whole p (says.Vunmap va n) f b = let m = either (is_none va) (is_none n) b.numbers in two_parts va n m.0 m.1
whole p (says.Vsubmit engine ops) f b =
    let n = either (is_broken_engine engine) (list_any lacks_number_in_vop ops) b.numbers in
    joint (says_engine engine) (list_all has_vop_parts ops) (engine_whole engine n.0 b.actors) (vops_whole ops (not_true (list_any is_no_vop ops) f) n.1 b.bytes)

-- a line that breaks no rule has all its parts
pub lines_have_all_parts : LinesHaveAllParts
lines_have_all_parts p ws l e h = whole p l (sym (ap makes_formed e) ∙ line_formed p.script (keyword_of (first_word ws)) ws) (breaks_none p l h)
