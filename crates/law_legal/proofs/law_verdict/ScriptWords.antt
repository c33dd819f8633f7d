-- The words of a script are of bytes above the space.
use Rattle.std.proofs.Common.{◌≡◌, ℕ, zero, suc, ◌/◌, ◌%◌, Bool, true, false, cond, List, [], ◌∷◌, ◌++◌, length, map, Option, Some, None, unwrap_or, refl, arith}
use Rattle.std.specs.Prelude.{◌&&◌, ◌==◌, not, codes, decimal, nat_le, nat_lt, slice_get, sum_by}
use Rattle.std.specs.Fmt.{digit_glyph, digits, digits_onto}
use Rattle.std.specs.List.{list_all}
use Rattle.std.specs.Char.{digit_char}
use Rattle.std.proofs.lemmas.Bool.Decides.{nat_tests}
use Rattle.ttm_base.specs.declared.Actor.{Actor}
use Rattle.ttm_base.specs.declared.Actor.TheVariants as actor
use Rattle.ttm_base.specs.declared.BufId.{BufId}
use Rattle.ttm_base.specs.declared.FlaggedPlace.{FlaggedPlace}
use Rattle.ttm_base.specs.declared.Op.{Op}
use Rattle.ttm_base.specs.declared.Op.TheVariants as op
use Rattle.ttm_base.specs.declared.Place.{Place}
use Rattle.ttm_base.specs.Placement.{first_places, forced_places}
use Rattle.journal_model.specs.declared.script.Script.{Script}
use Rattle.journal_model.specs.declared.script.Decl.{Decl}
use Rattle.journal_model.specs.declared.space.VOp.{VOp}
use Rattle.journal_model.specs.declared.space.VOp.TheVariants as vop
use Rattle.journal_model.specs.scripts.Words.{Text, actor_word, hex_byte, mem_word, name_of}
use Rattle.journal_model.specs.rules.Commands.{undeclared}
use Rattle.journal_model.specs.scripts.CommandRules.{command_len, is_between, is_command}
use Rattle.journal_model.specs.scripts.MarkRules.{have_marks}
use Rattle.journal_model.specs.scripts.ScriptRules.{has_distinct_names, has_sizes, is_decl, is_group, is_letter, is_letter_or_digit, is_name, is_place_list, is_script, is_turn_line}
use Rattle.journal_model.specs.scripts.Spelling.{flag, flagged_word, group_word, op_words, parted, place_word, placement_words, reach_word, vop_words, words_of_places}
use Rattle.law_legal.proofs.law_report.Cuts.{both, joint}
use Rattle.law_legal.proofs.law_report.Items.{above, above_append, weaker}
use Rattle.law_legal.proofs.law_report.SmallWords.{mem_above}

-- each word is
abbrev pub AreWords : List Text → Type 0
AreWords [] = Unit {0}
AreWords (w ∷ ws) = (above 32 w ≡ true) × AreWords ws

pub all_above : (ws : List Text) → AreWords ws → list_all (above 32) ws ≡ true
all_above [] h = refl
all_above (w ∷ ws) h = joint (above 32 w) (list_all (above 32) ws) h.0 (all_above ws h.1)

both_words : (vs ws : List Text) → AreWords vs → AreWords ws → AreWords (vs ++ ws)
both_words [] ws h k = k
both_words (v ∷ vs) ws h k = (h.0, both_words vs ws h.1 k)

pub mapped_words : {X : Type 0} (f : X → Text) (xs : List X) → ((x : X) → above 32 (f x) ≡ true) → AreWords (map f xs)
mapped_words f [] h = tt
mapped_words f (x ∷ xs) h = (h x, mapped_words f xs h)

joined_above : (ws : List Text) → AreWords ws → above 32 (words_of_places ws) ≡ true
joined_above [] h = refl
joined_above (w ∷ []) h = h.0
joined_above (w ∷ v ∷ ws) h = above_append 32 w (44 ∷ words_of_places (v ∷ ws)) h.0 (joined_above (v ∷ ws) h.1)

-- ---- numbers and bytes

glyph_above : (d : ℕ) → nat_lt 32 (digit_glyph false d) ≡ true
glyph_above d = grind (arith, nat_tests)

either_above : (b : Bool) (v w : Text) → above 32 v ≡ true → above 32 w ≡ true → above 32 (cond b v w) ≡ true
either_above true v w h k = h
either_above false v w h k = k

digits_above : (k n : ℕ) (behind : Text) → above 32 behind ≡ true → above 32 (digits_onto k 10 false n behind) ≡ true
digits_above zero n behind h = h
digits_above (suc k) n behind h =
    let more = digit_glyph false (n % 10) ∷ behind in
    let shown : above 32 more ≡ true = joint (nat_lt 32 (digit_glyph false (n % 10))) (above 32 behind) (glyph_above (n % 10)) h in
    either_above (n / 10 == 0) more (digits_onto k 10 false (n / 10) more) shown (digits_above k (n / 10) more shown)

-- however large it is
pub number_above : (n : ℕ) → above 32 (decimal n) ≡ true
unfolding digits
number_above n = digits_above 64 n [] refl

digit_above : (d : ℕ) → nat_lt 32 (digit_char d) ≡ true
digit_above d = grind (arith, nat_tests)

byte_above : (b : ℕ) → above 32 (hex_byte b) ≡ true
byte_above b =
    joint (nat_lt 32 (digit_char (b / 16))) (above 32 (digit_char (b % 16) ∷ [])) (digit_above (b / 16)) (joint (nat_lt 32 (digit_char (b % 16))) true (digit_above (b % 16)) refl)

pub actor_above : (who : Actor) → above 32 (actor_word who) ≡ true
actor_above (actor.Thread t) = joint true (above 32 (decimal t)) refl (number_above t)
actor_above (actor.Engine e) = joint true (above 32 (decimal e)) refl (number_above e)
actor_above actor.Reaper = refl

-- ---- names

letter_above : (b : ℕ) → is_letter b ≡ true → nat_lt 32 b ≡ true
letter_above b h = grind (arith, nat_tests)

name_byte_above : (b : ℕ) → is_letter_or_digit b ≡ true → nat_lt 32 b ≡ true
name_byte_above b h = grind (arith, nat_tests)

name_above : (w : Text) → is_name w ≡ true → above 32 w ≡ true
name_above [] h = absurd cc
name_above (c ∷ cs) h =
    let f = both (is_letter c) (list_all is_letter_or_digit cs) (both (is_letter c && list_all is_letter_or_digit cs) (nat_le (length cs) 7) h).0 in
    joint (nat_lt 32 c) (above 32 cs) (letter_above c f.0) (weaker is_letter_or_digit (nat_lt 32) cs name_byte_above f.1)

first_of : (a b c d e f : Bool) → (((((a && b) && c) && d) && e) && f) ≡ true → a ≡ true
first_of true b c d e f h = refl
first_of false b c d e f h = cc

pub decl_above : (version : ℕ) (d : Decl) → is_decl version d ≡ true → above 32 d.name ≡ true
decl_above version d h =
    name_above d.name
    (first_of (is_name d.name) (is_between 1 4096 d.pages) (nat_le d.prio 3) (is_group d.group) (is_between 1 4096 d.align) (is_place_list version d.placement.list) h)

-- also where there is no such buffer
found_above : (version : ℕ) (ds : List Decl) (i : ℕ) → list_all (is_decl version) ds ≡ true → above 32 (unwrap_or (slice_get ds i) undeclared).name ≡ true
found_above version [] i h = refl
found_above version (d ∷ ds) zero h = decl_above version d (both (is_decl version d) (list_all (is_decl version) ds) h).0
found_above version (d ∷ ds) (suc i) h = found_above version ds i (both (is_decl version d) (list_all (is_decl version) ds) h).1

fourth_of : (a b c d e f g h i j : Bool) → (((((((((a && b) && c) && d) && e) && f) && g) && h) && i) && j) ≡ true → d ≡ true
fourth_of a b c true e f g h i j all = refl
fourth_of false b c false e f g h i j all = cc
fourth_of true false c false e f g h i j all = cc
fourth_of true true false false e f g h i j all = cc
fourth_of true true true false e f g h i j all = cc

pub decls_of : (script : Script) → is_script script ≡ true → list_all (is_decl script.version) script.buffers ≡ true
decls_of script is =
    fourth_of (is_between 1 2 script.version) (has_sizes script) (nat_le (length script.buffers) 256) (list_all (is_decl script.version) script.buffers)
    (has_distinct_names script.buffers) (nat_le (length script.threads) 16) (list_all (list_all (is_command script)) script.threads)
    (nat_le (sum_by (sum_by command_len) script.threads) 67108864) (list_all (is_turn_line script) script.turns) (have_marks script) is

-- ---- places

flag_above : (b : Bool) (word : Text) → above 32 word ≡ true → above 32 (flag b word) ≡ true
flag_above b word h = either_above b word [] h refl

reach_above : (first last : ℕ) → above 32 (reach_word first last) ≡ true
reach_above first last =
    flag_above (not ((first == 0) && (last == 0))) (codes "@" ++ decimal first ++ codes "-" ++ decimal last)
    (above_append 32 (codes "@" ++ decimal first ++ codes "-") (decimal last)
    (above_append 32 (codes "@" ++ decimal first) (codes "-") (above_append 32 (codes "@") (decimal first) refl (number_above first)) refl) (number_above last))

place_above : (p : Place) → above 32 (place_word p) ≡ true
place_above p =
    let front = mem_word p.mem ++ reach_word p.first p.last in
    above_append 32 (front ++ flag p.topdown (codes "+top")) (flag p.contig (codes "+contig"))
    (above_append 32 front (flag p.topdown (codes "+top"))
    (above_append 32 (mem_word p.mem) (reach_word p.first p.last) (mem_above p.mem) (reach_above p.first p.last)) (flag_above p.topdown (codes "+top") refl))
    (flag_above p.contig (codes "+contig") refl)

flagged_above : (p : FlaggedPlace) → above 32 (flagged_word p) ≡ true
flagged_above p =
    above_append 32 (place_word p.place ++ flag p.desired (codes "+desired")) (flag p.fallback (codes "+fallback"))
    (above_append 32 (place_word p.place) (flag p.desired (codes "+desired")) (place_above p.place) (flag_above p.desired (codes "+desired") refl))
    (flag_above p.fallback (codes "+fallback") refl)

either_words : (b : Bool) (vs ws : List Text) → AreWords vs → AreWords ws → AreWords (cond b vs ws)
either_words true vs ws h k = h
either_words false vs ws h k = k

pub placement_above : (version : ℕ) (list : List FlaggedPlace) → AreWords (placement_words version list)
placement_above version list =
    let first = map place_word (first_places list) in
    let forced = map place_word (forced_places list) in
    either_words (version == 1) (codes "want" ∷ words_of_places first ∷ codes "busy" ∷ words_of_places forced ∷ []) (codes "place" ∷ words_of_places (map flagged_word list) ∷ [])
    (refl, (joined_above first (mapped_words place_word (first_places list) place_above), (refl, (joined_above forced (mapped_words place_word (forced_places list) place_above), tt))))
    (refl, (joined_above (map flagged_word list) (mapped_words flagged_word list flagged_above), tt))

pub group_above : (group : Option ℕ) → above 32 (group_word group) ≡ true
group_above None = refl
group_above (Some g) = number_above g

-- ---- operations

pub parted_above : {X : Type 0} (f : X → List Text) (xs : List X) → ((x : X) → AreWords (f x)) → AreWords (parted (map f xs))
parted_above f [] h = tt
parted_above f (x ∷ []) h = h x
parted_above f (x ∷ y ∷ xs) h = both_words (f x) (codes ";" ∷ parted (map f (y ∷ xs))) (h x) (refl, parted_above f (y ∷ xs) h)

pub vop_above : (v : VOp) → AreWords (vop_words v)
vop_above (vop.Fill addr len byte) = (refl, (number_above addr, (number_above len, (byte_above byte, tt))))
vop_above (vop.Copy addr from len) = (refl, (number_above addr, (number_above from, (number_above len, tt))))
vop_above (vop.Xor addr from len) = (refl, (number_above addr, (number_above from, (number_above len, tt))))
vop_above (vop.Probe addr len) = (refl, (number_above addr, (number_above len, tt)))

module _ (script : Script) (is : is_script script ≡ true) where
  pub named_above : (b : BufId) → above 32 (name_of script b) ≡ true
  named_above b = found_above script.version script.buffers b.0 (decls_of script is)

  pub op_above : (o : Op) → AreWords (op_words script o)
  op_above (op.Fill dst off len byte) = (refl, (named_above dst, (number_above off, (number_above len, (byte_above byte, tt)))))
  op_above (op.Copy dst doff src soff len) = (refl, (named_above dst, (number_above doff, (named_above src, (number_above soff, (number_above len, tt))))))
  op_above (op.Xor dst doff src soff len) = (refl, (named_above dst, (number_above doff, (named_above src, (number_above soff, (number_above len, tt))))))
  op_above (op.Probe src off len) = (refl, (named_above src, (number_above off, (number_above len, tt))))
