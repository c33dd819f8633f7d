-- Entries come back from their words.
use Rattle.std.proofs.Common.{◌≡◌, ℕ, zero, suc, ◌<◌, true, false, cond, eqb, List, [], ◌∷◌, length, refl, ap, ◌∙◌, arith}
use Rattle.std.specs.Prelude.{not, decimal, codes}
use Rattle.std.specs.List.{list_all}
use Rattle.std.proofs.lemmas.Bool.Decides.{nat_tests}
use Rattle.std.proofs.lemmas.Fmt.{decimal_nonempty}
use Rattle.ttm_base.specs.declared.Mem.{Mem}
use Rattle.ttm_base.specs.declared.Mem.TheVariants.{System, Tt, Vram}
use Rattle.ttm_base.specs.declared.Actor.{Actor}
use Rattle.ttm_base.specs.declared.Actor.TheVariants as actor
use Rattle.ttm_base.specs.declared.Deny.{Deny}
use Rattle.ttm_base.specs.declared.Deny.TheVariants as deny
use Rattle.journal_model.specs.declared.entry.Why.{Why}
use Rattle.journal_model.specs.declared.entry.Why.TheVariants as why
use Rattle.journal_model.specs.declared.entry.Left.{Left}
use Rattle.journal_model.specs.declared.entry.Left.TheVariants as left
use Rattle.journal_model.specs.declared.entry.Shown.{Shown}
use Rattle.journal_model.specs.declared.entry.Shown.TheVariants as shown
use Rattle.journal_model.specs.scripts.Words.{Text, hex, mem_word, actor_word, spans_word}
use Rattle.journal_model.specs.reports.EntryText.{deny_word, left_word, piece_words, shown_words, why_word}
use Rattle.journal_model.specs.scripts.ScriptRules.{same_text}
use Rattle.journal_model.specs.scripts.Readable.{are_bytes, is_left, is_shown, is_some_actor, is_u64}
use Rattle.law_legal.proofs.law_report.Cuts.{both, joint}
use Rattle.law_legal.proofs.law_report.Numbers.{digits_of, is_digit, number_again, read_on}
use Rattle.law_legal.proofs.law_report.Items.{above, above_lower, hex_above, hex_again, number_above, un_hex}
use Rattle.law_legal.proofs.law_report.Listed.{fits, spans_above, spans_again, un_spans, widened}

-- a word by its place
abbrev pub word_at : List Text → ℕ → Text
word_at [] i = []
word_at (w ∷ ws) zero = w
word_at (w ∷ ws) (suc i) = word_at ws i

abbrev pub number_at : List Text → ℕ → ℕ
number_at ws i = read_on 0 (word_at ws i)

-- ---- small words

abbrev pub un_mem : Text → Mem
un_mem w = cond (same_text w (codes "sys")) System (cond (same_text w (codes "tt")) Tt Vram)

pub mem_again : (m : Mem) → un_mem (mem_word m) ≡ m
mem_again System = refl
mem_again Tt = refl
mem_again Vram = refl

pub mem_above : (m : Mem) → above 32 (mem_word m) ≡ true
mem_above System = refl
mem_above Tt = refl
mem_above Vram = refl

abbrev pub un_why : Text → Why
un_why w = cond (same_text w (codes "vram")) why.Vram (cond (same_text w (codes "tt")) why.Tt why.Swap)

pub why_again : (w : Why) → un_why (why_word w) ≡ w
why_again why.Vram = refl
why_again why.Tt = refl
why_again why.Swap = refl

pub why_above : (w : Why) → above 32 (why_word w) ≡ true
why_above why.Vram = refl
why_above why.Tt = refl
why_above why.Swap = refl

abbrev pub un_deny : Text → Deny
un_deny w = cond (same_text w (codes "NoBuffer")) deny.NoBuffer (cond (same_text w (codes "Exists")) deny.Exists (cond (same_text w (codes "Pinned")) deny.Pinned (cond (same_text w (codes "NotPinned")) deny.NotPinned (cond (same_text w (codes "PinMax")) deny.PinMax (cond (same_text w (codes "NoSpace")) deny.NoSpace (cond (same_text w (codes "NoPages")) deny.NoPages deny.NoSwap))))))

pub deny_again : (d : Deny) → un_deny (deny_word d) ≡ d
deny_again deny.NoBuffer = refl
deny_again deny.Exists = refl
deny_again deny.Pinned = refl
deny_again deny.NotPinned = refl
deny_again deny.PinMax = refl
deny_again deny.NoSpace = refl
deny_again deny.NoPages = refl
deny_again deny.NoSwap = refl

pub deny_above : (d : Deny) → above 32 (deny_word d) ≡ true
deny_above deny.NoBuffer = refl
deny_above deny.Exists = refl
deny_above deny.Pinned = refl
deny_above deny.NotPinned = refl
deny_above deny.PinMax = refl
deny_above deny.NoSpace = refl
deny_above deny.NoPages = refl
deny_above deny.NoSwap = refl

-- a number isn't a word of letters
letter_differs : (c d : ℕ) (w u : Text) → is_digit c ≡ true → not (is_digit d) ≡ true → same_text (c ∷ w) (d ∷ u) ≡ false
letter_differs c d w u h k = grind (arith, nat_tests)

digits_differ : (w : Text) (d : ℕ) (u : Text) → 0 < length w → list_all is_digit w ≡ true → not (is_digit d) ≡ true → same_text w (d ∷ u) ≡ false
digits_differ [] d u some h k = absurd (omega (arith, some))
digits_differ (c ∷ w) d u some h k = letter_differs c d w u (both (is_digit c) (list_all is_digit w) h).0 k

abbrev pub un_left : Text → Left
un_left w = cond (same_text w (codes "now")) left.Now (left.Ghost (read_on 0 w))

pub left_again : (l : Left) → is_left l ≡ true → un_left (left_word l) ≡ l
left_again left.Now h = refl
left_again (left.Ghost g) h =
    ap (λ b. cond b left.Now (left.Ghost (read_on 0 (decimal g)))) (digits_differ (decimal g) 110 (111 ∷ 119 ∷ []) (decimal_nonempty g (fits g h)) (digits_of g (fits g h)) refl)
    ∙ ap left.Ghost (number_again g (fits g h))

pub word_above : (n : ℕ) → is_u64 n ≡ true → above 32 (decimal n) ≡ true
word_above n h = above_lower 44 32 (decimal n) (omega arith) (number_above n h)

pub left_above : (l : Left) → is_left l ≡ true → above 32 (left_word l) ≡ true
left_above left.Now h = refl
left_above (left.Ghost g) h = word_above g h

pub hex_word : (bytes : List ℕ) → above 32 (hex bytes) ≡ true
hex_word bytes = above_lower 44 32 (hex bytes) (omega arith) (hex_above bytes)

abbrev pub un_shown : List Text → Shown
un_shown [] = shown.Plain
un_shown (v ∷ []) = shown.Plain
un_shown (v ∷ w ∷ []) = shown.Read (un_hex w)
un_shown (v ∷ w ∷ x ∷ ws) = shown.Find (un_mem w) (un_spans x)

pub shown_again : (r : Shown) → is_shown r ≡ true → un_shown (shown_words r) ≡ r
shown_again shown.Plain h = refl
shown_again (shown.Read bytes) h = ap shown.Read (hex_again bytes h)
shown_again (shown.Find mem spans) h = ap (λ m. shown.Find m (un_spans (spans_word spans))) (mem_again mem) ∙ ap (shown.Find mem) (spans_again spans h)

pub shown_above : (r : Shown) → is_shown r ≡ true → list_all (above 32) (shown_words r) ≡ true
shown_above shown.Plain h = refl
shown_above (shown.Read bytes) h = joint (above 32 (hex bytes)) true (hex_word bytes) refl
shown_above (shown.Find mem spans) h = joint (above 32 (mem_word mem)) (list_all (above 32) (spans_word spans ∷ [])) (mem_above mem) (joint (above 32 (spans_word spans)) true (spans_above spans h) refl)

abbrev pub un_piece : List Text → List ℕ
un_piece [] = []
un_piece (w ∷ ws) = un_hex w

pub piece_again : (bytes : List ℕ) → are_bytes bytes ≡ true → un_piece (piece_words bytes) ≡ bytes
piece_again [] h = refl
piece_again (b ∷ bytes) h = hex_again (b ∷ bytes) h

pub piece_above : (bytes : List ℕ) → list_all (above 32) (piece_words bytes) ≡ true
piece_above [] = refl
piece_above (b ∷ bytes) = joint (above 32 (hex (b ∷ bytes))) true (hex_word (b ∷ bytes)) refl

-- ---- who

abbrev pub un_actor : Text → Actor
un_actor [] = actor.Reaper
un_actor (c ∷ cs) = cond (eqb c 116) (actor.Thread (read_on 0 cs)) (cond (eqb c 101) (actor.Engine (read_on 0 cs)) actor.Reaper)

pub actor_again : (a : Actor) → is_some_actor a ≡ true → un_actor (actor_word a) ≡ a
actor_again (actor.Thread t) h = ap actor.Thread (number_again t (fits t (widened t h)))
actor_again (actor.Engine e) h = ap actor.Engine (number_again e (fits e (widened e h)))
actor_again actor.Reaper h = refl

pub actor_above : (a : Actor) → is_some_actor a ≡ true → above 32 (actor_word a) ≡ true
actor_above (actor.Thread t) h = word_above t (widened t h)
actor_above (actor.Engine e) h = word_above e (widened e h)
actor_above actor.Reaper h = refl
