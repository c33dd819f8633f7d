-- Of two journals that a report is right to, the longer goes on as the shorter.
use Rattle.std.proofs.Common.{◌≡◌, ℕ, ◌+◌, ◌<◌, ◌≤◌, ◌^◌, true, List, [], ◌∷◌, ◌++◌, length, refl, ap, sym, subst, ◌∙◌, arith}
use Rattle.std.proofs.lemmas.List.{append-nil, length-append}
use Rattle.journal_model.specs.declared.script.Script.{Script}
use Rattle.journal_model.specs.declared.entry.Entry.{Entry}
use Rattle.journal_model.specs.scripts.Words.{Text}
use Rattle.journal_model.specs.rules.Legal.{World, first_world, world_after, world_along, world_of, IsLegal, IsLegalFrom, IsLegalNext}
use Rattle.journal_model.specs.scripts.Readable.{is_u64}
use Rattle.journal_model.specs.reports.Verdict.{AreEntryTexts, IsEntryText, IsRightTo, TellsNext}
use Rattle.law_legal.proofs.law_verdict.Heads.{fits, is_small, one_head}

-- a line is the text of one entry
abbrev pub OneEntry : Script → Type 0
OneEntry script = (n : ℕ) (t : Text) (e f : Entry) → is_u64 n ≡ true → IsEntryText script n t e → IsEntryText script n t f → e ≡ f

-- the entries of the longer journal after the shorter, with their lines
pub record Behind (script : Script) (n : ℕ) (front whole : List Entry) (texts others : List Text) : Type 0 where
  pub more : List Entry
  pub lines : List Text
  pub joined : whole ≡ front ++ more
  pub stand : texts ≡ lines ++ others
  pub said : AreEntryTexts script (n + length front) lines more

firsts : (t u : Text) (xs ys : List Text) → t ∷ xs ≡ u ∷ ys → (t ≡ u) × (xs ≡ ys)
firsts t u xs ys h = (cc, cc)

legal_part : (script : Script) (w : World) (front : List Entry) (e : Entry) (more : List Entry) → IsLegalFrom script w (front ++ e ∷ more) → IsLegalNext script (world_along script w front) e
legal_part script w [] e more h = h.0
legal_part script w (x ∷ front) e more h = legal_part script (world_after script w x) front e more h.1

none_said : (script : Script) (n : ℕ) (lines : List Text) (es : List Entry) → length es ≡ 0 → AreEntryTexts script n lines es → (lines ≡ []) × (es ≡ [])
none_said script n [] [] z h = (refl, refl)
none_said script n (t ∷ lines) [] z h = absurd h
none_said script n lines (e ∷ es) z h = absurd (omega (arith, z))

module _ (script : Script) (one_entry : OneEntry script) where
  behind : (n : ℕ) (right left : List Text) (front whole : List Entry) (texts others : List Text) → length front ≤ length whole → n + length whole ≤ 2 ^ 64
      → AreEntryTexts script n right front → AreEntryTexts script n left whole → right ++ texts ≡ left ++ others → Behind script n front whole texts others
  behind n [] left [] whole texts others le few h k same =
      let at : n ≡ n + 0 = omega arith in
      record { more = whole; lines = left; joined = refl; stand = same; said = subst (λ m. AreEntryTexts script m left whole) at k }
  behind n [] left (e ∷ front) whole texts others le few h k same = absurd h
  behind n (t ∷ right) left [] whole texts others le few h k same = absurd h
  behind n (t ∷ right) left (e ∷ front) [] texts others le few h k same = absurd (omega (arith, le))
  behind n (t ∷ right) [] (e ∷ front) (f ∷ whole) texts others le few h k same = absurd k
  behind n (t ∷ right) (u ∷ left) (e ∷ front) (f ∷ whole) texts others le few h k same =
      let parts = firsts t u (right ++ texts) (left ++ others) same in
      let is : e ≡ f = one_entry n u e f (is_small n (omega (arith, few))) (subst (λ (x : Text). IsEntryText script n x e) parts.0 h.0) k.0 in
      let rest = behind (n + 1) right left front whole texts others (omega (arith, le)) (omega (arith, few)) h.1 k.1 parts.1 in
      let at : (n + 1) + length front ≡ n + length (e ∷ front) = omega arith in
      record {
        more = rest.more;
        lines = rest.lines;
        joined = ap (λ x. x ∷ whole) (sym is) ∙ ap (λ xs. e ∷ xs) rest.joined;
        stand = rest.stand;
        said = subst (λ m. AreEntryTexts script m rest.lines rest.more) at rest.said;
      }

  module _ (text : Text) (count : ℕ) where
    -- the shorter first
    goes_on : (front whole : List Entry) (texts others : List Text) → IsRightTo script text count front texts → IsRightTo script text count whole others → length front ≤ length whole
        → Behind script 1 front whole texts others
    goes_on front whole texts others h k le =
        let lines = one_head script text count count (h.right ++ texts) (k.right ++ others) h.head k.head in
        let small = fits count k.head.fits in
        let within = k.within in
        behind 1 h.right k.right front whole texts others le (omega (arith, small, within)) h.entries k.entries lines.1

    -- after a journal the same stands
    same_texts : (journal : List Entry) (texts others : List Text) → IsRightTo script text count journal texts → IsRightTo script text count journal others → texts ≡ others
    same_texts journal texts others h k =
        let b = goes_on journal journal texts others h k (omega arith) in
        let len = ap length b.joined in
        let both = length-append journal b.more in
        let none : length b.more ≡ 0 = omega (arith, len, both) in
        b.stand ∙ ap (λ ls. ls ++ others) (none_said script (1 + length journal) b.lines b.more none b.said).0

    -- one entry is told next
    pub one_told : (journal : List Entry) (e f : Entry) → TellsNext script text count journal e → TellsNext script text count journal f → e ≡ f
    one_told journal e f t u =
        let same = same_texts journal (t.next_line ∷ t.behind) (u.next_line ∷ u.behind) t.right u.right in
        let line = (firsts t.next_line u.next_line t.behind u.behind same).0 in
        let small = fits count t.right.head.fits in
        let counted = t.counted in
        one_entry (length journal + 1) u.next_line e f (is_small (length journal + 1) (omega (arith, small, counted)))
        (subst (λ (x : Text). IsEntryText script (length journal + 1) x e) line t.entry) u.entry

    next_told : (front : List Entry) (e : Entry) (texts others : List Text) (t : Text) (lines : List Text) → IsRightTo script text count front texts → length front < count
        → texts ≡ t ∷ (lines ++ others) → IsEntryText script (1 + length front) t e → TellsNext script text count front e
    next_told front e texts others t lines h less stand said =
        let at : 1 + length front ≡ length front + 1 = omega arith in
        record {
          next_line = t;
          behind = lines ++ others;
          right = subst (λ (xs : List Text). IsRightTo script text count front xs) stand h;
          counted = less;
          entry = subst (λ m. IsEntryText script m t e) at said;
        }

    -- what is known of the entry after the shorter
    pub record Goes (front : List Entry) : Type 0 where
      pub entry : Entry
      pub tells : TellsNext script text count front entry
      pub legal : IsLegalNext script (world_of script front) entry

    goes_with : (front whole more : List Entry) (texts lines others : List Text) → IsRightTo script text count front texts → length front < count → length front < length whole → IsLegal script whole
        → whole ≡ front ++ more → texts ≡ lines ++ others → AreEntryTexts script (1 + length front) lines more → Goes front
    goes_with front whole [] texts lines others h less longer legal joined stand said =
        let len = ap length (joined ∙ append-nil front) in
        absurd (omega (arith, len, longer))
    goes_with front whole (e ∷ more) texts [] others h less longer legal joined stand said = absurd said
    goes_with front whole (e ∷ more) texts (t ∷ lines) others h less longer legal joined stand said =
        record {
          entry = e;
          tells = next_told front e texts others t lines h less stand said.0;
          legal = legal_part script (first_world script) front e more (subst (λ (es : List Entry). IsLegal script es) joined legal);
        }

    -- where one is longer than the other, an entry is told after the other that is legal next
    pub longer_goes : (front whole : List Entry) (texts others : List Text) → IsRightTo script text count front texts → IsRightTo script text count whole others → length front < length whole → Goes front
    longer_goes front whole texts others h k longer =
        let b = goes_on front whole texts others h k (omega (arith, longer)) in
        let within = k.within in
        goes_with front whole b.more texts b.lines others h (omega (arith, longer, within)) longer k.legal b.joined b.stand b.said

    -- two of one length are one
    pub as_long : (front whole : List Entry) (texts others : List Text) → IsRightTo script text count front texts → IsRightTo script text count whole others → length front ≡ length whole → front ≡ whole
    as_long front whole texts others h k same =
        let b = goes_on front whole texts others h k (omega (arith, same)) in
        let len = ap length b.joined in
        let both = length-append front b.more in
        let none : length b.more ≡ 0 = omega (arith, len, both, same) in
        sym (b.joined ∙ ap (λ es. front ++ es) (none_said script (1 + length front) b.lines b.more none b.said).1 ∙ append-nil front)
