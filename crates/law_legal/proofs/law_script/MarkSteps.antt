-- The lines of threads that are marks, and the jobs with addresses.
use Rattle.std.proofs.Common.{◌≡◌, ℕ, ◌+◌, ◌<◌, ◌≤◌, ◌^◌, true, false, eqb, List, [], ◌∷◌, length, map, Option, Some, None, refl, sym, ap, subst, ◌∙◌, arith}
use Rattle.std.specs.Prelude.{◌||◌, not, codes, decimal, is_none, unwrap_or, flat_map, sum_by, nat_le, nat_lt}
use Rattle.std.specs.List.{list_any, list_all}
use Rattle.std.proofs.lemmas.Bool.Decides.{nat_tests}
use Rattle.ttm_base.specs.declared.BufId.{BufId}
use Rattle.ttm_base.specs.declared.Op.{Op}
use Rattle.ttm_base.specs.Cutting.{op_len}
use Rattle.journal_model.specs.declared.script.Script.{Script}
use Rattle.journal_model.specs.declared.script.Command.TheVariants as command
use Rattle.journal_model.specs.declared.script.MarkKind.TheVariants as mark
use Rattle.journal_model.specs.declared.line.Phase.TheVariants as phase
use Rattle.journal_model.specs.declared.line.Line.{Line}
use Rattle.journal_model.specs.declared.line.Line.TheVariants as says
use Rattle.journal_model.specs.scripts.Words.{Text, line, name_of}
use Rattle.journal_model.specs.scripts.Cut.{cut_by, is_semicolon}
use Rattle.journal_model.specs.rules.State.{has_buffer}
use Rattle.journal_model.specs.rules.Commands.{decl, first_mentions, buffers_of_op}
use Rattle.journal_model.specs.scripts.CommandRules.{is_between, is_declared, is_command}
use Rattle.journal_model.specs.marks.ByName.{job_by_name}
use Rattle.journal_model.specs.scripts.MarkRules.{ThreadMappings, thread_mappings_at_end, is_vop, has_apart_ranges, is_job_of, is_page_range, is_vsubmit}
use Rattle.journal_model.specs.scripts.ScriptRules.{is_decl}
use Rattle.journal_model.specs.scripts.Reading.{known, names_of, number_in, engine_word_of}
use Rattle.journal_model.specs.scripts.LineWords.{named_line, vmap_line, vunmap_line, is_no_vop, vop_of, vop_words_of, vsubmit_line}
use Rattle.journal_model.specs.scripts.LineRules.{is_broken_engine, is_missing_engine, lacks_number_in_vop, passes_end, passes_pages, passes_in_vop, has_buffer_twice, has_mapped, vop_in, named_job, is_big_named_job, len_of_vop_word}
use Rattle.journal_model.specs.scripts.FirstFault.{or_zero, or_first, first_word, with_mark, with_submit, engine_in, named_ops}
use Rattle.law_legal.specs.law_items.Items.{Alone, Asks}
use Rattle.law_legal.proofs.law_items.ListFacts.{length_map}
use Rattle.law_legal.proofs.law_script.NumberLaws.{is_in}
use Rattle.law_legal.proofs.law_script.CutLaws.{cut_some}
use Rattle.law_legal.proofs.law_script.LineLaws.{made, name_word, Breaks_none}
use Rattle.law_legal.proofs.law_script.KindLaws.{engine_takes}
use Rattle.law_legal.proofs.law_script.CommandFits.{known_there}
use Rattle.law_legal.proofs.law_script.VopLaws.{AreGoodVops, vops_take, vops_fit, vops_apart, vlens_are}
use Rattle.law_legal.proofs.law_script.NamedJobs.{is_region, job_fits, job_len, job_count, same_self}
use Rattle.law_legal.proofs.law_script.CommandSteps.{Tells, less, fits_in, still_short, mapped_there, not_false, engine_there, submit_chosen}
use Rattle.law_legal.proofs.law_script.HeadSteps.{at, number_there}
use Rattle.law_legal.proofs.law_items.Tests.{either, joint, three, four, is_le, not_less}

-- ---- what the thread has mapped

not_mapped : (d : ThreadMappings) (b : Option BufId) → is_none b ≡ false → has_mapped d b ≡ false → not (has_buffer d.mapped (or_first b)) ≡ true
not_mapped d (Some b) h k = ap not k
not_mapped d None h k = absurd cc

-- a map
pub map_tells : (s : Script) (n m : ℕ) (ws : List Text) (l : Line) → eqb s.version 2 ≡ true → first_word ws ≡ codes "map" → named_line says.Map (names_of s.buffers) ws ≡ made l → Breaks_none (at phase.Threads s n m) l → Tells s n m ws l
map_tells s n m [] l v k h r = absurd cc
map_tells s n m (w ∷ []) l v k h r = absurd cc
map_tells s n m (w ∷ b ∷ []) l v k h r =
    let bo = known (names_of s.buffers) b in
    let e : says.Map bo ≡ l = cc in
    let d = thread_mappings_at_end s in
    subst (λ (x : Line). Breaks_none (at phase.Threads s n m) x → Tells s n m (w ∷ b ∷ []) x) e (λ r. record {
      item = Alone (mark.Map (or_first bo));
      taken = refl;
      words = ap line (ap (λ t. t ∷ b ∷ []) k ∙ ap (λ t. codes "map" ∷ t ∷ []) (name_word s b r.names));
      fits = refl;
      stands = joint (eqb s.version 2) _ v (joint (is_declared s (or_first bo)) (not (has_buffer d.mapped (or_first bo))) (known_there s b r.names) (not_mapped d bo r.names r.maps));
      few = less n r.counts;
      short = still_short m 0 r.lens refl;
    }) r
map_tells s n m (w ∷ b ∷ x ∷ xs) l v k h r = absurd cc

-- an unmap
pub unmap_tells : (s : Script) (n m : ℕ) (ws : List Text) (l : Line) → eqb s.version 2 ≡ true → first_word ws ≡ codes "unmap" → named_line says.Unmap (names_of s.buffers) ws ≡ made l → Breaks_none (at phase.Threads s n m) l → Tells s n m ws l
unmap_tells s n m [] l v k h r = absurd cc
unmap_tells s n m (w ∷ []) l v k h r = absurd cc
unmap_tells s n m (w ∷ b ∷ []) l v k h r =
    let bo = known (names_of s.buffers) b in
    let e : says.Unmap bo ≡ l = cc in
    let d = thread_mappings_at_end s in
    subst (λ (x : Line). Breaks_none (at phase.Threads s n m) x → Tells s n m (w ∷ b ∷ []) x) e (λ r. record {
      item = Alone (mark.Unmap (or_first bo));
      taken = refl;
      words = ap line (ap (λ t. t ∷ b ∷ []) k ∙ ap (λ t. codes "unmap" ∷ t ∷ []) (name_word s b r.names));
      fits = refl;
      stands = joint (eqb s.version 2) (has_buffer d.mapped (or_first bo)) v (mapped_there d bo (not_false (has_mapped d bo) r.maps));
      few = less n r.counts;
      short = still_short m 0 r.lens refl;
    }) r
unmap_tells s n m (w ∷ b ∷ x ∷ xs) l v k h r = absurd cc

-- ---- the space

not_lt : (n m : ℕ) → nat_lt n m ≡ false → nat_le m n ≡ true
not_lt n m h = grind (arith, nat_tests, h)

ends_in : (end : ℕ) (first len : Option ℕ) → is_none first ≡ false → is_none len ≡ false → passes_end end first len ≡ false → nat_le (or_zero first + or_zero len) end ≡ true
ends_in end (Some first) (Some len) p q h = not_lt end (first + len) h
ends_in end None len p q h = absurd cc
ends_in end (Some first) None p q h = absurd cc

pages_in : (s : Script) (b : Option BufId) (off n : Option ℕ) → is_none b ≡ false → is_none off ≡ false → is_none n ≡ false → passes_pages s b off n ≡ false → nat_le (or_zero off + or_zero n) (decl s (or_first b)).pages ≡ true
pages_in s (Some b) off n p q r h = ends_in (decl s b).pages off n q r h
pages_in s None off n p q r h = absurd cc

page_range : (va n : Text) → let vo = number_in 0 1048575 va in let no = number_in 1 4096 n in is_none vo ≡ false → is_none no ≡ false → passes_end 1048576 vo no ≡ false → is_page_range (or_zero vo) (or_zero no) ≡ true
page_range va n p q h =
    let vo = number_in 0 1048575 va in
    let no = number_in 1 4096 n in
    let a = number_there 0 1048575 va (omega arith) p in
    let b = number_there 1 4096 n (omega arith) q in
    three (nat_le (or_zero vo) 1048575) (is_between 1 4096 (or_zero no)) (nat_le (or_zero vo + or_zero no) 1048576) (is_le (or_zero vo) 1048575 a.2) (is_in 1 4096 (or_zero no) b.1 b.2) (ends_in 1048576 vo no p q h)

-- a vmap
pub vmap_tells : (s : Script) (n m : ℕ) (ws : List Text) (l : Line) → eqb s.version 2 ≡ true → first_word ws ≡ codes "vmap" → vmap_line (names_of s.buffers) ws ≡ made l → Breaks_none (at phase.Threads s n m) l → Tells s n m ws l
vmap_tells s n m [] l v k h r = absurd cc
vmap_tells s n m (w ∷ []) l v k h r = absurd cc
vmap_tells s n m (w ∷ va ∷ []) l v k h r = absurd cc
vmap_tells s n m (w ∷ va ∷ pages ∷ []) l v k h r = absurd cc
vmap_tells s n m (w ∷ va ∷ pages ∷ b ∷ []) l v k h r = absurd cc
vmap_tells s n m (w ∷ va ∷ pages ∷ b ∷ off ∷ []) l v k h r =
    let vo = number_in 0 1048575 va in
    let po = number_in 1 4096 pages in
    let bo = known (names_of s.buffers) b in
    let oo = number_in 0 4095 off in
    let e : says.Vmap vo po bo oo ≡ l = cc in
    subst (λ (x : Line). Breaks_none (at phase.Threads s n m) x → Tells s n m (w ∷ va ∷ pages ∷ b ∷ off ∷ []) x) e (λ r.
    let x = either (is_none vo || is_none po) (is_none oo) r.numbers in
    let y = either (is_none vo) (is_none po) x.0 in
    let z = either (passes_end 1048576 vo po) (passes_pages s bo oo po) r.ranges in
    let a = number_there 0 1048575 va (omega arith) y.0 in
    let c = number_there 1 4096 pages (omega arith) y.1 in
    let f = number_there 0 4095 off (omega arith) x.1 in
    record {
      item = Alone (mark.Vmap (or_zero vo) (or_zero po) (or_first bo) (or_zero oo));
      taken = refl;
      words = ap line (ap (λ t. t ∷ va ∷ pages ∷ b ∷ off ∷ []) k ∙ ap (λ t. codes "vmap" ∷ t ∷ pages ∷ b ∷ off ∷ []) a.0
          ∙ ap (λ t. codes "vmap" ∷ decimal (or_zero vo) ∷ t ∷ b ∷ off ∷ []) c.0
          ∙ ap (λ t. codes "vmap" ∷ decimal (or_zero vo) ∷ decimal (or_zero po) ∷ t ∷ off ∷ []) (name_word s b r.names)
          ∙ ap (λ t. codes "vmap" ∷ decimal (or_zero vo) ∷ decimal (or_zero po) ∷ name_of s (or_first bo) ∷ t ∷ []) f.0);
      fits = refl;
      stands = joint (eqb s.version 2) _ v
          (four (is_page_range (or_zero vo) (or_zero po)) (is_declared s (or_first bo)) (nat_le (or_zero oo) 4095) (nat_le (or_zero oo + or_zero po) (decl s (or_first bo)).pages)
          (page_range va pages y.0 y.1 z.0) (known_there s b r.names) (is_le (or_zero oo) 4095 f.2) (pages_in s bo oo po r.names x.1 y.1 z.1));
      few = less n r.counts;
      short = still_short m 0 r.lens refl;
    }) r
vmap_tells s n m (w ∷ va ∷ pages ∷ b ∷ off ∷ x ∷ xs) l v k h r = absurd cc

-- a vunmap
pub vunmap_tells : (s : Script) (n m : ℕ) (ws : List Text) (l : Line) → eqb s.version 2 ≡ true → first_word ws ≡ codes "vunmap" → vunmap_line ws ≡ made l → Breaks_none (at phase.Threads s n m) l → Tells s n m ws l
vunmap_tells s n m [] l v k h r = absurd cc
vunmap_tells s n m (w ∷ []) l v k h r = absurd cc
vunmap_tells s n m (w ∷ va ∷ []) l v k h r = absurd cc
vunmap_tells s n m (w ∷ va ∷ pages ∷ []) l v k h r =
    let vo = number_in 0 1048575 va in
    let po = number_in 1 4096 pages in
    let e : says.Vunmap vo po ≡ l = cc in
    subst (λ (x : Line). Breaks_none (at phase.Threads s n m) x → Tells s n m (w ∷ va ∷ pages ∷ []) x) e (λ r.
    let y = either (is_none vo) (is_none po) r.numbers in
    let a = number_there 0 1048575 va (omega arith) y.0 in
    let c = number_there 1 4096 pages (omega arith) y.1 in
    record {
      item = Alone (mark.Vunmap (or_zero vo) (or_zero po));
      taken = refl;
      words = ap line (ap (λ t. t ∷ va ∷ pages ∷ []) k ∙ ap (λ t. codes "vunmap" ∷ t ∷ pages ∷ []) a.0 ∙ ap (λ t. codes "vunmap" ∷ decimal (or_zero vo) ∷ t ∷ []) c.0);
      fits = refl;
      stands = joint (eqb s.version 2) (is_page_range (or_zero vo) (or_zero po)) v (page_range va pages y.0 y.1 r.ranges);
      few = less n r.counts;
      short = still_short m 0 r.lens refl;
    }) r
vunmap_tells s n m (w ∷ va ∷ pages ∷ x ∷ xs) l v k h r = absurd cc

-- ---- jobs with addresses

some_job : (o : Option (List Op)) → is_none o ≡ false → o ≡ Some (unwrap_or o [])
some_job None h = absurd cc
some_job (Some ops) h = refl

few_ops : (o : Option (List Op)) → is_big_named_job o ≡ false → is_none o ≡ false → (length (unwrap_or o []) ≤ 64) × (nat_le (length (first_mentions [] (flat_map buffers_of_op (unwrap_or o [])))) 16 ≡ true)
few_ops None h k = absurd cc
few_ops (Some ops) h k =
    let f = either (nat_lt 64 (length ops)) (nat_lt 16 (length (first_mentions [] (flat_map buffers_of_op ops)))) h in
    (not_less 64 (length ops) f.0, not_lt 16 _ f.1)

-- what a job with addresses names
record IsJob (s : Script) (ws : List Text) : Type 0 where
  command_fits : (engine : Text) → is_broken_engine (engine_word_of s.sizes.engines engine) ≡ false → is_missing_engine (engine_word_of s.sizes.engines engine) ≡ false → is_command s (command.Submit (engine_in (engine_word_of s.sizes.engines engine)) (named_ops s (vop_words_of ws))) ≡ true
  stands : (engine : ℕ) → is_vsubmit (thread_mappings_at_end s) (map vop_in (vop_words_of ws)) (command.Submit engine (named_ops s (vop_words_of ws))) ≡ true
  long : sum_by len_of_vop_word (vop_words_of ws) ≡ sum_by op_len (named_ops s (vop_words_of ws))

job_is : (s : Script) (v : ℕ) (ws : List Text) → list_all (is_decl v) s.buffers ≡ true → list_all (is_region s) (thread_mappings_at_end s).regions ≡ true → AreGoodVops (vop_words_of ws) → list_any passes_in_vop (vop_words_of ws) ≡ false
    → (list_any (has_buffer_twice (thread_mappings_at_end s)) (vop_words_of ws) || is_big_named_job (named_job (thread_mappings_at_end s) (vop_words_of ws))) ≡ false → is_none (named_job (thread_mappings_at_end s) (vop_words_of ws)) ≡ false → IsJob s ws
job_is s v ws decls regions good inside jobs pages =
    let d = thread_mappings_at_end s in
    let groups = cut_by is_semicolon ws in
    let xs = vop_words_of ws in
    let vs = map vop_in xs in
    let ops = named_ops s xs in
    let j = either (list_any (has_buffer_twice d) xs) (is_big_named_job (named_job d xs)) jobs in
    let job : job_by_name d.regions vs ≡ Some ops = some_job (named_job d xs) pages in
    let few = few_ops (named_job d xs) j.1 pages in
    let fit = vops_fit groups good inside in
    let apart = vops_apart d xs j.0 in
    let count = job_count d.regions vs ops job fit in
    let a = length_map vop_in xs in
    let b = length_map vop_of groups in
    let some = cut_some is_semicolon ws in
    let few_named = few.0 in
    record {
      command_fits = λ engine p q. four _ _ _ _ (engine_there s.sizes.engines engine p q) (is_in 1 64 (length ops) (omega (arith, count, a, b, some)) few.0)
          (job_fits s v d.regions vs ops decls regions job fit apart) few.1;
      stands = λ engine. four (is_between 1 64 (length vs)) (list_all is_vop vs) (list_all (has_apart_ranges d.regions) vs) (is_job_of (job_by_name d.regions vs) ops)
          (is_in 1 64 (length vs) (omega (arith, a, b, some)) (omega (arith, count, few_named))) fit apart (ap (λ o. is_job_of o ops) job ∙ same_self ops);
      long = vlens_are xs ∙ sym (job_len d.regions vs ops job);
    }

-- a job with addresses
pub vsubmit_tells : (s : Script) (n m : ℕ) (ws : List Text) (l : Line) → eqb s.version 2 ≡ true → s.sizes.engines < 2 ^ 64 → list_all (is_decl s.version) s.buffers ≡ true → list_all (is_region s) (thread_mappings_at_end s).regions ≡ true
    → first_word ws ≡ codes "vsubmit" → vsubmit_line s.sizes.engines ws ≡ made l → Breaks_none (at phase.Threads s n m) l → Tells s n m ws l
vsubmit_tells s n m [] l v small decls regions k h r = absurd cc
vsubmit_tells s n m (w ∷ []) l v small decls regions k h r = absurd cc
vsubmit_tells s n m (w ∷ engine ∷ ws) l v small decls regions k h r =
    let e = engine_word_of s.sizes.engines engine in
    let xs = vop_words_of ws in
    let vs = map vop_in xs in
    let z = submit_chosen (list_any is_no_vop xs) l (says.Vsubmit e xs) h in
    let c = command.Submit (engine_in e) (named_ops s xs) in
    let p = at phase.Threads s n m in
    subst (λ (x : Line). Breaks_none p x → Tells s n m (w ∷ engine ∷ ws) x) z.1 (λ r.
    let a = either (is_broken_engine e) (list_any lacks_number_in_vop xs) r.numbers in
    let good : AreGoodVops xs = record { shape = z.0; numbers = a.1; bytes = r.bytes } in
    let job = job_is s s.version ws decls regions good r.ranges r.jobs r.pages in
    record {
      item = Asks (mark.Vsubmit vs ∷ []) c;
      taken = ap (λ k. with_submit (with_mark p (mark.Vsubmit vs)) c k) job.long;
      words = ap line (ap (λ t. t ∷ engine ∷ ws) k ∙ ap (λ t. codes "vsubmit" ∷ t ∷ ws) (engine_takes s.sizes.engines engine small a.0 r.actors) ∙ ap (λ ts. codes "vsubmit" ∷ decimal (engine_in e) ∷ ts) (vops_take ws good));
      fits = job.command_fits engine a.0 r.actors;
      stands = joint (eqb s.version 2) _ v (job.stands (engine_in e));
      few = less n r.counts;
      short = subst (λ k. m + k ≤ 67108864) job.long (fits_in (m + sum_by len_of_vop_word xs) r.lens);
    }) r
