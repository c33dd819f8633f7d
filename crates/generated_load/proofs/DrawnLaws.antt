-- What was drawn, and one more.
use Rattle.std.proofs.Common.{◌≡◌, ℕ, ◌+◌, ◌*◌, List, [], ◌∷◌, ◌++◌, refl, sym, ap, ◌∙◌, subst, add-one, append_assoc, append-nil}
use Rattle.rand_pcg.specs.Lcg.{Lcg}
use Rattle.ttm_base.specs.declared.BufId.{BufId}
use Rattle.journal_model.specs.declared.script.Decl.{Decl}
use Rattle.journal_model.specs.declared.script.Command.{Command}
use Rattle.journal_model.specs.declared.script.Command.TheVariants as command
use Rattle.generated_load.specs.declared.choices.Choice.{Choice}
use Rattle.generated_load.specs.Draws.{draw}
use Rattle.generated_load.specs.Buffers.{load_buffer, load_buffers}
use Rattle.generated_load.specs.Choices.{behind, kind_of, own_buffer, load_choice}
use Rattle.generated_load.specs.Commands.{drawn_commands, load_command, load_commands, load_threads, news, reads}

-- a choice by its six words
abbrev choice_by : ℕ → Lcg → ℕ → ℕ → ℕ → ℕ → ℕ → ℕ → Choice × Lcg
choice_by t h number first distance sixteens byte engine =
    (record { kind = kind_of number; x = own_buffer t first; y = own_buffer t (behind first distance); off = 16 * sixteens; byte = byte; engine = engine + 1 }, h)

pub no_buffers : (g : Lcg) → ([], g) ≡ load_buffers 0 g
unfolding load_buffers
no_buffers g = refl

pub one_buffer : (n prio : ℕ) (first g h : Lcg) (ds more : List Decl) (d : Decl) → (ds, g) ≡ load_buffers n first → (prio, h) ≡ draw 4 g → d ≡ load_buffer n prio
    → more ≡ ds ++ d ∷ [] → (more, h) ≡ load_buffers (n + 1) first
unfolding load_buffers
one_buffer n prio first g h ds more d before drew is put =
    let made : List Decl × Lcg = (more, h) in
    subst (λ k. made ≡ load_buffers k first) (sym (add-one n))
    (subst (λ (p : List Decl × Lcg). made ≡ (p.0 ++ load_buffer n (draw 4 p.1).0 ∷ [], (draw 4 p.1).1)) before
    (subst (λ (q : ℕ × Lcg). made ≡ (ds ++ load_buffer n q.0 ∷ [], q.1)) drew
    (ap (λ (m : List Decl). let pair : List Decl × Lcg = (m, h) in pair) (put ∙ ap (λ (e : Decl). ds ++ e ∷ []) is))))

-- the choice of six words
pub chosen : (t : ℕ) (g a b d e f h : Lcg) (number first distance sixteens byte engine : ℕ) (c : Choice)
    → (number, a) ≡ draw 8 g → (first, b) ≡ draw 8 a → (distance, d) ≡ draw 7 b → (sixteens, e) ≡ draw 1024 d → (byte, f) ≡ draw 256 e → (engine, h) ≡ draw 2 f
    → c ≡ record { kind = kind_of number; x = own_buffer t first; y = own_buffer t (behind first distance); off = 16 * sixteens; byte = byte; engine = engine + 1 }
    → (c, h) ≡ load_choice t g
chosen t g a b d e f h number first distance sixteens byte engine c p q r s u v is =
    let q2 : (first, b) ≡ draw 8 (draw 8 g).1 = q ∙ ap (λ (w : ℕ × Lcg). draw 8 w.1) p in
    let r2 : (distance, d) ≡ draw 7 (draw 8 (draw 8 g).1).1 = r ∙ ap (λ (w : ℕ × Lcg). draw 7 w.1) q2 in
    let s2 : (sixteens, e) ≡ draw 1024 (draw 7 (draw 8 (draw 8 g).1).1).1 = s ∙ ap (λ (w : ℕ × Lcg). draw 1024 w.1) r2 in
    let u2 : (byte, f) ≡ draw 256 (draw 1024 (draw 7 (draw 8 (draw 8 g).1).1).1).1 = u ∙ ap (λ (w : ℕ × Lcg). draw 256 w.1) s2 in
    let v2 : (engine, h) ≡ draw 2 (draw 256 (draw 1024 (draw 7 (draw 8 (draw 8 g).1).1).1).1).1 = v ∙ ap (λ (w : ℕ × Lcg). draw 2 w.1) u2 in
    ap (λ (x : Choice). (x, h)) is
    ∙ ap (λ (w : ℕ × Lcg). choice_by t h w.0 first distance sixteens byte engine) p
    ∙ ap (λ (w : ℕ × Lcg). choice_by t h (draw 8 g).0 w.0 distance sixteens byte engine) q2
    ∙ ap (λ (w : ℕ × Lcg). choice_by t h (draw 8 g).0 (draw 8 (draw 8 g).1).0 w.0 sixteens byte engine) r2
    ∙ ap (λ (w : ℕ × Lcg). choice_by t h (draw 8 g).0 (draw 8 (draw 8 g).1).0 (draw 7 (draw 8 (draw 8 g).1).1).0 w.0 byte engine) s2
    ∙ ap (λ (w : ℕ × Lcg). choice_by t h (draw 8 g).0 (draw 8 (draw 8 g).1).0 (draw 7 (draw 8 (draw 8 g).1).1).0 (draw 1024 (draw 7 (draw 8 (draw 8 g).1).1).1).0 w.0 engine) u2
    ∙ ap (λ (w : ℕ × Lcg). choice_by t w.1 (draw 8 g).0 (draw 8 (draw 8 g).1).0 (draw 7 (draw 8 (draw 8 g).1).1).0 (draw 1024 (draw 7 (draw 8 (draw 8 g).1).1).1).0
    (draw 256 (draw 1024 (draw 7 (draw 8 (draw 8 g).1).1).1).1).0 w.0) v2

pub none_drawn : (t : ℕ) (g : Lcg) (old : List Command) → (old ≡ old ++ (drawn_commands 0 t g).0) × (g ≡ (drawn_commands 0 t g).1)
unfolding drawn_commands
none_drawn t g old = (sym (append-nil old), refl)

-- after other commands
pub one_drawn : (n t : ℕ) (first g h : Lcg) (old cs more : List Command) (x : Choice) (c : Command) → cs ≡ old ++ (drawn_commands n t first).0 → g ≡ (drawn_commands n t first).1
    → (x, h) ≡ load_choice t g → c ≡ load_command t x → more ≡ cs ++ c ∷ []
    → (more ≡ old ++ (drawn_commands (n + 1) t first).0) × (h ≡ (drawn_commands (n + 1) t first).1)
unfolding drawn_commands
one_drawn n t first g h old cs more x c before at drew is put =
    let step : (x, h) ≡ load_choice t (drawn_commands n t first).1 = drew ∙ ap (load_choice t) at in
    let choice : x ≡ (load_choice t (drawn_commands n t first).1).0 = ap (λ (p : Choice × Lcg). p.0) step in
    let whole : more ≡ old ++ ((drawn_commands n t first).0 ++ load_command t (load_choice t (drawn_commands n t first).1).0 ∷ []) =
    put ∙ ap (λ (m : List Command). m ++ c ∷ []) before ∙ append_assoc old (drawn_commands n t first).0 (c ∷ [])
    ∙ ap (λ (e : Command). old ++ ((drawn_commands n t first).0 ++ e ∷ [])) (is ∙ ap (load_command t) choice) in
    subst (λ k. (more ≡ old ++ (drawn_commands k t first).0) × (h ≡ (drawn_commands k t first).1)) (sym (add-one n))
    (whole, ap (λ (p : Choice × Lcg). p.1) step)

pub none_new : (t : ℕ) (old : List Command) → old ≡ old ++ news 0 t
unfolding news
none_new t old = sym (append-nil old)

pub one_new : (n t : ℕ) (old cs more : List Command) (b : BufId) → cs ≡ old ++ news n t → b ≡ own_buffer t n → more ≡ cs ++ command.New b ∷ [] → more ≡ old ++ news (n + 1) t
unfolding news
one_new n t old cs more b before is put =
    subst (λ k. more ≡ old ++ news k t) (sym (add-one n))
    (put ∙ ap (λ (m : List Command). m ++ command.New b ∷ []) before ∙ append_assoc old (news n t) (command.New b ∷ [])
    ∙ ap (λ (d : BufId). old ++ (news n t ++ command.New d ∷ [])) is)

pub none_read : (t : ℕ) (old : List Command) → old ≡ old ++ reads 0 t
unfolding reads
none_read t old = sym (append-nil old)

pub one_read : (n t : ℕ) (old cs more : List Command) (b : BufId) → cs ≡ old ++ reads n t → b ≡ own_buffer t n → more ≡ cs ++ command.Read b 0 16 ∷ [] → more ≡ old ++ reads (n + 1) t
unfolding reads
one_read n t old cs more b before is put =
    subst (λ k. more ≡ old ++ reads k t) (sym (add-one n))
    (put ∙ ap (λ (m : List Command). m ++ command.Read b 0 16 ∷ []) before ∙ append_assoc old (reads n t) (command.Read b 0 16 ∷ [])
    ∙ ap (λ (d : BufId). old ++ (reads n t ++ command.Read d 0 16 ∷ [])) is)

-- all of a thread
pub whole_thread : (t : ℕ) (g h : Lcg) (a b d e : List Command) → a ≡ [] → b ≡ a ++ news 8 t → d ≡ b ++ (drawn_commands 200 t g).0 → h ≡ (drawn_commands 200 t g).1 → e ≡ d ++ reads 8 t
    → (e, h) ≡ load_commands t g
whole_thread t g h a b d e none new drawn left read =
    let first : b ≡ news 8 t = new ∙ ap (λ (m : List Command). m ++ news 8 t) none in
    let second : d ≡ news 8 t ++ (drawn_commands 200 t g).0 = drawn ∙ ap (λ (m : List Command). m ++ (drawn_commands 200 t g).0) first in
    let third : e ≡ (news 8 t ++ (drawn_commands 200 t g).0) ++ reads 8 t = read ∙ ap (λ (m : List Command). m ++ reads 8 t) second in
    ap (λ (m : List Command). let pair : List Command × Lcg = (m, h) in pair) third
    ∙ ap (λ (k : Lcg). let pair : List Command × Lcg = ((news 8 t ++ (drawn_commands 200 t g).0) ++ reads 8 t, k) in pair) left

pub no_threads : (g : Lcg) → ([], g) ≡ load_threads 0 g
unfolding load_threads
no_threads g = refl

pub one_thread : (n : ℕ) (first g h : Lcg) (ts more : List (List Command)) (cs : List Command) → (ts, g) ≡ load_threads n first → (cs, h) ≡ load_commands n g
    → more ≡ ts ++ cs ∷ [] → (more, h) ≡ load_threads (n + 1) first
unfolding load_threads
one_thread n first g h ts more cs before drew put =
    let made : List (List Command) × Lcg = (more, h) in
    subst (λ k. made ≡ load_threads k first) (sym (add-one n))
    (subst (λ (p : List (List Command) × Lcg). made ≡ (p.0 ++ (load_commands n p.1).0 ∷ [], (load_commands n p.1).1)) before
    (subst (λ (q : List Command × Lcg). made ≡ (ts ++ q.0 ∷ [], q.1)) drew
    (ap (λ (m : List (List Command)). let pair : List (List Command) × Lcg = (m, h) in pair) put)))
