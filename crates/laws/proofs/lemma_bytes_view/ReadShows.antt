-- A read whose buffer no job changes any more shows the bytes of the plain memory.
use mathlib.Core.Path.{fun_ext}
use Rattle.std.proofs.Common.{◌≡◌, ℕ, ◌+◌, ◌*◌, ◌/◌, ◌%◌, Bool, true, false, None, refl, sym, ◌∙◌, ap, arith}
use Rattle.std.specs.Prelude.{map, ◌||◌, if◌then◌else◌}
use Rattle.std.proofs.lemmas.Bool.{lt-ltb}
use Rattle.ttm_base.specs.declared.BufId.{BufId}
use Rattle.ttm_base.specs.ListWords.{count_from}
use Rattle.ttm_base.specs.Pages as pages
use Rattle.journal_model.specs.declared.script.Script.{Script}
use Rattle.journal_model.specs.declared.state.Core.{Core}
use Rattle.journal_model.specs.rules.State.{buffer_in}
use Rattle.journal_model.specs.rules.Places.{page_at}
use Rattle.journal_model.specs.rules.Waits.{waited_for, jobs_before_read}
use Rattle.journal_model.specs.rules.Stores.{byte_of, bytes_of}
use Rattle.journal_model.specs.rules.PlainMemory.{Memory, OwedProbes, memory_range}
use Rattle.laws.specs.lemma_bytes_model.View.{View, Good, is_fence}
use Rattle.laws.proofs.lemma_bytes_model.Cpu.{cpu_reads}
use Rattle.laws.proofs.lemma_bytes_view.World.{Seen}
use Rattle.laws.proofs.lemma_bytes_view.Jobs.{waited_is_done}
use Rattle.laws.proofs.lemma_bytes_view.PacketStep.{no_bytes}

module _ (script : Script) (c : Core) (owed_probes : OwedProbes) (m : Memory) (bytes : pages.PageBytes) (v : View) (s : Seen script c owed_probes m bytes v) (g : Good no_bytes v)
    (b : BufId) (none : waited_for c (jobs_before_read (buffer_in c b)) ≡ None) where
  writers_done : (j : ℕ) → is_fence v.fences b.0 true j ≡ true → v.done j ≡ true
  writers_done j h =
      let f = s.strong b.0 j (only (v.fences.strong b.0 j) h) in
      s.done j f.job f.at ∙ waited_is_done c (jobs_before_read (buffer_in c b)) j f.job none f.at f.has
    where
      only : (a : Bool) → (a || false) ≡ true → a ≡ true
      only true h = refl
      only false h = h

  byte_shows : (n : ℕ) → byte_of bytes (buffer_in c b) n ≡ m b.0 n
  byte_shows n =
      sym (s.stores (page_at (buffer_in c b) (n / 4096)) (n % 4096))
      ∙ ap (λ q. v.stores q (n % 4096)) (sym (s.place b.0 (n / 4096)))
      ∙ ap (λ (f : ℕ → ℕ). f (n % 4096)) (cpu_reads no_bytes v g b.0 (n / 4096) writers_done)
      ∙ s.plain b.0 (n / 4096) (n % 4096)
      ∙ ap (λ q. if q then m b.0 (4096 * (n / 4096) + n % 4096) else 0) (lt-ltb (n % 4096) 4096 (omega arith))
      ∙ ap (m b.0) (let z : 4096 * (n / 4096) + n % 4096 ≡ n = omega arith in z)

  pub read_shows : (off len : ℕ) → bytes_of bytes (buffer_in c b) off len ≡ memory_range m b off len
  read_shows off len = ap (λ f. map f (count_from 1 len off)) (fun_ext byte_shows)
