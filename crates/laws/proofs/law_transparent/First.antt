-- At first there is no job and no page, and all bytes are zeros.
use Rattle.std.proofs.Common.{◌≡◌, ℕ, zero, suc, Bool, true, false, List, [], ◌∷◌, None, refl, sym, ◌∙◌, ap, inl}
use Rattle.std.specs.Prelude.{slice_get, map, nat_lt, option_and_then, unwrap_or, if◌then◌else◌}
use Rattle.journal_model.specs.declared.script.Script.{Script}
use Rattle.journal_model.specs.declared.state.Core.{Core}
use Rattle.journal_model.specs.rules.State.{new_buffer}
use Rattle.journal_model.specs.rules.Stores.{zeros}
use Rattle.journal_model.specs.rules.PlainMemory.{first_plain}
use Rattle.journal_model.specs.rules.Legal.{first_state}
use Rattle.laws.specs.lemma_bytes_model.Memory.{Nowhere}
use Rattle.laws.specs.lemma_bytes_model.View.{View, Good}
use Rattle.laws.specs.law_holders.Holding.{seen, live_at, buffer_at}
use Rattle.laws.proofs.law_holders.Owner.{owner_of}
use Rattle.laws.proofs.lemma_bytes_view.News.{fresh_page}
use Rattle.laws.proofs.lemma_bytes_view.World.{Seen, bare}
use Rattle.laws.proofs.lemma_bytes_view.PacketStep.{no_bytes}
use Rattle.laws.proofs.lemma_bytes_view.Viewed.{Viewed}

-- no buffer is live
none_is : {X : Type 0} (xs : List X) (i : ℕ) → unwrap_or (option_and_then (λ x. x) (slice_get (map (λ d. None) xs) i)) (new_buffer 0) ≡ new_buffer 0
none_is [] i = refl
none_is (x ∷ xs) zero = refl
none_is (x ∷ xs) (suc i) = none_is xs i

module _ (script : Script) where
  abbrev c : Core
  c = (first_state script).core

  abbrev first : View
  first = record {
    count = 0;
    left = λ j. [];
    begun = λ j. false;
    done = λ j. false;
    fences = record { prior = λ j i. false; strong = λ b j. false; shared = λ b j. false; ghost = λ n j. false; mover = None };
    place = λ b i. Nowhere;
    owner = owner_of (bare c);
    stores = λ p o. 0;
    plain = λ p o. 0;
  }

  nowhere : (b i : ℕ) → live_at (buffer_at c b) i ≡ Nowhere
  nowhere b i = ap (λ y. live_at y i) (none_is script.buffers b) ∙ ap seen (fresh_page 0 i)

  zero_either : (q : Bool) → ◌≡◌ {A = ℕ} 0 (if q then 0 else 0)
  zero_either true = refl
  zero_either false = refl

  first_good : Good no_bytes first
  first_good = record {
    fresh = λ j l. refl;
    unbegun = λ j e. cc;
    earlier = λ j i e. cc;
    order = λ j i e f. cc;
    begins = λ j e. e;
    ends = λ j e. refl;
    writer = λ i j x l t w. cc;
    reader = λ i j x l w t. cc;
    guard = λ i x t. cc;
    slots = λ i n. refl;
    nowhere = refl;
    placed = λ b i. inl refl;
    zero = refl;
    value = λ b i. refl;
    show = λ j. tt;
  }

  first_seen : Seen script c first_plain.owed_probes first_plain.memory zeros first
  first_seen = record {
    count = refl;
    left = λ i x e. cc;
    begun = λ i x e. cc;
    done = λ i x e. cc;
    prior = λ j i e. cc;
    strong = λ b j e. cc;
    shared = λ b j e. cc;
    ghost = λ n j e. cc;
    mover = λ j e. cc;
    place = λ b i. sym (nowhere b i);
    owner = λ x. refl;
    there = λ i p t. cc;
    stores = λ p o. refl;
    cut = λ p o e. refl;
    plain = λ b i o. zero_either (nat_lt o 4096);
  }

  pub first_viewed : Viewed script c first_plain.owed_probes first_plain.memory zeros
  first_viewed = record { view = first; good = first_good; seen = first_seen }
