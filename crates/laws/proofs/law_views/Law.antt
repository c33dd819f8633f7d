-- The view that is carried along a legal journal, with the owners of pages told by who holds them.
use Rattle.std.proofs.Common.{List, IsTrue, refl, sym, subst}
use Rattle.ttm_base.specs.Pages as pages
use Rattle.journal_model.specs.declared.script.Script.{Script}
use Rattle.journal_model.specs.declared.state.Core.{Core}
use Rattle.journal_model.specs.declared.entry.Entry.{Entry}
use Rattle.journal_model.specs.scripts.ScriptRules.{is_script}
use Rattle.journal_model.specs.rules.PlainMemory.{Memory, OwedProbes, plain_of}
use Rattle.journal_model.specs.rules.Legal.{state_of, stores_of, IsLegal}
use Rattle.laws.specs.lemma_bytes_model.Memory as memory
use Rattle.laws.specs.lemma_bytes_model.Memory.{Page, Nowhere}
use Rattle.laws.proofs.law_holders.Owner.{owner_of, owning}
use Rattle.laws.proofs.lemma_bytes_view.World.{bare}
use Rattle.laws.proofs.lemma_bytes_view.Viewed.{Viewed}
use Rattle.laws.proofs.law_transparent.Carried.{view_law}
use Rattle.laws.specs.law_views.GoodViews.{IsOwner, HasGoodView}

owner_so : (c : Core) (x : Page) → IsOwner c x (owner_of (bare c) x)
owner_so c Nowhere = refl
owner_so c (memory.Vram n) = (owning (bare c) (memory.Vram n) (λ e. cc)).fact
owner_so c (memory.Frame f) = (owning (bare c) (memory.Frame f) (λ e. cc)).fact
owner_so c (memory.Slot k) = (owning (bare c) (memory.Slot k) (λ e. cc)).fact
owner_so c (memory.Own b i) = (owning (bare c) (memory.Own b i) (λ e. cc)).fact

told : (script : Script) (c : Core) (owed_probes : OwedProbes) (m : Memory) (bytes : pages.PageBytes) → Viewed script c owed_probes m bytes → HasGoodView script c owed_probes m bytes
told script c owed_probes m bytes u =
    record {
      view = u.view;
      good = u.good;
      seen = record {
        count = u.seen.count;
        left = u.seen.left;
        begun = u.seen.begun;
        done = u.seen.done;
        prior = u.seen.prior;
        strong = u.seen.strong;
        shared = u.seen.shared;
        ghost = u.seen.ghost;
        mover = u.seen.mover;
        place = u.seen.place;
        owner = λ x. subst (IsOwner c x) (sym (u.seen.owner x)) (owner_so c x);
        there = u.seen.there;
        stores = u.seen.stores;
        cut = u.seen.cut;
        plain = u.seen.plain;
      };
    }

pub good_view : (script : Script) (journal : List Entry) → IsTrue (is_script script) → IsLegal script journal →
    HasGoodView script (state_of script journal).core (plain_of script journal).owed_probes (plain_of script journal).memory (stores_of script journal)
good_view script journal fits l = told script (state_of script journal).core (plain_of script journal).owed_probes (plain_of script journal).memory (stores_of script journal) (view_law script journal fits l)
