use Rattle.std.proofs.Common.{length, set, ap, sym, subst, ◌∙◌, arith}
use Rattle.std.specs.HashMap.{get_by}
use Rattle.resource_core.specs.declared.holding.Holding.{Holding}
use Rattle.resource_core.specs.Places.{same_key, stands_at}
use Rattle.resource_core.specs.Resources.{holds, renamed, AreDistinct}
use Rattle.resource_core.proofs.OwnerLaws.{distinct_renamed}
use Rattle.resource_core.proofs.PlaceLaws.{below, rename_first}
use Rattle.resource_core.proofs.TableLaws.{found_some, found_first, put_renamed}
use Rattle.resource_core.proofs.holdings.Holdings.rename.Goals as goal

pub known_place-at-requires : goal.known_place-at-requires
known_place-at-requires c =
    found_some (λ key. get_by (same_key key) c.self.inside.places) (λ key. get_by (same_key key) c.self.inside.places) _ _ c.self.invariant c.args.from
    ∙ ap (holds c.args.from) c.self.view_is ∙ c.requires.from

pub index_mut-requires : goal.index_mut-requires
index_mut-requires c =
    let b = below c.args.from c.self.inside.held.items c.known_place-at.result
    (found_first (λ key. get_by (same_key key) c.self.inside.places) (λ key. get_by (same_key key) c.self.inside.places) _ _ c.self.invariant c.args.from c.known_place-at.result c.known_place-at.ensures) in
    omega (arith, b)

pub place_all-requires-clause-distinct : goal.place_all-requires-clause-distinct
place_all-requires-clause-distinct c =
    let first = found_first (λ key. get_by (same_key key) c.self.inside.places) (λ key. get_by (same_key key) c.self.inside.places) _ _ c.self.invariant c.args.from c.known_place-at.result c.known_place-at.ensures in
    subst AreDistinct
    (sym (c.deref.ensures.value ∙ ap (λ (h : Holding). set c.self.inside.held.items c.known_place-at.result (let r : Holding = record { owner = c.args.to; spans = h.spans } in r)) c.index_mut.ensures.value
    ∙ rename_first c.args.from c.args.to c.self.inside.held.items c.known_place-at.result c.index_mut.result.now first c.self.invariant.owners))
    (distinct_renamed c.args.from c.args.to c.self.inside.held.items c.self.invariant.owners (ap (holds c.args.to) c.self.view_is ∙ c.requires.to))

pub invariant_of-self : goal.invariant_of-self
invariant_of-self c =
    let first = found_first (λ key. get_by (same_key key) c.self.inside.places) (λ key. get_by (same_key key) c.self.inside.places) _ _ c.self.invariant c.args.from c.known_place-at.result c.known_place-at.ensures in
    record {
      each = λ p. c.place_all.ensures.each p ∙ ap (stands_at p) c.deref.ensures.value;
      owners = subst AreDistinct
          (sym (ap (λ (h : Holding). set c.self.inside.held.items c.known_place-at.result (let r : Holding = record { owner = c.args.to; spans = h.spans } in r)) c.index_mut.ensures.value
          ∙ rename_first c.args.from c.args.to c.self.inside.held.items c.known_place-at.result c.index_mut.result.now first c.self.invariant.owners))
          (distinct_renamed c.args.from c.args.to c.self.inside.held.items c.self.invariant.owners (ap (holds c.args.to) c.self.view_is ∙ c.requires.to));
      len = c.place_all.ensures.len ∙ ap length c.deref.ensures.value;
    }

pub returns-then-capacity-len : goal.returns-then-capacity-len
returns-then-capacity-len c =
    let first = found_first (λ key. get_by (same_key key) c.self.inside.places) (λ key. get_by (same_key key) c.self.inside.places) _ _ c.self.invariant c.args.from c.known_place-at.result c.known_place-at.ensures in
    ap (λ (h : Holding). set c.self.inside.held.items c.known_place-at.result (let r : Holding = record { owner = c.args.to; spans = h.spans } in r)) c.index_mut.ensures.value
    ∙ rename_first c.args.from c.args.to c.self.inside.held.items c.known_place-at.result c.index_mut.result.now first c.self.invariant.owners
    ∙ ap (renamed c.args.from c.args.to) c.self.view_is

pub invariant_of-self-2 : goal.invariant_of-self-2
invariant_of-self-2 c =
    let first = found_first (λ key. get_by (same_key key) c.self.inside.places) (λ key. get_by (same_key key) c.self.inside.places) _ _ c.self.invariant c.args.from c.known_place-at.result c.known_place-at.ensures in
    put_renamed (λ key. get_by (same_key key) c.self.inside.places) (λ key. get_by (same_key key) c.take_out.new.places) (λ key. get_by (same_key key) c.put.new.places) _ _ _ c.self.inside.held.items _
    c.args.from c.args.to c.key_of-old.result c.key_of-new.result c.known_place-at.result c.self.invariant c.known_place-at.ensures (ap (holds c.args.to) c.self.view_is ∙ c.requires.to) c.key_of-old.ensures c.key_of-new.ensures
    (λ k. c.take_out.ensures.each k) c.take_out.ensures.len (λ k. c.put.ensures.each k) c.put.ensures.len
    (ap (λ (h : Holding). set c.self.inside.held.items c.known_place-at.result (let r : Holding = record { owner = c.args.to; spans = h.spans } in r)) c.index_mut.ensures.value
    ∙ rename_first c.args.from c.args.to c.self.inside.held.items c.known_place-at.result c.index_mut.result.now first c.self.invariant.owners)

pub returns : goal.returns
returns c =
    let first = found_first (λ key. get_by (same_key key) c.self.inside.places) (λ key. get_by (same_key key) c.self.inside.places) _ _ c.self.invariant c.args.from c.known_place-at.result c.known_place-at.ensures in
    ap (λ (h : Holding). set c.self.inside.held.items c.known_place-at.result (let r : Holding = record { owner = c.args.to; spans = h.spans } in r)) c.index_mut.ensures.value
    ∙ rename_first c.args.from c.args.to c.self.inside.held.items c.known_place-at.result c.index_mut.result.now first c.self.invariant.owners
    ∙ ap (renamed c.args.from c.args.to) c.self.view_is
