use Rattle.std.proofs.Common.{◌≡◌, ◌+◌, ◌≤◌, take, length}
use Rattle.std.specs.HashMap.{get_by, hash_map_len, spare}
use Rattle.ttm_base.specs.declared.Owner.{Owner}
use Rattle.resource_core.specs.Places.{key_of, same_key, stands_at}
use Rattle.resource_core.proofs.holdings.place_all.Given as goal

abbrev pub invariant-loop-at : goal.invariant-loop-at
invariant-loop-at l = record {
  each : (owner : Owner) → get_by (same_key (key_of owner)) l.places ≡ stands_at owner (take l.at l.held);
  len : hash_map_len l.places ≡ l.at;
  room : length l.held ≤ l.at + spare l.places;
}
