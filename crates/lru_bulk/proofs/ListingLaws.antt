-- How buffers are listed, after a node was changed.
use Rattle.std.proofs.Common.{◌≡◌, ℕ, zero, suc, List, [], ◌∷◌, get_or, set, map, Option, Some, None, refl, sym, ap, ◌∙◌}
use Rattle.std.specs.Prelude.{option_map}
use Rattle.std.proofs.lemmas.List.{map-set, set-get_or}
use Rattle.lru_bulk.specs.declared.nodes.Listing.{Listing}
use Rattle.lru_bulk.specs.declared.nodes.Links.{Links}
use Rattle.lru_bulk.specs.declared.nodes.Node.{Node}

-- the listing of a node
abbrev pub listing_in_node : Option Node → Option Listing
listing_in_node o = option_map (λ n. n.listing) o

pub listings_at : (nodes : List (Option Node)) (i : ℕ) → get_or (map listing_in_node nodes) i None ≡ listing_in_node (get_or nodes i None)
listings_at [] i = refl
listings_at (n ∷ nodes) zero = refl
listings_at (n ∷ nodes) (suc i) = listings_at nodes i

pub listings_set : (nodes : List (Option Node)) (i : ℕ) (slot : Option Node) → map listing_in_node (set nodes i slot) ≡ set (map listing_in_node nodes) i (listing_in_node slot)
listings_set nodes i slot = map-set listing_in_node nodes i slot

-- other links leave them as they are
pub listings_kept : (nodes : List (Option Node)) (i : ℕ) (node : Node) (links : Links) → get_or nodes i None ≡ Some node
    → map listing_in_node (set nodes i (Some (record node { links = links }))) ≡ map listing_in_node nodes
listings_kept nodes i node links found =
    let here : get_or (map listing_in_node nodes) i None ≡ Some node.listing = listings_at nodes i ∙ ap listing_in_node found in
    listings_set nodes i (Some (record node { links = links }))
    ∙ ap (λ (x : Option Listing). set (map listing_in_node nodes) i x) (sym here)
    ∙ set-get_or (map listing_in_node nodes) i None
