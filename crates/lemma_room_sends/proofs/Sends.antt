-- The parts of a memory manager may go to another thread (Send). Each lemma is on a type that later ones hold.
use denote.Param.Send.{IsSend, sendable, recorded_send, enum_send}
use denote.Enum.Enum.{Enum}
use denote.Enum.Declared.{shape}
use denote.RattleType.{RattleType}
use denote.Hole.{as_row}
use denote.Model.Local.{Parts as Members, rows}
use denote.Model.Goals.{send, has_of, part_has, one_law, tied_goals}
use denote.Param.SendFields.{declared_send}
use Rattle.std.proofs.Crossing.{crosses}
use Rattle.std.proofs.MapsCrossing as maps
use Rattle.hole_tree.specs.declared.sort.Side.{Ghosts}
use Rattle.hole_tree.specs.contracts.sort.ByStart as ByStart
use Rattle.hole_tree.specs.contracts.sort.ByStartSide.TheImpl as by_start
use Rattle.hole_tree.specs.contracts.sort.ByLength as ByLength
use Rattle.hole_tree.specs.contracts.sort.ByLengthSide.TheImpl as by_length
use Rattle.hole_tree.specs.contracts.tree.Tree as Tree
use Rattle.hole_tree.specs.contracts.tree.Tree.TheKnot as knot
use Rattle.hole_tree.specs.declared.tree.Tree.TheDeep.{the_members, member-Tree}
use Rattle.hole_tree.specs.contracts.tree.Node as Node
use Rattle.hole_tree.specs.contracts.holes.Holes as Holes
use Rattle.range_manager.specs.contracts.manager.RangeManager as RangeManager
use Rattle.block_tree.specs.contracts.free_blocks.FreeBlocks as FreeBlocks
use Rattle.buddy_manager.specs.contracts.manager.BuddyManager as BuddyManager
use Rattle.resource_core.specs.contracts.holdings.Holdings as Holdings
use Rattle.resource_core.specs.contracts.vram.VramRoom as VramRoom
use Rattle.bo_table.specs.contracts.table.BoTable as BoTable
use Rattle.copy_engine.specs.contracts.Rings as Rings
use Rattle.cpu_maps.specs.contracts.maps.CpuMaps as CpuMaps
use Rattle.copy_packet.specs.contracts.stores.Stores as Stores
use Rattle.fence_core.specs.contracts.timeline.Timeline as Timeline
use Rattle.lru_bulk.specs.contracts.Lru as Lru
use Rattle.page_pool.specs.contracts.PagePool as PagePool
use Rattle.swap_store.specs.contracts.SwapStore as SwapStore
use Rattle.ttm_base.specs.contracts.item_list.ItemList as ItemList
use Rattle.journal_model.specs.contracts.script.Script as Script
use Rattle.journal_model.specs.contracts.entry.Entry as Entry
use Rattle.journal_model.specs.contracts.entry.Kind as Kind
use Rattle.journal_model.specs.contracts.entry.Shown as Shown
use Rattle.room_state.specs.contracts.rooms.Rooms as Rooms
use Rattle.room_state.specs.contracts.rooms.Rooms.TheInside as inside
use Rattle.journal_model.specs.contracts.state.Course as Course
use Rattle.room_representation.specs.contracts.parts.Ghost as Ghost
use Rattle.room_representation.specs.contracts.parts.Parts as Parts

-- ---- holes: a node holds trees, so a tree may go where each tree that it holds may, and what a node keeps of a side

module _ (S : RattleType) (g : Ghosts S.Denot) (side : IsSend S) where
  node_at : (p : Members (knot.frame S g)) → IsSend (rows (knot.frame S g) p member-Tree) → IsSend (knot.at-Node S g p)
  node_at p s = search (sendable, crosses) depth 30

  top_at : (p : Members (knot.frame S g)) → IsSend (knot.at-Node S g p) → IsSend (knot.at-Top S g p)
  top_at p s = search (sendable, crosses) depth 30

  tree_at : (p : Members (knot.frame S g)) → IsSend (knot.at-Top S g p) → IsSend (knot.view-Tree S g p)
  tree_at p s = search (sendable, crosses) depth 30

  one_deeper : (p : Members (knot.frame S g)) → ((i : the_members) → IsSend (rows (knot.frame S g) p i)) → (i : the_members) → IsSend (rows (knot.frame S g) (knot.step S g p) i)
  one_deeper p all member-Tree =
      has_of (knot.frame S g) send (knot.step S g p) member-Tree (part_has send (knot.view-Tree S g p) (tree_at p (top_at p (node_at p (all member-Tree)))))

  members : (i : the_members) → IsSend (rows (knot.frame S g) (knot.tied S g) i)
  members = tied_goals (knot.frame S g) (knot.step S g) (knot.sizes S g) (one_law the_members send) one_deeper

  tree : IsSend (Tree.the_row S g)
  tree = members member-Tree

  node : IsSend (Node.the_row S g)
  node = search (sendable, crosses, tree) depth 30

side_by_start : IsSend ByStart.the_row
side_by_start = search (sendable, crosses) depth 30

tree_by_start : IsSend (Tree.the_row ByStart.the_row by_start.ghosts)
tree_by_start = tree ByStart.the_row by_start.ghosts side_by_start

node_by_start : IsSend (Node.the_row ByStart.the_row by_start.ghosts)
node_by_start = node ByStart.the_row by_start.ghosts side_by_start

side_by_length : IsSend ByLength.the_row
side_by_length = search (sendable, crosses) depth 30

tree_by_length : IsSend (Tree.the_row ByLength.the_row by_length.ghosts)
tree_by_length = tree ByLength.the_row by_length.ghosts side_by_length

node_by_length : IsSend (Node.the_row ByLength.the_row by_length.ghosts)
node_by_length = node ByLength.the_row by_length.ghosts side_by_length

holes : IsSend Holes.the_row
holes = search (sendable, crosses, tree_by_start, node_by_start, tree_by_length, node_by_length) depth 30

-- ---- the managers

ranges : IsSend RangeManager.the_row
ranges = search (sendable, crosses, holes) depth 30

free_blocks : IsSend FreeBlocks.the_row
free_blocks = search (sendable, crosses) depth 30

blocks : IsSend BuddyManager.the_row
blocks = search (sendable, crosses, free_blocks) depth 30

holdings : IsSend Holdings.the_row
holdings = search (sendable, crosses, maps.crosses) depth 60 fits 20000

vram : IsSend VramRoom.the_row
vram = search (sendable, crosses, ranges, blocks, holdings) depth 60 fits 20000

-- ---- the other parts

bos : IsSend BoTable.the_row
bos = search (sendable, crosses) depth 60 fits 20000

rings : IsSend Rings.the_row
rings = search (sendable, crosses) depth 60 fits 20000

stores : IsSend Stores.the_row
stores = search (sendable, crosses) depth 30

timeline : IsSend Timeline.the_row
timeline = search (sendable, crosses) depth 30

lru : IsSend Lru.the_row
lru = search (sendable, crosses) depth 60 fits 20000

pool : IsSend PagePool.the_row
pool = search (sendable, crosses) depth 30

swap : IsSend SwapStore.the_row
swap = search (sendable, crosses) depth 30

one_ghost : IsSend Ghost.the_row
one_ghost = search (sendable, crosses) depth 30

courses : IsSend (as_row (ItemList.the_field Course.the_row))
courses = search (sendable, crosses) depth 60 fits 20000

pub parts : IsSend Parts.the_row
parts =
    declared_send Parts.the_type
    (bos, (timeline, (rings, (search (sendable, crosses, one_ghost) depth 30, (vram, (search (sendable, crosses, ranges, holdings) depth 30, (pool, (swap, (stores, (lru, (courses, (search sendable, (search sendable, tt)))))))))))))

-- ---- what stands beside them

pub script : IsSend Script.the_row
script = search (sendable, crosses) depth 60 fits 20000

shown : IsSend Shown.the_row
shown = search (sendable, crosses) depth 30

ruleset of_kinds = (sendable, crosses, shown)

-- of each kind, its fields
kind : IsSend Kind.the_row
kind =
    let T = Kind.the_type in
    recorded_send (Enum (shape T)) T.D T.to T.to_one
    (enum_send (shape T) (search of_kinds depth 20, (search of_kinds depth 20, (search of_kinds depth 20, (search of_kinds depth 20, (search of_kinds depth 20, (search of_kinds depth 20, (search of_kinds depth 20, (search of_kinds depth 20, (search of_kinds depth 20, (search of_kinds depth 20, (search of_kinds depth 20, (search of_kinds depth 20, (search of_kinds depth 20, (search of_kinds depth 20, (search of_kinds depth 20, (search of_kinds depth 20, (search of_kinds depth 20, (search of_kinds depth 20, (search of_kinds depth 20, (search of_kinds depth 20, (search of_kinds depth 20, (search of_kinds depth 20, (search of_kinds depth 20, (search of_kinds depth 20, (search of_kinds depth 20, (search of_kinds depth 20, tt)))))))))))))))))))))))))))

entry : IsSend Entry.the_row
entry = declared_send Entry.the_type (search (sendable, crosses) depth 30, (search (sendable, kind) depth 30, tt))

journal : IsSend (as_row (ItemList.the_field Entry.the_row))
journal = search (sendable, crosses, entry) depth 60 fits 20000

inner : IsSend inside.the_row
inner = declared_send inside.the_type (search (sendable, crosses) depth 30, (search (sendable, script) depth 10, (journal, (search (sendable, parts) depth 10, tt))))

-- the parts with script and journal
pub rooms : IsSend Rooms.the_row
rooms = search (sendable, inner) depth 6

-- what mappings by the CPU know
pub mappings : IsSend CpuMaps.the_row
mappings = search (sendable, crosses) depth 60 fits 20000
