-- The packets of operations can run.
use Rattle.std.proofs.Common.{ℕ, ◌+◌, ◌/◌, ◌<◌, List, [], ◌∷◌, ◌++◌, arith}
use Rattle.std.specs.Prelude.{map}
use Rattle.ttm_base.specs.declared.Op.{Op}
use Rattle.ttm_base.specs.declared.Op.TheVariants as op
use Rattle.ttm_base.specs.Cutting.{Piece, PageMap, pieces_of, packet_of, packets_of}
use Rattle.laws.specs.law_cutting.Parts.{IsPiece}
use Rattle.laws.proofs.law_cutting.Whole.{Each, pieces_are}
use Rattle.copy_packet.specs.declared.stores.Stores.{Stores}
use Rattle.copy_packet.specs.Runs.{CanRun}
use Rattle.law_packets.specs.Through.{AllInside, IsInside}
use Rattle.law_packets.specs.Ready.{AllShort, AreThere, IsShort}

each-append : {X : Type 0} (P : X → Type 0) (xs ys : List X) → Each P xs → Each P ys → Each P (xs ++ ys)
each-append P [] ys h k = k
each-append P (x ∷ xs) ys h k = (h.0, each-append P xs ys h.1 k)

module _ (s : Stores) (names : PageMap) (pages : ℕ → ℕ) (there : AreThere s names pages) where
  packet_can_run : (o : Op) (p : Piece) → IsInside pages o → IsShort o → IsPiece o p → CanRun s (packet_of names o p)
  packet_can_run (op.Fill dst off len byte) p h l q =
      let page : (off + p.at) / 4096 < pages dst.0 = omega (arith, h, q.some, q.inside) in
      (there dst ((off + p.at) / 4096) page, q.pages)
  packet_can_run (op.Copy dst doff src soff len) p h l q =
      let page : (doff + p.at) / 4096 < pages dst.0 = omega (arith, h.0, q.some, q.inside) in
      let beside : (soff + p.at) / 4096 < pages src.0 = omega (arith, h.1, q.some, q.inside) in
      ((there dst ((doff + p.at) / 4096) page, q.pages.0), (there src ((soff + p.at) / 4096) beside, q.pages.1))
  packet_can_run (op.Xor dst doff src soff len) p h l q =
      let page : (doff + p.at) / 4096 < pages dst.0 = omega (arith, h.0, q.some, q.inside) in
      let beside : (soff + p.at) / 4096 < pages src.0 = omega (arith, h.1, q.some, q.inside) in
      ((there dst ((doff + p.at) / 4096) page, q.pages.0), (there src ((soff + p.at) / 4096) beside, q.pages.1))
  packet_can_run (op.Probe src off len) p h l q =
      let page : (off + p.at) / 4096 < pages src.0 = omega (arith, h, q.some, q.inside) in
      ((there src ((off + p.at) / 4096) page, q.pages), omega (arith, l, q.inside))

  pieces_can_run : (o : Op) (ps : List Piece) → IsInside pages o → IsShort o → Each (IsPiece o) ps → Each (CanRun s) (map (packet_of names o) ps)
  pieces_can_run o [] h l e = tt
  pieces_can_run o (p ∷ ps) h l e = (packet_can_run o p h l e.0, pieces_can_run o ps h l e.1)

  pub ops_can_run : (ops : List Op) → AllInside pages ops → AllShort ops → Each (CanRun s) (packets_of names ops)
  ops_can_run [] h l = tt
  ops_can_run (o ∷ ops) h l =
      each-append (CanRun s) (map (packet_of names o) (pieces_of o)) (packets_of names ops) (pieces_can_run o (pieces_of o) h.0 l.0 (pieces_are o)) (ops_can_run ops h.1 l.1)
