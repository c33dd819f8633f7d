-- A job with addresses, cut at the borders of mappings into a job by name, and what it means byte by byte.
use Rattle.std.specs.Prelude.{ℕ, zero, suc, ◌+◌, ◌-◌, ◌*◌, ◌/◌, ◌%◌, min, max, Bool, nat_lt, List, [], ◌∷◌, ◌++◌, Option, Some, None, bit_xor, filter, find, map, fold, option_map}
use Rattle.journal_model.specs.Types.{BufId, Op}
use Rattle.ttm_base.specs.declared.Op.TheVariants as op
use Rattle.journal_model.specs.declared.space.VOp.{VOp}
use Rattle.journal_model.specs.declared.space.VOp.TheVariants as vop
use Rattle.ttm_base.specs.ListWords.{count_from}
use Rattle.journal_model.specs.rules.PlainMemory.{Memory}
use Rattle.journal_model.specs.marks.Spaces.{Region, Space}
use Rattle.ttm_base.specs.Holes.{has_page}
use Rattle.journal_model.specs.rules.PlainMemory.{with_range}

-- where an address stands: a byte of a buffer, and how many bytes there are up to the end of the mapping
pub record Spot : Type 0 where
  pub b : BufId
  pub off : ℕ
  pub room : ℕ

-- where an address stands in a mapping that has it
abbrev pub spot_in : ℕ → Region → Spot
spot_in addr r =
    record { b = r.b; off = 4096 * r.off + (addr - 4096 * r.span.start); room = 4096 * r.span.end - addr }

-- where an address stands, if its page is mapped
abbrev pub spot_at : List Region → ℕ → Option Spot
spot_at regions addr = option_map (spot_in addr) (find (λ r. has_page (addr / 4096) r.span) regions)

-- bytes of one buffer that a range of addresses has side by side
pub record Part : Type 0 where
  pub b : BufId
  pub off : ℕ
  pub len : ℕ

-- the parts of a range from an address on; each has a byte at least, so the last argument may be the length
abbrev pub parts_from : List Region → ℕ → ℕ → ℕ → Option (List Part)
parts_from regions addr zero fuel = Some []
parts_from regions addr (suc len) zero = None
parts_from regions addr (suc len) (suc fuel) =
    elim (spot_at regions addr) [
      | None ↦ None
      | Some s ↦
          let n = min (suc len) s.room in
          option_map (λ parts. record { b = s.b; off = s.off; len = n } ∷ parts) (parts_from regions (addr + n) (suc len - n) fuel)
    ]

-- the parts of a range in rising order, cut at each border of a mapping; None where a page isn't mapped
abbrev pub parts_of_range : List Region → ℕ → ℕ → Option (List Part)
parts_of_range regions addr len = parts_from regions addr len len

-- how many bytes an operation takes
abbrev pub vop_len : VOp → ℕ
vop_len (vop.Fill addr len byte) = len
vop_len (vop.Copy addr from len) = len
vop_len (vop.Xor addr from len) = len
vop_len (vop.Probe addr len) = len

-- the address that is written, or that a probe reads
abbrev pub first_address : VOp → ℕ
first_address (vop.Fill addr len byte) = addr
first_address (vop.Copy addr from len) = addr
first_address (vop.Xor addr from len) = addr
first_address (vop.Probe addr len) = addr

-- the address that is read beside it
abbrev pub second_address : VOp → ℕ
second_address (vop.Fill addr len byte) = addr
second_address (vop.Copy addr from len) = from
second_address (vop.Xor addr from len) = from
second_address (vop.Probe addr len) = addr

-- n bytes of the operation, from one spot and, where it has two, from the other
abbrev pub op_by_name : VOp → Spot → Spot → ℕ → Op
op_by_name (vop.Fill addr len byte) d s n = op.Fill d.b d.off n byte
op_by_name (vop.Copy addr from len) d s n = op.Copy d.b d.off s.b s.off n
op_by_name (vop.Xor addr from len) d s n = op.Xor d.b d.off s.b s.off n
op_by_name (vop.Probe addr len) d s n = op.Probe d.b d.off n

-- the operations by name from a place of an operation on; each has a byte at least, so the last argument may be the length
abbrev pub ops_from : List Region → VOp → ℕ → ℕ → ℕ → Option (List Op)
ops_from regions v at zero fuel = Some []
ops_from regions v at (suc len) zero = None
ops_from regions v at (suc len) (suc fuel) =
    elim (spot_at regions (first_address v + at)) [
      | None ↦ None
      | Some d ↦ elim (spot_at regions (second_address v + at)) [
        | None ↦ None
        | Some s ↦
            let n = min (suc len) (min d.room s.room) in
            option_map (λ ops. op_by_name v d s n ∷ ops) (ops_from regions v (at + n) (suc len - n) fuel)
      ]
    ]

-- in rising address order, cut at each border of a mapping; None where a page isn't mapped
abbrev pub op_in_names : List Region → VOp → Option (List Op)
op_in_names regions v = ops_from regions v 0 (vop_len v) (vop_len v)

-- both lists, if both are there
abbrev pub joined : Option (List Op) → Option (List Op) → Option (List Op)
joined (Some xs) (Some ys) = Some (xs ++ ys)
joined (Some xs) None = None
joined None ys = None

-- a mapping has a byte of a range of addresses
abbrev pub has_byte_of : ℕ → ℕ → Region → Bool
has_byte_of addr len r = nat_lt (max addr (4096 * r.span.start)) (min (addr + len) (4096 * r.span.end))

-- the buffers of a range of addresses, as far as its pages are mapped
abbrev pub buffers_between : List Region → ℕ → ℕ → List BufId
buffers_between regions addr len = map (λ r. r.b) (filter (has_byte_of addr len) regions)

-- the job by name, if each page is mapped
abbrev pub job_by_name : List Region → List VOp → Option (List Op)
job_by_name regions [] = Some []
job_by_name regions (v ∷ vs) = joined (op_in_names regions v) (job_by_name regions vs)

-- ---- what a job with addresses means: each byte through the space, in rising address order

-- a byte put at an address
abbrev pub with_byte_at : Space → ℕ → ℕ → Memory → Memory
with_byte_at space addr byte memory =
    elim (space (addr / 4096)) [ None ↦ memory | Some e ↦ with_range e.0 (4096 * e.1 + addr % 4096) 1 (λ i. byte) memory ]

-- the byte at an address
abbrev pub byte_there : Space → ℕ → Memory → ℕ
byte_there space addr memory = elim (space (addr / 4096)) [ None ↦ 0 | Some e ↦ memory e.0.0 (4096 * e.1 + addr % 4096) ]

-- byte number i of an operation
abbrev pub after_byte : Space → VOp → Memory → ℕ → Memory
after_byte space (vop.Fill addr len byte) memory i = with_byte_at space (addr + i) byte memory
after_byte space (vop.Copy addr from len) memory i = with_byte_at space (addr + i) (byte_there space (from + i) memory) memory
after_byte space (vop.Xor addr from len) memory i =
    with_byte_at space (addr + i) (bit_xor (byte_there space (addr + i) memory) (byte_there space (from + i) memory)) memory
after_byte space (vop.Probe addr len) memory i = memory

-- the whole operation
abbrev pub after_vop : Space → Memory → VOp → Memory
after_vop space memory v = fold (after_byte space v) memory (count_from 1 (vop_len v) 0)

-- operations in their order
abbrev pub after_vops : Space → Memory → List VOp → Memory
after_vops space memory vs = fold (after_vop space) memory vs

-- the bytes that a probe shows
abbrev pub vop_shown : Space → Memory → VOp → List ℕ
vop_shown space memory (vop.Probe addr len) = map (λ i. byte_there space (addr + i) memory) (count_from 1 len 0)
vop_shown space memory _ = []

-- what the probes of a job show, each in the memory that the operations before it leave
abbrev pub vops_shown : Space → Memory → List VOp → List ℕ
vops_shown space memory [] = []
vops_shown space memory (v ∷ vs) = vop_shown space memory v ++ vops_shown space (after_vop space memory v) vs
