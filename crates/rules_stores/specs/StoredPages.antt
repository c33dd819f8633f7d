-- Bytes of pages, page after page, in one list.
use Rattle.std.specs.Prelude.{ℕ, ◌+◌, ◌-◌, ◌*◌, Bool, List, ◌==◌, ◌&&◌, nat_le, nat_lt, length, slice_index, if◌then◌else◌}

-- the byte of a page at an offset; zeros follow the list
abbrev pub stored_byte : List ℕ → ℕ → ℕ → ℕ
stored_byte stored page o = if nat_lt o 4096 then slice_index stored (4096 * page + o) else 0

-- the list has the page
abbrev pub has_page : List ℕ → ℕ → Bool
has_page stored page = nat_le (4096 * page + 4096) (length stored)

-- the byte of page q at o after len bytes of a page from an offset on became those of value, as far as the page goes
abbrev pub byte_after : List ℕ → ℕ → ℕ → ℕ → (ℕ → ℕ) → ℕ → ℕ → ℕ
byte_after stored page off len value q o =
    if has_page stored page && (q == page) && nat_lt o 4096 && nat_le off o && nat_lt o (off + len)
    then value (o - off)
    else stored_byte stored q o
