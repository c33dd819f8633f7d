-- Operations whose ranges lie in the space.
use Rattle.std.specs.Prelude.{ℕ, ◌+◌, Bool, ◌&&◌, nat_le}
use Rattle.journal_model.specs.declared.space.VOp.{VOp}
use Rattle.journal_model.specs.declared.space.VOp.TheVariants as vop

-- whether the range ends in the space, or at its end
abbrev pub ends_inside : ℕ → ℕ → Bool
ends_inside addr len = nat_le (addr + len) 4294967296

-- whether all ranges of an operation do
abbrev pub is_inside : VOp → Bool
is_inside (vop.Fill addr len byte) = ends_inside addr len
is_inside (vop.Copy addr from len) = ends_inside addr len && ends_inside from len
is_inside (vop.Xor addr from len) = ends_inside addr len && ends_inside from len
is_inside (vop.Probe addr len) = ends_inside addr len
