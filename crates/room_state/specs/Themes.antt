-- What entries are about, kind by kind.
use Rattle.journal_model.specs.declared.entry.Kind.{Kind}
use Rattle.journal_model.specs.declared.entry.Kind.TheVariants as kind
use Rattle.room_state.specs.declared.themes.Theme.{Theme}
use Rattle.room_state.specs.declared.themes.Theme.TheVariants as theme

abbrev pub theme_of : Kind → Theme
theme_of (kind.Ticket stamp) = theme.Lock
theme_of (kind.Reserve b) = theme.Lock
theme_of (kind.Backoff b stamp) = theme.Lock
theme_of (kind.Take b mem spans) = theme.Search
theme_of (kind.Untake b mem) = theme.Search
theme_of (kind.Catch b w) = theme.Search
theme_of (kind.Dry b k w) = theme.Search
theme_of (kind.Bind b) = theme.Carry
theme_of (kind.Unbind b) = theme.Carry
theme_of (kind.Move b mem n l) = theme.Carry
theme_of (kind.Populate b page frame) = theme.Fill
theme_of (kind.SwapIn b page slot frame) = theme.Fill
theme_of (kind.NoPages b) = theme.Fill
theme_of (kind.Depopulate b) = theme.Empty
theme_of (kind.SwapOut b page slot) = theme.Empty
theme_of (kind.Loose b) = theme.Empty
theme_of (kind.Skip b) = theme.Empty
theme_of (kind.New b) = theme.Act
theme_of (kind.Free b g) = theme.Act
theme_of (kind.Arm engine n) = theme.Act
theme_of (kind.Bulk group) = theme.Act
theme_of (kind.Result r) = theme.Act
theme_of (kind.Refused d) = theme.Act
theme_of (kind.Packet n k piece) = theme.Worker
theme_of (kind.Done n) = theme.Worker
theme_of (kind.Reap g) = theme.Worker
