-- Parts of a script's marks that have all lines of some commands.
use Rattle.std.specs.Prelude.{◌≡◌, ℕ, Bool, false, List, ◌++◌, ◌==◌, ◌&&◌, ◌||◌, nat_lt, nat_le}
use Rattle.std.specs.List.{list_any}
use Rattle.journal_model.specs.declared.script.Mark.{Mark}

-- the mark stands before the lines of the thread that follow `n` commands or more
abbrev pub is_before : ℕ → ℕ → Mark → Bool
is_before thread n m = nat_lt m.thread thread || ((m.thread == thread) && nat_lt m.after n)

-- it stands before those that follow more than `n` commands
abbrev pub is_up_to : ℕ → ℕ → Mark → Bool
is_up_to thread n m = nat_lt m.thread thread || ((m.thread == thread) && nat_le m.after n)

-- it is a line of the thread that follows from `first` to `last` commands
abbrev pub is_within : ℕ → ℕ → ℕ → Mark → Bool
is_within thread first last m = (m.thread == thread) && nat_le first m.after && nat_le m.after last

-- the part is a stretch of the marks that has all lines of the thread that follow from `first` to `last` commands
pub record IsPart (thread first last : ℕ) (part marks : List Mark) : Type 0 where
  pub before : List Mark
  pub behind : List Mark
  pub whole : marks ≡ before ++ (part ++ behind)
  pub none_before : list_any (is_within thread first last) before ≡ false
  pub none_behind : list_any (is_within thread first last) behind ≡ false
