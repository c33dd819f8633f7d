-- The marks of a script, gone through in the order of its lines.
use Rattle.std.specs.Prelude.{◌≡◌, ℕ, ◌+◌, Bool, true, List, [], ◌∷◌, ◌==◌, ◌&&◌, ◌||◌, nat_lt, nat_le, filter, if◌then◌else◌}
use Rattle.std.specs.List.{list_all}
use Rattle.journal_model.specs.declared.script.Script.{Script}
use Rattle.journal_model.specs.declared.script.Mark.{Mark}
use Rattle.journal_model.specs.scripts.MarkRules.{are_in_order, is_in_thread}

-- the marks stand in the order of their lines, and each in a thread
pub record ArePlaced (script : Script) : Type 0 where
  pub order : are_in_order script.marks ≡ true
  pub placed : list_all (is_in_thread script) script.marks ≡ true

-- the mark follows n commands of a thread
abbrev pub is_at : ℕ → ℕ → Mark → Bool
is_at thread n m = (m.thread == thread) && (m.after == n)

-- the mark follows n commands of a thread, or stands farther on
abbrev pub is_from : ℕ → ℕ → Mark → Bool
is_from thread n m = nat_lt thread m.thread || ((m.thread == thread) && nat_le n m.after)

-- the marks from a place on
abbrev pub marks_from : List Mark → ℕ → ℕ → List Mark
marks_from marks thread n = filter (is_from thread n) marks

-- the number of marks at the front that follow n commands of a thread
abbrev pub front_at : ℕ → ℕ → List Mark → ℕ
front_at thread n [] = 0
front_at thread n (m ∷ ms) = if is_at thread n m then front_at thread n ms + 1 else 0
