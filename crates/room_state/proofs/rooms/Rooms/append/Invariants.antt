use Rattle.room_state.proofs.rooms.Rooms.append.Given as goal

abbrev pub ghost-make_parts : goal.ghost-make_parts
ghost-make_parts a = record { script = a.script.now; before = a.before.now; entry = a.entry.now }
