-- What is drawn for a command.
use Rattle.std.specs.Prelude.{ℕ, ◌+◌, ◌*◌, ◌%◌, ◌==◌, if◌then◌else◌}
use Rattle.rand_pcg.specs.Lcg.{Lcg}
use Rattle.ttm_base.specs.declared.BufId.{BufId}
use Rattle.generated_load.specs.declared.choices.Choice.{Choice}
use Rattle.generated_load.specs.declared.choices.ChoiceKind.{ChoiceKind}
use Rattle.generated_load.specs.declared.choices.ChoiceKind.TheVariants as kind
use Rattle.generated_load.specs.Draws.{draw}

-- the kind of a number below 8
abbrev pub kind_of : ℕ → ChoiceKind
kind_of n =
    if n == 0 then kind.Write
    else if n == 1 then kind.Read
    else if n == 2 then kind.Copy
    else if n == 3 then kind.Xor
    else if n == 4 then kind.Fill
    else if n == 5 then kind.Find
    else if n == 6 then kind.SwapOut
    else kind.Touch

-- buffer number `i` of thread `t`: the threads' buffers stand in turn
abbrev pub own_buffer : ℕ → ℕ → BufId
own_buffer t i = record { 0 = 3 * i + t }

-- the buffer that stands `distance` + 1 places after buffer `i`, counted in a ring of eight
abbrev pub behind : ℕ → ℕ → ℕ
behind i distance = (i + 1 + distance) % 8

-- The choice for a command of a thread, and the generator after it. Drawn are, in this order, the kind, a buffer of the thread, how far
-- after it the other one is, the offset in sixteens of bytes, a byte and the engine.
abbrev pub load_choice : ℕ → Lcg → Choice × Lcg
load_choice t g =
    let number = draw 8 g in
    let first = draw 8 number.1 in
    let distance = draw 7 first.1 in
    let sixteens = draw 1024 distance.1 in
    let byte = draw 256 sixteens.1 in
    let engine = draw 2 byte.1 in (
      record {
        kind = kind_of number.0;
        x = own_buffer t first.0;
        y = own_buffer t (behind first.0 distance.0);
        off = 16 * sixteens.0;
        byte = byte.0;
        engine = engine.0 + 1;
      },
      engine.1,
    )
