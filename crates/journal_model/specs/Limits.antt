-- The limits of scripts, by the names that `ttm_base::limits` has for the code. Sizes, counts and lengths are numbers of what they name;
-- pages have `page_bytes` bytes.
use Rattle.std.specs.Prelude.{ℕ}

abbrev pub page_bytes : ℕ
page_bytes = 4096

-- of a script as text, in bytes
abbrev pub max_script_bytes : ℕ
max_script_bytes = 1048576

abbrev pub max_threads : ℕ
max_threads = 16

-- of a thread: its commands and its marks
abbrev pub max_thread_lines : ℕ
max_thread_lines = 4096

abbrev pub max_buffers : ℕ
max_buffers = 256

abbrev pub max_buffer_pages : ℕ
max_buffer_pages = 4096

-- of a buffer, in pages
abbrev pub max_align : ℕ
max_align = 4096

abbrev pub max_priority : ℕ
max_priority = 3

-- of a list of places
abbrev pub max_places : ℕ
max_places = 8

-- of VRAM, of TT, and of frames
abbrev pub max_memory_pages : ℕ
max_memory_pages = 16384

abbrev pub max_slots : ℕ
max_slots = 32768

-- without the move engine
abbrev pub max_engines : ℕ
max_engines = 8

-- of a buffer
abbrev pub max_pins : ℕ
max_pins = 255

-- that a job names
abbrev pub max_job_buffers : ℕ
max_job_buffers = 16

-- operations of a job
abbrev pub max_job_ops : ℕ
max_job_ops = 64

-- of a `schedule` line
abbrev pub max_line_actors : ℕ
max_line_actors = 64

-- of an offset in a buffer, and of a length, in bytes: those of the largest buffer
abbrev pub max_offset : ℕ
max_offset = 16777216

-- of a read, a write or a probe
abbrev pub max_shown_bytes : ℕ
max_shown_bytes = 256

-- of all operations of a script together, in bytes
abbrev pub max_op_bytes : ℕ
max_op_bytes = 67108864

-- of the address space of a thread
abbrev pub space_pages : ℕ
space_pages = 1048576

-- of the address space of a thread, in bytes
abbrev pub space_bytes : ℕ
space_bytes = 4294967296
