-- What a call does to a source and to a sink.
use Rattle.std.specs.Prelude.{◌≡◌, ℕ, ◌≤◌, List, [], Option, length, IfSome}
use Rattle.std.specs.Option.{option_map}
use Rattle.std.specs.Io.KnownBytes.{append_known, prepend_known}
use Rattle.io_edge.specs.Faults.{one_more}
use Rattle.io_edge.specs.Written.{AppendsFront}
use Rattle.journal_model.specs.scripts.Words.{Text}

-- The bytes left in a source, or written to a sink, where they are told, and the count of its faults: before and after a call.
pub record Edge : Type 0 where
  pub before : Option (List ℕ)
  pub after : Option (List ℕ)
  pub faults_before : ℕ
  pub faults_after : ℕ

-- no call of the edge failed
abbrev pub IsFaultless : Edge → Type 0
IsFaultless e = e.faults_after ≡ e.faults_before

-- one call of the edge failed
abbrev pub HasOneFault : Edge → Type 0
HasOneFault e = e.faults_after ≡ one_more e.faults_before

-- nothing was read or written
pub record IsUntouched (e : Edge) : Type 0 where
  pub same : e.after ≡ e.before
  pub faultless : IsFaultless e

-- ---- a source

-- these bytes were read, and they are all that was left
pub record WasReadWhole (e : Edge) (bytes : Text) : Type 0 where
  pub all : IfSome e.before (λ left. bytes ≡ left)
  pub none_left : e.after ≡ option_map (λ left. []) e.before
  pub faultless : IsFaultless e

-- count bytes were read, which were the first of those left
pub record WasReadTo (e : Edge) (count : ℕ) : Type 0 where
  pub front : Text
  pub len : length front ≡ count
  pub taken : e.before ≡ prepend_known front e.after
  pub faultless : IsFaultless e

-- a prefix of at most this many bytes was read, and then a read failed
pub record WasCutOff (e : Edge) (most : ℕ) : Type 0 where
  pub front : Text
  pub len : length front ≤ most
  pub taken : e.before ≡ prepend_known front e.after
  pub fault : HasOneFault e

-- ---- a sink

-- all of the text was written
pub record IsWritten (e : Edge) (text : Text) : Type 0 where
  pub whole : e.after ≡ append_known e.before text
  pub faultless : IsFaultless e

-- a write failed, and a prefix of the text was written before it, not all
pub record IsBroken (e : Edge) (text : Text) : Type 0 where
  pub front : AppendsFront e.before e.after text
  pub fault : HasOneFault e

-- memory ran out, and a prefix of the text was written before that, not all
pub record IsCut (e : Edge) (text : Text) : Type 0 where
  pub front : AppendsFront e.before e.after text
  pub faultless : IsFaultless e
