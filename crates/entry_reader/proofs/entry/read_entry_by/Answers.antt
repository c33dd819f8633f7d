use Rattle.std.proofs.Common.{◌≡◌, ◌^◌, ◌<◌, ◌∙◌, Option, ap, sym, subst, length, arith}
use Rattle.std.proofs.lemmas.Result.{IfOk-weaker}
use Rattle.journal_model.specs.declared.entry.Entry.{Entry}
use Rattle.journal_model.specs.declared.script.Decl.{Decl}
use Rattle.std.proofs.lemmas.List.{length-map}
use Rattle.entry_reader.specs.EntryReading.{entry_of}
use Rattle.entry_reader.specs.Read.{IsRead}
use Rattle.entry_reader.proofs.EntryLaws.{entry_read}
use Rattle.entry_reader.proofs.ScriptFacts.{few_buffers, few_threads}
use Rattle.entry_reader.proofs.entry.read_entry_by.Goals as goal

pub entry_by_line-requires : goal.entry_by_line-requires
entry_by_line-requires c =
    let script = c.args.script.now in
    let few = few_buffers script c.requires.script in
    let len : length c.args.names.now ≡ length script.buffers = ap length c.requires.declared ∙ length-map script.buffers (λ (d : Decl). d.name) in
    record { few = omega (arith, few, len); threads = few_threads script c.requires.script; declared = c.requires.declared }

pub returns : goal.returns
returns c =
    let script = c.args.script.now in
    let small : c.args.n < 2 ^ 64 = omega arith in
    let read = entry_read script c.requires.script c.args.n small c.args.line.now in
    IfOk-weaker c.entry_by_line.result (λ e. e ≡ entry_of script c.args.n c.args.line.now) (λ e. IsRead script c.args.n c.args.line.now e)
    (λ e p. subst (λ (o : Option Entry). IsRead script c.args.n c.args.line.now o) (sym p) read) c.entry_by_line.ensures
