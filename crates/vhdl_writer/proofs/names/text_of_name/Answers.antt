use Rattle.std.proofs.Common.{sym, subst}
use Rattle.std.specs.Str.{IsUtf8}
use Rattle.vhdl_writer.proofs.NameLemmas.{name-utf8}
use Rattle.vhdl_writer.proofs.names.text_of_name.Goals as goal

pub unreachable-requires : goal.unreachable-requires
unreachable-requires c = c.in-Err.ensures.cases.0 (subst IsUtf8 (sym c.as_bytes.ensures.value) (name-utf8 c.args.name.now c.as_bytes.ensures.name))
