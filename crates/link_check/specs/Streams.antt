-- The arguments of a Stream as plain data. This project's own.
use Rattle.std.specs.Prelude.{Option, option_map}
use Rattle.std.specs.Option.{option_copied}
use Rattle.std.specs.Borrow.{Bor}
use Rattle.logical_types.specs.Tree.{PlainStream, plain, settings_of}
use Rattle.logical_types.specs.declared.ltype.StreamType.{StreamType}

-- the arguments of a Stream as plain data
abbrev pub plain_arguments : StreamType → PlainStream
plain_arguments one = record { element = plain one.element; user = plain one.user; settings = settings_of one }

-- those of a Stream that is lent, where there is one
abbrev pub stream_found : Option (Bor StreamType) → Option PlainStream
stream_found found = option_map plain_arguments (option_copied found)
