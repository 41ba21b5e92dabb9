-- The texts that `tydi help`, `tydi help NAME` and `tydi version` write (this project's own).
use Rattle.std.specs.Prelude.{ℕ, ◌-◌, List, ◌++◌, length, codes, replicate}
use Rattle.std.specs.List.{flat_map}
use Rattle.tydi_help.specs.Commands.{all_commands, page_of, sentence_of, words_of}
use Rattle.tydi_help.specs.declared.command.Command.{Command}
use Rattle.tydi_help.specs.declared.version.TheConstants.{KIT, VERSION}

-- so many spaces
abbrev pub spaces : ℕ → List ℕ
spaces count = replicate count 32

-- the line of a command in the list: its words, and from column 50 on what it does
abbrev pub line_of : Command → List ℕ
line_of command = codes "tydi " ++ words_of command ++ spaces (50 - length (words_of command)) ++ sentence_of command ++ codes "\n"

-- the list of all commands
abbrev pub help_text : List ℕ
help_text = flat_map line_of all_commands

-- what is written of one command: its words, what it does, and its page
abbrev pub page_text : Command → List ℕ
page_text command = codes "tydi " ++ words_of command ++ codes "\n  " ++ sentence_of command ++ codes "\n\n" ++ page_of command

-- the version of the tool, and the kit that proves it
abbrev pub version_text : List ℕ
version_text = codes "tydi " ++ VERSION.now ++ codes "\n" ++ KIT.now ++ codes "\n"
