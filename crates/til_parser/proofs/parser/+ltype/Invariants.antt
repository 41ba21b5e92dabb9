use Rattle.til_parser.proofs.rules.Common.{◌+◌, ◌*◌}
use Rattle.til_parser.proofs.parser.+ltype.Given as goal

-- a type asks for what follows its word with one level less, this for parts and a Stream of as many, and these for a type of as many
abbrev pub decreases-Parser::ltype : goal.decreases-Parser::ltype
decreases-Parser::ltype l = 8 * l.levels

abbrev pub decreases-Parser::type_with : goal.decreases-Parser::type_with
decreases-Parser::type_with l = 8 * l.levels + 7

abbrev pub decreases-Parser::type_after : goal.decreases-Parser::type_after
decreases-Parser::type_after l = 8 * l.levels + 6

abbrev pub decreases-Parser::parts : goal.decreases-Parser::parts
decreases-Parser::parts l = 8 * l.levels + 4

abbrev pub decreases-Parser::stream : goal.decreases-Parser::stream
decreases-Parser::stream l = 8 * l.levels + 5

abbrev pub decreases-Parser::arguments : goal.decreases-Parser::arguments
decreases-Parser::arguments l = 8 * l.levels + 4

abbrev pub decreases-Parser::next_part : goal.decreases-Parser::next_part
decreases-Parser::next_part l = 8 * l.levels + 2

abbrev pub decreases-Parser::value : goal.decreases-Parser::value
decreases-Parser::value l = 8 * l.levels + 1

abbrev pub decreases-Parser::parts-bracketed : goal.decreases-Parser::parts-bracketed
decreases-Parser::parts-bracketed l = 8 * l.levels + 3

abbrev pub decreases-Parser::arguments-named+arg7 : goal.decreases-Parser::arguments-named+arg7
decreases-Parser::arguments-named+arg7 l = 8 * l.levels + 3
