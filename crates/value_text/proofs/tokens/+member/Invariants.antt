use Rattle.std.proofs.Common.{◌+◌, ◌*◌}
use Rattle.value_text.proofs.tokens.+member.Given as goal

-- a member asks for what it holds with one level less, this for things of as many levels, and these for a member of as many
abbrev pub decreases-Tokens::pass_member : goal.decreases-Tokens::pass_member
decreases-Tokens::pass_member l = 8 * l.levels

abbrev pub decreases-Tokens::pass_within : goal.decreases-Tokens::pass_within
decreases-Tokens::pass_within l = 8 * l.levels + 7

abbrev pub decreases-Tokens::pass_inside : goal.decreases-Tokens::pass_inside
decreases-Tokens::pass_inside l = 8 * l.levels + 6

abbrev pub decreases-Tokens::pass_items : goal.decreases-Tokens::pass_items
decreases-Tokens::pass_items l = 8 * l.levels + 5

abbrev pub decreases-Tokens::pass_fields : goal.decreases-Tokens::pass_fields
decreases-Tokens::pass_fields l = 8 * l.levels + 5

abbrev pub decreases-Tokens::pass_items-listed+arg5 : goal.decreases-Tokens::pass_items-listed+arg5
decreases-Tokens::pass_items-listed+arg5 l = 8 * l.levels + 4

abbrev pub decreases-Tokens::pass_fields-listed+arg5 : goal.decreases-Tokens::pass_fields-listed+arg5
decreases-Tokens::pass_fields-listed+arg5 l = 8 * l.levels + 4

abbrev pub decreases-Tokens::pass_field : goal.decreases-Tokens::pass_field
decreases-Tokens::pass_field l = 8 * l.levels + 2
