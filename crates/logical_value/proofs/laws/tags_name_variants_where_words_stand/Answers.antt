use Rattle.logical_value.proofs.NameLemmas.{names_where_it_stands, names_where_none_is_bad}
use Rattle.logical_value.proofs.laws.tags_name_variants_where_words_stand.Goals as goal

pub returns : goal.returns
returns c = record { stands = names_where_it_stands; none_is_bad = names_where_none_is_bad }
