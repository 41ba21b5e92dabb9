use Rattle.split_text.proofs.FieldLemmas.{all_fields-side_by_side}
use Rattle.split_text.proofs.fields.fields_fill_the_element.Goals as goal

pub returns : goal.returns
returns c = all_fields-side_by_side
