use Rattle.std.proofs.Common.{◌∙◌, ◌++◌, ◌||◌, codes, take}
use Rattle.tydi_base.specs.Name.{is_name}
use Rattle.value_text.specs.Stops.{common_length, is_accepted, leaf_length, name_length, path_length, reach, where_so}
use Rattle.value_text.specs.Words.{is_leaf, is_path_text}
use Rattle.value_text.proofs.StopLemmas.{reach-as, so-far, within-of}
use Rattle.value_text.proofs.stops.word_within.Goals as goal

pub returns : goal.returns
returns c =
    let front = c.args.front.now in
    let rest = c.args.rest.now in
    let run = c.args.run in
    let word = take run rest in
    let root_there = is_accepted (front ++ codes "root") in
    let path_there = is_accepted (front ++ codes "-=") in
    let leaf_there = is_accepted (front ++ codes "0") in
    let name_there = is_accepted (front ++ codes "a(") || is_accepted (front ++ codes "a:") in
    let root = common_length word (codes "root") in
    let path = reach rest run (is_path_text word) (path_length word) in
    let leaf = reach rest run (is_leaf word) (leaf_length word) in
    let name = reach rest run (is_name word) (name_length word) in
    c.greatest.ensures
    ∙ within-of (where_so root_there root) (where_so path_there path) (where_so leaf_there leaf) (where_so name_there name)
    c.where_so-root.result c.where_so-path.result c.where_so-leaf.result c.where_so-name.result
    (so-far root_there root c.in_ok-is_accepted.field-0 c.common_length.result c.where_so-root.result c.in_ok-is_accepted.ensures c.common_length.ensures.value c.where_so-root.ensures)
    (so-far path_there path c.in_ok-is_accepted-2.field-0 c.reach.result c.where_so-path.result c.in_ok-is_accepted-2.ensures
    (reach-as rest run (is_path_text word) c.is_path.result (path_length word) c.path_length.result c.reach.result c.is_path.ensures c.path_length.ensures c.reach.ensures) c.where_so-path.ensures)
    (so-far leaf_there leaf c.in_ok-is_accepted-3.field-0 c.reach-2.result c.where_so-leaf.result c.in_ok-is_accepted-3.ensures
    (reach-as rest run (is_leaf word) c.is_leaf.result (leaf_length word) c.leaf_length.result c.reach-2.result c.is_leaf.ensures c.leaf_length.ensures c.reach-2.ensures) c.where_so-leaf.ensures)
    (so-far name_there name c.in_ok-names_follow.field-0 c.reach-3.result c.where_so-name.result c.in_ok-names_follow.ensures
    (reach-as rest run (is_name word) c.is_name.result (name_length word) c.name_length.result c.reach-3.result c.is_name.ensures c.name_length.ensures.value c.reach-3.ensures) c.where_so-name.ensures)
